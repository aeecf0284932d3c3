-- What the turns come to, wherever they end.
use Rattle.std.proofs.Common.{◌≡◌, ℕ, zero, suc, ◌-◌, ◌<◌, List, [], ◌∷◌, ◌++◌, length, map, get_or, refl, sym, ap, ◌∙◌, subst, arith}
use Rattle.std.specs.Prelude.{sum}
use Rattle.std.proofs.lemmas.List.{length-map}
use Rattle.std.proofs.lemmas.Grind.{same_number_lists}
use Rattle.std.proofs.Math.ListN as list
use Rattle.command_set.specs.Entries.{LoggedData}
use Rattle.command_queue.specs.Entries.{quota_at, others_at}
use Rattle.command_queue.specs.Ends.{LineView, new_end, others_of}
use Rattle.lateness.specs.Late.{AreDue, AllBelow, AreTimed}
use Rattle.lateness.proofs.Times.{times, due_more}
use Rattle.script_plan.specs.Plan.{PlannedData, due_blocks}
use Rattle.players.specs.Players.{PlayerView}
use Rattle.players.proofs.Turns.{length-entries}
use Rattle.live_renderer.specs.Renderer.{RendererView}
use Rattle.turns.specs.Turns.{plans_of, plan_of, others_than, blocks_of, AreFresh, HasPlayed, HavePlayed, AreOnTime}
use Rattle.turns.specs.Steps.{HadTurns, AfterTurns}
use Rattle.turns.proofs.Steps.{dues_append}

-- a player where its number has none
abbrev nobody : LineView → PlayerView
nobody line = record { end = new_end line 0; left = []; logged = 0 }

long : (players : List PlayerView) → length (plans_of players) ≡ length players
long players = length-map players (λ (p : PlayerView). p.left)

plan_is : (line : LineView) (players : List PlayerView) (k : ℕ) → plan_of (plans_of players) k ≡ (get_or players k (nobody line)).left
plan_is line players k = list.get_or-map (λ (p : PlayerView). p.left) players k (nobody line)

same_player : (xs : List PlayerView) (k : ℕ) (d e : PlayerView) → k < length xs → get_or xs k d ≡ get_or xs k e
same_player [] k d e lt = absurd (omega (arith, lt))
same_player (x ∷ xs) zero d e lt = refl
same_player (x ∷ xs) (suc k) d e lt = same_player xs k d e (omega (arith, lt))

-- the quotas are the lengths of the plans
pub quotas_are : (line : LineView) (players : List PlayerView) → AreFresh line players → line.quotas ≡ map length (plans_of players)
quotas_are line players fresh = same_number_lists line.quotas (map length (plans_of players)) many (λ k lt.
    let in_players : k < length players = omega (arith, lt, fresh.0) in
    let f = fresh.1 k (nobody line) in_players in
    let e : get_or (map length (plans_of players)) k 0 ≡ length (get_or players k (nobody line)).left =
    list.get_or-map length (plans_of players) k [] ∙ ap length (plan_is line players k) in
    sym (e ∙ f.quota ∙ (λ i. quota_at (f.line_is i).quotas (f.number i)))) where
      many : length line.quotas ≡ length (map length (plans_of players))
      many = sym (length-map (plans_of players) length ∙ long players ∙ fresh.0)

player_played : (line : LineView) (t k : ℕ) (journal : List LoggedData) (p q : PlayerView) → p.end.line ≡ line → p.end.number ≡ k → HadTurns t journal k p q
    → HasPlayed line k p.left journal q
player_played line t k journal p q place number h = record {
  sent = h.sent;
  split = h.split;
  list = h.list;
  line_is = h.line ∙ place;
  number = h.number ∙ number;
  logged = h.kept.many ∙ length-map h.sent (λ (c : PlannedData). c.due) ∙ sym (ap length h.list ∙ length-entries k 0 h.sent);
  due = subst (λ (ds : List ℕ). AreDue ds (blocks_of k journal)) (sym (ap due_blocks h.split ∙ dues_append h.sent q.left))
      (due_more (due_blocks h.sent) (due_blocks q.left) (blocks_of k journal) h.kept.due);
}

-- wherever the turns end
pub have_played : (t : ℕ) (line : LineView) (before : List PlayerView) (r : RendererView) (players : List PlayerView) → AreFresh line before
    → AfterTurns t line before r players
    → HavePlayed line (plans_of before) r.journal players
have_played t line before r players fresh h = record {
  many = h.many ∙ sym (long before);
  quotas = quotas_are line before fresh;
  each = λ k d lt.
      let inside : k < length before = omega (arith, lt, long before) in
      let f = fresh.1 k (nobody line) inside in
      let p : HasPlayed line k (get_or before k (nobody line)).left r.journal (get_or players k (nobody line)) =
      player_played line t k r.journal (get_or before k (nobody line)) (get_or players k (nobody line)) f.line_is f.number (h.played k (nobody line) inside) in
      let same : get_or players k (nobody line) ≡ get_or players k d = same_player players k (nobody line) d (omega (arith, inside, h.many)) in
      subst (λ (y : List PlannedData × PlayerView). HasPlayed line k y.0 r.journal y.1) (λ i. (sym (plan_is line before k) i, same i)) p;
}

-- the same of a journal that is the renderer's
pub have_played_of : (t : ℕ) (line : LineView) (before : List PlayerView) (r : RendererView) (players : List PlayerView) (journal : List LoggedData)
    → AreFresh line before → AfterTurns t line before r players
    → journal ≡ r.journal → HavePlayed line (plans_of before) journal players
have_played_of t line before r players journal fresh h same = subst (λ (j : List LoggedData).
    HavePlayed line (plans_of before) j players) (sym same) (have_played t line before r players fresh h)

below_left : (t : ℕ) (xs ys : List ℕ) → AllBelow t (xs ++ ys) → AllBelow t ys
below_left t [] ys below = below
below_left t (x ∷ xs) ys below = below_left t xs ys below.1

player_timed : (blocks k : ℕ) (journal : List LoggedData) (p q : PlayerView) → AllBelow blocks (due_blocks p.left) → HadTurns blocks journal k p q
    → AreTimed p.end.line.places (others_of p.end) blocks (due_blocks p.left) (blocks_of k journal) q.end.refusals
player_timed blocks k journal p q below h =
    let all : due_blocks p.left ≡ due_blocks h.sent ++ due_blocks q.left = ap due_blocks h.split ∙ dues_append h.sent q.left in
    subst (λ (ds : List ℕ). AreTimed p.end.line.places (others_of p.end) blocks ds (blocks_of k journal) q.end.refusals) (sym all)
    (times p.end.line.places (others_of p.end) blocks (due_blocks h.sent) (due_blocks q.left) (blocks_of k journal) q.end.refusals
    (below_left blocks (due_blocks h.sent) (due_blocks q.left) (subst (AllBelow blocks) all below)) h.kept)

-- after all turns
pub are_on_time : (blocks : ℕ) (line : LineView) (before : List PlayerView) (r : RendererView) (players : List PlayerView) (journal : List LoggedData)
    → AreFresh line before
    → ((k : ℕ) (d : PlayerView) → k < length before → AllBelow blocks (due_blocks (get_or before k d).left)) → AfterTurns blocks line before r players
    → journal ≡ r.journal
    → AreOnTime line blocks (plans_of before) journal players
are_on_time blocks line before r players journal fresh below h same k d lt =
    let inside : k < length before = omega (arith, lt, long before) in
    let p : PlayerView = get_or before k (nobody line) in
    let q : PlayerView = get_or players k (nobody line) in
    let f = fresh.1 k (nobody line) inside in
    let quotas = quotas_are line before fresh in
    let other : others_of p.end ≡ others_than (plans_of before) k =
    (λ j. others_at (f.line_is j).quotas (f.number j)) ∙ ap (λ (qs : List ℕ). others_at qs k) quotas
    ∙ ap (λ (n : ℕ). sum (map length (plans_of before)) - n) (list.get_or-map length (plans_of before) k []) in
    let t : AreTimed p.end.line.places (others_of p.end) blocks (due_blocks p.left) (blocks_of k r.journal) q.end.refusals =
    player_timed blocks k r.journal p q (below k (nobody line) inside) (h.played k (nobody line) inside) in
    let is : q ≡ get_or players k d = same_player players k (nobody line) d (omega (arith, inside, h.many)) in
    subst (λ (y : ℕ × ℕ × List PlannedData × List LoggedData × PlayerView). AreTimed y.0 y.1 blocks (due_blocks y.2) (blocks_of k y.3) y.4.end.refusals)
    (λ i. ((f.line_is i).places, other i, sym (plan_is line before k) i, sym same i, is i)) t
