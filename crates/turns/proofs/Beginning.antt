-- The players of a line, before the first turn.
use Rattle.std.proofs.Common.{◌≡◌, ℕ, ◌+◌, ◌<◌, List, [], ◌∷◌, ◌++◌, length, map, get_or, refl, sym, ap, ◌∙◌, subst, arith, length-append, append-nil}
use Rattle.std.proofs.Common.{append_assoc}
use Rattle.std.specs.Prelude.{All}
use Rattle.std.proofs.lemmas.List.{length-map, get_or-map}
use Rattle.std.proofs.Math.ListN as list
use Rattle.command_queue.specs.Entries.{quota_at}
use Rattle.command_queue.specs.Ends.{LineView, SendView, AreNewEnds, new_end, quota_of}
use Rattle.lateness.specs.Late.{AllBelow}
use Rattle.script_plan.specs.Plan.{PlannedData, due_blocks}
use Rattle.players.specs.Players.{PlayerView}
use Rattle.turns.specs.Turns.{plans_of, IsFresh, AreFresh}

none_left : (xs : List (List PlannedData)) → length xs ≡ 0 → xs ≡ []
none_left [] none = refl
none_left (x ∷ xs) none = absurd (omega (arith, none))

player_fresh : (line : LineView) (k : ℕ) (p : PlayerView) → p.end ≡ new_end line k → p.logged ≡ 0 → length p.left ≡ quota_at line.quotas k → IsFresh line k p
player_fresh line k p end logged quota = record {
  line_is = ap (λ (e : SendView). e.line) end;
  number = ap (λ (e : SendView). e.number) end;
  list = ap (λ (e : SendView). e.list) end;
  refusals = ap (λ (e : SendView). e.refusals) end;
  logged = logged;
  quota = quota ∙ sym (ap quota_of end);
}

pub are_fresh : (line : LineView) (players : List PlayerView) (ends : List SendView) (plans : List (List PlannedData)) → AreNewEnds line ends
    → map (λ (p : PlayerView). p.end) players ≡ ends
    → plans_of players ≡ plans → line.quotas ≡ map length plans → All (λ (p : PlayerView). p.logged ≡ 0) players → AreFresh line players
are_fresh line players ends plans new ends_are plans_are quotas logged = (
  sym (length-map players (λ (p : PlayerView). p.end)) ∙ ap length ends_are ∙ new.0,
  λ k d lt.
      let l : length ends ≡ length players = sym (ap length ends_are) ∙ length-map players (λ (p : PlayerView). p.end) in
      let end : (get_or players k d).end ≡ new_end line k =
      sym (get_or-map (λ (p : PlayerView). p.end) players k d d.end lt) ∙ ap (λ (es : List SendView). get_or es k d.end) ends_are
      ∙ new.1 k d.end (omega (arith, lt, l)) in
      let quota : length (get_or players k d).left ≡ quota_at line.quotas k =
      ap length (sym (get_or-map (λ (p : PlayerView). p.left) players k d [] lt) ∙ ap (λ (ps : List (List PlannedData)). get_or ps k []) plans_are)
      ∙ sym (ap (λ (qs : List ℕ). quota_at qs k) quotas ∙ list.get_or-map length plans k []) in
      player_fresh line k (get_or players k d) end (logged k d lt) quota,
)

-- as many scripts as ends: none is left
pub all_taken : (line : LineView) (players : List PlayerView) (ends : List SendView) (plans rest : List (List PlannedData)) → AreNewEnds line ends
    → map (λ (p : PlayerView). p.end) players ≡ ends
    → plans_of players ++ rest ≡ plans → line.quotas ≡ map length plans → plans_of players ≡ plans
all_taken line players ends plans rest new ends_are split quotas =
    let a : length ends ≡ length players = sym (ap length ends_are) ∙ length-map players (λ (p : PlayerView). p.end) in
    let b : length line.quotas ≡ length plans = ap length quotas ∙ length-map plans length in
    let c : length plans ≡ length (plans_of players) + length rest = sym (ap length split) ∙ length-append (plans_of players) rest in
    let d : length (plans_of players) ≡ length players = length-map players (λ (p : PlayerView). p.left) in
    sym (append-nil (plans_of players)) ∙ ap (λ (xs : List (List PlannedData)). plans_of players
    ++ xs) (sym (none_left rest (omega (arith, a, b, c, d, new.0)))) ∙ split

-- one more item of a list was gone through
pub gone_through : {A : Type 0} (xs before zs all : List A) (x : A) → before ≡ x ∷ zs → xs ++ before ≡ all → (xs ++ x ∷ []) ++ zs ≡ all
gone_through xs before zs all x is split = append_assoc xs (x ∷ []) zs ∙ ap (λ ys. xs ++ ys) (sym is) ∙ split

pub none_in : (xs : List SendView) (n : ℕ) → n ≡ 0 → n ≡ length xs → xs ≡ []
none_in [] n none is = refl
none_in (x ∷ xs) n none is = absurd (omega (arith, none, is))

-- what holds of all plans holds of what is left of each player
pub each_due : (blocks : ℕ) (players : List PlayerView) (plans : List (List PlannedData)) → plans_of players ≡ plans
    → All (λ (plan : List PlannedData). AllBelow blocks (due_blocks plan)) plans
    → (k : ℕ) (d : PlayerView) → k < length players → AllBelow blocks (due_blocks (get_or players k d).left)
each_due blocks players plans is all k d lt =
    let l : length plans ≡ length players = sym (ap length is) ∙ length-map players (λ (p : PlayerView). p.left) in
    subst (λ (plan : List PlannedData). AllBelow blocks (due_blocks plan))
    (ap (λ (ps : List (List PlannedData)). get_or ps k d.left) (sym is) ∙ get_or-map (λ (p : PlayerView). p.left) players k d d.left lt)
    (all k d.left (omega (arith, l, lt)))
