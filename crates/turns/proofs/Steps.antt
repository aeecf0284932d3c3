-- One turn more, of a player and of all.
use Rattle.std.proofs.Common.{◌≡◌, ℕ, zero, suc, ◌+◌, ◌-◌, ◌<◌, ◌≤◌, Bool, true, false, cond, List, [], ◌∷◌, ◌++◌, length, map, take, replicate, get_or, refl}
use Rattle.std.proofs.Common.{sym, ap, ◌∙◌, subst, inl, inr, arith, append_assoc, zero-add, length-append}
use Rattle.std.specs.Prelude.{filter, ◌==◌, ◌⊎◌, All, ℤ}
use Rattle.std.proofs.lemmas.List.{map-append}
use Rattle.std.proofs.Math.ListN.{length-map}
use Rattle.command_set.specs.declared.entry.Logged.{Logged}
use Rattle.command_set.specs.Entries.{EntryData, LoggedData, logged_data, journal_data}
use Rattle.command_queue.specs.Ends.{LineView, SendView, TakeView, quota_of, others_of, one_up}
use Rattle.command_queue.specs.Entries.{others_at}
use Rattle.instrument.specs.Logging.{logged_at}
use Rattle.instrument.specs.Journal.{sound}
use Rattle.lateness.specs.Late.{AllFrom, HasKept}
use Rattle.lateness.proofs.Turns.{one_turn, few_late, Ended}
use Rattle.script_plan.specs.Plan.{PlannedData, due_blocks}
use Rattle.players.specs.Players.{PlayerView, Stayed, WasStopped, Turned, IsReady, entries}
use Rattle.players.proofs.Turns.{length-entries}
use Rattle.live_renderer.specs.Renderer.{RendererView, KeepsSound}
use Rattle.turns.specs.Turns.{blocks_of, AreFresh, IsFreshRenderer, IsFresh}
use Rattle.turns.specs.Steps.{LogsSome, at_block, HaveCounted, HadTurns, HaveTurned, AfterTurns}
use Rattle.turns.proofs.Logging.{logs_join, prefix_logged}
use Rattle.turns.proofs.Counting.{blocks_append}

pub dues_append : (xs ys : List PlannedData) → due_blocks (xs ++ ys) ≡ due_blocks xs ++ due_blocks ys
dues_append xs ys = map-append (λ (c : PlannedData). c.due) xs ys

entries_append : (script seq : ℕ) (xs ys : List PlannedData) → entries script seq (xs ++ ys) ≡ entries script seq xs ++ entries script (seq + length xs) ys
entries_append script seq [] ys = let z : seq ≡ seq + 0 = omega arith in ap (λ (n : ℕ). entries script n ys) z
entries_append script seq (x ∷ xs) ys =
    let z : (seq + 1) + length xs ≡ seq + length (x ∷ xs) = omega arith in
    ap (λ (es : List EntryData). record { script = script; seq = seq; sent_at = x.due; command = x.command } ∷ es) (entries_append script (seq + 1) xs ys
    ∙ ap (λ (n : ℕ). entries script (seq + 1) xs ++ entries script n ys) z)

-- what is logged at one block has that block alone
logged_blocks : (k t : ℕ) (xs : List EntryData) → blocks_of k (map (logged_at t) xs) ≡ replicate (length (blocks_of k (map (logged_at t) xs))) t
logged_blocks k t [] = refl
logged_blocks k t (x ∷ xs) = at (x.script == k) (logged_blocks k t xs) where
  at : (b : Bool) → blocks_of k (map (logged_at t) xs) ≡ replicate (length (blocks_of k (map (logged_at t) xs))) t
      → map (λ (l : LoggedData). l.block) (cond b (logged_at t x ∷ filter (λ (l : LoggedData). l.entry.script == k) (map (logged_at t) xs))
      (filter (λ (l : LoggedData). l.entry.script == k) (map (logged_at t) xs)))
      ≡ replicate (length (map (λ (l : LoggedData). l.block) (cond b (logged_at t x
      ∷ filter (λ (l : LoggedData). l.entry.script == k) (map (logged_at t) xs))
      (filter (λ (l : LoggedData). l.entry.script == k) (map (logged_at t) xs))))) t
  at true h = ap (λ (ts : List ℕ). t ∷ ts) h
  at false h = h

-- where so many more entries of a script are in the journal, all logged at one block
pub blocks_more : (k t : ℕ) (journal : List LoggedData) (xs : List EntryData) (n : ℕ)
    → length (blocks_of k (journal ++ map (logged_at t) xs)) ≡ length (blocks_of k journal) + n
    → blocks_of k (journal ++ map (logged_at t) xs) ≡ blocks_of k journal ++ replicate n t
blocks_more k t journal xs n many =
    let more : List ℕ = blocks_of k (map (logged_at t) xs) in
    let e : blocks_of k (journal ++ map (logged_at t) xs) ≡ blocks_of k journal ++ more = blocks_append k journal (map (logged_at t) xs) in
    let len : length more ≡ n = omega (arith, many, ap length e, length-append (blocks_of k journal) more) in
    e ∙ ap (λ (ts : List ℕ). blocks_of k journal ++ ts) (logged_blocks k t xs ∙ ap (λ (m : ℕ). replicate m t) len)

up : (n : ℕ) → n < 18446744073709551615 → one_up n ≡ n + 1
up n lt = omega (arith, lt)

-- A turn of a player: it sent, then all that was accepted of it was found in the journal, logged at the turn.
pub player_more : (t k : ℕ) (journal : List LoggedData) (xs : List EntryData) (p q q1 q2 : PlayerView) → t < 4294967295 → HadTurns t journal k p q
    → Turned t q q1
    → q2.end ≡ q1.end → q2.left ≡ q1.left → q2.logged ≡ length (blocks_of k (journal ++ map (logged_at t) xs)) → q2.logged ≡ length q2.end.list
    → HadTurns (t + 1) (journal ++ map (logged_at t) xs) k p q2
player_more t k journal xs p q q1 q2 small h turned end left logged met =
    let a = turned.0 in
    let more : List PlannedData = a.sent in
    let prefix : length q.end.list ≡ length h.sent = ap length h.list ∙ length-entries k 0 h.sent in
    let number : q.end.number ≡ k = h.number ∙ h.own in
    let list : q1.end.list ≡ entries k 0 (h.sent ++ more) =
    a.list ∙ (λ i. h.list i ++ entries (number i) (prefix i) more) ∙ (λ i. entries k 0 h.sent ++ entries k (sym (zero-add (length h.sent)) i) more)
    ∙ sym (entries_append k 0 h.sent more) in
    let list2 : q2.end.list ≡ entries k 0 (h.sent ++ more) = ap (λ (e : SendView). e.list) end ∙ list in
    let many : length (blocks_of k (journal ++ map (logged_at t) xs)) ≡ length (blocks_of k journal) + length (due_blocks more) =
    let l : length q2.end.list ≡ length h.sent + length more = ap length list2 ∙ length-entries k 0 (h.sent ++ more) ∙ length-append h.sent more in
    let d : length (due_blocks more) ≡ length more = length-map more (λ (c : PlannedData). c.due) in
    let s : length (due_blocks h.sent) ≡ length h.sent = length-map h.sent (λ (c : PlannedData). c.due) in
    omega (arith, logged, met, l, d, s, h.kept.many) in
    let blocks = blocks_more k t journal xs (length (due_blocks more)) many in
    let place : q1.end.line ≡ p.end.line = a.line ∙ h.line in
    let num : q1.end.number ≡ p.end.number = a.number ∙ h.number in
    let others : others_of q1.end ≡ others_of p.end = λ i. others_at (place i).quotas (num i) in
    let count : length q1.end.list ≡ length (due_blocks h.sent ++ due_blocks more) =
    ap length list ∙ length-entries k 0 (h.sent ++ more) ∙ length-append h.sent more
    ∙ (λ i. sym (length-map h.sent (λ (c : PlannedData). c.due)) i + sym (length-map more (λ (c : PlannedData). c.due)) i)
    ∙ sym (length-append (due_blocks h.sent) (due_blocks more)) in
    let kept : HasKept p.end.line.places (others_of p.end) t (due_blocks h.sent) (due_blocks more ++ due_blocks q1.left) (blocks_of k journal) q.end.refusals =
    subst (λ (ds : List ℕ). HasKept p.end.line.places (others_of p.end) t (due_blocks h.sent) ds (blocks_of k journal) q.end.refusals) (ap due_blocks a.split
    ∙ dues_append more q1.left) h.kept in
    let few : q.end.refusals ≤ t = subst (λ (n : ℕ). n ≤ t) (sym kept.late)
    (few_late (due_blocks h.sent ++ (due_blocks more ++ due_blocks q1.left)) (blocks_of k journal) t) in
    let after : HasKept p.end.line.places (others_of p.end) (t + 1) (due_blocks h.sent ++ due_blocks more) (due_blocks q1.left) (blocks_of k journal
    ++ replicate (length (due_blocks more)) t) q1.end.refusals =
    one_turn p.end.line.places (others_of p.end) t (due_blocks h.sent) (due_blocks more) (due_blocks q1.left) (blocks_of k journal) q.end.refusals
    q1.end.refusals kept a.due
    (ended turned.1 few place others count) in
    record {
      sent = h.sent ++ more;
      split = h.split ∙ ap (λ (cs : List PlannedData). h.sent ++ cs) a.split ∙ sym (append_assoc h.sent more q1.left)
          ∙ ap (λ (cs : List PlannedData). (h.sent ++ more) ++ cs) (sym left);
      list = list2;
      line = ap (λ (e : SendView). e.line) end ∙ place;
      number = ap (λ (e : SendView). e.number) end ∙ num;
      own = h.own;
      logged = logged;
      kept = subst (λ (y : List ℕ × List ℕ × List ℕ × ℕ). HasKept p.end.line.places (others_of p.end) (t + 1) y.0 y.1 y.2 y.3)
          (λ i. (sym (dues_append h.sent more) i, due_blocks (sym left i), sym blocks i, (sym end i).refusals)) after;
    } where
      ended : (Stayed t q q1 ⊎ WasStopped t q q1) → q.end.refusals ≤ t → q1.end.line ≡ p.end.line → others_of q1.end ≡ others_of p.end
          → length q1.end.list ≡ length (due_blocks h.sent ++ due_blocks turned.0.sent)
          → Ended p.end.line.places (others_of p.end) t (length (due_blocks h.sent ++ due_blocks turned.0.sent)) (due_blocks q1.left) q.end.refusals
          q1.end.refusals
      ended (inl s) few place others count = inl s
      ended (inr s) few place others count =
          inr (
            s.0,
            subst (λ (y : ℕ × ℕ × ℕ). y.0 ≤ y.1 + y.2) (λ i. ((place i).places, count i, others i)) s.1,
            s.2 ∙ up q.end.refusals (omega (arith, few, small)),
          )

from_zero : (xs : List ℕ) → AllFrom 0 xs
from_zero [] = tt
from_zero (x ∷ xs) = (omega arith, from_zero xs)

-- before the first turn
pub player_none : (line : LineView) (k : ℕ) (p : PlayerView) → IsFresh line k p → HadTurns 0 [] k p p
player_none line k p h = record {
  sent = [];
  split = refl;
  list = h.list;
  line = refl;
  number = refl;
  own = h.number;
  logged = h.logged;
  kept = record {
    many = refl;
    past = tt;
    due = tt;
    late = h.refusals;
    in_time = record { early = []; later = []; late_blocks = []; sent_is = refl; blocks_is = refl; why = inl (refl, refl, from_zero (due_blocks p.left)) };
  };
}

-- the players after the sends of a turn, before anything of it was counted
counted_first : (t : ℕ) (line : LineView) (before : List PlayerView) (r : RendererView) (ps ps1 : List PlayerView)
    → AfterTurns t line before r ps → HaveTurned line t ps ps1 → length ps1 ≡ length ps → HaveCounted r.journal ps1 ps1
counted_first t line before r ps ps1 h turned many = record {
  many = refl;
  each = λ k d lt.
      let in_ps : k < length ps = omega (arith, lt, many) in
      let in_before : k < length before = omega (arith, in_ps, h.many) in
      ap (λ (n : ℕ). let q : PlayerView = record (get_or ps1 k d) { logged = n } in q) ((turned.1 k d in_ps).0.logged ∙ (h.played k d in_before).logged);
}

-- what the settling of a turn begins with
pub counted_start : (t : ℕ) (line : LineView) (before : List PlayerView) (r r1 : RendererView) (items : List Logged) (ps ps1 : List PlayerView)
    → AfterTurns t line before r ps → HaveTurned line t ps ps1 → length ps1 ≡ length ps → LogsSome (at_block t r) r1 → journal_data items ≡ r.journal
    → HaveCounted (take (length items) r1.journal) ps1 ps1
counted_start t line before r r1 items ps ps1 h turned many logs same =
    let len : length items ≡ length r.journal = sym (length-map items logged_data) ∙ ap length same in
    subst (λ (j : List LoggedData). HaveCounted j ps1 ps1) (sym (ap (λ (n : ℕ). take n r1.journal) len ∙ (prefix_logged (at_block t r) r1 logs).0))
    (counted_first t line before r ps ps1 h turned many)

ready_same : (line : LineView) (p q : PlayerView) → IsReady line p → q.end ≡ p.end → q.left ≡ p.left → IsReady line q
ready_same line p q h end left = record {
  line_is = ap (λ (e : SendView). e.line) end ∙ h.line_is;
  quota = (λ i. length (end i).list + length (left i)) ∙ h.quota ∙ sym (ap quota_of end);
}

-- a whole turn
pub turn_more : (t : ℕ) (line : LineView) (before : List PlayerView) (r r1 r2 : RendererView) (ps ps1 ps2 : List PlayerView)
    → t < 4294967295 → AfterTurns t line before r ps → HaveTurned line t ps ps1 → length ps1 ≡ length ps
    → LogsSome (at_block t r) r1 → LogsSome r1 r2 → HaveCounted r2.journal ps1 ps2 → All (λ (p : PlayerView). p.logged ≡ length p.end.list) ps2
    → AfterTurns (t + 1) line before r2 ps2
turn_more t line before r r1 r2 ps ps1 ps2 small h turned many logs logs2 counted met =
    let all : LogsSome (at_block t r) r2 = logs_join (at_block t r) r1 r2 logs logs2 in
    let log : r2.journal ≡ r.journal ++ map (logged_at t) all.1.entries = all.1.journal in
    let later : (t + 1) - 1 ≡ t = omega arith in
    record {
      taker = ap (λ (l : LineView). l) all.1.line ∙ h.taker;
      blocks = all.1.blocks ∙ sym later;
      many = counted.many ∙ many ∙ h.many;
      played = λ k d lt.
          let in_ps : k < length ps = omega (arith, lt, h.many) in
          let in_ps1 : k < length ps1 = omega (arith, in_ps, many) in
          let in_ps2 : k < length ps2 = omega (arith, in_ps1, counted.many) in
          let is = counted.each k d in_ps1 in
          subst (λ (j : List LoggedData). HadTurns (t + 1) j k (get_or before k d) (get_or ps2 k d)) (sym log)
          (player_more t k r.journal all.1.entries (get_or before k d) (get_or ps k d) (get_or ps1 k d) (get_or ps2 k d) small (h.played k d lt)
          (turned.1 k d in_ps)
          (ap (λ (p : PlayerView). p.end) is) (ap (λ (p : PlayerView). p.left) is) (ap (λ (p : PlayerView). p.logged) is
          ∙ ap (λ (j : List LoggedData). length (blocks_of k j)) log) (met k d in_ps2));
      ready = λ k d lt.
          let in_ps1 : k < length ps1 = omega (arith, lt, counted.many) in
          let is = counted.each k d in_ps1 in
          ready_same line (get_or ps1 k d) (get_or ps2 k d) (turned.0 k d in_ps1) (ap (λ (p : PlayerView). p.end) is) (ap (λ (p : PlayerView). p.left) is);
    }

-- before the first turn
pub turns_none : (line : LineView) (r : RendererView) (ps : List PlayerView) → AreFresh line ps → IsFreshRenderer line r → AfterTurns 0 line ps r ps
turns_none line r ps fresh new = record {
  taker = new.line_is;
  blocks = new.blocks ∙ (let z : 0 ≡ 0 - 1 = omega arith in z);
  many = refl;
  played = λ k d lt. subst (λ (j : List LoggedData). HadTurns 0 j k (get_or ps k d) (get_or ps k d)) (sym new.journal)
      (player_none line k (get_or ps k d) (fresh.1 k d lt));
  ready = λ k d lt. let f = fresh.1 k d lt in record {
    line_is = f.line_is;
    quota = let e : length (get_or ps k d).end.list ≡ 0 = ap length f.list in omega (arith, e, f.quota);
  };
}

-- a whole turn, as the code goes through it
pub turn_after : (t : ℕ) (line : LineView) (r r1 r2 : RendererView) (items : List Logged) (ps ps1 ps2 : List PlayerView)
    → t < 4294967295 → HaveTurned line t ps ps1 → length ps1 ≡ length ps → LogsSome (at_block t r) r1 → journal_data items ≡ r.journal → LogsSome r1 r2
    → ((b : List PlayerView) → HaveCounted (take (length items) r1.journal) b ps1 → HaveCounted r2.journal b ps2)
    → All (λ (p : PlayerView). p.logged ≡ length p.end.list) ps2
    → (before : List PlayerView) → AfterTurns t line before r ps → AfterTurns (t + 1) line before r2 ps2
turn_after t line r r1 r2 items ps ps1 ps2 small turned many logs same logs2 counted met before h =
    turn_more t line before r r1 r2 ps ps1 ps2 small h turned many logs logs2
    (counted ps1 (counted_start t line before r r1 items ps ps1 h turned many logs same)) met
