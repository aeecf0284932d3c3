-- Which commands of a plan are due.
use Rattle.std.proofs.Common.{◌≡◌, ℕ, zero, suc, ◌+◌, ◌≤◌, ◌<◌, Bool, true, false, leb, MatchBool, List, [], ◌∷◌, length, ap, subst, ◌∙◌, arith, length-append}
use Rattle.std.specs.Prelude.{Option, None, Some}
use Rattle.std.proofs.lemmas.Bool.{leb-true, leb-false}
use Rattle.command_set.specs.Entries.{EntryData}
use Rattle.command_queue.specs.Ends.{LineView, SendView, accepted, quota_of}
use Rattle.lateness.specs.Late.{AllFrom, FirstBelow}
use Rattle.script_plan.specs.Plan.{PlannedData, IsPlanFrom, IsPlan, first_due, due_blocks}
use Rattle.players.specs.Players.{PlayerView, IsReady}

from_first : (least t : ℕ) (cs : List PlannedData) → t ≤ least → IsPlanFrom least cs → AllFrom t (due_blocks cs)
from_first least t [] le plan = tt
from_first least t (c ∷ cs) le plan = (omega (arith, plan.0, le), from_first c.due t cs (omega (arith, plan.0, le)) plan.3)

-- whether the first command is due tells which are
pub due_first : (plan : List PlannedData) (due t : ℕ) → IsPlan plan → Some due ≡ first_due plan
    → (b : Bool) → leb due t ≡ b → MatchBool b (FirstBelow (t + 1) (due_blocks plan)) (AllFrom (t + 1) (due_blocks plan))
due_first [] due t plan is b test = absurd (some_none is) where
  some_none : Some due ≡ None → ⊥
  some_none e = cc
due_first (c ∷ cs) due t plan is true test =
    let le : due ≤ t = leb-true due t test in
    let e : due ≡ c.due = same is in
    omega (arith, le, e) where
      same : Some due ≡ Some c.due → due ≡ c.due
      same e = cc
due_first (c ∷ cs) due t plan is false test =
    let lt : t < due = leb-false due t test in
    let e : due ≡ c.due = same is in
    (omega (arith, lt, e), from_first c.due (t + 1) cs (omega (arith, lt, e)) plan.3) where
      same : Some due ≡ Some c.due → due ≡ c.due
      same e = cc

pub none_first : (plan : List PlannedData) (t : ℕ) → None ≡ first_due plan → AllFrom (t + 1) (due_blocks plan)
none_first [] t is = tt
none_first (c ∷ cs) t is = absurd (none_some is) where
  none_some : None ≡ Some c.due → ⊥
  none_some e = cc

-- the player after a command was sent
pub ready_sent : (line : LineView) (p q : PlayerView) (c : PlannedData) (x : EntryData) → IsReady line p → p.left ≡ c ∷ q.left → q.end ≡ accepted p.end x
    → IsReady line q
ready_sent line p q c x h left end =
    let list : length q.end.list ≡ length p.end.list + 1 = ap (λ (e : SendView). length e.list) end ∙ length-append p.end.list (x ∷ []) in
    let fewer : length p.left ≡ length q.left + 1 = ap length left ∙ one_more (length q.left) in
    let quota : quota_of q.end ≡ quota_of p.end = ap quota_of end in
    record {
      line_is = ap (λ (e : SendView). e.line) end ∙ h.line_is;
      quota = omega (arith, list, fewer, quota, h.quota);
    } where
      one_more : (n : ℕ) → suc n ≡ n + 1
      one_more n = omega arith

-- the first command that is left is due
pub first_is_due : (t : ℕ) (c : PlannedData) (left rest : List PlannedData) → left ≡ c ∷ rest → FirstBelow (t + 1) (due_blocks left) → c.due ≤ t
first_is_due t c left rest is first = let e : c.due < t + 1 = subst (λ (cs : List PlannedData). FirstBelow (t + 1) (due_blocks cs)) is first in omega (arith, e)
