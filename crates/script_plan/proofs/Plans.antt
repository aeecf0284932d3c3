-- Lemmas on plans.
use Rattle.std.specs.Prelude.{ℕ, zero, suc, ◌≡◌, ◌+◌, ◌<◌, ◌≤◌, Bool, true, false, List, [], ◌∷◌, ◌++◌, length, slice_index_or, refl}
use Rattle.std.proofs.Common.{arith, sym, ◌∙◌, ap, subst, cond}
use Rattle.std.proofs.lemmas.List.{map-append}
use Rattle.command_set.specs.Command.{CommandData, content, IsInRange}
use Rattle.script_plan.specs.declared.script.Planned.{Planned}
use Rattle.script_plan.specs.Plan.{PlannedData, planned_data, plan_data, IsPlanFrom, last_due_or}

-- one more command, due at the last one's block or later
pub plan_more : (least : ℕ) (plan : List PlannedData) (c : PlannedData) → IsPlanFrom least plan → last_due_or least plan ≤ c.due → c.due < 4294967296
    → IsInRange c.command
    → IsPlanFrom least (plan ++ c ∷ [])
plan_more least [] c is le small range = (le, small, range, tt)
plan_more least (x ∷ xs) c is le small range = (is.0, is.1, is.2, plan_more x.due xs c is.3 le small range)

-- what follows the first command of a plan is one
pub plan_rest : (least : ℕ) (plan : List PlannedData) → IsPlanFrom least plan → IsPlanFrom 0 plan
plan_rest least [] is = tt
plan_rest least (x ∷ xs) is = (omega arith, is.1, is.2, is.3)

-- the last command's block, by the last command's place
pub last_at : (least : ℕ) (commands : List Planned) (n : ℕ) (d : Planned) → n + 1 ≡ length commands
    → last_due_or least (plan_data commands) ≡ (slice_index_or commands n d).due
last_at least [] n d many = absurd (omega (arith, many))
last_at least (x ∷ []) zero d many = refl
last_at least (x ∷ []) (suc n) d many = absurd (omega (arith, many))
last_at least (x ∷ y ∷ ys) zero d many = absurd (omega (arith, many))
last_at least (x ∷ y ∷ ys) (suc n) d many = last_at x.due (y ∷ ys) n d (omega (arith, many))

-- one command more, if there was memory for it
pub plan_pushed : (before after : List Planned) (c : Planned) (b : Bool) → after ≡ cond b (before ++ c ∷ []) before → IsPlanFrom 0 (plan_data before)
    → last_due_or 0 (plan_data before) ≤ c.due
    → c.due < 4294967296 → IsInRange (content c.command) → IsPlanFrom 0 (plan_data after)
plan_pushed before after c true is plan le small range =
    subst (IsPlanFrom 0) (sym (ap plan_data is ∙ map-append planned_data before (c ∷ []))) (plan_more 0 (plan_data before) (planned_data c) plan le small range)
plan_pushed before after c false is plan le small range = subst (IsPlanFrom 0) (sym (ap plan_data is)) plan
