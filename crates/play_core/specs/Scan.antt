-- For private functions and proofs: what is known in the middle of reading the scripts.
use Rattle.std.specs.Prelude.{◌≡◌, ◌⊎◌, ℕ, ◌-◌, ◌+◌, ◌<◌, ◌≤◌, List, ◌++◌, length, All, Option, Some, IfSome}
use Rattle.std.specs.FinMap.{get}
use Rattle.outside.specs.Files.{Files, Lacks}
use Rattle.outside.specs.Faults.{Rose}
use Rattle.script_plan.specs.Plan.{PlannedData}
use Rattle.script_outcome.specs.Plan.{Commands}
use Rattle.script_read.specs.Plan.{plan}
use Rattle.play_core.specs.declared.totals.Totals.{Totals}
use Rattle.play_core.specs.declared.refusal.PlayRefusal.{PlayRefusal}
use Rattle.play_core.specs.declared.refusal.PlayRefusal.TheVariants as why
use Rattle.play_core.specs.Limits.{command_limit, script_limit, scripts_limit}
use Rattle.play_core.specs.Verdict.{Verdict, Lacking, LongFile, LongScripts, Faulty, ManyCommands, ManyBlocks, Plays, nothing, with_script, of_file, of_scripts}
use Rattle.play_core.specs.Refused.{AgreesWith}

-- each command of a plan is due below this block
abbrev pub AreBelow : ℕ → List PlannedData → Type 0
AreBelow blocks one = All (λ (c : PlannedData). c.due < blocks) one

-- the file has these bytes, which are neither too many by themselves nor with those before, and this is its plan
pub record IsTextOf (told : Files) (blocks : Option ℕ) (name : List ℕ) (t : Totals) (one : List PlannedData) (after : Totals) : Type 0 where
  pub text : List ℕ
  pub found : get told name ≡ Some text
  pub short : length text ≤ script_limit
  pub fits : t.bytes + length text ≤ scripts_limit
  pub planned : plan text blocks (command_limit - t.commands) ≡ Commands one
  pub totals : after ≡ with_script t (length text) (length one)

-- the same where the files are told
abbrev pub IsNext : Option Files → Option ℕ → List ℕ → Totals → List PlannedData → Totals → Type 0
IsNext files blocks name t one after = IfSome files (λ told. IsTextOf told blocks name t one after)

-- these plans, and then what decides of the scripts after them
abbrev pub with_all : List (List PlannedData) → Verdict → Verdict
with_all before (Plays plans) = Plays (before ++ plans)
with_all before (Lacking name) = Lacking name
with_all before LongFile = LongFile
with_all before LongScripts = LongScripts
with_all before (Faulty number place what) = Faulty number place what
with_all before ManyCommands = ManyCommands
with_all before ManyBlocks = ManyBlocks

-- the scripts with these names were read and counted, and these are their plans: so what comes after them decides
abbrev pub AreRead : Files → Option ℕ → List (List ℕ) → List (List PlannedData) → Totals → Type 0
AreRead told blocks names plans t =
    (rest : List (List ℕ)) → of_scripts told blocks nothing (names ++ rest) ≡ with_all plans (of_scripts told blocks t rest)

-- what a refusal of the next script tells, whatever comes after it
abbrev pub NextTells : PlayRefusal → Option Files → Option ℕ → List ℕ → Totals → Type 0
NextTells why files blocks name t =
    IfSome files (λ told. (after : List ℕ → List PlannedData → Verdict) → AgreesWith why (of_file blocks t name (get told name) after))

-- why the next script, which has this number, was refused
abbrev pub NextCause : PlayRefusal → ℕ → Option Files → List ℕ → ℕ → ℕ → Type 0
NextCause (why.Unread k) number files name before now = (k ≡ number) × (Rose before now ⊎ Lacks files name)
NextCause why.LongFile number files name before now = now ≡ before
NextCause why.LongScripts number files name before now = now ≡ before
NextCause (why.Fault script place what) number files name before now = now ≡ before
NextCause why.ManyCommands number files name before now = now ≡ before
NextCause why.ManyBlocks number files name before now = now ≡ before
NextCause why.Memory number files name before now = now ≡ before
