-- For private functions and proofs: what a reader of edits knows in the middle of a script.
use Rattle.std.specs.Prelude.{ℕ, ◌≡◌, ◌+◌, ◌≤◌, List, [], ◌++◌, length, Option}
use Rattle.script_plan.specs.Plan.{last_due}
use Rattle.script_outcome.specs.declared.fault.Place.{Place}
use Rattle.script_outcome.specs.declared.fault.ScriptFault.{ScriptFault}
use Rattle.script_outcome.specs.declared.fault.ScriptFault.TheVariants as faults
use Rattle.script_read.specs.declared.editing.Editing.{Editing}
use Rattle.script_read.specs.EditLines.{ParsedEdit, parsed_edits}
use Rattle.script_read.specs.Edits.{Answered, Refuses, edit_block, edits_after, history_after, opened}
use Rattle.script_read.specs.Words.{lines_of}
use Rattle.script_outcome.specs.ReaderAnswer.{all_given}

-- a fault is the editor's refusal at a place; want of memory says nothing
abbrev pub IsRefusal : ScriptFault → Place → Answered → Type 0
IsRefusal (faults.Refused at why) place answer = (at ≡ place) × (answer ≡ Refuses why)
IsRefusal faults.TooMany place answer = ⊥
IsRefusal faults.Memory place answer = Unit {0}

-- the reader of edits stands after these lines, all of which are good
pub record IsEditing (p : Editing) (blocks : Option ℕ) (lines : List ParsedEdit) : Type 0 where
  pub history : p.editor ≡ history_after opened lines
  pub least : p.least ≡ edit_block 0 lines
  pub number : p.number ≡ length lines + 2
  pub given : edits_after blocks [] lines ≡ all_given p.script

-- it has room for so many commands, and the last one is due at the block of the lines or before
pub record HasEditOrder (p : Editing) (room : ℕ) : Type 0 where
  pub few : length p.script ≤ room
  pub due : last_due p.script ≤ p.least

-- it stands within a text, of which this is left
pub record IsWithinEdits (p : Editing) (blocks : Option ℕ) (rest text : List ℕ) : Type 0 where
  pub lines : List ParsedEdit
  pub split : lines ++ parsed_edits (lines_of rest) ≡ parsed_edits (lines_of text)
  pub after : IsEditing p blocks lines
