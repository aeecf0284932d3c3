-- One more line of a script of edits.
use Rattle.std.proofs.Common.{◌≡◌, ℕ, ◌+◌, ◌≤◌, List, [], ◌∷◌, ◌++◌, length, refl, ap, sym, ◌∙◌, subst, arith, append_assoc, append-nil, length-append}
use Rattle.std.specs.Prelude.{Option, Some, None}
use Rattle.plain_text.specs.Split.{split}
use Rattle.command_set.specs.Command.{CommandData}
use Rattle.script_plan.specs.Plan.{planned_at}
use Rattle.editor.specs.History.{History}
use Rattle.script_outcome.specs.declared.fault.Place.{Place}
use Rattle.script_outcome.specs.declared.fault.Place.TheVariants as place
use Rattle.script_outcome.specs.declared.fault.ScriptKind.{ScriptKind}
use Rattle.script_outcome.specs.declared.fault.ScriptKind.TheVariants as kind
use Rattle.script_outcome.specs.declared.fault.ScriptFault.{ScriptFault}
use Rattle.script_outcome.specs.declared.fault.ScriptFault.TheVariants as faults
use Rattle.script_read.specs.declared.editing.Editing.{Editing}
use Rattle.script_read.specs.Words.{lines_of, without_return}
use Rattle.script_outcome.specs.Outcomes.{Outcome, Gives, Fails}
use Rattle.script_read.specs.Outcomes.{time_fault, timed}
use Rattle.script_read.specs.EditLines.{EditRequestData, ParsedEdit, Passed, Requests, Bad, parsed_edit, parsed_edits}
use Rattle.script_read.specs.Edits.{Answered, Becomes, Refuses, answer_outcomes, answered, block_then, edit_block, edit_outcomes, edit_place}
use Rattle.script_read.specs.Edits.{edit_text_outcomes, edits_after, history_with, history_after, history_then, opened}
use Rattle.script_outcome.specs.Plan.{Refused, plan_of}
use Rattle.script_outcome.specs.ReaderAnswer.{Stops, all_given}
use Rattle.script_read.specs.EditsSoFar.{IsEditing, IsRefusal, IsWithinEdits}
use Rattle.script_outcome.proofs.Plans.{fails, stops_more}
use Rattle.script_read.proofs.LineOutcomes.{lines_first, lines_last, timed_none, timed_some}

-- what one line changes
history_more : (h : History) (lines : List ParsedEdit) (s : ParsedEdit) → history_after h (lines ++ s ∷ []) ≡ history_with (history_after h lines) s
unfolding history_after
history_more h [] s = refl
history_more h (line ∷ lines) s = history_more (history_with h line) lines s

block_more : (last : ℕ) (lines : List ParsedEdit) (s : ParsedEdit) → edit_block last (lines ++ s ∷ []) ≡ block_then (edit_block last lines) s
unfolding edit_block
block_more last [] s = refl
block_more last (line ∷ lines) s = block_more (block_then last line) lines s

outcomes_append : (blocks : Option ℕ) (before xs ys : List ParsedEdit)
    → edits_after blocks before (xs ++ ys) ≡ edits_after blocks before xs ++ edits_after blocks (before ++ xs) ys
unfolding edits_after
outcomes_append blocks before [] ys = rw (append-nil before) refl
outcomes_append blocks before (x ∷ xs) ys =
    let first : List Outcome = edit_outcomes blocks before x in
    let join : (before ++ x ∷ []) ++ xs ≡ before ++ x ∷ xs = append_assoc before (x ∷ []) xs in
    ap (λ (os : List Outcome). first ++ os) (outcomes_append blocks (before ++ x ∷ []) xs ys
    ∙ ap (λ (b : List ParsedEdit). edits_after blocks (before ++ x ∷ []) xs ++ edits_after blocks b ys) join)
    ∙ sym (append_assoc first _ _)

outcomes_one : (blocks : Option ℕ) (before : List ParsedEdit) (s : ParsedEdit) → edits_after blocks before (s ∷ []) ≡ edit_outcomes blocks before s
unfolding edits_after
outcomes_one blocks before s = append-nil (edit_outcomes blocks before s)

outcomes_more : (blocks : Option ℕ) (lines : List ParsedEdit) (s : ParsedEdit)
    → edits_after blocks [] (lines ++ s ∷ []) ≡ edits_after blocks [] lines ++ edit_outcomes blocks lines s
outcomes_more blocks lines s = outcomes_append blocks [] lines (s ∷ []) ∙ ap (λ (os : List Outcome). edits_after blocks [] lines
    ++ os) (outcomes_one blocks lines s)

-- the outcomes with one more line, by the commands so far
given_more : (p : Editing) (blocks : Option ℕ) (lines : List ParsedEdit) (s : ParsedEdit) → IsEditing p blocks lines
    → edits_after blocks [] (lines ++ s ∷ []) ≡ all_given p.script ++ edit_outcomes blocks lines s
given_more p blocks lines s b = outcomes_more blocks lines s ∙ ap (λ (os : List Outcome). os ++ edit_outcomes blocks lines s) b.given

-- a reader after one more line
pub after_more : (old new : Editing) (blocks : Option ℕ) (lines : List ParsedEdit) (s : ParsedEdit) → IsEditing old blocks lines
    → new.editor ≡ history_with old.editor s → new.least ≡ block_then old.least s → new.number ≡ old.number + 1
    → all_given new.script ≡ all_given old.script ++ edit_outcomes blocks lines s
    → IsEditing new blocks (lines ++ s ∷ [])
after_more old new blocks lines s b history least number given = record {
  history = history ∙ ap (λ (h : History). history_with h s) b.history ∙ sym (history_more opened lines s);
  least = least ∙ ap (λ (n : ℕ). block_then n s) b.least ∙ sym (block_more 0 lines s);
  number = let count : length (lines ++ s ∷ []) ≡ length lines + 1 = length-append lines (s ∷ []) in let was : old.number ≡ length lines + 2 = b.number in
      omega arith;
  given = given_more old blocks lines s b ∙ sym given;
}

-- nothing was read
pub after_none : (p : Editing) (blocks : Option ℕ) → p.editor ≡ opened → p.script ≡ [] → p.least ≡ 0 → p.number ≡ 2 → IsEditing p blocks []
unfolding history_after edit_block edits_after
after_none p blocks history none least number = record { history = history; least = least; number = number; given = ap all_given (sym none) }

-- a line that is refused
stops_line : (p : Editing) (blocks : Option ℕ) (room : ℕ) (lines : List ParsedEdit) (s : ParsedEdit) (why : ScriptKind) → IsEditing p blocks lines
    → length p.script ≤ room
    → edit_outcomes blocks lines s ≡ Fails (edit_place lines) why ∷ []
    → Stops (faults.Refused (place.Line p.number) why) room (edits_after blocks [] (lines ++ s ∷ []))
stops_line p blocks room lines s why b few is = λ more.
    ap (λ (os : List Outcome). plan_of room (os ++ more)) (given_more p blocks lines s b ∙ ap (λ (os : List Outcome). all_given p.script ++ os) is)
    ∙ fails room p.script (edit_place lines) why more few
    ∙ ap (λ (n : ℕ). Refused (place.Line n) why) (sym b.number)

-- a line that stops within
stops_in_line : (p : Editing) (blocks : Option ℕ) (room : ℕ) (lines : List ParsedEdit) (s : ParsedEdit) (why : ScriptFault) → IsEditing p blocks lines
    → Stops why room (all_given p.script ++ edit_outcomes blocks lines s) → Stops why room (edits_after blocks [] (lines ++ s ∷ []))
stops_in_line p blocks room lines s why b stops = subst (λ (os : List Outcome). Stops why room os) (sym (given_more p blocks lines s b)) stops

-- ---- each kind of line

passed_outcomes : (blocks : Option ℕ) (lines : List ParsedEdit) → edit_outcomes blocks lines Passed ≡ []
unfolding edit_outcomes
passed_outcomes blocks lines = refl

pub after_passed : (old new : Editing) (blocks : Option ℕ) (lines : List ParsedEdit) → IsEditing old blocks lines
    → new.editor ≡ old.editor → new.least ≡ old.least → new.number ≡ old.number + 1 → new.script ≡ old.script
    → IsEditing new blocks (lines ++ Passed ∷ [])
after_passed old new blocks lines b history least number same =
    after_more old new blocks lines Passed b history least number
    (ap all_given same ∙ sym (ap (λ (os : List Outcome). all_given old.script ++ os) (passed_outcomes blocks lines) ∙ append-nil (all_given old.script)))

bad_outcomes : (blocks : Option ℕ) (lines : List ParsedEdit) → edit_outcomes blocks lines Bad ≡ Fails (edit_place lines) kind.Line ∷ []
unfolding edit_outcomes
bad_outcomes blocks lines = refl

pub stops_bad : (p : Editing) (blocks : Option ℕ) (room : ℕ) (lines : List ParsedEdit) (fault : ScriptFault) → IsEditing p blocks lines → length p.script ≤ room
    → fault ≡ faults.Refused (place.Line p.number) kind.Line → Stops fault room (edits_after blocks [] (lines ++ Bad ∷ []))
stops_bad p blocks room lines fault b few is =
    subst (λ (why : ScriptFault). Stops why room (edits_after blocks [] (lines ++ Bad ∷ []))) (sym is)
    (stops_line p blocks room lines Bad kind.Line b few (bad_outcomes blocks lines))

request_outcomes : (p : Editing) (blocks : Option ℕ) (lines : List ParsedEdit) (block : ℕ) (what : EditRequestData) → IsEditing p blocks lines
    → edit_outcomes blocks lines (Requests block what) ≡ timed (time_fault blocks p.least block) (edit_place lines)
    (answer_outcomes (edit_place lines) block (answered p.editor what))
unfolding edit_outcomes
request_outcomes p blocks lines block what b =
    ap (λ (n : ℕ). timed (time_fault blocks n block) (edit_place lines) (answer_outcomes (edit_place lines) block (answered (history_after opened lines) what)))
    (sym b.least)
    ∙ ap (λ (h : History). timed (time_fault blocks p.least block) (edit_place lines) (answer_outcomes (edit_place lines) block (answered h what)))
    (sym b.history)

-- a line whose block is wrong
pub stops_time : (p : Editing) (blocks : Option ℕ) (room : ℕ) (lines : List ParsedEdit) (block : ℕ) (what : EditRequestData) (why : ScriptKind)
    (fault : ScriptFault)
    → IsEditing p blocks lines → length p.script ≤ room → time_fault blocks p.least block ≡ Some why → fault ≡ faults.Refused (place.Line p.number) why
    → Stops fault room (edits_after blocks [] (lines ++ Requests block what ∷ []))
stops_time p blocks room lines block what why fault b few time is =
    subst (λ (f : ScriptFault). Stops f room (edits_after blocks [] (lines ++ Requests block what ∷ []))) (sym is)
    (stops_line p blocks room lines (Requests block what) why b few
    (request_outcomes p blocks lines block what b ∙ timed_some (time_fault blocks p.least block) (edit_place lines) _ why time))

-- a line in time, and what the editor answers
answer_comes : (p : Editing) (blocks : Option ℕ) (lines : List ParsedEdit) (block : ℕ) (what : EditRequestData) (answer : Answered) → IsEditing p blocks lines
    → time_fault blocks p.least block ≡ None → answered p.editor what ≡ answer
    → edit_outcomes blocks lines (Requests block what) ≡ answer_outcomes (edit_place lines) block answer
answer_comes p blocks lines block what answer b time is =
    request_outcomes p blocks lines block what b ∙ timed_none (time_fault blocks p.least block) (edit_place lines) _ time
    ∙ ap (λ (a : Answered). answer_outcomes (edit_place lines) block a) is

-- the editor refuses
pub stops_answer : (p : Editing) (blocks : Option ℕ) (room : ℕ) (lines : List ParsedEdit) (block : ℕ) (what : EditRequestData) (fault : ScriptFault)
    → IsEditing p blocks lines → length p.script ≤ room → time_fault blocks p.least block ≡ None
    → IsRefusal fault (place.Line p.number) (answered p.editor what)
    → Stops fault room (edits_after blocks [] (lines ++ Requests block what ∷ []))
stops_answer p blocks room lines block what (faults.Refused at why) b few time is =
    subst (λ (x : Place). Stops (faults.Refused x why) room (edits_after blocks [] (lines ++ Requests block what ∷ []))) (sym is.0)
    (stops_line p blocks room lines (Requests block what) why b few (answer_comes p blocks lines block what (Refuses why) b time is.1))
stops_answer p blocks room lines block what faults.TooMany b few time is = absurd is
stops_answer p blocks room lines block what faults.Memory b few time is = tt

-- the editor answers a command
pub after_answer : (old new : Editing) (blocks : Option ℕ) (lines : List ParsedEdit) (block : ℕ) (what : EditRequestData) (command : CommandData)
    → IsEditing old blocks lines → time_fault blocks old.least block ≡ None → answered old.editor what ≡ Becomes new.editor command
    → new.least ≡ block → new.number ≡ old.number + 1 → all_given new.script ≡ all_given old.script ++ Gives (planned_at block command) ∷ []
    → IsEditing new blocks (lines ++ Requests block what ∷ [])
after_answer old new blocks lines block what command b time is least number given =
    after_more old new blocks lines (Requests block what) b (sym (ap (λ (a : Answered). history_then old.editor a) is)) least number
    (given ∙ ap (λ (os : List Outcome). all_given old.script ++ os) (sym (answer_comes old blocks lines block what (Becomes new.editor command) b time is)))

-- the command is not given
pub stops_give : (p : Editing) (blocks : Option ℕ) (room : ℕ) (lines : List ParsedEdit) (block : ℕ) (what : EditRequestData) (next : History)
    (command : CommandData) (fault : ScriptFault)
    → IsEditing p blocks lines → time_fault blocks p.least block ≡ None → answered p.editor what ≡ Becomes next command
    → Stops fault room (all_given p.script ++ Gives (planned_at block command) ∷ [])
    → Stops fault room (edits_after blocks [] (lines ++ Requests block what ∷ []))
stops_give p blocks room lines block what next command fault b time is stops =
    stops_in_line p blocks room lines (Requests block what) fault b
    (subst (λ (os : List Outcome). Stops fault room (all_given p.script ++ os)) (sym (answer_comes p blocks lines block what (Becomes next command) b time is))
    stops)

-- ---- whole texts

pub within_none : (p : Editing) (blocks : Option ℕ) (text : List ℕ) → IsEditing p blocks [] → IsWithinEdits p blocks text text
within_none p blocks text b = record { lines = []; split = refl; after = b }

-- one more line of a text was read
pub within_more : (p : Editing) (blocks : Option ℕ) (lines : List ParsedEdit) (rest line after text : List ℕ) → split 10 rest ≡ line ∷ split 10 after
    → lines ++ parsed_edits (lines_of rest) ≡ parsed_edits (lines_of text) → IsEditing p blocks (lines ++ parsed_edit (without_return line) ∷ [])
    → IsWithinEdits p blocks after text
within_more p blocks lines rest line after text e split b = record {
  lines = lines ++ parsed_edit (without_return line) ∷ [];
  split = append_assoc lines (parsed_edit (without_return line) ∷ []) (parsed_edits (lines_of after))
      ∙ ap (λ (xs : List (List ℕ)). lines ++ parsed_edits xs) (sym (lines_first rest line after e)) ∙ split;
  after = b;
}

-- a stop within a text
stopped_in_text : (why : ScriptFault) (room : ℕ) (blocks : Option ℕ) (lines later all : List ParsedEdit) → lines ++ later ≡ all
    → Stops why room (edits_after blocks [] lines) → Stops why room (edit_text_outcomes blocks all)
stopped_in_text why room blocks lines later all e stops =
    subst (λ (xs : List ParsedEdit). Stops why room (edits_after blocks [] xs)) e
    (subst (λ (os : List Outcome). Stops why room os) (sym (outcomes_append blocks [] lines later)) (stops_more why room _ _ stops))

pub stopped_at_line : (why : ScriptFault) (room : ℕ) (blocks : Option ℕ) (lines : List ParsedEdit) (rest line after text : List ℕ) → split 10 rest ≡ line
    ∷ split 10 after
    → lines ++ parsed_edits (lines_of rest) ≡ parsed_edits (lines_of text)
    → Stops why room (edits_after blocks [] (lines ++ parsed_edit (without_return line) ∷ []))
    → Stops why room (edit_text_outcomes blocks (parsed_edits (lines_of text)))
stopped_at_line why room blocks lines rest line after text e split stops =
    stopped_in_text why room blocks (lines ++ parsed_edit (without_return line) ∷ []) (parsed_edits (lines_of after)) (parsed_edits (lines_of text))
    (append_assoc lines (parsed_edit (without_return line) ∷ []) (parsed_edits (lines_of after))
    ∙ ap (λ (xs : List (List ℕ)). lines ++ parsed_edits xs) (sym (lines_first rest line after e)) ∙ split) stops

all_lines : (lines : List ParsedEdit) (rest text : List ℕ) → split 10 rest ≡ rest ∷ [] → lines ++ parsed_edits (lines_of rest) ≡ parsed_edits (lines_of text)
    → lines ++ parsed_edit rest ∷ [] ≡ parsed_edits (lines_of text)
all_lines lines rest text e split = ap (λ (xs : List (List ℕ)). lines ++ parsed_edits xs) (sym (lines_last rest e)) ∙ split

pub stopped_at_last : (why : ScriptFault) (room : ℕ) (blocks : Option ℕ) (lines : List ParsedEdit) (rest text : List ℕ) → split 10 rest ≡ rest ∷ []
    → lines ++ parsed_edits (lines_of rest) ≡ parsed_edits (lines_of text) → Stops why room (edits_after blocks [] (lines ++ parsed_edit rest ∷ []))
    → Stops why room (edit_text_outcomes blocks (parsed_edits (lines_of text)))
stopped_at_last why room blocks lines rest text e split stops =
    stopped_in_text why room blocks (lines ++ parsed_edit rest ∷ []) [] (parsed_edits (lines_of text)) (append-nil _ ∙ all_lines lines rest text e split) stops

-- all lines were read
pub settled_at_end : (p : Editing) (blocks : Option ℕ) (room : ℕ) (lines : List ParsedEdit) (rest text : List ℕ) → split 10 rest ≡ rest ∷ []
    → lines ++ parsed_edits (lines_of rest) ≡ parsed_edits (lines_of text) → IsEditing p blocks (lines ++ parsed_edit rest ∷ []) → length p.script ≤ room
    → (edit_text_outcomes blocks (parsed_edits (lines_of text)) ≡ all_given p.script) × (length p.script ≤ room)
settled_at_end p blocks room lines rest text e split b few =
    (ap (λ (xs : List ParsedEdit). edits_after blocks [] xs) (sym (all_lines lines rest text e split)) ∙ b.given, few)
