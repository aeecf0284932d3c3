-- One more line of a text.
use Rattle.std.proofs.Common.{◌≡◌, ℕ, ◌+◌, ◌≤◌, List, [], ◌∷◌, ◌++◌, length, Bool, true, false, cond, refl, ap, sym, ◌∙◌, subst, arith, append_assoc}
use Rattle.std.proofs.Common.{append-nil, length-append}
use Rattle.std.specs.Prelude.{Option, Some, None, Result, Ok, Err, IfOk, IfErr, OnOk, OnErr}
use Rattle.plain_text.specs.Split.{split}
use Rattle.plain_text.proofs.Cuts.{split_some}
use Rattle.midi_stream.specs.Messages.{is_unfinished}
use Rattle.midi_stream.specs.FedStream.{Reads}
use Rattle.velocity_map.specs.declared.curve.Curve.{Curve}
use Rattle.velocity_map.specs.declared.curve.Curve.TheVariants.{Linear}
use Rattle.command_set.specs.Command.{CommandData}
use Rattle.script_plan.specs.Plan.{PlannedData, planned_at}
use Rattle.script_outcome.specs.declared.fault.Place.{Place}
use Rattle.script_outcome.specs.declared.fault.Place.TheVariants as place
use Rattle.script_outcome.specs.declared.fault.ScriptKind.{ScriptKind}
use Rattle.script_outcome.specs.declared.fault.ScriptKind.TheVariants as kind
use Rattle.script_outcome.specs.declared.fault.ScriptFault.{ScriptFault}
use Rattle.script_outcome.specs.declared.fault.ScriptFault.TheVariants as faults
use Rattle.script_read.specs.declared.progress.Progress.{Progress}
use Rattle.script_read.specs.Words.{ended, lines_of, without_return}
use Rattle.script_read.specs.Lines.{ParsedLine, Blank, Maps, Orders, Feeds, Wrong, parsed, parsed_lines}
use Rattle.script_outcome.specs.Outcomes.{Outcome, Gives, Fails, fed_outcomes}
use Rattle.script_read.specs.Outcomes.{curved, curve_after, block_after, stream_of, fed_line, time_fault, timed, line_after, line_outcomes}
use Rattle.script_read.specs.Outcomes.{outcomes_after, text_end, text_outcomes}
use Rattle.script_outcome.specs.Plan.{Refused, plan_of}
use Rattle.script_outcome.specs.ReaderAnswer.{Settles, Stops, all_given}
use Rattle.script_read.specs.TextSoFar.{IsAfter, IsWithin}
use Rattle.script_outcome.proofs.Plans.{fails, stops_more}

-- what one line changes
abbrev pub curve_with : Curve → ParsedLine → Curve
curve_with curve Blank = curve
curve_with curve (Maps next) = next
curve_with curve (Orders block command) = curve
curve_with curve (Feeds block bytes) = curve
curve_with curve Wrong = curve

abbrev pub block_with : ℕ → ParsedLine → ℕ
block_with last Blank = last
block_with last (Maps next) = last
block_with last (Orders block command) = block
block_with last (Feeds block bytes) = block
block_with last Wrong = last

abbrev pub bytes_in : ParsedLine → List ℕ
bytes_in Blank = []
bytes_in (Maps next) = []
bytes_in (Orders block command) = []
bytes_in (Feeds block bytes) = bytes
bytes_in Wrong = []

abbrev pub fed_with : ℕ → ℕ → ParsedLine → ℕ
fed_with last number Blank = last
fed_with last number (Maps next) = last
fed_with last number (Orders block command) = last
fed_with last number (Feeds block bytes) = number
fed_with last number Wrong = last

curve_one : (curve : Curve) (s : ParsedLine) → curve_after curve (s ∷ []) ≡ curve_with curve s
unfolding curve_after
curve_one curve Blank = refl
curve_one curve (Maps next) = refl
curve_one curve (Orders block command) = refl
curve_one curve (Feeds block bytes) = refl
curve_one curve Wrong = refl

curve_more : (curve : Curve) (lines : List ParsedLine) (s : ParsedLine) → curve_after curve (lines ++ s ∷ []) ≡ curve_with (curve_after curve lines) s
unfolding curve_after
curve_more curve [] s = curve_one curve s
curve_more curve (Blank ∷ lines) s = curve_more curve lines s
curve_more curve (Maps next ∷ lines) s = curve_more next lines s
curve_more curve (Orders block command ∷ lines) s = curve_more curve lines s
curve_more curve (Feeds block bytes ∷ lines) s = curve_more curve lines s
curve_more curve (Wrong ∷ lines) s = curve_more curve lines s

block_one : (last : ℕ) (s : ParsedLine) → block_after last (s ∷ []) ≡ block_with last s
unfolding block_after
block_one last Blank = refl
block_one last (Maps next) = refl
block_one last (Orders block command) = refl
block_one last (Feeds block bytes) = refl
block_one last Wrong = refl

block_more : (last : ℕ) (lines : List ParsedLine) (s : ParsedLine) → block_after last (lines ++ s ∷ []) ≡ block_with (block_after last lines) s
unfolding block_after
block_more last [] s = block_one last s
block_more last (Blank ∷ lines) s = block_more last lines s
block_more last (Maps next ∷ lines) s = block_more last lines s
block_more last (Orders block command ∷ lines) s = block_more block lines s
block_more last (Feeds block bytes ∷ lines) s = block_more block lines s
block_more last (Wrong ∷ lines) s = block_more last lines s

stream_one : (s : ParsedLine) → stream_of (s ∷ []) ≡ bytes_in s
unfolding stream_of
stream_one Blank = refl
stream_one (Maps next) = refl
stream_one (Orders block command) = refl
stream_one (Feeds block bytes) = append-nil bytes
stream_one Wrong = refl

stream_more : (lines : List ParsedLine) (s : ParsedLine) → stream_of (lines ++ s ∷ []) ≡ stream_of lines ++ bytes_in s
unfolding stream_of
stream_more [] s = stream_one s
stream_more (Blank ∷ lines) s = stream_more lines s
stream_more (Maps next ∷ lines) s = stream_more lines s
stream_more (Orders block command ∷ lines) s = stream_more lines s
stream_more (Feeds block bytes ∷ lines) s = ap (λ (xs : List ℕ). bytes ++ xs) (stream_more lines s) ∙ sym (append_assoc bytes _ _)
stream_more (Wrong ∷ lines) s = stream_more lines s

fed_one : (last number : ℕ) (s : ParsedLine) → fed_line last number (s ∷ []) ≡ fed_with last number s
unfolding fed_line
fed_one last number Blank = refl
fed_one last number (Maps next) = refl
fed_one last number (Orders block command) = refl
fed_one last number (Feeds block bytes) = refl
fed_one last number Wrong = refl

same_number : (last number other : ℕ) (s : ParsedLine) → number ≡ other → fed_with last number s ≡ fed_with last other s
same_number last number other s e = ap (λ (n : ℕ). fed_with last n s) e

fed_line_more : (last number : ℕ) (lines : List ParsedLine) (s : ParsedLine)
    → fed_line last number (lines ++ s ∷ []) ≡ fed_with (fed_line last number lines) (number + length lines) s
unfolding fed_line
fed_line_more last number [] s = fed_one last number s ∙ same_number last number (number + 0) s (omega arith)
fed_line_more last number (Blank ∷ lines) s = fed_line_more last (number + 1) lines s ∙ same_number _ _ _ s (omega arith)
fed_line_more last number (Maps next ∷ lines) s = fed_line_more last (number + 1) lines s ∙ same_number _ _ _ s (omega arith)
fed_line_more last number (Orders block command ∷ lines) s = fed_line_more last (number + 1) lines s ∙ same_number _ _ _ s (omega arith)
fed_line_more last number (Feeds block bytes ∷ lines) s = fed_line_more number (number + 1) lines s ∙ same_number _ _ _ s (omega arith)
fed_line_more last number (Wrong ∷ lines) s = fed_line_more last (number + 1) lines s ∙ same_number _ _ _ s (omega arith)

outcomes_append : (blocks : Option ℕ) (before xs ys : List ParsedLine)
    → outcomes_after blocks before (xs ++ ys) ≡ outcomes_after blocks before xs ++ outcomes_after blocks (before ++ xs) ys
unfolding outcomes_after
outcomes_append blocks before [] ys = rw (append-nil before) refl
outcomes_append blocks before (x ∷ xs) ys =
    let first : List Outcome = line_outcomes blocks before x in
    let join : (before ++ x ∷ []) ++ xs ≡ before ++ x ∷ xs = append_assoc before (x ∷ []) xs in
    ap (λ (os : List Outcome). first ++ os) (outcomes_append blocks (before ++ x ∷ []) xs ys
    ∙ ap (λ (b : List ParsedLine). outcomes_after blocks (before ++ x ∷ []) xs ++ outcomes_after blocks b ys) join)
    ∙ sym (append_assoc first _ _)

outcomes_one : (blocks : Option ℕ) (before : List ParsedLine) (s : ParsedLine) → outcomes_after blocks before (s ∷ []) ≡ line_outcomes blocks before s
unfolding outcomes_after
outcomes_one blocks before s = append-nil (line_outcomes blocks before s)

pub outcomes_more : (blocks : Option ℕ) (lines : List ParsedLine) (s : ParsedLine)
    → outcomes_after blocks [] (lines ++ s ∷ []) ≡ outcomes_after blocks [] lines ++ line_outcomes blocks lines s
outcomes_more blocks lines s = outcomes_append blocks [] lines (s ∷ []) ∙ ap (λ (os : List Outcome). outcomes_after blocks [] lines
    ++ os) (outcomes_one blocks lines s)

-- a reader after one more line
pub after_more : (old new : Progress) (blocks : Option ℕ) (lines : List ParsedLine) (s : ParsedLine) → IsAfter old blocks lines
    → Reads new.feed.reader (stream_of lines ++ bytes_in s) → new.curve ≡ curve_with old.curve s → new.least ≡ block_with old.least s
    → new.number ≡ old.number + 1 → new.fed ≡ fed_with old.fed old.number s
    → all_given new.feed.script ≡ all_given old.feed.script ++ line_outcomes blocks lines s
    → IsAfter new blocks (lines ++ s ∷ [])
after_more old new blocks lines s b reads curve least number fed given = record {
  reads = subst (λ (xs : List ℕ). Reads new.feed.reader xs) (sym (stream_more lines s)) reads;
  curve = curve ∙ ap (λ (c : Curve). curve_with c s) b.curve ∙ sym (curve_more Linear lines s);
  least = least ∙ ap (λ (n : ℕ). block_with n s) b.least ∙ sym (block_more 0 lines s);
  number = let count : length (lines ++ s ∷ []) ≡ length lines + 1 = length-append lines (s ∷ []) in let was : old.number ≡ length lines + 2 = b.number in
      omega arith;
  fed = fed ∙ ap (λ (n : ℕ). fed_with n old.number s) b.fed ∙ same_number _ _ _ s (let was : old.number ≡ length lines + 2 = b.number in omega arith)
      ∙ sym (fed_line_more 0 2 lines s);
  given = outcomes_more blocks lines s ∙ ap (λ (os : List Outcome). os ++ line_outcomes blocks lines s) b.given ∙ sym given;
}

-- a line that is refused
pub stops_line : (p : Progress) (blocks : Option ℕ) (room : ℕ) (lines : List ParsedLine) (s : ParsedLine) (why : ScriptKind) → IsAfter p blocks lines
    → length p.feed.script ≤ room
    → line_outcomes blocks lines s ≡ Fails (line_after lines) why ∷ []
    → Stops (faults.Refused (place.Line p.number) why) room (outcomes_after blocks [] (lines ++ s ∷ []))
stops_line p blocks room lines s why b few is = λ more.
    ap (λ (os : List Outcome). plan_of room (os ++ more)) (outcomes_more blocks lines s ∙ ap (λ (os : List Outcome). os ++ line_outcomes blocks lines s) b.given
    ∙ ap (λ (os : List Outcome). all_given p.feed.script ++ os) is)
    ∙ fails room p.feed.script (line_after lines) why more few
    ∙ ap (λ (n : ℕ). Refused (place.Line n) why) (sym b.number)

-- a line that stops within
pub stops_in_line : (p : Progress) (blocks : Option ℕ) (room : ℕ) (lines : List ParsedLine) (s : ParsedLine) (why : ScriptFault) → IsAfter p blocks lines
    → Stops why room (all_given p.feed.script ++ line_outcomes blocks lines s) → Stops why room (outcomes_after blocks [] (lines ++ s ∷ []))
stops_in_line p blocks room lines s why b stops =
    subst (λ (os : List Outcome). Stops why room os)
    (sym (outcomes_more blocks lines s ∙ ap (λ (os : List Outcome). os ++ line_outcomes blocks lines s) b.given)) stops

-- what comes of each kind of line
pub blank_outcomes : (blocks : Option ℕ) (lines : List ParsedLine) → line_outcomes blocks lines Blank ≡ []
unfolding line_outcomes
blank_outcomes blocks lines = refl

pub map_outcomes : (blocks : Option ℕ) (lines : List ParsedLine) (curve : Curve) → line_outcomes blocks lines (Maps curve) ≡ []
unfolding line_outcomes
map_outcomes blocks lines curve = refl

pub wrong_outcomes : (blocks : Option ℕ) (lines : List ParsedLine) → line_outcomes blocks lines Wrong ≡ Fails (line_after lines) kind.Line ∷ []
unfolding line_outcomes
wrong_outcomes blocks lines = refl

pub order_outcomes : (p : Progress) (blocks : Option ℕ) (lines : List ParsedLine) (block : ℕ) (command : CommandData) → IsAfter p blocks lines
    → line_outcomes blocks lines (Orders block command) ≡ timed (time_fault blocks p.least block) (line_after lines)
    (Gives (planned_at block (curved p.curve command)) ∷ [])
unfolding line_outcomes
order_outcomes p blocks lines block command b =
    ap (λ (n : ℕ). timed (time_fault blocks n block) (line_after lines) (Gives (planned_at block (curved (curve_after Linear lines) command)) ∷ []))
    (sym b.least)
    ∙ ap (λ (c : Curve). timed (time_fault blocks p.least block) (line_after lines) (Gives (planned_at block (curved c command)) ∷ [])) (sym b.curve)

pub feed_outcomes : (p : Progress) (blocks : Option ℕ) (lines : List ParsedLine) (block : ℕ) (bytes : List ℕ) → IsAfter p blocks lines
    → line_outcomes blocks lines (Feeds block bytes) ≡ timed (time_fault blocks p.least block) (line_after lines)
    (fed_outcomes (λ stream. place.Line p.number) block p.curve (stream_of lines) bytes)
unfolding line_outcomes
feed_outcomes p blocks lines block bytes b =
    ap (λ (n : ℕ). timed (time_fault blocks n block) (line_after lines) (fed_outcomes (λ stream.
    line_after lines) block (curve_after Linear lines) (stream_of lines) bytes)) (sym b.least)
    ∙ ap (λ (c : Curve). timed (time_fault blocks p.least block) (line_after lines) (fed_outcomes (λ stream. line_after lines) block c (stream_of lines) bytes))
    (sym b.curve)
    ∙ ap (λ (n : ℕ). timed (time_fault blocks p.least block) (line_after lines) (fed_outcomes (λ stream. place.Line n) block p.curve (stream_of lines) bytes))
    (sym b.number)

pub timed_some : (fault : Option ScriptKind) (at : Place) (outcomes : List Outcome) (why : ScriptKind) → fault ≡ Some why
    → timed fault at outcomes ≡ Fails at why ∷ []
timed_some fault at outcomes why e = ap (λ (f : Option ScriptKind). timed f at outcomes) e

pub timed_none : (fault : Option ScriptKind) (at : Place) (outcomes : List Outcome) → fault ≡ None → timed fault at outcomes ≡ outcomes
timed_none fault at outcomes e = ap (λ (f : Option ScriptKind). timed f at outcomes) e

-- nothing was read
pub after_none : (p : Progress) (blocks : Option ℕ) → Reads p.feed.reader [] → p.feed.script ≡ [] → p.curve ≡ Linear → p.least ≡ 0 → p.number ≡ 2 → p.fed ≡ 0
    → IsAfter p blocks []
unfolding curve_after block_after stream_of fed_line outcomes_after
after_none p blocks reads none curve least number fed = record {
  reads = reads;
  curve = curve;
  least = least;
  number = number;
  fed = fed;
  given = ap all_given (sym none);
}

-- ---- whole texts

pub lines_first : (text line after : List ℕ) → split 10 text ≡ line ∷ split 10 after → lines_of text ≡ without_return line ∷ lines_of after
unfolding lines_of
lines_first text line after e = ap ended e ∙ by_more (split 10 after) (split_some 10 after)
  where
    by_more : (more : List (List ℕ)) → (more ≡ [] → ⊥) → ended (line ∷ more) ≡ without_return line ∷ ended more
    by_more [] some = absurd (some refl)
    by_more (next ∷ more) some = refl

pub lines_last : (text : List ℕ) → split 10 text ≡ text ∷ [] → lines_of text ≡ text ∷ []
unfolding lines_of
lines_last text e = ap ended e

-- one more line of a text was read
pub within_more : (p : Progress) (blocks : Option ℕ) (lines : List ParsedLine) (rest line after text : List ℕ) → split 10 rest ≡ line ∷ split 10 after
    → lines ++ parsed_lines (lines_of rest) ≡ parsed_lines (lines_of text) → IsAfter p blocks (lines ++ parsed (without_return line) ∷ [])
    → IsWithin p blocks after text
within_more p blocks lines rest line after text e split b = record {
  lines = lines ++ parsed (without_return line) ∷ [];
  split = append_assoc lines (parsed (without_return line) ∷ []) (parsed_lines (lines_of after))
      ∙ ap (λ (xs : List (List ℕ)). lines ++ parsed_lines xs) (sym (lines_first rest line after e)) ∙ split;
  after = b;
}

pub within_none : (p : Progress) (blocks : Option ℕ) (text : List ℕ) → IsAfter p blocks [] → IsWithin p blocks text text
within_none p blocks text b = record { lines = []; split = refl; after = b }

-- a stop within a text
pub stopped_in_text : (why : ScriptFault) (room : ℕ) (blocks : Option ℕ) (lines later all : List ParsedLine) → lines ++ later ≡ all
    → Stops why room (outcomes_after blocks [] lines) → Stops why room (text_outcomes blocks all)
unfolding text_outcomes
stopped_in_text why room blocks lines later all e stops =
    subst (λ (xs : List ParsedLine). Stops why room (outcomes_after blocks [] xs ++ text_end xs)) e
    (stops_more why room _ (text_end (lines ++ later))
    (subst (λ (os : List Outcome). Stops why room os) (sym (outcomes_append blocks [] lines later)) (stops_more why room _ _ stops)))

pub stopped_at_line : (why : ScriptFault) (room : ℕ) (blocks : Option ℕ) (lines : List ParsedLine) (rest line after text : List ℕ) → split 10 rest ≡ line
    ∷ split 10 after
    → lines ++ parsed_lines (lines_of rest) ≡ parsed_lines (lines_of text)
    → Stops why room (outcomes_after blocks [] (lines ++ parsed (without_return line) ∷ []))
    → Stops why room (text_outcomes blocks (parsed_lines (lines_of text)))
stopped_at_line why room blocks lines rest line after text e split stops =
    stopped_in_text why room blocks (lines ++ parsed (without_return line) ∷ []) (parsed_lines (lines_of after)) (parsed_lines (lines_of text))
    (append_assoc lines (parsed (without_return line) ∷ []) (parsed_lines (lines_of after))
    ∙ ap (λ (xs : List (List ℕ)). lines ++ parsed_lines xs) (sym (lines_first rest line after e)) ∙ split) stops

all_lines : (lines : List ParsedLine) (rest text : List ℕ) → split 10 rest ≡ rest ∷ [] → lines ++ parsed_lines (lines_of rest) ≡ parsed_lines (lines_of text)
    → lines ++ parsed rest ∷ [] ≡ parsed_lines (lines_of text)
all_lines lines rest text e split = ap (λ (xs : List (List ℕ)). lines ++ parsed_lines xs) (sym (lines_last rest e)) ∙ split

pub stopped_at_last : (why : ScriptFault) (room : ℕ) (blocks : Option ℕ) (lines : List ParsedLine) (rest text : List ℕ) → split 10 rest ≡ rest ∷ []
    → lines ++ parsed_lines (lines_of rest) ≡ parsed_lines (lines_of text) → Stops why room (outcomes_after blocks [] (lines ++ parsed rest ∷ []))
    → Stops why room (text_outcomes blocks (parsed_lines (lines_of text)))
stopped_at_last why room blocks lines rest text e split stops =
    stopped_in_text why room blocks (lines ++ parsed rest ∷ []) [] (parsed_lines (lines_of text)) (append-nil _ ∙ all_lines lines rest text e split) stops

ended_by : (t : Bool) (x : List Outcome) → t ≡ false → cond t x [] ≡ []
ended_by true x e = absurd (cc)
ended_by false x e = refl

cut_by : (t : Bool) (x : List Outcome) → t ≡ true → cond t x [] ≡ x
cut_by true x e = refl
cut_by false x e = absurd (cc)

-- the answer at the text's end
text_settled : (r : Result (List PlannedData) ScriptFault) (p : Progress) (blocks : Option ℕ) (room : ℕ) (lines : List ParsedLine) → IsAfter p blocks lines
    → length p.feed.script ≤ room
    → IfOk r (λ script. script ≡ p.feed.script) → OnOk r (is_unfinished (stream_of lines) ≡ false)
    → IfErr r (λ why. why ≡ faults.Refused (place.Line p.fed) kind.Cut) → OnErr r (is_unfinished (stream_of lines) ≡ true)
    → Settles r room (text_outcomes blocks lines)
unfolding text_outcomes
text_settled (Ok script) p blocks room lines b few same whole cut unfinished = (
  ap (λ (os : List Outcome). os ++ text_end lines) b.given ∙ ap (λ (os : List Outcome). all_given p.feed.script ++ os) (ended_by _ _ whole)
      ∙ append-nil (all_given p.feed.script) ∙ ap all_given (sym same),
  subst (λ (x : List PlannedData). length x ≤ room) (sym same) few,
)
text_settled (Err why) p blocks room lines b few same whole cut unfinished =
    subst (λ (w : ScriptFault). Stops w room (outcomes_after blocks [] lines ++ text_end lines)) (sym cut)
    (λ more. ap (λ (os : List Outcome). plan_of room (os ++ text_end lines ++ more)) b.given
    ∙ ap (λ (os : List Outcome). plan_of room (all_given p.feed.script ++ os ++ more)) (cut_by _ _ unfinished)
    ∙ fails room p.feed.script (place.Line (fed_line 0 2 lines)) kind.Cut more few
    ∙ ap (λ (n : ℕ). Refused (place.Line n) kind.Cut) (sym b.fed))

pub settled_at_end : (r : Result (List PlannedData) ScriptFault) (p : Progress) (blocks : Option ℕ) (room : ℕ) (lines : List ParsedLine) (rest text : List ℕ)
    → split 10 rest ≡ rest ∷ []
    → lines ++ parsed_lines (lines_of rest) ≡ parsed_lines (lines_of text) → IsAfter p blocks (lines ++ parsed rest ∷ []) → length p.feed.script ≤ room
    → IfOk r (λ script. script ≡ p.feed.script) → OnOk r (is_unfinished (stream_of (lines ++ parsed rest ∷ [])) ≡ false)
    → IfErr r (λ why. why ≡ faults.Refused (place.Line p.fed) kind.Cut) → OnErr r (is_unfinished (stream_of (lines ++ parsed rest ∷ [])) ≡ true)
    → Settles r room (text_outcomes blocks (parsed_lines (lines_of text)))
settled_at_end r p blocks room lines rest text e split b few same whole cut unfinished =
    subst (λ (xs : List ParsedLine). Settles r room (text_outcomes blocks xs)) (all_lines lines rest text e split)
    (text_settled r p blocks room (lines ++ parsed rest ∷ []) b few same whole cut unfinished)
