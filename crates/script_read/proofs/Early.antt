-- Each command that comes of a script is due below the number of blocks.
use Rattle.std.proofs.Common.{◌≡◌, ℕ, ◌<◌, List, [], ◌∷◌, ◌++◌, Bool, true, false, cond, refl}
use Rattle.std.specs.Prelude.{Some, None, nat_lt, nat_le, bytes_eq, codes, if◌then◌else◌}
use Rattle.midi_stream.specs.Messages.{is_unfinished}
use Rattle.velocity_map.specs.declared.curve.Curve.TheVariants.{Linear}
use Rattle.script_plan.specs.Plan.{planned_at}
use Rattle.script_outcome.specs.declared.fault.Place.{Place}
use Rattle.script_outcome.specs.declared.fault.Place.TheVariants as place
use Rattle.script_outcome.specs.declared.fault.ScriptKind.{ScriptKind}
use Rattle.script_outcome.specs.declared.fault.ScriptKind.TheVariants as kind
use Rattle.script_read.specs.Lines.{ParsedLine, Blank, Maps, Orders, Feeds, Wrong, parsed_lines}
use Rattle.script_read.specs.EditLines.{ParsedEdit, Passed, Requests, Bad, parsed_edits}
use Rattle.script_read.specs.Edits.{Answered, Becomes, Refuses, answer_outcomes, answered, edit_block, edit_outcomes, edit_place, edit_text_outcomes}
use Rattle.script_read.specs.Edits.{edits_after, history_after, opened}
use Rattle.midi_file.specs.File.{midi_outcomes}
use Rattle.midi_file.proofs.Early.{midi_early}
use Rattle.script_read.specs.Words.{lines_of}
use Rattle.script_outcome.specs.Stream.{begun_at}
use Rattle.script_outcome.specs.Outcomes.{Outcome, Gives, Fails, fed_outcomes}
use Rattle.script_read.specs.Outcomes.{block_after, timed, line_after, line_outcomes, outcomes_after, text_end, text_outcomes, stream_end}
use Rattle.script_read.specs.Outcomes.{stream_outcomes, stream_of, curve_after, curved, fed_line}
use Rattle.script_outcome.proofs.Early.{AllEarly, both_early, fed_early, below_all}
use Rattle.script_read.specs.Plan.{at_first, lines_outcomes, outcomes, is_stream, is_midi_file}

timed_early : (blocks : ℕ) (falls late : Bool) (at : Place) (os : List Outcome) → (late ≡ false → AllEarly blocks os)
    → AllEarly blocks (timed (cond falls (Some kind.Falls) (cond late (Some kind.Late) None)) at os)
timed_early blocks true late at os early = tt
timed_early blocks false true at os early = tt
timed_early blocks false false at os early = early refl

line_early : (blocks : ℕ) (lines : List ParsedLine) (s : ParsedLine) → AllEarly blocks (line_outcomes (Some blocks) lines s)
unfolding line_outcomes
line_early blocks lines Blank = tt
line_early blocks lines (Maps curve) = tt
line_early blocks lines (Orders block command) = timed_early blocks (nat_lt block (block_after 0 lines)) (nat_le blocks block) (line_after lines)
    (Gives (planned_at block (curved (curve_after Linear lines) command)) ∷ []) (λ e. (below_all blocks block e, tt))
line_early blocks lines (Feeds block bytes) =
    timed_early blocks (nat_lt block (block_after 0 lines)) (nat_le blocks block) (line_after lines)
    (fed_outcomes (λ stream. line_after lines) block (curve_after Linear lines) (stream_of lines) bytes)
    (λ e. fed_early blocks block (λ stream. line_after lines) (curve_after Linear lines) (stream_of lines) bytes (below_all blocks block e))
line_early blocks lines Wrong = tt

lines_early : (blocks : ℕ) (before lines : List ParsedLine) → AllEarly blocks (outcomes_after (Some blocks) before lines)
unfolding outcomes_after
lines_early blocks before [] = tt
lines_early blocks before (s ∷ lines) = both_early blocks (line_outcomes (Some blocks) before s) (outcomes_after (Some blocks) (before ++ s ∷ []) lines)
    (line_early blocks before s) (lines_early blocks (before ++ s ∷ []) lines)

end_early : (blocks : ℕ) (t : Bool) (at : Place) (why : ScriptKind) → AllEarly blocks (cond t (Fails at why ∷ []) [])
end_early blocks true at why = tt
end_early blocks false at why = tt

text_early : (blocks : ℕ) (lines : List ParsedLine) → AllEarly blocks (text_outcomes (Some blocks) lines)
unfolding text_outcomes
text_early blocks lines = both_early blocks (outcomes_after (Some blocks) [] lines) (text_end lines) (lines_early blocks [] lines)
    (end_early blocks (is_unfinished (stream_of lines)) (place.Line (fed_line 0 2 lines)) kind.Cut)

-- ---- edits

answer_early : (blocks block : ℕ) (at : Place) (answer : Answered) → block < blocks → AllEarly blocks (answer_outcomes at block answer)
answer_early blocks block at (Becomes next command) below = (below, tt)
answer_early blocks block at (Refuses why) below = tt

edit_early : (blocks : ℕ) (lines : List ParsedEdit) (s : ParsedEdit) → AllEarly blocks (edit_outcomes (Some blocks) lines s)
unfolding edit_outcomes
edit_early blocks lines Passed = tt
edit_early blocks lines (Requests block what) =
    let answer : Answered = answered (history_after opened lines) what in
    timed_early blocks (nat_lt block (edit_block 0 lines)) (nat_le blocks block) (edit_place lines) (answer_outcomes (edit_place lines) block answer)
    (λ e. answer_early blocks block (edit_place lines) answer (below_all blocks block e))
edit_early blocks lines Bad = tt

edits_early : (blocks : ℕ) (before lines : List ParsedEdit) → AllEarly blocks (edits_after (Some blocks) before lines)
unfolding edits_after
edits_early blocks before [] = tt
edits_early blocks before (s ∷ lines) = both_early blocks (edit_outcomes (Some blocks) before s) (edits_after (Some blocks) (before ++ s ∷ []) lines)
    (edit_early blocks before s) (edits_early blocks (before ++ s ∷ []) lines)

-- ---- streams and whole scripts

stream_early : (blocks : ℕ) (bytes : List ℕ) → 0 < blocks → AllEarly blocks (stream_outcomes bytes)
unfolding stream_outcomes
stream_early blocks bytes some =
    both_early blocks (fed_outcomes (λ before. place.Byte (begun_at before)) 0 Linear [] bytes) (stream_end bytes)
    (fed_early blocks 0 (λ before. place.Byte (begun_at before)) Linear [] bytes some)
    (end_early blocks (is_unfinished bytes) (place.Byte (begun_at bytes)) kind.Cut)

either_early : (blocks : ℕ) (t : Bool) (xs ys : List Outcome) → AllEarly blocks xs → AllEarly blocks ys → AllEarly blocks (cond t xs ys)
either_early blocks true xs ys a b = a
either_early blocks false xs ys a b = b

by_lines : (blocks : ℕ) (lines : List (List ℕ)) → AllEarly blocks (lines_outcomes (Some blocks) lines)
by_lines blocks [] = tt
by_lines blocks (first ∷ lines) =
    either_early blocks (bytes_eq first (codes "midi 1")) (text_outcomes (Some blocks) (parsed_lines lines))
    (if bytes_eq first (codes "edit 1") then edit_text_outcomes (Some blocks) (parsed_edits lines) else at_first kind.Kind)
    (text_early blocks (parsed_lines lines))
    (either_early blocks (bytes_eq first (codes "edit 1")) (edit_text_outcomes (Some blocks) (parsed_edits lines)) (at_first kind.Kind)
    (edits_early blocks [] (parsed_edits lines)) tt)

pub all_early : (blocks : ℕ) (bytes : List ℕ) → 0 < blocks → AllEarly blocks (outcomes (Some blocks) bytes)
unfolding outcomes
all_early blocks bytes some =
    either_early blocks (is_stream bytes) (stream_outcomes bytes) (if is_midi_file bytes then midi_outcomes (Some blocks) bytes else lines_outcomes
    (Some blocks) (lines_of bytes))
    (stream_early blocks bytes some) (either_early blocks (is_midi_file bytes) (midi_outcomes (Some blocks) bytes)
    (lines_outcomes (Some blocks) (lines_of bytes)) (midi_early blocks bytes) (by_lines blocks (lines_of bytes)))
