-- Each command that comes of a MIDI file is due below the number of blocks.
use Rattle.std.proofs.Common.{◌≡◌, ℕ, ◌<◌, List, [], ◌∷◌, Bool, true, false, cond, refl}
use Rattle.std.specs.Prelude.{Some, nat_lt, nat_le, ◌||◌}
use Rattle.command_set.specs.Command.{CommandData}
use Rattle.script_plan.specs.Plan.{planned_at}
use Rattle.script_outcome.specs.declared.fault.Place.TheVariants as place
use Rattle.script_outcome.specs.declared.fault.ScriptKind.TheVariants as kind
use Rattle.script_outcome.specs.Outcomes.{Outcome, Gives, Fails}
use Rattle.script_outcome.proofs.Early.{AllEarly, both_early, below_all}
use Rattle.midi_file.specs.Track.{ActData, Sets, Plays, TimedData, TrackOutcome, Comes, Breaks}
use Rattle.midi_file.specs.Chunks.{division_of, file_outcomes}
use Rattle.midi_file.specs.Time.{Change, block_of, changes_in, time_of}
use Rattle.midi_file.specs.File.{act_outcomes, acts_in, first_fault, in_order, midi_outcomes, ordered_outcomes, timed_outcomes, timed_plan, unless_refused}

unless_early : (blocks : ℕ) (xs ys : List Outcome) → AllEarly blocks xs → AllEarly blocks ys → AllEarly blocks (unless_refused xs ys)
unless_early blocks [] ys a b = b
unless_early blocks (Gives c ∷ xs) ys a b = (a.0, tt)
unless_early blocks (Fails at why ∷ xs) ys a b = tt

fault_early : (blocks : ℕ) (acts : List TrackOutcome) → AllEarly blocks (first_fault acts)
fault_early blocks [] = tt
fault_early blocks (Comes e ∷ later) = fault_early blocks later
fault_early blocks (Breaks at why ∷ later) = tt

early_or : (blocks block at : ℕ) (c : CommandData) (high late : Bool) → (late ≡ false → block < blocks)
    → AllEarly blocks (cond (high || late) (Fails (place.Byte at) kind.Late ∷ []) (Gives (planned_at block c) ∷ []))
early_or blocks block at c true late early = tt
early_or blocks block at c false true early = tt
early_or blocks block at c false false early = (early refl, tt)

act_early : (blocks at block : ℕ) (a : ActData) → AllEarly blocks (act_outcomes (Some blocks) at block a)
act_early blocks at block (Sets tempo) = tt
act_early blocks at block (Plays command) = early_or blocks block at command (nat_lt 4294967295 block) (nat_le blocks block) (below_all blocks block)

acts_early : (blocks division : ℕ) (changes : List Change) (events : List TimedData) → AllEarly blocks (ordered_outcomes (Some blocks) division changes events)
unfolding ordered_outcomes
acts_early blocks division changes [] = tt
acts_early blocks division changes (e ∷ later) =
    both_early blocks (timed_outcomes (Some blocks) division changes e) (ordered_outcomes (Some blocks) division changes later)
    (act_early blocks e.place (block_of division (time_of changes e.tick)) e.act) (acts_early blocks division changes later)

pub midi_early : (blocks : ℕ) (bytes : List ℕ) → AllEarly blocks (midi_outcomes (Some blocks) bytes)
unfolding midi_outcomes
midi_early blocks bytes =
    let events : List TimedData = in_order (acts_in (file_outcomes bytes)) in
    unless_early blocks (first_fault (file_outcomes bytes)) (timed_plan (Some blocks) (division_of bytes) events)
    (fault_early blocks (file_outcomes bytes)) (acts_early blocks (division_of bytes) (changes_in events) events)
