-- Each command that comes of a script is due below the number of blocks.
use Rattle.std.proofs.Common.{◌≡◌, ℕ, ◌<◌, List, [], ◌∷◌, ◌++◌, zero, suc, length, false, arith, leb-false}
use Rattle.std.specs.Prelude.{All, Option, Some, None, nat_le, slice_index_or}
use Rattle.velocity_map.specs.declared.curve.Curve.{Curve}
use Rattle.command_set.specs.Message.{MessageOutcome, Yields, PassedOver, Overlong, Faulty, command_of}
use Rattle.script_plan.specs.Plan.{PlannedData}
use Rattle.script_outcome.specs.declared.fault.Place.{Place}
use Rattle.midi_stream.specs.Ended.{EndedMessage, ended_message}
use Rattle.script_outcome.specs.Outcomes.{Outcome, Gives, Fails, message_outcomes, ended_outcomes, fed_outcomes}
use Rattle.script_outcome.specs.ReaderAnswer.{all_given}

abbrev pub AllEarly : ℕ → List Outcome → Type 0
AllEarly blocks [] = Unit {0}
AllEarly blocks (Gives c ∷ later) = (c.due < blocks) × AllEarly blocks later
AllEarly blocks (Fails at why ∷ later) = AllEarly blocks later

pub both_early : (blocks : ℕ) (xs ys : List Outcome) → AllEarly blocks xs → AllEarly blocks ys → AllEarly blocks (xs ++ ys)
both_early blocks [] ys a b = b
both_early blocks (Gives c ∷ xs) ys a b = (a.0, both_early blocks xs ys a.1 b)
both_early blocks (Fails at why ∷ xs) ys a b = both_early blocks xs ys a b

pub message_early : (blocks block : ℕ) (at : Place) (told : MessageOutcome) → block < blocks → AllEarly blocks (message_outcomes at block told)
message_early blocks block at (Yields command) below = (below, tt)
message_early blocks block at PassedOver below = tt
message_early blocks block at (Overlong count) below = tt
message_early blocks block at (Faulty fault) below = tt

pub ended_early : (blocks block : ℕ) (at : Place) (curve : Curve) (ended : Option EndedMessage) → block < blocks
    → AllEarly blocks (ended_outcomes at block curve ended)
ended_early blocks block at curve None below = tt
ended_early blocks block at curve (Some h) below = message_early blocks block at (command_of h.message h.bytes curve) below

pub fed_early : (blocks block : ℕ) (place_of : List ℕ → Place) (curve : Curve) (before bytes : List ℕ) → block < blocks
    → AllEarly blocks (fed_outcomes place_of block curve before bytes)
unfolding fed_outcomes
fed_early blocks block place_of curve before [] below = tt
fed_early blocks block place_of curve before (byte ∷ bytes) below =
    both_early blocks (ended_outcomes (place_of before) block curve (ended_message before byte)) (fed_outcomes place_of block curve (before ++ byte ∷ []) bytes)
    (ended_early blocks block (place_of before) curve (ended_message before byte) below)
    (fed_early blocks block place_of curve (before ++ byte ∷ []) bytes below)

pub below_all : (blocks block : ℕ) → nat_le blocks block ≡ false → block < blocks
below_all blocks block e = leb-false blocks block e

given_at : (blocks : ℕ) (cs : List PlannedData) → AllEarly blocks (all_given cs) → (k : ℕ) (d : PlannedData) → k < length cs
    → (slice_index_or cs k d).due < blocks
given_at blocks [] early k d l = absurd (omega arith)
given_at blocks (c ∷ cs) early zero d l = early.0
given_at blocks (c ∷ cs) early (suc k) d l = given_at blocks cs early.1 k d (omega arith)

pub given_early : (blocks : ℕ) (cs : List PlannedData) → AllEarly blocks (all_given cs) → All (λ (c : PlannedData). c.due < blocks) cs
given_early blocks cs early = given_at blocks cs early
