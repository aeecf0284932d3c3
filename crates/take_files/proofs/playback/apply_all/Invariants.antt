use Rattle.std.proofs.Common.{take, map}
use Rattle.command_set.specs.Command.{content}
use Rattle.instrument.specs.State.{State}
use Rattle.instrument.specs.Journal.{applied}
use Rattle.instrument.specs.Instrument.{IsIn}
use Rattle.take_files.proofs.playback.apply_all.Given as goal

abbrev pub invariant-loop-logged : goal.invariant-loop-logged
invariant-loop-logged l = (s : State) → IsIn l.fn.instrument s → IsIn l.instrument
    (applied s (map (λ x. content x.entry.command) (take l.logged-index l.entries)))
