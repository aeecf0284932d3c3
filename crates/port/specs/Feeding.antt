-- What a feed does to an end of a line.
use Rattle.std.specs.Prelude.{◌≡◌, List, [], ◌∷◌, length}
use Rattle.std.specs.List.{count_by}
use Rattle.command_set.specs.Command.{CommandData}
use Rattle.command_set.specs.Message.{MessageOutcome}
use Rattle.command_queue.specs.Ends.{SendView, accepted, refused, entry_of}
use Rattle.port.specs.declared.fed.Fed.{Fed}
use Rattle.port.specs.declared.fed.PortStop.{PortStop}
use Rattle.port.specs.declared.fed.PortStop.TheVariants.{All, Full, Memory}
use Rattle.port.specs.Outcomes.{commands_in, is_passed_over, is_refused}

-- an end after commands were accepted of it, one after the other, sent at block 0
abbrev pub all_accepted : SendView → List CommandData → SendView
all_accepted e [] = e
all_accepted e (c ∷ cs) = all_accepted (accepted e (entry_of e 0 c)) cs

-- an end at which a feed stopped: it was refused where the line was full
abbrev pub stopped : PortStop → SendView → SendView
stopped All e = e
stopped Full e = refused e
stopped Memory e = e

-- Of what comes of the messages, in order, the commands were accepted, and the others counted.
pub record Handles (now : List MessageOutcome) (old new : SendView) (fed : Fed) : Type 0 where
  pub end_is : new ≡ stopped fed.stop (all_accepted old (commands_in now))
  pub sent_is : fed.sent ≡ length (commands_in now)
  pub passed_over_is : fed.passed_over ≡ count_by is_passed_over now
  pub refused_is : fed.refused ≡ count_by is_refused now
