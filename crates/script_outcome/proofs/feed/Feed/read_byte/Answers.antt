use Rattle.std.proofs.Common.{ap, sym, subst, ◌∙◌, ◌++◌, append-nil, List}
use Rattle.script_outcome.specs.Outcomes.{Outcome}
use Rattle.script_outcome.specs.ReaderAnswer.{Stops, all_given}
use Rattle.script_outcome.proofs.Plans.{on_ok_more, if_err_more}
use Rattle.script_outcome.proofs.EndedMessages.{none_ended, message_is_ended}
use Rattle.velocity_map.specs.Map.{curve_of}
use Rattle.script_outcome.proofs.feed.Feed.read_byte.Goals as goal

pub returns-in-None-clause-given : goal.returns-in-None-clause-given
returns-in-None-clause-given g c = λ stream reads.
    sym (ap (λ (os : List Outcome). all_given c.args.self.now.script ++ os)
    (none_ended stream c.args.byte (curve_of c.args.map.now) c.args.spot.place c.args.spot.block (c.in-None.ensures.answer stream reads))
    ∙ append-nil (all_given c.args.self.now.script))

pub returns-in-Some-clause-given : goal.returns-in-Some-clause-given
returns-in-Some-clause-given g c =
    on_ok_more c.add_message.result c.add_message.ensures.given
    (λ is stream reads. is ∙ ap (λ (os : List Outcome). all_given c.args.self.now.script ++ os)
    (message_is_ended c.in-Some.message stream c.args.byte c.sysex.result.now (curve_of c.args.map.now) c.args.spot.place c.args.spot.block
    (c.in-Some.ensures.answer stream reads) c.in-Some.ensures.range (c.in-Some.ensures.bytes stream reads)
    (c.sysex.ensures.bytes _ (c.in-Some.ensures.stands stream reads))))

pub returns-in-Some-clause-stops : goal.returns-in-Some-clause-stops
returns-in-Some-clause-stops g c =
    if_err_more c.add_message.result c.add_message.ensures.stops
    (λ why stops stream reads. subst (λ (os : List Outcome). Stops why c.args.room (all_given c.args.self.now.script ++ os))
    (message_is_ended c.in-Some.message stream c.args.byte c.sysex.result.now (curve_of c.args.map.now) c.args.spot.place c.args.spot.block
    (c.in-Some.ensures.answer stream reads) c.in-Some.ensures.range (c.in-Some.ensures.bytes stream reads)
    (c.sysex.ensures.bytes _ (c.in-Some.ensures.stands stream reads))) stops)
