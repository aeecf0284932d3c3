use Rattle.std.proofs.Common.{ap, sym, subst, ◌∙◌, ◌++◌, append-nil, List}
use Rattle.midi_file.specs.Track.{TrackOutcome}
use Rattle.midi_file.specs.FileSoFar.{Faults, all_come}
use Rattle.script_outcome.proofs.Plans.{on_ok_more, if_err_more}
use Rattle.midi_file.proofs.EndedMessages.{none_ended, message_is_ended}
use Rattle.midi_file.proofs.feed.feed_byte.Goals as goal

pub returns-in-None-clause-come : goal.returns-in-None-clause-come
returns-in-None-clause-come g c = λ stream reads.
    sym (ap (λ (hs : List TrackOutcome). all_come c.args.acts.now.items ++ hs)
    (none_ended stream c.args.byte c.args.at.tick c.args.at.place (c.in-None.ensures.answer stream reads)) ∙ append-nil (all_come c.args.acts.now.items))

pub returns-in-Some-clause-come : goal.returns-in-Some-clause-come
returns-in-Some-clause-come g c =
    on_ok_more c.apply_message.result c.apply_message.ensures.come
    (λ is stream reads. is ∙ ap (λ (hs : List TrackOutcome). all_come c.args.acts.now.items ++ hs)
    (message_is_ended c.in-Some.message stream c.args.byte c.sysex.result.now c.args.at.tick c.args.at.place
    (c.in-Some.ensures.answer stream reads) c.in-Some.ensures.range (c.in-Some.ensures.bytes stream reads)
    (c.sysex.ensures.bytes _ (c.in-Some.ensures.stands stream reads))))

pub returns-in-Some-clause-faults : goal.returns-in-Some-clause-faults
returns-in-Some-clause-faults g c =
    if_err_more c.apply_message.result c.apply_message.ensures.faults
    (λ why fault stream reads. subst (λ (hs : List TrackOutcome). Faults why (all_come c.args.acts.now.items ++ hs))
    (message_is_ended c.in-Some.message stream c.args.byte c.sysex.result.now c.args.at.tick c.args.at.place
    (c.in-Some.ensures.answer stream reads) c.in-Some.ensures.range (c.in-Some.ensures.bytes stream reads)
    (c.sysex.ensures.bytes _ (c.in-Some.ensures.stands stream reads))) fault)
