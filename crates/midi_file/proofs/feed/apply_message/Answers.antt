use Rattle.midi_file.proofs.EndedMessages.{fault_overlong, fault_faulty}
use Rattle.midi_file.proofs.feed.apply_message.Goals as goal

pub returns-in-Err-TooLong-clause-faults : goal.returns-in-Err-TooLong-clause-faults
returns-in-Err-TooLong-clause-faults g c =
    fault_overlong c.refused_at.result c.args.acts.now.items c.args.at.tick c.args.at.place _ _
    (rw c.requires.linear at (rw c.in-Err-TooLong.field-0-is at c.in-Err-TooLong.ensures.refused)) c.refused_at.ensures

pub returns-in-Err-Frame-clause-faults : goal.returns-in-Err-Frame-clause-faults
returns-in-Err-Frame-clause-faults g c =
    fault_faulty c.refused_at-in-Err-Frame.result c.args.acts.now.items c.args.at.tick c.args.at.place _ _
    (rw c.requires.linear at (rw c.in-Err-Frame.field-0-is at c.in-Err-Frame.ensures.refused)) c.refused_at-in-Err-Frame.ensures
