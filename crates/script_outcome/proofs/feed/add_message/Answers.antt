use Rattle.script_outcome.proofs.Plans.{stops_overlong, stops_faulty}
use Rattle.script_outcome.proofs.feed.add_message.Goals as goal

pub returns-in-Err-TooLong-clause-stops : goal.returns-in-Err-TooLong-clause-stops
returns-in-Err-TooLong-clause-stops g c = λ more. stops_overlong c.args.room c.args.script.now c.args.spot.place c.args.spot.block _ _ more c.requires.few
    (rw c.in-Err-TooLong.field-0-is at c.in-Err-TooLong.ensures.refused)

pub returns-in-Err-Frame-clause-stops : goal.returns-in-Err-Frame-clause-stops
returns-in-Err-Frame-clause-stops g c = λ more. stops_faulty c.args.room c.args.script.now c.args.spot.place c.args.spot.block _ _ more c.requires.few
    (rw c.in-Err-Frame.field-0-is at c.in-Err-Frame.ensures.refused)
