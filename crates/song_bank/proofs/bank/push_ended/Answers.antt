use Rattle.std.proofs.Common.{List, ℕ, ap, sym, ◌∙◌, ◌++◌, append-nil}
use Rattle.script_outcome.proofs.Plans.{on_ok_more}
use Rattle.song_bank.proofs.Streams.{no_event, none_sound, some_event, some_sound}
use Rattle.song_bank.proofs.bank.push_ended.Goals as goal

pub returns-in-Some-clause-events : goal.returns-in-Some-clause-events
returns-in-Some-clause-events c =
    on_ok_more c.push_event.result c.push_event.ensures
    (λ is stream reads. is ∙ ap (λ (x : List ℕ). c.args.events.now.items ++ x)
    (some_event c.in-Some.message stream c.args.byte c.sysex.result.now (c.in-Some.ensures.answer stream reads) c.in-Some.ensures.range
    (c.in-Some.ensures.bytes stream reads) (c.sysex.ensures.bytes _ (c.in-Some.ensures.stands stream reads))))

pub returns-in-Some-clause-sound : goal.returns-in-Some-clause-sound
returns-in-Some-clause-sound c =
    on_ok_more c.push_event.result c.push_event.ensures
    (λ is stream reads. some_sound c.in-Some.message stream c.args.byte (c.in-Some.ensures.answer stream reads) c.in-Some.ensures.range
    (c.in-Some.ensures.bytes stream reads))

pub returns-in-None-clause-events : goal.returns-in-None-clause-events
returns-in-None-clause-events c = λ stream reads.
    sym (ap (λ (x : List ℕ). c.args.events.now.items ++ x) (no_event stream c.args.byte (c.in-None.ensures.answer stream reads))
    ∙ append-nil c.args.events.now.items)

pub returns-in-None-clause-sound : goal.returns-in-None-clause-sound
returns-in-None-clause-sound c = λ stream reads. none_sound stream c.args.byte (c.in-None.ensures.answer stream reads)
