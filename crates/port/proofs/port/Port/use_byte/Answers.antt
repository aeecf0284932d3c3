use Rattle.std.proofs.Common.{refl}
use Rattle.port.proofs.Receiving.{byte_silent, byte_told, with_used}
use Rattle.port.proofs.Sending.{sends_same}
use Rattle.port.proofs.port.Port.use_byte.Goals as goal

pub returns-in-None-clause-received : goal.returns-in-None-clause-received
returns-in-None-clause-received g c = λ done stream u.
    byte_silent c.args.self.now.reader c.feed.new.self _ c.args.self.now.kept done stream c.args.byte 1 c.args.end.now c.requires.clear u
    (c.in-None.ensures.stands stream u.reads) (c.in-None.ensures.answer stream u.reads)

pub returns-in-Some-clause-received : goal.returns-in-Some-clause-received
returns-in-Some-clause-received g c = λ done stream u.
    let m = c.in-Some.message in
    let reads = c.in-Some.ensures.stands stream u.reads in
    let told =
    byte_told c.args.self.now.reader c.feed.new.self _ c.handle-fed.new.kept done stream c.sysex.result.now c.args.byte m c.args.end.now c.handle-fed.new.end
    c.handle-fed.result
    (rw c.requires.clear at u) reads (c.in-Some.ensures.answer stream u.reads) c.in-Some.ensures.range (c.in-Some.ensures.bytes stream u.reads)
    (c.sysex.ensures.bytes _ reads) c.handle-fed.ensures.done c.handle-fed.ensures.message in
    (told.0, (told.1.0, with_used _ _ _ _ 1 told.1.1))

pub returns-in-None-clause-ranges : goal.returns-in-None-clause-ranges
returns-in-None-clause-ranges g c = sends_same _ _ refl
