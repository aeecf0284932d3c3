use Rattle.std.proofs.Common.{[], refl}
use Rattle.port.specs.Used.{port_curve}
use Rattle.port.proofs.Receiving.{kept_command_told, kept_message_told}
use Rattle.port.proofs.Sending.{sends_same}
use Rattle.port.proofs.port.Port.retry.Goals as goal

pub returns-in-Some-Command-clause-received : goal.returns-in-Some-Command-clause-received
returns-in-Some-Command-clause-received g c = λ done stream u.
    kept_command_told c.args.self.now.reader _ c.args.self.now.kept c.send.new.kept done stream _ _ _ c.args.end.now c.send.new.end c.send.result u
    c.in-Some-Command.ensures.value c.in-Some-Command.field-0-is c.into_command.ensures.content c.send.ensures.done c.send.ensures.keeps

pub returns-in-Some-Command-clause-keeps : goal.returns-in-Some-Command-clause-keeps
returns-in-Some-Command-clause-keeps g c = (c.send.ensures.done (port_curve c.args.self.now) []).stops

pub returns-in-Some-Message-clause-received : goal.returns-in-Some-Message-clause-received
returns-in-Some-Message-clause-received g c = λ done stream u.
    kept_message_told c.args.self.now.reader _ c.args.self.now.kept c.handle.new.kept done stream c.sysex.result.now _ _ _ c.args.end.now c.handle.new.end
    c.handle.result u
    c.in-Some-Message.ensures.value c.in-Some-Message.field-0-is c.into_message.ensures.message c.into_message.ensures.range
    (c.sysex.ensures.bytes stream u.reads) c.handle.ensures.done c.handle.ensures.message

pub returns-in-None-clause-ranges : goal.returns-in-None-clause-ranges
returns-in-None-clause-ranges g c = sends_same _ _ refl
