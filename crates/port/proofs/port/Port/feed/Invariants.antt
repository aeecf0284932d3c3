use Rattle.std.proofs.Common.{◌≡◌}
use Rattle.port.specs.Used.{port_curve}
use Rattle.port.specs.Ranges.{SendsInRange}
use Rattle.port.proofs.Feeds.{GoesOn, Reached}
use Rattle.port.proofs.port.Port.feed.Given as goal

abbrev pub invariant-loop-byte : goal.invariant-loop-byte
invariant-loop-byte g l =
    (port_curve l.self ≡ port_curve l.fn.self)
    × Reached l.fn.self.reader l.self.reader (port_curve l.fn.self) (port_curve l.self) l.fn.self.kept l.self.kept l.bytes l.byte-index l.fn.end l.end l.fed
    × GoesOn l.self.kept l.fed
    × SendsInRange l.fn.end l.end
