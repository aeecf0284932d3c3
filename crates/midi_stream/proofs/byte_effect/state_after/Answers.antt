use Rattle.std.proofs.Common.{arith}
use Rattle.midi_stream.proofs.ByteEffects.{begun_channel, begun_sysex, begun_other}
use Rattle.midi_stream.proofs.byte_effect.state_after.Goals as goal

pub returns-then-status-lt240-clause-stands : goal.returns-then-status-lt240-clause-stands
returns-then-status-lt240-clause-stands c state kept parts h = begun_channel parts c.args.status c.requires.low c.if-status-lt240.true

pub returns-then-status-eq240-clause-stands : goal.returns-then-status-eq240-clause-stands
returns-then-status-eq240-clause-stands c state kept parts h = begun_sysex state kept parts c.args.status c.if-status-eq240.true

pub returns-else-status-eq240-clause-stands : goal.returns-else-status-eq240-clause-stands
returns-else-status-eq240-clause-stands c state kept parts h = begun_other _ parts c.args.status (omega arith) h
