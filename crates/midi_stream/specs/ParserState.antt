-- What a state in a message holds.
use Rattle.std.specs.Prelude.{nat_lt, Bool, true, false}
use Rattle.midi_stream.specs.declared.state.ParserState.{ParserState}
use Rattle.midi_stream.specs.declared.state.ParserState.TheVariants.{Between, Begun, Running, Half, InSysEx}

-- the data byte that a state holds is one
abbrev pub holds_data : ParserState → Bool
holds_data Between = true
holds_data (Begun status) = true
holds_data (Running status) = true
holds_data (Half status first) = nat_lt first 128
holds_data (InSysEx count) = true

-- no message has begun that isn't ended
abbrev pub rests : ParserState → Bool
rests Between = true
rests (Begun status) = false
rests (Running status) = true
rests (Half status first) = false
rests (InSysEx count) = false
