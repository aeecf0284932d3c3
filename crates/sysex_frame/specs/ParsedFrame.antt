-- What a message without a fault holds, by its places.
use Rattle.std.specs.Prelude.{ℕ, ◌&&◌, nat_le, ◌==◌, if◌then◌else◌, List, slice_index}
use Rattle.sysex_frame.specs.Frame.{Content, VoiceDump, CartridgeDump, ParamChange, OtherChange, DumpRequest}
use Rattle.sysex_frame.specs.FrameFault.{device, format, group, number, payload, substatus}

abbrev pub dump : List ℕ → Content
dump message = if format message == 0 then VoiceDump (device message) (payload message) else CartridgeDump (device message) (payload message)

abbrev pub change : List ℕ → Content
change message =
    if group message == 0 && nat_le (number message) 155 then ParamChange (device message) (number message) (slice_index message 5)
    else OtherChange (device message) (group message) (number message)

abbrev pub reading : List ℕ → Content
reading message = if substatus message == 0 then dump message else (if substatus message == 1 then change message else DumpRequest (device message))
