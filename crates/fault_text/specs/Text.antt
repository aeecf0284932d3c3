-- The text of a fault of a SysEx message.
use Rattle.std.specs.Prelude.{ℕ, List, ◌∷◌, ◌++◌, codes, decimal}
use Rattle.sysex_frame.specs.declared.frame.FrameFault.{FrameFault}
use Rattle.sysex_frame.specs.declared.frame.FrameFault.TheVariants.{NotFramed, NotYamaha, DataByte, Short, UnknownSubstatus}
use Rattle.sysex_frame.specs.declared.frame.FrameFault.TheVariants.{UnknownFormat, CountBytes, Length, Checksum, ParamValue}

-- its name, and its numbers after their words
unfoldable pub frame_text : FrameFault → List ℕ
frame_text NotFramed = codes "not framed"
frame_text NotYamaha = codes "not yamaha"
frame_text (DataByte place) = codes "byte " ++ decimal place
frame_text (Short length) = codes "short " ++ decimal length
frame_text (UnknownSubstatus found) = codes "substatus " ++ decimal found
frame_text (UnknownFormat found) = codes "format " ++ decimal found
frame_text (CountBytes high low) = codes "count " ++ (decimal high ++ (32 ∷ decimal low))
frame_text (Length found wanted) = codes "length " ++ (decimal found ++ (codes " wanted " ++ decimal wanted))
frame_text (Checksum found wanted) = codes "checksum " ++ (decimal found ++ (codes " wanted " ++ decimal wanted))
frame_text (ParamValue number value) = codes "value " ++ (decimal value ++ (codes " of " ++ decimal number))
