-- For private functions and proofs: the scan of a file, how far it went, and what is known of the messages so far.
use Rattle.std.specs.Prelude.{ℕ, ◌≡◌, List, length, take, Option, Some, None}
use Rattle.midi_stream.specs.FedStream.{Reads}
use Rattle.sysex_frame.specs.Frame.{Content, VoiceDump, CartridgeDump, ParamChange, OtherChange, DumpRequest}
use Rattle.tool_core.specs.declared.scan.Scanner.{Scanner}
use Rattle.tool_core.specs.declared.scan.EndedSysEx.{EndedSysEx}
use Rattle.tool_core.specs.declared.scan.Scan.{Scan}
use Rattle.tool_core.specs.SysEx.{SysExMessage, is_too_long, start_before}
use Rattle.tool_core.specs.Refusals.{first_some, message_refusal, long_refusal, message_voice, message_cartridge}

-- the scanner has been fed the bytes before an offset
pub record Follows (scanner : Scanner) (file : List ℕ) (offset : ℕ) : Type 0 where
  pub reads : Reads scanner.reader (take offset file)
  pub start : scanner.start ≡ start_before file offset

-- an answer tells of this message, or of none
abbrev pub TellsOf : Option EndedSysEx → Option SysExMessage → Type 0
TellsOf None None = Unit {0}
TellsOf None (Some sysex) = ⊥
TellsOf (Some ended) None = ⊥
TellsOf (Some ended) (Some sysex) = (ended.offset ≡ sysex.offset) × (ended.is_too_long ≡ is_too_long sysex)

-- the bytes that a message holds are as many as its kind has
abbrev pub HasSizes : Content → Type 0
HasSizes (VoiceDump device payload) = length payload ≡ 155
HasSizes (CartridgeDump device payload) = length payload ≡ 4096
HasSizes (ParamChange device number value) = Unit {0}
HasSizes (OtherChange device group number) = Unit {0}
HasSizes (DumpRequest device) = Unit {0}

-- of these messages the first bad one, the first that is too long, the first voice and the first cartridge
pub record IsScan (scan : Scan) (messages : List SysExMessage) : Type 0 where
  pub bad : scan.bad ≡ first_some message_refusal messages
  pub long : scan.long ≡ first_some long_refusal messages
  pub voice : scan.voice ≡ first_some message_voice messages
  pub cartridge : scan.cartridge ≡ first_some message_cartridge messages
