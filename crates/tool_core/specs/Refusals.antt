-- Why a file is refused.
use Rattle.std.specs.Prelude.{ℕ, List, [], ◌∷◌, length, Option, Some, None}
use Rattle.std.specs.Prelude.{is_none, option_map, option_and_then, if◌then◌else◌}
use Rattle.std.specs.Option.{option_or}
use Rattle.midi_stream.specs.Messages.{is_unfinished}
use Rattle.cartridge.specs.Cartridge.{voices_of}
use Rattle.sysex_frame.specs.Frame.{Content, VoiceDump, CartridgeDump, ParamChange, OtherChange, DumpRequest}
use Rattle.sysex_frame.specs.FrameFault.{first_fault, is_foreign}
use Rattle.sysex_frame.specs.ParsedFrame.{reading}
use Rattle.command_set.specs.Message.{clamped_voice}
use Rattle.sysex_frame.specs.declared.frame.FrameFault.{FrameFault}
use Rattle.tool_core.specs.declared.refusal.Refusal.{Refusal}
use Rattle.tool_core.specs.declared.refusal.Refusal.TheVariants.{TooLong, Fault, Cut, NoVoice, NoCartridge}
use Rattle.tool_core.specs.SysEx.{SysExMessage, sysex_messages, is_too_long}

-- what a message holds, where it has no fault
unfoldable pub content : List ℕ → Option Content
content message = if is_none (first_fault message) then Some (reading message) else None

-- the first answer that some messages give
abbrev pub first_some : {X : Type 0} → (SysExMessage → Option X) → List SysExMessage → Option X
first_some f [] = None
first_some f (sysex ∷ later) = option_or (f sysex) (first_some f later)

-- a message that is none of the DX7's is passed over
abbrev pub fault_at : ℕ → Option FrameFault → Option Refusal
fault_at offset None = None
fault_at offset (Some fault) = if is_foreign fault then None else Some (Fault offset fault)

-- a message that is too long is refused everywhere
abbrev pub long_refusal : SysExMessage → Option Refusal
long_refusal sysex = if is_too_long sysex then Some (TooLong sysex.offset) else None

-- one with another fault where all messages are looked at
abbrev pub message_refusal : SysExMessage → Option Refusal
message_refusal sysex =
    if is_too_long sysex then Some (TooLong sysex.offset) else fault_at sysex.offset (first_fault sysex.bytes)

-- the bytes of a voice that a message holds
abbrev pub voice_bytes : Content → Option (List ℕ)
voice_bytes (VoiceDump device payload) = Some payload
voice_bytes (CartridgeDump device payload) = None
voice_bytes (ParamChange device number value) = None
voice_bytes (OtherChange device group number) = None
voice_bytes (DumpRequest device) = None

-- the bytes of 32 voices that it holds
abbrev pub cartridge_bytes : Content → Option (List ℕ)
cartridge_bytes (VoiceDump device payload) = None
cartridge_bytes (CartridgeDump device payload) = Some payload
cartridge_bytes (ParamChange device number value) = None
cartridge_bytes (OtherChange device group number) = None
cartridge_bytes (DumpRequest device) = None

abbrev pub message_content : SysExMessage → Option Content
message_content sysex = if is_too_long sysex then None else content sysex.bytes

abbrev pub message_voice : SysExMessage → Option (List ℕ)
message_voice sysex = option_map clamped_voice (option_and_then voice_bytes (message_content sysex))

abbrev pub message_cartridge : SysExMessage → Option (List (List ℕ))
message_cartridge sysex = option_map voices_of (option_and_then cartridge_bytes (message_content sysex))

-- the first voice of a file, and its first cartridge
unfoldable pub voice_in : List ℕ → Option (List ℕ)
voice_in file = first_some message_voice (sysex_messages file)

unfoldable pub cartridge_in : List ℕ → Option (List (List ℕ))
cartridge_in file = first_some message_cartridge (sysex_messages file)

-- what a command wants of a file: all its messages, a voice or a cartridge
pub data Wanted : Type 0 where
  AllMessages : Wanted
  OneVoice : Wanted
  OneCartridge : Wanted

abbrev pub refusal_in : Wanted → List SysExMessage → Option Refusal
refusal_in AllMessages messages = first_some message_refusal messages
refusal_in OneVoice messages = first_some long_refusal messages
refusal_in OneCartridge messages = first_some long_refusal messages

abbrev pub cut_refusal : List ℕ → Option Refusal
cut_refusal file = if is_unfinished file then Some Cut else None

abbrev pub missing_refusal : Wanted → List ℕ → Option Refusal
missing_refusal AllMessages file = None
missing_refusal OneVoice file = if is_none (voice_in file) then Some NoVoice else None
missing_refusal OneCartridge file = if is_none (cartridge_in file) then Some NoCartridge else None

-- why a file is refused: its first bad message; or it ends within a message; or it lacks what is wanted
unfoldable pub refusal : Wanted → List ℕ → Option Refusal
refusal wanted file = option_or (refusal_in wanted (sysex_messages file)) (option_or (cut_refusal file) (missing_refusal wanted file))
