-- What a whole SysEx message of the DX7 is, and what it holds.
use Rattle.std.specs.Prelude.{ℕ, ◌≡◌, ◌+◌, ◌*◌, ◌/◌, ◌%◌, ◌<◌, ◌≤◌}
use Rattle.std.specs.Prelude.{List, [], ◌∷◌, ◌++◌, length, slice_index}
use Rattle.voice_record.specs.Voice.{greatest_value}
use Rattle.sysex_frame.specs.Checksum.{IsChecksum}
use Rattle.sysex_frame.specs.declared.frame.Frame.{Frame}
use Rattle.sysex_frame.specs.declared.frame.Frame.TheVariants.{Voice, Cartridge, Param, OtherParam, Request}

-- what a message holds
pub data Content : Type 0 where
  VoiceDump : ℕ → List ℕ → Content
  CartridgeDump : ℕ → List ℕ → Content
  ParamChange : ℕ → ℕ → ℕ → Content
  OtherChange : ℕ → ℕ → ℕ → Content
  DumpRequest : ℕ → Content

-- each byte has seven bits
abbrev pub IsData : List ℕ → Type 0
IsData bytes = (place : ℕ) → place < length bytes → slice_index bytes place < 128

-- a dump: its head has the format and the count of data bytes, and its checksum stands before the end
pub record IsDump (message : List ℕ) (device format high low count : ℕ) (payload : List ℕ) : Type 0 where
  pub sixteen : device < 16
  pub size : length payload ≡ count
  pub bytes : IsData payload
  pub check : ℕ
  pub checked : IsChecksum payload check
  pub spelled : message ≡ 0xF0 ∷ 0x43 ∷ device ∷ format ∷ high ∷ low ∷ (payload ++ check ∷ 0xF7 ∷ [])

-- a change of a parameter of the voice, or of the operator switch, to a value that it can have
pub record IsParamChange (message : List ℕ) (device number value : ℕ) : Type 0 where
  pub sixteen : device < 16
  pub known : number ≤ 155
  pub within : value ≤ greatest_value number
  pub spelled : message ≡ 0xF0 ∷ 0x43 ∷ (0x10 + device) ∷ (number / 128) ∷ (number % 128) ∷ value ∷ 0xF7 ∷ []

-- a change of a parameter of some other number: above 155 in group 0, where one data byte follows; in another group one or more
pub record IsOtherChange (message : List ℕ) (device group number : ℕ) : Type 0 where
  pub sixteen : device < 16
  pub groups : group < 32
  pub numbers : number < 512
  pub other : group ≡ 0 → 155 < number
  pub rest : List ℕ
  pub bytes : IsData rest
  pub least : 1 ≤ length rest
  pub one : group ≡ 0 → length rest ≡ 1
  pub spelled : message ≡ 0xF0 ∷ 0x43 ∷ (0x10 + device) ∷ (4 * group + number / 128) ∷ (number % 128) ∷ (rest ++ 0xF7 ∷ [])

-- a request for a dump, with one data byte or more
pub record IsRequest (message : List ℕ) (device : ℕ) : Type 0 where
  pub sixteen : device < 16
  pub rest : List ℕ
  pub bytes : IsData rest
  pub least : 1 ≤ length rest
  pub spelled : message ≡ 0xF0 ∷ 0x43 ∷ (0x20 + device) ∷ (rest ++ 0xF7 ∷ [])

-- the bytes are a message with this content
abbrev pub IsFrame : List ℕ → Content → Type 0
IsFrame message (VoiceDump device payload) = IsDump message device 0 0x01 0x1B 155 payload
IsFrame message (CartridgeDump device payload) = IsDump message device 9 0x20 0x00 4096 payload
IsFrame message (ParamChange device number value) = IsParamChange message device number value
IsFrame message (OtherChange device group number) = IsOtherChange message device group number
IsFrame message (DumpRequest device) = IsRequest message device

-- what a frame that was read holds
abbrev pub content_of : Frame → Content
content_of (Voice device payload) = VoiceDump device payload.now
content_of (Cartridge device payload) = CartridgeDump device payload.now
content_of (Param device number value) = ParamChange device number value
content_of (OtherParam device group number) = OtherChange device group number
content_of (Request device) = DumpRequest device
