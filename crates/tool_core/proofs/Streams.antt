-- One more byte of a file.
use Rattle.std.proofs.Common.{◌≡◌, ℕ, ◌+◌, ◌<◌, ◌≤◌, List, [], ◌∷◌, ◌++◌, length, take, get_or, refl, ◌∙◌, ap, arith, add-one, length-append, if◌then◌else◌}
use Rattle.std.specs.Prelude.{◌==◌, Option, Some, None, IfSome, slice_get, Bool, true, false, option_to_list}
use Rattle.std.proofs.lemmas.Bool.{ltb-false}
use Rattle.std.proofs.lemmas.Grind.{take_at_read}
use Rattle.std.proofs.lemmas.Option.{slice_get_past, slice_get-get_or}
use Rattle.std.proofs.Math.Seq.{get_or-append_seam}
use Rattle.midi_stream.specs.declared.message.MidiMessage.{MidiMessage}
use Rattle.midi_stream.specs.Messages.{messages, last_sysex}
use Rattle.midi_stream.specs.Standing.{Answers}
use Rattle.tool_core.specs.SysEx.{SysExMessage, message_at, start_before, placed, is_sysex, is_too_long, sysex_at, sysex_before}

pub take_next : (file : List ℕ) (offset byte : ℕ) → offset < length file → get_or file offset 0 ≡ byte → take (offset + 1) file ≡ take offset file ++ byte ∷ []
take_next file offset byte below is = (take_at_read file offset 0 below).1 ∙ ap (λ (b : ℕ). take offset file ++ b ∷ []) is

answered : (r : Option MidiMessage) (before now : List MidiMessage) → Answers r before now → slice_get now (length before) ≡ r
answered None before now e = slice_get_past now (length before) (let same : length now ≡ length before = ap length e in omega arith)
answered (Some m) before now e =
    rw e (slice_get-get_or (before ++ m ∷ []) (length before) m (let more : length (before ++ m ∷ []) ≡ length before + 1 = length-append before (m ∷ []) in
    omega arith)
    ∙ ap (λ (x : MidiMessage). Some x) (get_or-append_seam before m [] m))

pub message_told : (r : Option MidiMessage) (file : List ℕ) (offset : ℕ) → Answers r (messages (take offset file)) (messages (take (offset + 1) file))
    → message_at file offset ≡ r
unfolding message_at
message_told r file offset e = answered r (messages (take offset file)) (messages (take (offset + 1) file)) e

pub start_next : (file : List ℕ) (offset : ℕ) → start_before file (offset + 1) ≡ (if get_or file offset 0 == 240 then offset else start_before file offset)
unfolding start_before
start_next file offset = rw add-one refl

pub sysex_next : (file : List ℕ) (offset : ℕ) → sysex_before file (offset + 1) ≡ sysex_before file offset ++ option_to_list (sysex_at file offset)
unfolding sysex_before
sysex_next file offset = rw add-one refl

chosen_bytes : (t : Bool) (offset : ℕ) (last : Option (List ℕ)) (e : SysExMessage)
    → (if t then Rattle.std.specs.Prelude.option_map (λ bytes. record { offset = offset; bytes = bytes }) last else None) ≡ Some e → last ≡ Some e.bytes
chosen_bytes true offset None e h = absurd (cc)
chosen_bytes true offset (Some bytes) e h = let is : record { offset = offset; bytes = bytes } ≡ e = cc in ap (λ (x : SysExMessage). Some x.bytes) is
chosen_bytes false offset last e h = absurd (cc)

pub placed_bytes : (m : Option MidiMessage) (offset : ℕ) (last : Option (List ℕ)) (e : SysExMessage) → placed m offset last ≡ Some e → last ≡ Some e.bytes
placed_bytes None offset last e h = absurd (cc)
placed_bytes (Some m) offset last e h = chosen_bytes (is_sysex m) offset last e h

pub sysex_bytes : (file : List ℕ) (offset : ℕ) (e : SysExMessage) → sysex_at file offset ≡ Some e → last_sysex (take (offset + 1) file) ≡ Some e.bytes
unfolding sysex_at
sysex_bytes file offset e h = placed_bytes (message_at file offset) (start_before file offset) (last_sysex (take (offset + 1) file)) e h

pub kept_bytes : (last : Option (List ℕ)) (e : SysExMessage) (kept : List ℕ) → last ≡ Some e.bytes → is_too_long e ≡ false
    → IfSome last (λ bytes. length bytes ≤ 5000 → kept ≡ bytes) → kept ≡ e.bytes
kept_bytes last e kept is short h =
    let at : length e.bytes ≤ 5000 → kept ≡ e.bytes = rw is at h in
    let fits : length e.bytes ≤ 5000 = ltb-false 5000 (length e.bytes) short in
    at fits
