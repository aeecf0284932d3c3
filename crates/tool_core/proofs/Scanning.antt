-- One more message of a scan.
use Rattle.std.proofs.Common.{◌≡◌, ℕ, ◌+◌, append-nil, List, [], ◌∷◌, ◌++◌, refl, sym, ◌∙◌, ap, subst}
use Rattle.std.specs.Prelude.{Option, Some, None, true, false, option_map, option_to_list, Result, Ok, Err, OnOk}
use Rattle.std.specs.Option.{option_or}
use Rattle.cartridge.specs.Cartridge.{voices_of}
use Rattle.sysex_frame.specs.Frame.{Content, VoiceDump, CartridgeDump, ParamChange, OtherChange, DumpRequest, IsFrame}
use Rattle.sysex_frame.specs.FrameFault.{first_fault}
use Rattle.sysex_frame.specs.declared.frame.FrameFault.{FrameFault}
use Rattle.sysex_frame.proofs.Laws.{complete}
use Rattle.command_set.specs.Message.{clamped_voice}
use Rattle.tool_core.specs.declared.scan.Scan.{Scan}
use Rattle.tool_core.specs.declared.refusal.Refusal.{Refusal}
use Rattle.tool_core.specs.declared.refusal.Refusal.TheVariants.{TooLong}
use Rattle.tool_core.specs.declared.scan.EndedSysEx.{EndedSysEx}
use Rattle.tool_core.specs.Scans.{TellsOf}
use Rattle.tool_core.specs.SysEx.{SysExMessage, is_too_long, sysex_at, sysex_before}
use Rattle.tool_core.specs.Refusals.{first_some, message_refusal, long_refusal, message_voice, message_cartridge, content, fault_at, voice_bytes}
use Rattle.tool_core.specs.Refusals.{cartridge_bytes}
use Rattle.tool_core.specs.Scans.{HasSizes, IsScan}
use Rattle.tool_core.proofs.Streams.{sysex_next}

pub or_none : {X : Type 0} (o : Option X) → option_or o None ≡ o
or_none None = refl
or_none (Some x) = refl

pub or_assoc : {X : Type 0} (a b c : Option X) → option_or a (option_or b c) ≡ option_or (option_or a b) c
or_assoc None b c = refl
or_assoc (Some x) b c = refl

first_more : {X : Type 0} (f : SysExMessage → Option X) (messages : List SysExMessage) (e : SysExMessage)
    → first_some f (messages ++ e ∷ []) ≡ option_or (first_some f messages) (f e)
first_more f [] e = or_none (f e)
first_more f (m ∷ messages) e = ap (option_or (f m)) (first_more f messages e) ∙ or_assoc (f m) (first_some f messages) (f e)

pub scans_more : (old now : Scan) (messages : List SysExMessage) (e : SysExMessage) → IsScan old messages
    → now.bad ≡ option_or old.bad (message_refusal e) → now.long ≡ option_or old.long (long_refusal e)
    → now.voice ≡ option_or old.voice (message_voice e) → now.cartridge ≡ option_or old.cartridge (message_cartridge e)
    → IsScan now (messages ++ e ∷ [])
scans_more old now messages e was bad long voice cartridge = record {
  bad = bad ∙ ap (λ o. option_or o (message_refusal e)) was.bad ∙ sym (first_more message_refusal messages e);
  long = long ∙ ap (λ o. option_or o (long_refusal e)) was.long ∙ sym (first_more long_refusal messages e);
  voice = voice ∙ ap (λ o. option_or o (message_voice e)) was.voice ∙ sym (first_more message_voice messages e);
  cartridge = cartridge ∙ ap (λ o. option_or o (message_cartridge e)) was.cartridge ∙ sym (first_more message_cartridge messages e);
}

pub content_of_frame : (message : List ℕ) (held : Content) → IsFrame message held → content message ≡ Some held
unfolding content
content_of_frame message held is = let whole = complete message held is in rw (whole.0, whole.1) refl

pub faultless_frame : (message : List ℕ) (held : Content) → IsFrame message held → first_fault message ≡ None
faultless_frame message held is = (complete message held is).0

pub no_content : (message : List ℕ) (fault : FrameFault) → first_fault message ≡ Some fault → content message ≡ None
unfolding content
no_content message fault is = rw is refl

pub sizes : (message : List ℕ) (held : Content) → IsFrame message held → HasSizes held
sizes message (VoiceDump device payload) is = is.size
sizes message (CartridgeDump device payload) is = is.size
sizes message (ParamChange device number value) is = tt
sizes message (OtherChange device group number) is = tt
sizes message (DumpRequest device) is = tt

-- what a message gives a scan
pub record Gives (e : SysExMessage) (bad long : Option Refusal) (voice : Option (List ℕ)) (cartridge : Option (List (List ℕ))) : Type 0 where
  pub bad_is : message_refusal e ≡ bad
  pub long_is : long_refusal e ≡ long
  pub voice_is : message_voice e ≡ voice
  pub cartridge_is : message_cartridge e ≡ cartridge

pub long_gives : (e : SysExMessage) → is_too_long e ≡ true → Gives e (Some (TooLong e.offset)) (Some (TooLong e.offset)) None None
long_gives e h = record { bad_is = rw h refl; long_is = rw h refl; voice_is = rw h refl; cartridge_is = rw h refl }

pub fault_gives : (e : SysExMessage) (fault : FrameFault) → is_too_long e ≡ false → first_fault e.bytes ≡ Some fault
    → Gives e (fault_at e.offset (Some fault)) None None None
fault_gives e fault h is =
    let nothing : content e.bytes ≡ None = no_content e.bytes fault is in
    record { bad_is = rw (h, is) refl; long_is = rw h refl; voice_is = rw (h, nothing) refl; cartridge_is = rw (h, nothing) refl }

pub frame_gives : (e : SysExMessage) (held : Content) → is_too_long e ≡ false → IsFrame e.bytes held
    → Gives e None None (option_map clamped_voice (voice_bytes held)) (option_map voices_of (cartridge_bytes held))
frame_gives e held h is =
    let something : content e.bytes ≡ Some held = content_of_frame e.bytes held is in
    let faultless : first_fault e.bytes ≡ None = faultless_frame e.bytes held is in
    record { bad_is = rw (h, faultless) refl; long_is = rw h refl; voice_is = rw (h, something) refl; cartridge_is = rw (h, something) refl }

pub given_more : (old now : Scan) (messages : List SysExMessage) (e : SysExMessage) (bad long : Option Refusal) (voice : Option (List ℕ))
    (cartridge : Option (List (List ℕ)))
    → IsScan old messages → Gives e bad long voice cartridge
    → now.bad ≡ option_or old.bad bad → now.long ≡ option_or old.long long
    → now.voice ≡ option_or old.voice voice → now.cartridge ≡ option_or old.cartridge cartridge
    → IsScan now (messages ++ e ∷ [])
given_more old now messages e bad long voice cartridge was g a b c d =
    scans_more old now messages e was
    (a ∙ ap (option_or old.bad) (sym g.bad_is)) (b ∙ ap (option_or old.long) (sym g.long_is))
    (c ∙ ap (option_or old.voice) (sym g.voice_is)) (d ∙ ap (option_or old.cartridge) (sym g.cartridge_is))

-- whatever messages there were, the one that ended is after them
abbrev pub Takes : Scan → Scan → EndedSysEx → List ℕ → Type 0
Takes old now ended message =
    (messages : List SysExMessage) (sysex : SysExMessage) → (ended.offset ≡ sysex.offset) × (ended.is_too_long ≡ is_too_long sysex)
    → (is_too_long sysex ≡ false → message ≡ sysex.bytes) → IsScan old messages → IsScan now (messages ++ sysex ∷ [])

-- one more byte
pub none_taken : (scan : Scan) (file : List ℕ) (offset : ℕ) → TellsOf None (sysex_at file offset)
    → IsScan scan (sysex_before file offset) → IsScan scan (sysex_before file (offset + 1))
none_taken scan file offset tells was = rw (sysex_next file offset) (by_end (sysex_at file offset) tells)
  where
    by_end : (e : Option SysExMessage) → TellsOf None e → IsScan scan (sysex_before file offset ++ option_to_list e)
    by_end None t = rw append-nil was
    by_end (Some e) t = absurd t

pub some_taken : (scan : Scan) (file : List ℕ) (offset : ℕ) (ended : EndedSysEx) → TellsOf (Some ended) (sysex_at file offset)
    → ((e : SysExMessage) → sysex_at file offset ≡ Some e → TellsOf (Some ended) (Some e) → IsScan scan (sysex_before file offset ++ e ∷ []))
    → IsScan scan (sysex_before file (offset + 1))
some_taken scan file offset ended tells more = rw (sysex_next file offset) (by_end (sysex_at file offset) refl tells)
  where
    by_end : (e : Option SysExMessage) → sysex_at file offset ≡ e → TellsOf (Some ended) e → IsScan scan (sysex_before file offset ++ option_to_list e)
    by_end None is t = absurd t
    by_end (Some e) is t = more e is t

pub on_ok_more : {T E : Type 0} {P Q : Type 0} (r : Result T E) → OnOk r P → (P → Q) → OnOk r Q
on_ok_more (Ok x) p along = along p
on_ok_more (Err e) p along = tt

-- one more message
pub long_taken : (old now : Scan) (ended : EndedSysEx) (message : List ℕ) → ended.is_too_long ≡ true
    → now.bad ≡ option_or old.bad (Some (TooLong ended.offset)) → now.long ≡ option_or old.long (Some (TooLong ended.offset))
    → now.voice ≡ old.voice → now.cartridge ≡ old.cartridge
    → Takes old now ended message
long_taken old now ended message long a b c d = λ messages e tells same was.
    given_more old now messages e (Some (TooLong e.offset)) (Some (TooLong e.offset)) None None was (long_gives e (sym (tells.1) ∙ long))
    (a ∙ ap (λ (p : ℕ). option_or old.bad (Some (TooLong p))) (tells.0)) (b ∙ ap (λ (p : ℕ). option_or old.long (Some (TooLong p))) (tells.0))
    (c ∙ sym (or_none old.voice)) (d ∙ sym (or_none old.cartridge))

pub fault_taken : (old now : Scan) (ended : EndedSysEx) (message : List ℕ) (fault : FrameFault) → ended.is_too_long ≡ false → first_fault message ≡ Some fault
    → now.bad ≡ option_or old.bad (fault_at ended.offset (Some fault)) → now.long ≡ old.long
    → now.voice ≡ old.voice → now.cartridge ≡ old.cartridge
    → Takes old now ended message
fault_taken old now ended message fault short is a b c d = λ messages e tells same was.
    let e_short : is_too_long e ≡ false = sym (tells.1) ∙ short in
    given_more old now messages e (fault_at e.offset (Some fault)) None None None was (fault_gives e fault e_short (ap first_fault (sym (same e_short)) ∙ is))
    (a ∙ ap (λ (p : ℕ). option_or old.bad (fault_at p (Some fault))) (tells.0)) (b ∙ sym (or_none old.long))
    (c ∙ sym (or_none old.voice)) (d ∙ sym (or_none old.cartridge))

pub frame_scanned : {T E : Type 0} (r : Result T E) (old now : Scan) (ended : EndedSysEx) (message : List ℕ) (held : Content) → ended.is_too_long ≡ false
    → IsFrame message held
    → now.bad ≡ old.bad → now.long ≡ old.long
    → OnOk r (now.voice ≡ option_or old.voice (option_map clamped_voice (voice_bytes held)))
    → OnOk r (now.cartridge ≡ option_or old.cartridge (option_map voices_of (cartridge_bytes held)))
    → OnOk r (Takes old now ended message)
frame_scanned (Err x) old now ended message held short is a b c d = tt
frame_scanned (Ok x) old now ended message held short is a b c d = λ messages e tells same was.
    let e_short : is_too_long e ≡ false = sym (tells.1) ∙ short in
    given_more old now messages e None None (option_map clamped_voice (voice_bytes held)) (option_map voices_of (cartridge_bytes held)) was
    (frame_gives e held e_short (subst (λ (t : List ℕ). IsFrame t held) (same e_short) is))
    (a ∙ sym (or_none old.bad)) (b ∙ sym (or_none old.long)) c d

pub scans_none : (file : List ℕ) (scan : Scan) → scan.bad ≡ None → scan.long ≡ None → scan.voice ≡ None → scan.cartridge ≡ None
    → IsScan scan (sysex_before file 0)
unfolding sysex_before
scans_none file scan a b c d = record { bad = a; long = b; voice = c; cartridge = d }
