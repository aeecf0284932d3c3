-- Voices and cartridges that lines say.
use Rattle.std.proofs.Common.{◌≡◌, ℕ, List, [], ◌∷◌, Some, None, Result, Ok, Err, Bool, true, false, refl, ap, sym, ◌∙◌, subst}
use Rattle.std.specs.Prelude.{codes, bytes_eq, Option, option_and_then}
use Rattle.std.specs.List.{flat_map}
use Rattle.std.proofs.lemmas.Slice.Eq.{bytes_eq-Decides}
use Rattle.hex.specs.Hex.{decode_of, encode_lower}
use Rattle.hex.specs.declared.error.FromHexError.{FromHexError}
use Rattle.hex.proofs.HexLemmas.{decode_of-encode_lower}
use Rattle.voice_record.specs.Voice.{IsVoice}
use Rattle.voice_record.proofs.Voices.{clamped_is_voice, clamped_same}
use Rattle.cartridge.specs.Cartridge.{IsCartridge, voices_of}
use Rattle.cartridge.proofs.Voices.{voices_are}
use Rattle.command_set.specs.Command.{CommandData, LoadsVoice, LoadsCartridge}
use Rattle.command_set.specs.Text.{packed}
use Rattle.command_set.specs.Words.{AreWordsOf, AreWordsOfNone}
use Rattle.command_set.specs.Message.{clamped_voice}
use Rattle.command_set.proofs.Words.{voice_bytes, cartridge_bytes}
use Rattle.command_set.proofs.Packs.{packs_all}
use Rattle.command_set.proofs.Hexed.{as_voice, as_cartridge, voice_read}
use Rattle.command_set.proofs.Messages.{clamped_clamps, voices_cartridge}
use Rattle.script_read.specs.Grammar.{lower_bytes, if_lower, if_voice, if_cartridge, parsed_voice, parsed_cartridge}

alike : (xs ys : List ℕ) → xs ≡ ys → bytes_eq xs ys ≡ true
alike xs ys e = (bytes_eq-Decides xs ys).1 e

-- the bytes of their own digits
lower_own : (word bytes : List ℕ) → decode_of word ≡ Ok bytes → encode_lower bytes ≡ word → lower_bytes word ≡ Some bytes
lower_own word bytes decoded is = rw (decoded, alike (encode_lower bytes) word is) refl

kept_lower : (word : List ℕ) (r : Result (List ℕ) FromHexError) (bytes : List ℕ) → if_lower word r ≡ Some bytes → encode_lower bytes ≡ word
kept_lower word (Ok found) bytes e = by_test (bytes_eq (encode_lower found) word) refl e
  where
    by_test : (t : Bool) → bytes_eq (encode_lower found) word ≡ t → (Rattle.std.specs.Prelude.cond t (Some found) None) ≡ Some bytes → encode_lower bytes ≡ word
    by_test true same e = let is : found ≡ bytes = cc in ap (λ (xs : List ℕ). encode_lower xs) (sym is) ∙ (bytes_eq-Decides (encode_lower found) word).0 same
    by_test false same e = absurd (cc)
kept_lower word (Err x) bytes e = absurd (cc)

-- ---- voices

voice_own : (voice : List ℕ) → IsVoice voice → if_voice voice ≡ Some (LoadsVoice voice)
voice_own voice v = rw (alike (clamped_voice voice) voice (clamped_same voice (clamped_voice voice) (clamped_clamps voice) v)) refl

pub voice_found : (word : List ℕ) (d : CommandData) → AreWordsOf (codes "voice" ∷ word ∷ []) d → parsed_voice word ≡ Some d
unfolding parsed_voice
voice_found word d parsed =
    let own = as_voice word d parsed.0 parsed.1 in
    let decoded : decode_of word ≡ Ok own.0 = subst (λ (w : List ℕ). decode_of w ≡ Ok own.0) own.3 (decode_of-encode_lower own.0 (voice_bytes own.0 own.2)) in
    ap (option_and_then if_voice) (lower_own word own.0 decoded own.3) ∙ voice_own own.0 own.2 ∙ ap Some (sym own.1)

is_voice : (bytes : List ℕ) (d : CommandData) → if_voice bytes ≡ Some d → (d ≡ LoadsVoice bytes) × IsVoice bytes
is_voice bytes d e = by_test (bytes_eq (clamped_voice bytes) bytes) refl e
  where
    by_test : (t : Bool) → bytes_eq (clamped_voice bytes) bytes ≡ t → (Rattle.std.specs.Prelude.cond t (Some (LoadsVoice bytes)) None) ≡ Some d
        → (d ≡ LoadsVoice bytes) × IsVoice bytes
    by_test true same e =
        let is : clamped_voice bytes ≡ bytes = (bytes_eq-Decides (clamped_voice bytes) bytes).0 same in
        (cc, subst IsVoice is (clamped_is_voice bytes (clamped_voice bytes) (clamped_clamps bytes)))
    by_test false same e = absurd (cc)

pub voice_missed : (word : List ℕ) → AreWordsOfNone (codes "voice" ∷ word ∷ []) → parsed_voice word ≡ None
unfolding parsed_voice
voice_missed word none = by_bytes (lower_bytes word) refl
  where
    by_voice : (bytes : List ℕ) → encode_lower bytes ≡ word → (o : Option CommandData) → if_voice bytes ≡ o → if_voice bytes ≡ None
    by_voice bytes is None e = e
    by_voice bytes is (Some d) e =
        let own = is_voice bytes d e in
        let read = voice_read word bytes own.1 is in
        absurd (none (LoadsVoice bytes) read.0 read.1)

    by_bytes : (o : Option (List ℕ)) → lower_bytes word ≡ o → option_and_then if_voice o ≡ None
    by_bytes None e = refl
    by_bytes (Some bytes) e = by_voice bytes (kept_lower word (decode_of word) bytes e) (if_voice bytes) refl

-- ---- cartridges

cartridge_own : (voices : List (List ℕ)) → IsCartridge voices → if_cartridge (flat_map packed voices) ≡ Some (LoadsCartridge voices)
cartridge_own voices h =
    let is : voices_of (flat_map packed voices) ≡ voices = voices_are voices (flat_map packed voices) (packs_all voices h) in
    rw (is, alike (flat_map packed voices) (flat_map packed voices) refl) refl

pub cartridge_found : (word : List ℕ) (d : CommandData) → AreWordsOf (codes "cartridge" ∷ word ∷ []) d → parsed_cartridge word ≡ Some d
unfolding parsed_cartridge
cartridge_found word d parsed =
    let own = as_cartridge word d parsed.0 parsed.1 in
    let bytes : List ℕ = flat_map packed own.0 in
    let decoded : decode_of word ≡ Ok bytes = subst (λ (w : List ℕ). decode_of w ≡ Ok bytes) own.3 (decode_of-encode_lower bytes (cartridge_bytes own.0 own.2))
    in
    ap (option_and_then if_cartridge) (lower_own word bytes decoded own.3) ∙ cartridge_own own.0 own.2 ∙ ap Some (sym own.1)

is_payload : (bytes : List ℕ) (d : CommandData) → if_cartridge bytes ≡ Some d → flat_map packed (voices_of bytes) ≡ bytes
is_payload bytes d e = by_test (bytes_eq (flat_map packed (voices_of bytes)) bytes) refl e
  where
    by_test : (t : Bool) → bytes_eq (flat_map packed (voices_of bytes)) bytes ≡ t
        → (Rattle.std.specs.Prelude.cond t (Some (LoadsCartridge (voices_of bytes))) None) ≡ Some d → flat_map packed (voices_of bytes) ≡ bytes
    by_test true same e = (bytes_eq-Decides (flat_map packed (voices_of bytes)) bytes).0 same
    by_test false same e = absurd (cc)

pub cartridge_missed : (word : List ℕ) → AreWordsOfNone (codes "cartridge" ∷ word ∷ []) → parsed_cartridge word ≡ None
unfolding parsed_cartridge
cartridge_missed word none = by_bytes (lower_bytes word) refl
  where
    by_cartridge : (bytes : List ℕ) → encode_lower bytes ≡ word → (o : Option CommandData) → if_cartridge bytes ≡ o → if_cartridge bytes ≡ None
    by_cartridge bytes is None e = e
    by_cartridge bytes is (Some d) e =
        let same : flat_map packed (voices_of bytes) ≡ bytes = is_payload bytes d e in
        absurd (none (LoadsCartridge (voices_of bytes)) (voices_cartridge bytes) (ap (λ (xs : List ℕ). codes "cartridge" ∷ encode_lower xs ∷ []) same
        ∙ ap (λ (w : List ℕ). codes "cartridge" ∷ w ∷ []) is))

    by_bytes : (o : Option (List ℕ)) → lower_bytes word ≡ o → option_and_then if_cartridge o ≡ None
    by_bytes None e = refl
    by_bytes (Some bytes) e = by_cartridge bytes (kept_lower word (decode_of word) bytes e) (if_cartridge bytes) refl
