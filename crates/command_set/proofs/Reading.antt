-- The command that some words write, and that each text has one.
use Rattle.std.proofs.Common.{◌≡◌, ℕ, ◌^◌, ◌<◌, ◌≤◌, List, [], ◌∷◌, Option, Some, None, Result, Ok, Err, false, refl, ap, sym, ◌∙◌, subst, arith}
use Rattle.std.proofs.Common.{if◌then◌else◌}
use Rattle.std.specs.Prelude.{codes, decimal, bytes_eq}
use Rattle.std.specs.List.{flat_map, join_with_byte}
use Rattle.std.proofs.lemmas.List.Splits.{join_with_byte-slice_split}
use Rattle.hex.specs.Hex.{decode_of, encode_lower}
use Rattle.hex.specs.declared.error.FromHexError.{FromHexError}
use Rattle.hex.proofs.HexLemmas.{decode_of-encode_lower}
use Rattle.voice_record.specs.Voice.{IsVoice}
use Rattle.voice_record.proofs.Voices.{greatest_small}
use Rattle.cartridge.specs.Cartridge.{IsCartridge, voices_of}
use Rattle.cartridge.proofs.Voices.{voices_are}
use Rattle.plain_text.specs.Number.{number}
use Rattle.plain_text.specs.Split.{split}
use Rattle.plain_text.proofs.Numbers.{reads_decimal}
use Rattle.command_set.specs.Command.{CommandData, StartsNote, EndsNote, Bends, Controls, PicksProgram, SetsParameter, StoresVoice, LoadsVoice}
use Rattle.command_set.specs.Command.{LoadsCartridge, IsInRange}
use Rattle.command_set.specs.Text.{text, packed}
use Rattle.command_set.specs.Unique.{TextsAreUnique}
use Rattle.command_set.specs.Words.{words, AreWordsOf, AreWordsOfNone, store_of, two_bytes_of, two_of, three_bytes_of, three_of}
use Rattle.command_set.proofs.Packs.{packs_all}
use Rattle.command_set.proofs.Words.{parts_text, voice_bytes, cartridge_bytes, known_small}

-- what bytes in hex write
abbrev pub bytes_of : {A : Type 0} → (List ℕ → A) → Result (List ℕ) FromHexError → Option A
bytes_of f (Ok bytes) = Some (f bytes)
bytes_of f (Err e) = None

-- a kind and one word
unfoldable pub one_of : List ℕ → List ℕ → Option CommandData
one_of kind word =
    if bytes_eq kind (codes "voice") then bytes_of LoadsVoice (decode_of word)
    else if bytes_eq kind (codes "cartridge") then bytes_of (λ bytes. LoadsCartridge (voices_of bytes)) (decode_of word)
    else store_of kind word

-- the command that the words write, whether it is in range or not
unfoldable pub command_of : List (List ℕ) → Option CommandData
command_of (kind ∷ word ∷ []) = one_of kind word
command_of (kind ∷ first ∷ second ∷ []) = two_of kind first second
command_of (kind ∷ first ∷ second ∷ third ∷ []) = three_of kind first second third
command_of other = None

-- a command in range is read from its own words

reads_own : (most n : ℕ) → most < 2 ^ 32 → n ≤ most → number 0 most (decimal n) ≡ Some n
reads_own most n range l = reads_decimal 0 most n (decimal n) range (refl, omega arith, l)

own_three : (kind : List ℕ) (a b c : ℕ) → a ≤ 255 → b ≤ 255 → c ≤ 255 → three_of kind (decimal a) (decimal b) (decimal c) ≡ three_bytes_of kind a b c
unfolding three_of
own_three kind a b c la lb lc = rw (reads_own 255 a (omega arith) la, reads_own 255 b (omega arith) lb, reads_own 255 c (omega arith) lc) refl

own_two : (kind : List ℕ) (a b : ℕ) → bytes_eq kind (codes "bend") ≡ false → a ≤ 255 → b ≤ 255 → two_of kind (decimal a) (decimal b) ≡ two_bytes_of kind a b
unfolding two_of
own_two kind a b other la lb = rw (other, reads_own 255 a (omega arith) la, reads_own 255 b (omega arith) lb) refl

own_bend : (channel value : ℕ) → channel ≤ 255 → value ≤ 16383 → two_of (codes "bend") (decimal channel) (decimal value) ≡ Some (Bends channel value)
unfolding two_of
own_bend channel value la lb = rw (reads_own 255 channel (omega arith) la, reads_own 16383 value (omega arith) lb) refl

own_store : (slot : ℕ) → slot ≤ 255 → one_of (codes "store") (decimal slot) ≡ Some (StoresVoice slot)
unfolding one_of store_of
own_store slot l = rw (reads_own 255 slot (omega arith) l) refl

pub voice_words : (word : List ℕ) → one_of (codes "voice") word ≡ bytes_of LoadsVoice (decode_of word)
unfolding one_of
voice_words word = refl

pub cartridge_words : (word : List ℕ) → one_of (codes "cartridge") word ≡ bytes_of (λ bytes. LoadsCartridge (voices_of bytes)) (decode_of word)
unfolding one_of
cartridge_words word = refl

own_voice : (voice : List ℕ) → IsVoice voice → one_of (codes "voice") (encode_lower voice) ≡ Some (LoadsVoice voice)
own_voice voice v = voice_words (encode_lower voice) ∙ ap (bytes_of LoadsVoice) (decode_of-encode_lower voice (voice_bytes voice v))

own_cartridge : (voices : List (List ℕ)) → IsCartridge voices → one_of (codes "cartridge") (encode_lower (flat_map packed voices)) ≡ Some
    (LoadsCartridge voices)
own_cartridge voices h =
    cartridge_words (encode_lower (flat_map packed voices))
    ∙ ap (bytes_of (λ bytes. LoadsCartridge (voices_of bytes))) (decode_of-encode_lower (flat_map packed voices) (cartridge_bytes voices h))
    ∙ ap (λ vs. Some (LoadsCartridge vs)) (voices_are voices (flat_map packed voices) (packs_all voices h))

reads : (d : CommandData) → IsInRange d → command_of (words d) ≡ Some d
unfolding command_of three_bytes_of two_bytes_of
reads (StartsNote channel key velocity) (a, b, low, high) = own_three (codes "on") channel key velocity (omega arith) (omega arith) (omega arith)
reads (EndsNote channel key) (a, b) = own_two (codes "off") channel key refl (omega arith) (omega arith)
reads (Bends channel value) (a, b) = own_bend channel value (omega arith) b
reads (Controls channel n value) (a, known, b) = own_three (codes "control") channel n value (omega arith) (omega (arith, known_small n known)) (omega arith)
reads (PicksProgram channel n) (a, b) = own_two (codes "program") channel n refl (omega arith) (omega arith)
reads (SetsParameter n value) (a, b) = own_two (codes "param") n value refl (omega arith) (omega (arith, greatest_small n (omega arith)))
reads (StoresVoice slot) a = own_store slot (omega arith)
reads (LoadsVoice voice) v = own_voice voice v
reads (LoadsCartridge voices) h = own_cartridge voices h

pub read_as : (found : List (List ℕ)) (d : CommandData) → IsInRange d → words d ≡ found → command_of found ≡ Some d
read_as found d r same = subst (λ ws. command_of ws ≡ Some d) same (reads d r)

some_same : (a b : CommandData) (o : Option CommandData) → o ≡ Some a → o ≡ Some b → a ≡ b
some_same a b o ea eb = cc

none_read : (found : List (List ℕ)) → command_of found ≡ None → AreWordsOfNone found
none_read found e = λ d r same. let some : command_of found ≡ Some d = read_as found d r same in absurd (cc)

pub one_word : (kind word : List ℕ) → command_of (kind ∷ word ∷ []) ≡ one_of kind word
unfolding command_of
one_word kind word = refl

-- commands with one text are one
pub unique : TextsAreUnique
unique c d rc rd same =
    let alike : words c ≡ words d = sym (parts_text c rc) ∙ ap (split 32) same ∙ parts_text d rd in
    some_same c d (command_of (words d)) (read_as (words d) c rc alike) (reads d rd)

-- a text and its words
pub text_words : (d : CommandData) (whole : List ℕ) → IsInRange d → text d ≡ whole → words d ≡ split 32 whole
text_words d whole r same = sym (parts_text d r) ∙ ap (split 32) same

pub words_text : (d : CommandData) (whole : List ℕ) → AreWordsOf (split 32 whole) d → text d ≡ whole
words_text d whole (r, same) =
    sym (join_with_byte-slice_split 32 (text d)) ∙ ap (join_with_byte 32) (parts_text d r ∙ same) ∙ join_with_byte-slice_split 32 whole

pub only_words : (c d : CommandData) (whole : List ℕ) → AreWordsOf (split 32 whole) c → IsInRange d → text d ≡ whole → d ≡ c
only_words c d whole said r same = unique d c r said.0 (same ∙ sym (words_text c whole said))
