-- Hex text, byte by byte, and the hex text of a cartridge.
use Rattle.std.proofs.Common.{◌≡◌, ℕ, ◌+◌, ◌*◌, ◌/◌, ◌%◌, ◌<◌, ◌≤◌, List, [], ◌∷◌, ◌++◌, length, get_or, take, refl, ap, sym, ◌∙◌, append_assoc}
use Rattle.std.proofs.Common.{arith, length-append, length-take}
use Rattle.std.specs.List.{flat_map}
use Rattle.std.proofs.lemmas.List.{append-nil, take_more}
use Rattle.hex.specs.Hex.{encode_lower, encode_with, lower_digits}
use Rattle.hex.proofs.HexLemmas.{length-encode_with}
use Rattle.cartridge.specs.Cartridge.{IsCartridge, PacksAll}
use Rattle.cartridge.proofs.Voices.{packs_all_unique}
use Rattle.command_set.specs.Text.{packed}
use Rattle.command_set.proofs.Packs.{packs_all}

encode_append : (xs ys : List ℕ) → encode_lower (xs ++ ys) ≡ encode_lower xs ++ encode_lower ys
unfolding encode_with
encode_append [] ys = refl
encode_append (x ∷ xs) ys = ap (λ s. get_or lower_digits (x / 16) 0 ∷ get_or lower_digits (x % 16) 0 ∷ s) (encode_append xs ys)

-- the digits of one more byte
pub encode_more : (old bytes : List ℕ) (i : ℕ) → i < length bytes
    → (old ++ encode_lower (take i bytes)) ++ encode_lower (get_or bytes i 0 ∷ []) ≡ old ++ encode_lower (take (i + 1) bytes)
encode_more old bytes i l =
    append_assoc old (encode_lower (take i bytes)) (encode_lower (get_or bytes i 0 ∷ []))
    ∙ ap (λ s. old ++ s) (sym (encode_append (take i bytes) (get_or bytes i 0 ∷ [])) ∙ ap (λ s. encode_lower s) (sym (take_more bytes i 0 l)))

pub encode_count : (bytes : List ℕ) → length (encode_lower bytes) ≡ 2 * length bytes
encode_count bytes = length-encode_with lower_digits bytes

-- the payload of a cartridge is what its text writes
pub payload_is : (voices : List (List ℕ)) (payload : List ℕ) → IsCartridge voices → PacksAll voices payload → payload ≡ flat_map packed voices
payload_is voices payload h p = packs_all_unique voices payload (flat_map packed voices) p (packs_all voices h)

pub encode_none : (old : List ℕ) → old ≡ old ++ encode_lower []
unfolding encode_with
encode_none old = sym (append-nil old)

-- there is room for the digits of one more byte
pub digits_room : (old now bytes : List ℕ) (i : ℕ) → now ≡ old ++ encode_lower (take i bytes) → i < length bytes
    → length old + 2 * length bytes ≤ 8256 → length now + 2 ≤ 8256
digits_room old now bytes i is l room =
    let whole : length now ≡ length old + length (encode_lower (take i bytes)) = ap length is ∙ length-append old (encode_lower (take i bytes)) in
    omega (arith, whole, encode_count (take i bytes), length-take i bytes)

-- how long a word with bytes in hex is
pub bytes_room : (old kind bytes first second last : List ℕ) → length old ≤ 54 → length kind ≤ 9 → length bytes ≤ 4096
    → first ≡ old ++ kind → second ≡ first ++ 32 ∷ [] → last ≡ second ++ encode_lower bytes → length last ≤ length old + 8202
bytes_room old kind bytes first second last a b c one two three =
    let l1 : length first ≡ length old + length kind = ap length one ∙ length-append old kind in
    let l2 : length second ≡ length first + 1 = ap length two ∙ length-append first (32 ∷ []) in
    let l3 : length last ≡ length second + length (encode_lower bytes) = ap length three ∙ length-append second (encode_lower bytes) in
    omega (arith, l1, l2, l3, encode_count bytes)
