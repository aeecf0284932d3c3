-- How long the lines of an order are.
use Rattle.std.proofs.Common.{◌≡◌, ℕ, ◌+◌, ◌*◌, ◌^◌, ◌<◌, ◌≤◌, List, [], ◌∷◌, ◌++◌, length, refl, arith, length-append}
use Rattle.std.specs.Prelude.{codes, decimal, map, sum}
use Rattle.std.specs.List.{flat_map, range_with_len}
use Rattle.std.proofs.lemmas.Fmt.{length-decimal-le}
use Rattle.std.proofs.lemmas.List.FromFn.{length-map-range_with_len}
use Rattle.hex.specs.Hex.{encode_lower, lower_digits}
use Rattle.hex.proofs.HexLemmas.{length-encode_with}
use Rattle.voice_record.proofs.Voices.{greatest_small}
use Rattle.plain_text.specs.Split.{spaced}
use Rattle.command_set.specs.Command.{CommandData, StartsNote, EndsNote, Bends, Controls, PicksProgram, SetsParameter, StoresVoice, LoadsVoice}
use Rattle.command_set.specs.Command.{LoadsCartridge, IsInRange}
use Rattle.command_set.specs.Entries.{LoggedData}
use Rattle.command_set.specs.Text.{text, packed, share}
use Rattle.command_set.proofs.Words.{known_small}
use Rattle.take_files.specs.Files.{entry_text, header_text}
use Rattle.take_files.specs.Orders.{IsWritable}

number_short : (n : ℕ) → n < 2 ^ 32 → length (decimal n) ≤ 10
number_short n l = length-decimal-le 10 n (omega arith) (omega arith) (omega arith)

one_short : (kind word : List ℕ) (k w : ℕ) → length kind ≤ k → length word ≤ w → length (spaced kind (word ∷ [])) ≤ k + 1 + w
one_short kind word k w hk hw = let e = length-append kind (32 ∷ word) in omega (arith, e)

two_short : (kind : List ℕ) (a b : ℕ) → length kind ≤ 10 → a < 2 ^ 32 → b < 2 ^ 32 → length (spaced kind (decimal a ∷ decimal b ∷ [])) ≤ 32
two_short kind a b hk la lb =
    let e = length-append kind (32 ∷ (decimal a ++ 32 ∷ decimal b)) in
    let f = length-append (decimal a) (32 ∷ decimal b) in
    omega (arith, e, f, number_short a la, number_short b lb)

three_short : (kind : List ℕ) (a b c : ℕ) → length kind ≤ 10 → a < 2 ^ 32 → b < 2 ^ 32 → c < 2 ^ 32
    → length (spaced kind (decimal a ∷ decimal b ∷ decimal c ∷ [])) ≤ 43
three_short kind a b c hk la lb lc =
    let e = length-append kind (32 ∷ spaced (decimal a) (decimal b ∷ decimal c ∷ [])) in
    let f = two_short (decimal a) b c (number_short a la) lb lc in
    omega (arith, e, f)

packed_count : (voice : List ℕ) → length (packed voice) ≡ 128
unfolding packed
packed_count voice = length-map-range_with_len (λ byte. sum (map (share voice byte) (range_with_len 0 155))) 0 128

cartridge_count : (voices : List (List ℕ)) → length (flat_map packed voices) ≡ 128 * length voices
cartridge_count [] = refl
cartridge_count (voice ∷ voices) =
    let e = length-append (packed voice) (flat_map packed voices) in omega (arith, e, packed_count voice, cartridge_count voices)

text_short : (command : CommandData) → IsInRange command → length (text command) ≤ 8202
unfolding text
text_short (StartsNote channel key velocity) (a, b, low, high) =
    let h = three_short (codes "on") channel key velocity (omega arith) (omega arith) (omega arith) (omega arith) in omega (arith, h)
text_short (EndsNote channel key) (a, b) = let h = two_short (codes "off") channel key (omega arith) (omega arith) (omega arith) in omega (arith, h)
text_short (Bends channel value) (a, b) = let h = two_short (codes "bend") channel value (omega arith) (omega arith) (omega arith) in omega (arith, h)
text_short (Controls channel number value) (a, known, b) =
    let h = three_short (codes "control") channel number value (omega arith) (omega arith) (omega (arith, known_small number known)) (omega arith) in
    omega (arith, h)
text_short (PicksProgram channel number) (a, b) =
    let h = two_short (codes "program") channel number (omega arith) (omega arith) (omega arith) in omega (arith, h)
text_short (SetsParameter number value) (a, b) =
    let h = two_short (codes "param") number value (omega arith) (omega arith) (omega (arith, greatest_small number (omega arith))) in omega (arith, h)
text_short (StoresVoice slot) a =
    let h = one_short (codes "store") (decimal slot) 5 10 (omega arith) (number_short slot (omega arith)) in omega (arith, h)
text_short (LoadsVoice voice) v =
    let e = length-encode_with lower_digits voice in
    let h = one_short (codes "voice") (encode_lower voice) 5 310 (omega arith) (omega (arith, e, v.count)) in
    omega (arith, h)
text_short (LoadsCartridge voices) v =
    let e = length-encode_with lower_digits (flat_map packed voices) in
    let h = one_short (codes "cartridge") (encode_lower (flat_map packed voices)) 9 8192 (omega arith) (omega (arith, e, cartridge_count voices, v.count)) in
    omega (arith, h)

-- one word more
more_short : (word : List ℕ) (rest : List ℕ) (n : ℕ) → length word ≤ 10 → length rest ≤ n → length (word ++ 32 ∷ rest) ≤ n + 11
more_short word rest n hw hr = let e = length-append word (32 ∷ rest) in omega (arith, e)

pub entry_short : (l : LoggedData) → IsWritable l → length (entry_text l) ≤ 8256
entry_short l w =
    let seq = more_short (decimal l.entry.seq) (text l.entry.command) 8202 (number_short l.entry.seq w.seq) (text_short l.entry.command w.command) in
    let script = more_short (decimal l.entry.script) _ 8213 (number_short l.entry.script w.script) seq in
    let due = more_short (decimal l.entry.sent_at) _ 8224 (number_short l.entry.sent_at w.due) script in
    let block = more_short (decimal l.block) _ 8235 (number_short l.block w.block) due in
    omega (arith, block)

pub header_short : (blocks scripts : ℕ) → blocks < 2 ^ 32 → scripts < 2 ^ 32 → length (header_text blocks scripts) ≤ 8256
unfolding header_text
header_short blocks scripts lb ls =
    let e = length-append (codes "order engine 1 blocks ") (decimal blocks ++ 32 ∷ (codes "scripts " ++ decimal scripts)) in
    let f = length-append (codes "scripts ") (decimal scripts) in
    let g = more_short (decimal blocks) (codes "scripts " ++ decimal scripts) 18 (number_short blocks lb) (omega (arith, f, number_short scripts ls)) in
    omega (arith, e, g)
