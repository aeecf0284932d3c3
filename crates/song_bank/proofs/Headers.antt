-- The header and the first track of a song with one more track.
use Rattle.std.proofs.Common.{◌≡◌, ℕ, zero, suc, ◌+◌, ◌-◌, ◌*◌, ◌^◌, ◌<◌, ◌≤◌, List, [], ◌∷◌, ◌++◌, length, take, drop, Bool, true, false, cond, refl, ap, sym}
use Rattle.std.proofs.Common.{◌∙◌, subst, arith, append_assoc, append-nil, length-append, lt-ltb}
use Rattle.std.proofs.lemmas.Bool.{le-ltb}
use Rattle.std.proofs.lemmas.List.{take-append-drop, drop-append-le, drop_at, take_at, length-drop, length-take-le, drop-take, take-append-le}
use Rattle.std.specs.Prelude.{Option, Some, None, codes, nat_lt, nat_le, nat_eq, ◌==◌, ◌||◌, slice_range}
use Rattle.std.specs.Cmp.Lexicographic.{pointwise}
use Rattle.std.specs.List.{starts_with}
use Rattle.byteorder.specs.Endian.{big_number, big_bytes, big_from}
use Rattle.byteorder.specs.Numbers.{big_number-reads_back, big_from-append, length-bytes_high_first}
use Rattle.script_outcome.specs.declared.fault.ScriptKind.{ScriptKind}
use Rattle.script_outcome.specs.declared.fault.ScriptKind.TheVariants as kind
use Rattle.midi_file.specs.Bytes.{number_at}
use Rattle.midi_file.specs.Chunks.{after_chunk, chunk_bytes, chunk_length, division_of, header_fault, is_track, track_count}
use Rattle.song_bank.specs.Song.{chunk, end_of_track, header_with_track, track_of, with_first_track}

-- what a good header says
pub record IsGood (song : List ℕ) : Type 0 where
  pub least : 6 ≤ chunk_length song
  pub within : 8 + chunk_length song ≤ length song
  pub division : (division_of song == 0 || nat_le 32768 (division_of song)) ≡ false

not_below : (m n : ℕ) → nat_lt m n ≡ false → n ≤ m
not_below m n is = search (arith, is)

abbrev fault_by : Bool → Bool → Bool → Bool → Bool → Option (ℕ × ScriptKind)
fault_by s t u v w = cond s (Some (4, kind.Cut)) (cond t (Some (4, kind.Header))
    (cond u (Some (4, kind.Cut)) (cond v (Some (8, kind.Format)) (cond w (Some (12, kind.Division)) None))))

by_tests : (song : List ℕ) (s t u v w : Bool) → nat_lt (chunk_length song) 6 ≡ t → nat_lt (length song) (8 + chunk_length song) ≡ u
    → (division_of song == 0 || nat_le 32768 (division_of song)) ≡ w → fault_by s t u v w ≡ None → IsGood song
by_tests song true t u v w b c e is = absurd (cc)
by_tests song false true u v w b c e is = absurd (cc)
by_tests song false false true v w b c e is = absurd (cc)
by_tests song false false false true w b c e is = absurd (cc)
by_tests song false false false false true b c e is = absurd (cc)
by_tests song false false false false false b c e is = record {
  least = not_below (chunk_length song) 6 b;
  within =
      not_below (length song) (8 + chunk_length song) c;
  division = e;
}

pub good_is : (song : List ℕ) → header_fault song ≡ None → IsGood song
unfolding header_fault
good_is song good = by_tests song (nat_lt (length song) 8) (nat_lt (chunk_length song) 6) (nat_lt (length song) (8 + chunk_length song))
    (nat_lt 1 (number_at 8 2 song))
    (division_of song == 0 || nat_le 32768 (division_of song)) refl refl refl good

-- the number at a place of bytes that begin with others, where it stands in these
pub number_first : (place count : ℕ) (xs ys : List ℕ) → place + count ≤ length xs → number_at place count (xs ++ ys) ≡ number_at place count xs
number_first place count xs ys within =
    ap (big_from 0 count) (drop-append-le place xs ys (omega arith))
    ∙ big_from-append count (drop place xs) ys (let l : length (drop place xs) ≡ length xs - place = length-drop place xs in omega arith)

-- the same in the first bytes of a list as in all of it
number_taken : (place count size : ℕ) (song : List ℕ) → place + count ≤ size → size ≤ length song
    → number_at place count (take size song) ≡ number_at place count song
number_taken place count size song within all =
    sym (number_first place count (take size song) (drop size song) (let l : length (take size song) ≡ size = length-take-le size song all in omega arith))
    ∙ ap (number_at place count) (take-append-drop size song)

two_bytes : (n : ℕ) → n < 65536 → n < 256 ^ 2
two_bytes n small = small

four_bytes : (n : ℕ) → n < 4294967296 → n < 256 ^ 4
four_bytes n small = small

-- the number that stands after bytes which are as many as its place says
number_here : (place count : ℕ) (xs ys : List ℕ) → length xs ≡ place → number_at place count (xs ++ ys) ≡ big_number count ys
number_here place count xs ys is = ap (big_from 0 count) (drop_at xs ys place is)

written_here : (place count n : ℕ) (xs ys : List ℕ) → length xs ≡ place → n < 256 ^ count → number_at place count (xs ++ (big_bytes count n ++ ys)) ≡ n
written_here place count n xs ys is fits = number_here place count xs (big_bytes count n ++ ys) is ∙ big_number-reads_back count n ys fits

abbrev first8 : List ℕ → List ℕ
first8 song = take 8 song

abbrev format : List ℕ
format = big_bytes 2 1

abbrev count : List ℕ → List ℕ
count song = big_bytes 2 (track_count song + 1)

abbrev others : List ℕ → List ℕ
others song = slice_range song 12 (8 + chunk_length song)

-- what a header with one more track says, whatever stands after it
pub record HasHeader (song out : List ℕ) : Type 0 where
  pub size : chunk_length out ≡ chunk_length song
  pub format_is : number_at 8 2 out ≡ 1
  pub tracks : track_count out ≡ track_count song + 1
  pub division : division_of out ≡ division_of song

length_others : (song : List ℕ) → IsGood song → length (others song) ≡ chunk_length song - 4
length_others song good =
    let d : length (drop 12 song) ≡ length song - 12 = length-drop 12 song in
    let least : 6 ≤ chunk_length song = good.least in
    let within : 8 + chunk_length song ≤ length song = good.within in
    let l : length (others song) ≡ 8 + chunk_length song - 12 = length-take-le (8 + chunk_length song - 12) (drop 12 song) (omega arith) in
    omega arith

length_first8 : (song : List ℕ) → IsGood song → length (first8 song) ≡ 8
length_first8 song good = length-take-le 8 song (let w : 8 + chunk_length song ≤ length song = good.within in omega arith)

length_ten : (song : List ℕ) → IsGood song → length (first8 song ++ format) ≡ 10
length_ten song good =
    let l : length (first8 song) ≡ 8 = length_first8 song good in
    let a : length (first8 song ++ format) ≡ length (first8 song) + length format = length-append (first8 song) format in
    let d : length format ≡ 2 = length-bytes_high_first 2 1 in
    omega arith

length_twelve : (song : List ℕ) → IsGood song → length ((first8 song ++ format) ++ count song) ≡ 12
length_twelve song good =
    let a : length ((first8 song ++ format) ++ count song) ≡ length (first8 song ++ format) + length (count song) =
    length-append (first8 song ++ format) (count song) in
    let e : length (count song) ≡ 2 = length-bytes_high_first 2 (track_count song + 1) in
    let t : length (first8 song ++ format) ≡ 10 = length_ten song good in
    omega arith

pub length_header : (song : List ℕ) → IsGood song → length (header_with_track song) ≡ 8 + chunk_length song
length_header song good =
    let a : length (((first8 song ++ format) ++ count song) ++ others song) ≡ length ((first8 song ++ format) ++ count song) + length (others song) =
    length-append ((first8 song ++ format) ++ count song) (others song) in
    let t : length ((first8 song ++ format) ++ count song) ≡ 12 = length_twelve song good in
    let g : length (others song) ≡ chunk_length song - 4 = length_others song good in
    let least : 6 ≤ chunk_length song = good.least in
    omega arith

-- the parts of the header, with what stands after it
after_count : (song rest : List ℕ) → header_with_track song ++ rest ≡ ((first8 song ++ format) ++ count song) ++ (others song ++ rest)
after_count song rest = append_assoc ((first8 song ++ format) ++ count song) (others song) rest

after_format : (song rest : List ℕ) → header_with_track song ++ rest ≡ (first8 song ++ format) ++ (count song ++ (others song ++ rest))
after_format song rest = after_count song rest ∙ append_assoc (first8 song ++ format) (count song) (others song ++ rest)

after_first8 : (song rest : List ℕ) → header_with_track song ++ rest ≡ first8 song ++ (format ++ (count song ++ (others song ++ rest)))
after_first8 song rest = after_format song rest ∙ append_assoc (first8 song) format (count song ++ (others song ++ rest))

size_kept : (song rest : List ℕ) → IsGood song → chunk_length (header_with_track song ++ rest) ≡ chunk_length song
size_kept song rest good =
    let within : 8 + chunk_length song ≤ length song = good.within in
    let l : length (first8 song) ≡ 8 = length_first8 song good in
    ap (number_at 4 4) (after_first8 song rest)
    ∙ number_first 4 4 (first8 song) (format ++ (count song ++ (others song ++ rest))) (omega arith)
    ∙ number_taken 4 4 8 song (omega arith) (omega arith)

division_in : (song : List ℕ) → IsGood song → big_number 2 (others song) ≡ division_of song
division_in song good =
    let g : length (others song) ≡ chunk_length song - 4 = length_others song good in
    let least : 6 ≤ chunk_length song = good.least in
    sym (big_from-append 2 (others song) (drop (8 + chunk_length song - 12) (drop 12 song)) (omega arith))
    ∙ ap (big_from 0 2) (take-append-drop (8 + chunk_length song - 12) (drop 12 song))

pub header_says : (song rest : List ℕ) → IsGood song → track_count song < 65535 → HasHeader song (header_with_track song ++ rest)
header_says song rest good few =
    let g : length (others song) ≡ chunk_length song - 4 = length_others song good in
    let least : 6 ≤ chunk_length song = good.least in
    record {
      size = size_kept song rest good;
      format_is = ap (number_at 8 2) (after_first8 song rest)
          ∙ written_here 8 2 1 (first8 song) (count song ++ (others song ++ rest)) (length_first8 song good) (two_bytes 1 (omega arith));
      tracks = ap (number_at 10 2) (after_format song rest)
          ∙ written_here 10 2 (track_count song + 1) (first8 song ++ format) (others song
          ++ rest) (length_ten song good) (two_bytes (track_count song + 1) (omega arith));
      division = ap (number_at 12 2) (after_count song rest)
          ∙ number_here 12 2 ((first8 song ++ format) ++ count song) (others song ++ rest) (length_twelve song good)
          ∙ big_from-append 2 (others song) rest (omega arith)
          ∙ division_in song good;
    }

-- the header with one more track is good
pub good_with_track : (song out : List ℕ) → IsGood song → HasHeader song out → 8 + chunk_length song ≤ length out → header_fault out ≡ None
unfolding header_fault
good_with_track song out good has within =
    let size : chunk_length out ≡ chunk_length song = has.size in
    let least : 6 ≤ chunk_length song = good.least in
    let a : nat_lt (length out) 8 ≡ false = le-ltb (length out) 8 (omega arith) in
    let b : nat_lt (chunk_length out) 6 ≡ false = le-ltb (chunk_length out) 6 (omega arith) in
    let c : nat_lt (length out) (8 + chunk_length out) ≡ false = le-ltb (length out) (8 + chunk_length out) (omega arith) in
    let d : nat_lt 1 (number_at 8 2 out) ≡ false = le-ltb 1 (number_at 8 2 out) (let f : number_at 8 2 out ≡ 1 = has.format_is in omega arith) in
    let e : (division_of out == 0 || nat_le 32768 (division_of out)) ≡ false = ap (λ (n : ℕ). n == 0 || nat_le 32768 n) has.division ∙ good.division in
    rw (a, b, c, d, e) refl

-- the name of a file with another header
pub name_kept : (song rest : List ℕ) → IsGood song → starts_with nat_eq (header_with_track song ++ rest) (codes "MThd") ≡ starts_with nat_eq song (codes "MThd")
name_kept song rest good =
    let eight : length (first8 song) ≡ 8 = length_first8 song good in
    let four : take 4 (header_with_track song ++ rest) ≡ take 4 song =
    ap (take 4) (after_first8 song rest)
    ∙ take-append-le 4 (first8 song) (format ++ (count song ++ (others song ++ rest))) (omega arith)
    ∙ sym (take-append-le 4 (first8 song) (drop 8 song) (omega arith))
    ∙ ap (take 4) (take-append-drop 8 song) in
    ap (λ (bs : List ℕ). pointwise nat_eq (codes "MThd") bs) four

-- ---- the first track

abbrev name : List ℕ
name = codes "MTrk"

pub record IsChunk (out bytes rest : List ℕ) : Type 0 where
  pub size : chunk_length out ≡ length bytes
  pub bytes_are : chunk_bytes out ≡ bytes
  pub after : after_chunk out ≡ rest
  pub track : is_track out ≡ true
  pub long : length out ≡ 8 + length bytes + length rest

abbrev digits : List ℕ → List ℕ
digits bytes = big_bytes 4 (length bytes)

length_head : (bytes : List ℕ) → length (name ++ digits bytes) ≡ 8
length_head bytes =
    let a : length (name ++ digits bytes) ≡ length name + length (digits bytes) = length-append name (digits bytes) in
    let f : length (digits bytes) ≡ 4 = length-bytes_high_first 4 (length bytes) in
    let n : length name ≡ 4 = refl in
    omega arith

length_chunk : (bytes : List ℕ) → length (chunk name bytes) ≡ 8 + length bytes
length_chunk bytes =
    let a : length ((name ++ digits bytes) ++ bytes) ≡ length (name ++ digits bytes) + length bytes = length-append (name ++ digits bytes) bytes in
    let h : length (name ++ digits bytes) ≡ 8 = length_head bytes in
    omega arith

after_digits : (bytes rest : List ℕ) → chunk name bytes ++ rest ≡ (name ++ digits bytes) ++ (bytes ++ rest)
after_digits bytes rest = append_assoc (name ++ digits bytes) bytes rest

chunk_size : (bytes rest : List ℕ) → length bytes < 4294967296 → chunk_length (chunk name bytes ++ rest) ≡ length bytes
chunk_size bytes rest small =
    ap (number_at 4 4) (after_digits bytes rest ∙ append_assoc name (digits bytes) (bytes ++ rest))
    ∙ written_here 4 4 (length bytes) name (bytes ++ rest) refl (four_bytes (length bytes) small)

pub chunk_is : (bytes rest : List ℕ) → length bytes < 4294967296 → IsChunk (chunk name bytes ++ rest) bytes rest
chunk_is bytes rest small =
    let size : chunk_length (chunk name bytes ++ rest) ≡ length bytes = chunk_size bytes rest small in
    let whole : length (chunk name bytes) ≡ 8 + length bytes = length_chunk bytes in
    let a : length (chunk name bytes ++ rest) ≡ length (chunk name bytes) + length rest = length-append (chunk name bytes) rest in
    record {
      size = size;
      bytes_are = ap (λ (n : ℕ). take n (drop 8 (chunk name bytes ++ rest))) size
          ∙ ap (λ (bs : List ℕ). take (length bytes) (drop 8 bs)) (after_digits bytes rest)
          ∙ ap (take (length bytes)) (drop_at (name ++ digits bytes) (bytes ++ rest) 8 (length_head bytes))
          ∙ take_at bytes rest (length bytes) refl;
      after = ap (λ (n : ℕ). drop (8 + n) (chunk name bytes ++ rest)) size ∙ drop_at (chunk name bytes) rest (8 + length bytes) whole;
      track = refl;
      long = omega arith;
    }
