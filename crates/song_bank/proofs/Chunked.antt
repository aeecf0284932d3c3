-- What happens in the chunks of a file, but for the places of its events: the same bytes in a file of any size.
use Rattle.std.proofs.Common.{◌≡◌, ℕ, zero, suc, ◌+◌, ◌-◌, ◌<◌, ◌≤◌, List, [], ◌∷◌, ◌++◌, length, drop, map, Bool, true, false, cond, refl, ap, sym, ◌∙◌, arith}
use Rattle.std.proofs.Common.{lt-ltb, ltb-true}
use Rattle.std.proofs.lemmas.Bool.{le-ltb}
use Rattle.std.proofs.lemmas.List.{length-drop}
use Rattle.std.specs.Prelude.{Option, Some, None, ◌==◌, nat_lt, flat_map}
use Rattle.midi_file.specs.Track.{TrackOutcome, track_outcomes}
use Rattle.midi_file.specs.Chunks.{Chunk, Track, CutAt, after_chunk, chunk_bytes, chunk_cut, chunk_length, chunk_outcomes, is_track, tracks_outcomes, tracks_in}
use Rattle.midi_file.specs.Chunks.{unless_cut}
use Rattle.song_bank.proofs.Places.{bare, bare_both, events_bare}

-- a cut at both sizes, or a whole chunk at both
pub data Alike (size size' : ℕ) (rest : List ℕ) : Type 0 where
  BothCut : (at at' : ℕ) → chunk_cut size rest ≡ Some at → chunk_cut size' rest ≡ Some at' → Alike size size' rest
  BothWhole : chunk_cut size rest ≡ None → chunk_cut size' rest ≡ None → 8 + chunk_length rest ≤ length rest → Alike size size' rest

not_below : (m n : ℕ) → nat_lt m n ≡ false → n ≤ m
not_below m n is = search (arith, is)

pub cut_alike : (size size' : ℕ) (rest : List ℕ) → Alike size size' rest
unfolding chunk_cut
cut_alike size size' rest = by_tests (nat_lt (length rest) 4) (nat_lt (length rest) 8) (nat_lt (length rest) (8 + chunk_length rest)) refl refl refl
  where
    by_tests : (s t u : Bool) → nat_lt (length rest) 4 ≡ s → nat_lt (length rest) 8 ≡ t → nat_lt (length rest) (8 + chunk_length rest) ≡ u
        → Alike size size' rest
    by_tests true t u p q r = BothCut (size - length rest) (size' - length rest) (rw p refl) (rw p refl)
    by_tests false true u p q r = BothCut (size - length rest + 4) (size' - length rest + 4) (rw (p, q) refl) (rw (p, q) refl)
    by_tests false false true p q r = BothCut (size - length rest + 4) (size' - length rest + 4) (rw (p, q, r) refl) (rw (p, q, r) refl)
    by_tests false false false p q r = BothWhole (rw (p, q, r) refl) (rw (p, q, r) refl) (not_below (length rest) (8 + chunk_length rest) r)

abbrev happening : List Chunk → List TrackOutcome
happening cs = bare (flat_map chunk_outcomes cs)

cut_same : (at at' : ℕ) (o o' : Option ℕ) (cs ds : List Chunk) → o ≡ Some at → o' ≡ Some at' → happening (unless_cut o cs) ≡ happening (unless_cut o' ds)
cut_same at at' o o' cs ds p q = rw (p, q) refl

whole_same : (o o' : Option ℕ) (cs ds : List Chunk) → o ≡ None → o' ≡ None → happening cs ≡ happening ds
    → happening (unless_cut o cs) ≡ happening (unless_cut o' ds)
whole_same o o' cs ds p q same = rw (p, q) same

track_bare : (end end' : ℕ) (bytes : List ℕ) → bare (track_outcomes end bytes) ≡ bare (track_outcomes end' bytes)
track_bare end end' bytes = events_bare (length bytes) end end' 0 0 [] bytes

abbrev chunks_from : ℕ → ℕ → ℕ → List ℕ → Bool → List Chunk
chunks_from m size wanted rest t =
    cond t (Track (size - length (after_chunk rest)) (chunk_bytes rest) ∷ tracks_in m size (wanted - 1) (after_chunk rest))
    (tracks_in m size wanted (after_chunk rest))

abbrev AlikeAfter : ℕ → ℕ → ℕ → ℕ → List ℕ → Type 0
AlikeAfter m m' size size' rest = (wanted : ℕ) → bare (tracks_outcomes m size wanted (after_chunk rest)) ≡ bare
    (tracks_outcomes m' size' wanted (after_chunk rest))

by_track : (m m' size size' wanted : ℕ) (rest : List ℕ) (t : Bool) → AlikeAfter m m' size size' rest
    → happening (chunks_from m size wanted rest t) ≡ happening (chunks_from m' size' wanted rest t)
by_track m m' size size' wanted rest true later =
    bare_both _ _ _ _ (track_bare (size - length (after_chunk rest)) (size' - length (after_chunk rest)) (chunk_bytes rest)) (later (wanted - 1))
by_track m m' size size' wanted rest false later = later wanted

by_cut : (m m' size size' wanted : ℕ) (rest : List ℕ) → Alike size size' rest → (8 + chunk_length rest ≤ length rest → AlikeAfter m m' size size' rest)
    → happening (unless_cut (chunk_cut size rest) (chunks_from m size wanted rest (is_track rest))) ≡ happening
    (unless_cut (chunk_cut size' rest) (chunks_from m' size' wanted rest (is_track rest)))
by_cut m m' size size' wanted rest (BothCut at at' p q) later = cut_same at at' _ _ _ _ p q
by_cut m m' size size' wanted rest (BothWhole p q whole) later = whole_same _ _ _ _ p q (by_track m m' size size' wanted rest (is_track rest) (later whole))

step : (m m' size size' wanted : ℕ) (rest : List ℕ) → (8 + chunk_length rest ≤ length rest → AlikeAfter m m' size size' rest)
    → bare (tracks_outcomes (suc m) size wanted rest) ≡ bare (tracks_outcomes (suc m') size' wanted rest)
unfolding tracks_in
step m m' size size' wanted rest later = by_wanted (wanted == 0)
  where
    by_wanted : (t : Bool) → happening (cond t [] (unless_cut (chunk_cut size rest) (chunks_from m size wanted rest (is_track rest))))
        ≡ happening (cond t [] (unless_cut (chunk_cut size' rest) (chunks_from m' size' wanted rest (is_track rest))))
    by_wanted true = refl
    by_wanted false = by_cut m m' size size' wanted rest (cut_alike size size' rest) later

shorter : (m : ℕ) (rest : List ℕ) → length rest < suc m → 8 + chunk_length rest ≤ length rest → length (after_chunk rest) < m
shorter m rest enough whole = let l : length (after_chunk rest) ≡ length rest - (8 + chunk_length rest) = length-drop (8 + chunk_length rest) rest in
    omega arith

-- the same last bytes of files of two sizes
pub tracks_bare : (more more' size size' wanted : ℕ) (rest : List ℕ) → length rest < more → length rest < more'
    → bare (tracks_outcomes more size wanted rest) ≡ bare (tracks_outcomes more' size' wanted rest)
tracks_bare zero more' size size' wanted rest enough enough' = absurd (omega arith)
tracks_bare (suc m) zero size size' wanted rest enough enough' = absurd (omega arith)
tracks_bare (suc m) (suc m') size size' wanted rest enough enough' =
    step m m' size size' wanted rest (λ whole wanted. tracks_bare m m' size size' wanted (after_chunk rest) (shorter m rest enough whole)
    (shorter m' rest enough' whole))
