-- The chunks of a file, one after the other.
use Rattle.std.proofs.Common.{◌≡◌, ℕ, zero, suc, ◌+◌, ◌-◌, ◌<◌, List, [], ◌∷◌, ◌++◌, length, true, false, cond, refl, ap, sym, ◌∙◌, subst, arith}
use Rattle.std.proofs.Common.{append_assoc, append-nil}
use Rattle.std.proofs.lemmas.Bool.Decides.{nat_tests}
use Rattle.std.specs.Prelude.{Some, None, ◌==◌, flat_map}
use Rattle.script_outcome.specs.declared.fault.Place.TheVariants as place
use Rattle.script_outcome.specs.declared.fault.ScriptKind.{ScriptKind}
use Rattle.script_outcome.specs.declared.fault.ScriptKind.TheVariants as kind
use Rattle.script_outcome.specs.declared.fault.ScriptFault.{ScriptFault}
use Rattle.script_outcome.specs.declared.fault.ScriptFault.TheVariants as faults
use Rattle.midi_file.specs.Track.{TimedData, TrackOutcome, Breaks, track_outcomes}
use Rattle.midi_file.specs.Chunks.{Chunk, Track, CutAt, after_chunk, breaks, chunk_bytes, chunk_cut, chunk_outcomes, file_outcomes, header_fault}
use Rattle.midi_file.specs.Chunks.{is_track, track_count, tracks_outcomes, tracks_in, unless_cut}
use Rattle.midi_file.specs.FileSoFar.{Faults, all_come}
use Rattle.midi_file.proofs.EndedMessages.{fault_here, faults_more}

-- the reader of a file stands before these bytes of it and wants so many tracks; what happens in all of the file is this
pub record IsWithinFile (size wanted : ℕ) (rest : List ℕ) (acts : List TimedData) (all : List TrackOutcome) : Type 0 where
  pub more : ℕ
  pub enough : length rest < more
  pub left : all_come acts ++ tracks_outcomes more size wanted rest ≡ all

some_wanted : (wanted : ℕ) → 0 < wanted → (wanted == 0) ≡ false
some_wanted zero some = absurd (omega arith)
some_wanted (suc n) some = grind (arith, nat_tests)

tracks_first : (more size wanted : ℕ) (rest : List ℕ) → 0 < wanted → length rest < more
    → (m : ℕ) × (more ≡ m + 1) × (tracks_in more size wanted rest ≡ unless_cut (chunk_cut size rest)
    (cond (is_track rest) (Track (size - length (after_chunk rest)) (chunk_bytes rest) ∷ tracks_in m size (wanted - 1) (after_chunk rest))
    (tracks_in m size wanted (after_chunk rest))))
unfolding tracks_in
tracks_first zero size wanted rest some enough = absurd (omega arith)
tracks_first (suc m) size wanted rest some enough = (m, omega arith, rw (some_wanted wanted some) refl)

-- the file is cut
pub cut_within : (why : ScriptFault) (size wanted at : ℕ) (rest : List ℕ) (acts : List TimedData) (all : List TrackOutcome)
    → IsWithinFile size wanted rest acts all
    → 0 < wanted → chunk_cut size rest ≡ Some at → why ≡ faults.Refused (place.Byte at) kind.Cut → Faults why all
cut_within why size wanted at rest acts all w some is refused =
    let first = tracks_first w.more size wanted rest some w.enough in
    let chunks : tracks_in w.more size wanted rest ≡ CutAt at ∷ [] = first.2 ∙ rw is refl in
    let same : all_come acts ++ Breaks at kind.Cut ∷ [] ≡ all = ap (λ (cs : List Chunk). all_come acts ++ flat_map chunk_outcomes cs) (sym chunks) ∙ w.left in
    subst (λ (f : ScriptFault). Faults f all) (sym refused) (subst (λ (hs : List TrackOutcome).
    Faults (faults.Refused (place.Byte at) kind.Cut) hs) same (fault_here acts at kind.Cut))

-- a track
track_within : (size wanted : ℕ) (rest : List ℕ) (acts : List TimedData) (all : List TrackOutcome) → (w : IsWithinFile size wanted rest acts all)
    → 0 < wanted → chunk_cut size rest ≡ None → is_track rest ≡ true
    → (m : ℕ) × (w.more ≡ m + 1) × ((all_come acts ++ track_outcomes (size - length (after_chunk rest)) (chunk_bytes rest))
    ++ tracks_outcomes m size (wanted - 1) (after_chunk rest) ≡ all)
track_within size wanted rest acts all w some whole track =
    let first = tracks_first w.more size wanted rest some w.enough in
    let chunks : tracks_in w.more size wanted rest ≡ Track (size - length (after_chunk rest)) (chunk_bytes rest)
    ∷ tracks_in first.0 size (wanted - 1) (after_chunk rest) =
    first.2 ∙ rw (whole, track) refl in
    (first.0, first.1, append_assoc (all_come acts) _ _ ∙ ap (λ (cs : List Chunk). all_come acts ++ flat_map chunk_outcomes cs) (sym chunks) ∙ w.left)

-- what happens in the bytes of a chunk
same_bytes : (size : ℕ) (bytes after rest : List ℕ) → bytes ≡ chunk_bytes rest → after ≡ after_chunk rest
    → track_outcomes (size - length after) bytes ≡ track_outcomes (size - length (after_chunk rest)) (chunk_bytes rest)
same_bytes size bytes after rest is_bytes is_after =
    ap (λ (bs : List ℕ). track_outcomes (size - length after) bs) is_bytes ∙ ap (λ (bs : List ℕ). track_outcomes (size - length bs) (chunk_bytes rest)) is_after

pub fault_in_track : (size wanted : ℕ) (rest bytes after : List ℕ) (acts : List TimedData) (all : List TrackOutcome) (why : ScriptFault)
    → IsWithinFile size wanted rest acts all
    → 0 < wanted → chunk_cut size rest ≡ None → is_track rest ≡ true → bytes ≡ chunk_bytes rest → after ≡ after_chunk rest
    → Faults why (all_come acts ++ track_outcomes (size - length after) bytes) → Faults why all
fault_in_track size wanted rest bytes after acts all why w some whole track is_bytes is_after fault =
    let by = track_within size wanted rest acts all w some whole track in
    let here = subst (λ (hs : List TrackOutcome). Faults why (all_come acts ++ hs)) (same_bytes size bytes after rest is_bytes is_after) fault in
    subst (λ (hs : List TrackOutcome). Faults why hs) by.2 (faults_more why _ _ here)

pub after_track : (size wanted wanted' : ℕ) (rest bytes after : List ℕ) (acts acts' : List TimedData) (all : List TrackOutcome)
    → IsWithinFile size wanted rest acts all
    → 0 < wanted → chunk_cut size rest ≡ None → is_track rest ≡ true → bytes ≡ chunk_bytes rest → after ≡ after_chunk rest → length after < length rest
    → wanted' ≡ wanted - 1
    → all_come acts' ≡ all_come acts ++ track_outcomes (size - length after) bytes
    → IsWithinFile size wanted' after acts' all
after_track size wanted wanted' rest bytes after acts acts' all w some whole track is_bytes is_after shorter one come =
    let by = track_within size wanted rest acts all w some whole track in
    record {
      more = by.0;
      enough = let count : w.more ≡ by.0 + 1 = by.1 in let enough : length rest < w.more = w.enough in omega arith;
      left = ap (λ (hs : List TrackOutcome). hs ++ tracks_outcomes by.0 size wanted' after) (come
          ∙ ap (λ (hs : List TrackOutcome). all_come acts ++ hs) (same_bytes size bytes after rest is_bytes is_after))
          ∙ ap (λ (n : ℕ). (all_come acts ++ track_outcomes (size - length (after_chunk rest)) (chunk_bytes rest)) ++ tracks_outcomes by.0 size n after) one
          ∙ ap (λ (bs : List ℕ). (all_come acts ++ track_outcomes (size - length (after_chunk rest)) (chunk_bytes rest))
          ++ tracks_outcomes by.0 size (wanted - 1) bs) is_after
          ∙ by.2;
    }

-- another chunk
pub after_other : (size wanted wanted' : ℕ) (rest after : List ℕ) (acts acts' : List TimedData) (all : List TrackOutcome)
    → IsWithinFile size wanted rest acts all
    → 0 < wanted → chunk_cut size rest ≡ None → is_track rest ≡ false → after ≡ after_chunk rest → length after < length rest → wanted' ≡ wanted → acts' ≡ acts
    → IsWithinFile size wanted' after acts' all
after_other size wanted wanted' rest after acts acts' all w some whole other is_after shorter one come =
    let first = tracks_first w.more size wanted rest some w.enough in
    let chunks : tracks_in w.more size wanted rest ≡ tracks_in first.0 size wanted (after_chunk rest) = first.2 ∙ rw (whole, other) refl in
    record {
      more = first.0;
      enough = let count : w.more ≡ first.0 + 1 = first.1 in let enough : length rest < w.more = w.enough in omega arith;
      left = ap (λ (es : List TimedData). all_come es ++ tracks_outcomes first.0 size wanted' after) come
          ∙ ap (λ (n : ℕ). all_come acts ++ tracks_outcomes first.0 size n after) one
          ∙ ap (λ (bs : List ℕ). all_come acts ++ tracks_outcomes first.0 size wanted bs) is_after
          ∙ ap (λ (cs : List Chunk). all_come acts ++ flat_map chunk_outcomes cs) (sym chunks) ∙ w.left;
    }

tracks_none : (more size : ℕ) (rest : List ℕ) → tracks_in more size 0 rest ≡ []
unfolding tracks_in
tracks_none zero size rest = refl
tracks_none (suc more) size rest = refl

-- no track is wanted any more
pub all_tracks : (size wanted : ℕ) (rest : List ℕ) (acts : List TimedData) (all : List TrackOutcome) → IsWithinFile size wanted rest acts all
    → wanted ≡ 0 → all_come acts ≡ all
all_tracks size wanted rest acts all w none =
    sym (append-nil (all_come acts))
    ∙ ap (λ (cs : List Chunk). all_come acts ++ flat_map chunk_outcomes cs) (sym (tracks_none w.more size rest))
    ∙ ap (λ (n : ℕ). all_come acts ++ tracks_outcomes w.more size n rest) (sym none)
    ∙ w.left

-- ---- the header

pub good_header : (bytes : List ℕ) → header_fault bytes ≡ None → file_outcomes bytes ≡ tracks_outcomes (length bytes) (length bytes) (track_count bytes)
    (after_chunk bytes)
unfolding file_outcomes
good_header bytes good = rw good refl

bad_first : (bytes : List ℕ) (at : ℕ) (why : ScriptKind) → header_fault bytes ≡ Some (at, why)
    → Faults (faults.Refused (place.Byte at) why) (file_outcomes bytes)
unfolding file_outcomes
bad_first bytes at why bad =
    let is : breaks (header_fault bytes) ≡ Breaks at why ∷ [] = ap breaks bad in
    faults_more (faults.Refused (place.Byte at) why) (breaks (header_fault bytes))
    (tracks_outcomes (length bytes) (length bytes) (track_count bytes) (after_chunk bytes))
    (subst (λ (hs : List TrackOutcome). Faults (faults.Refused (place.Byte at) why) hs) (sym is) (fault_here [] at why))

pub bad_header : (fault : ScriptFault) (bytes : List ℕ) (at : ℕ) (why : ScriptKind) → header_fault bytes ≡ Some (at, why)
    → fault ≡ faults.Refused (place.Byte at) why
    → Faults fault (file_outcomes bytes)
bad_header fault bytes at why bad refused = subst (λ (f : ScriptFault). Faults f (file_outcomes bytes)) (sym refused) (bad_first bytes at why bad)

-- the tracks after a good header are all of the file
pub tracks_are_file : (bytes rest : List ℕ) (size tracks : ℕ) (old : List TimedData) → header_fault bytes ≡ None → rest ≡ after_chunk bytes
    → tracks ≡ track_count bytes → size ≡ length bytes → old ≡ []
    → all_come old ++ tracks_outcomes size size tracks rest ≡ file_outcomes bytes
tracks_are_file bytes rest size tracks old good rest_is tracks_are size_is none =
    ap (λ (es : List TimedData). all_come es ++ tracks_outcomes size size tracks rest) none
    ∙ ap (λ (n : ℕ). tracks_outcomes n n tracks rest) size_is
    ∙ ap (λ (n : ℕ). tracks_outcomes (length bytes) (length bytes) n rest) tracks_are
    ∙ ap (λ (bs : List ℕ). tracks_outcomes (length bytes) (length bytes) (track_count bytes) bs) rest_is
    ∙ sym (good_header bytes good)
