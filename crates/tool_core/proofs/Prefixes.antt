-- Files compared chunk by chunk.
use Rattle.std.proofs.Common.{◌≡◌, ◌≢◌, inl, inr, ℕ, zero, suc, ◌+◌, ◌-◌, ◌<◌, ◌≤◌, min, List, [], ◌∷◌, ◌++◌, length, take, drop, get_or, refl, sym}
use Rattle.std.proofs.Common.{◌∙◌, ap, subst, arith, append_assoc, append-nil, length-append, length-drop}
use Rattle.std.specs.Prelude.{Option, Some, None, IfNone, IfSome, IsSomeAnd, unwrap_or, slice_get}
use Rattle.std.specs.FinMap.{get}
use Rattle.std.proofs.Math.Seq.{take-add, take-append-add, take-append_seam, drop-append_seam, drop-nil}
use Rattle.std.proofs.lemmas.List.{take-append-drop, take-append-le, length-take, length-take-le, take_all}
use Rattle.std.proofs.lemmas.Option.{slice_get_past, slice_get-get_or}
use Rattle.outside.specs.Files.{Files, ReadsFrom, file_of}
use Rattle.tool_core.specs.declared.comparison.Comparison.{Comparison}
use Rattle.tool_core.specs.declared.comparison.Comparison.TheVariants.{Same, Differs}
use Rattle.tool_core.specs.Comparisons.{DiffersAt, GoesOn, IsPrefix, IsStep, IsWhole, IsWithin}

-- ---- bytes at an offset
get_after : (prefix a : List ℕ) (i : ℕ) → slice_get (prefix ++ a) (length prefix + i) ≡ slice_get a i
get_after [] a i = ap (slice_get a) (let e : length {A = ℕ} [] + i ≡ i = omega arith in e)
get_after (x ∷ prefix) a i =
    ap (slice_get (x ∷ (prefix ++ a))) (let e : length (x ∷ prefix) + i ≡ suc (length prefix + i) = omega arith in e) ∙ get_after prefix a i

get_prefix : (a more : List ℕ) (i : ℕ) → i < length a → slice_get (a ++ more) i ≡ slice_get a i
get_prefix [] more i below = absurd (omega arith)
get_prefix (x ∷ a) more zero below = refl
get_prefix (x ∷ a) more (suc i) below = get_prefix a more i (omega arith)

get_taken : (n : ℕ) (a : List ℕ) (i : ℕ) → i < n → slice_get (take n a) i ≡ slice_get a i
get_taken zero a i below = absurd (omega arith)
get_taken (suc n) [] i below = refl
get_taken (suc n) (x ∷ a) zero below = refl
get_taken (suc n) (x ∷ a) (suc i) below = get_taken n a i (omega arith)

take_taken : (n : ℕ) (a : List ℕ) (i : ℕ) → i ≤ n → take i (take n a) ≡ take i a
take_taken n a zero below = refl
take_taken zero a (suc i) below = absurd (omega arith)
take_taken (suc n) [] (suc i) below = refl
take_taken (suc n) (x ∷ a) (suc i) below = ap (λ (l : List ℕ). x ∷ l) (take_taken n a i (omega arith))

-- ---- after a prefix, and before more
pub differs_after : (prefix a b : List ℕ) (i : ℕ) → DiffersAt a b i → DiffersAt (prefix ++ a) (prefix ++ b) (length prefix + i)
differs_after prefix a b i d = record {
  prefix = take-append-add prefix a i ∙ ap (λ (l : List ℕ). prefix ++ l) d.prefix ∙ sym (take-append-add prefix b i);
  differs = λ e. d.differs (sym (get_after prefix a i) ∙ e ∙ get_after prefix b i);
}

pub differs_before : (a b more : List ℕ) (i : ℕ) → i < length b → DiffersAt a b i → DiffersAt a (b ++ more) i
differs_before a b more i below d = record {
  prefix = d.prefix ∙ sym (take-append-le i b more (omega arith));
  differs = λ e. d.differs (e ∙ get_prefix b more i below);
}

-- ---- the bytes that one read gives
pub chunk_differs : (chunk rest wanted : List ℕ) (i x y : ℕ) → take (length chunk) rest ≡ chunk → take i chunk ≡ take i wanted
    → i < length chunk → i < length wanted → x ≡ get_or chunk i x → y ≡ get_or wanted i y → x ≢ y → DiffersAt rest wanted i
chunk_differs chunk rest wanted i x y is same low below at_x at_y other = record {
  prefix = sym (take_taken (length chunk) rest i (omega arith)) ∙ ap (take i) is ∙ same;
  differs = λ e.
      let left : slice_get rest i ≡ Some (get_or chunk i x) =
      sym (get_taken (length chunk) rest i low) ∙ ap (λ (l : List ℕ). slice_get l i) is ∙ slice_get-get_or chunk i x low in
      let right : slice_get wanted i ≡ Some (get_or wanted i y) = slice_get-get_or wanted i y below in
      other (cc);
}

pub chunk_same : (chunk rest wanted : List ℕ) (size : ℕ) → take (length chunk) rest ≡ chunk → size ≤ length chunk → take size chunk ≡ take size wanted
    → take size rest ≡ take size wanted
chunk_same chunk rest wanted size is low same = sym (take_taken (length chunk) rest size low) ∙ ap (take size) is ∙ same

pub ended_differs : (rest wanted : List ℕ) → length rest ≡ 0 → 0 < length wanted → DiffersAt rest wanted 0
ended_differs rest wanted none some = record {
  prefix = refl;
  differs = λ e.
      let left : slice_get rest 0 ≡ None = slice_get_past rest 0 (omega arith) in
      let right : slice_get wanted 0 ≡ Some (get_or wanted 0 0) = slice_get-get_or wanted 0 0 some in
      cc;
}

pub read_known : (o : Option Files) (name file buffer : List ℕ) (at count : ℕ) → file_of o name ≡ Some file
    → IfSome o (λ told. IsSomeAnd (get told name) (λ f. ReadsFrom f at count buffer)) → ReadsFrom file at count buffer
read_known None name file buffer at count is reads = absurd (cc)
read_known (Some told) name file buffer at count is reads =
    let h : IsSomeAnd (Some file) (λ f. ReadsFrom f at count buffer) = subst (λ (o : Option (List ℕ)).
    IsSomeAnd o (λ f. ReadsFrom f at count buffer)) is reads in h

pub read_bytes : (file buffer chunk : List ℕ) (at count : ℕ) → ReadsFrom file at count buffer → count ≤ length buffer → chunk ≡ take count buffer
    → take (length chunk) (drop at file) ≡ chunk
read_bytes file buffer chunk at count reads fits is =
    let size : length chunk ≡ count = ap length is ∙ length-take-le count buffer fits in
    ap (λ (n : ℕ). take n (drop at file)) size ∙ sym reads.bytes ∙ sym is

pub read_end : (file buffer chunk : List ℕ) (at count : ℕ) → ReadsFrom file at count buffer → count ≤ length buffer → 0 < length buffer
    → chunk ≡ take count buffer
    → length chunk ≡ 0 → length (drop at file) ≡ 0
read_end file buffer chunk at count reads fits room is none =
    let size : length chunk ≡ count = ap length is ∙ length-take-le count buffer fits in
    elim (reads.ended.0 (sym size ∙ none)) [
      | inl no_room ↦ absurd (omega arith)
      | inr past ↦ (let h : length (drop at file) ≡ 0 =
          omega (arith, length-drop at file) in h)
    ]

-- ---- a chunk, step by step
drop_drop : (n m : ℕ) (a : List ℕ) → drop m (drop n a) ≡ drop (n + m) a
drop_drop zero m a = ap (λ (k : ℕ). drop k a) (let e : m ≡ 0 + m = omega arith in e)
drop_drop (suc n) m [] = ap (drop m) (drop-nil {A = ℕ} (suc n)) ∙ drop-nil {A = ℕ} m ∙ sym (drop-nil {A = ℕ} (suc n + m))
drop_drop (suc n) m (x ∷ a) = drop_drop n m a ∙ ap (λ (k : ℕ). drop k (x ∷ a)) (let e : suc (n + m) ≡ suc n + m = omega arith in e)

-- the rest of a chunk, as the code cuts it off
rest_of : (chunk wanted : List ℕ) (done : ℕ) → wanted ≡ take (length chunk - done) (drop done chunk) → wanted ≡ drop done chunk
rest_of chunk wanted done is = is ∙ take_all (length chunk - done) (drop done chunk) (omega (arith, length-drop done chunk))

pub sound_chunk_more : (file chunk wanted : List ℕ) (at done count : ℕ) → wanted ≡ take (length chunk - done) (drop done chunk)
    → take done (drop at file) ≡ take done chunk → take count (drop (at + done) file) ≡ take count wanted
    → take (done + count) (drop at file) ≡ take (done + count) chunk
sound_chunk_more file chunk wanted at done count is same step =
    take-add done count (drop at file)
    ∙ ap (λ (l : List ℕ). take done (drop at file) ++ take count l) (drop_drop at done file)
    ∙ ap (λ (l : List ℕ). take done (drop at file) ++ l) (step ∙ ap (take count) (rest_of chunk wanted done is))
    ∙ ap (λ (l : List ℕ). l ++ take count (drop done chunk)) same
    ∙ sym (take-add done count chunk)

pub sound_chunk_differs : (file chunk wanted : List ℕ) (at done offset : ℕ) → wanted ≡ take (length chunk - done) (drop done chunk) → done ≤ length chunk
    → take done (drop at file) ≡ take done chunk → DiffersAt (drop (at + done) file) wanted offset
    → DiffersAt (drop at file) chunk (done + offset)
sound_chunk_differs file chunk wanted at done offset is low same step =
    let size : length (take done chunk) ≡ done = length-take-le done chunk low in
    let left : take done chunk ++ drop (at + done) file ≡ drop at file =
    ap (λ (l : List ℕ). l ++ drop (at + done) file) (sym same) ∙ ap (λ (l : List ℕ). take done (drop at file) ++ l) (sym (drop_drop at done file))
    ∙ take-append-drop done (drop at file) in
    let right : take done chunk ++ wanted ≡ chunk =
    ap (λ (l : List ℕ). take done chunk ++ l) (rest_of chunk wanted done is) ∙ take-append-drop done chunk in
    let whole : DiffersAt (take done chunk ++ drop (at + done) file) (take done chunk ++ wanted) (length (take done chunk) + offset) =
    differs_after (take done chunk) (drop (at + done) file) wanted offset step in
    subst (λ (n : ℕ). DiffersAt (drop at file) chunk (n + offset)) size
    (subst (λ (l : List ℕ). DiffersAt (drop at file) l (length (take done chunk) + offset)) right
    (subst (λ (l : List ℕ). DiffersAt l (take done chunk ++ wanted) (length (take done chunk) + offset)) left whole))

pub sound_chunk_whole : (file chunk : List ℕ) (at done : ℕ) → done ≡ length chunk → take done (drop at file) ≡ take done chunk
    → IsPrefix (drop at file) chunk None
sound_chunk_whole file chunk at done is same = (
  drop done (drop at file),
  sym (take-append-drop done (drop at file)) ∙ ap (λ (l : List ℕ). l ++ drop done (drop at file)) (same ∙ take_all done chunk (omega arith)),
)

-- ---- a file, chunk by chunk
rest_after : (file prefix rest : List ℕ) (at : ℕ) → file ≡ prefix ++ rest → at ≡ length prefix → drop at file ≡ rest
rest_after file prefix rest at is size = ap (λ (n : ℕ). drop n file) size ∙ ap (drop (length prefix)) is ∙ drop-append_seam prefix rest

pub prefix_more : (file prefix chunk : List ℕ) (at : ℕ) → IsPrefix file prefix None → at ≡ length prefix → IsPrefix (drop at file) chunk None
    → IsPrefix file (prefix ++ chunk) None
prefix_more file prefix chunk at (rest, is) size (more, next) =
    (more, is ∙ ap (λ (l : List ℕ). prefix ++ l) (sym (rest_after file prefix rest at is size) ∙ next) ∙ sym (append_assoc prefix chunk more))

pub prefix_differs : (file prefix chunk more : List ℕ) (at offset : ℕ) → IsPrefix file prefix None → at ≡ length prefix
    → IsPrefix (drop at file) chunk (Some offset)
    → IsPrefix file ((prefix ++ chunk) ++ more) (Some (at + offset))
prefix_differs file prefix chunk more at offset (rest, is) size (below, d) =
    let left : prefix ++ drop at file ≡ file = ap (λ (l : List ℕ). prefix ++ l) (rest_after file prefix rest at is size) ∙ sym is in
    let whole : DiffersAt (prefix ++ drop at file) (prefix ++ chunk) (length prefix + offset) = differs_after prefix (drop at file) chunk offset d in
    let at_it : DiffersAt file (prefix ++ chunk) (at + offset) =
    subst (λ (n : ℕ). DiffersAt file (prefix ++ chunk) (n + offset)) (sym size)
    (subst (λ (l : List ℕ). DiffersAt l (prefix ++ chunk) (length prefix + offset)) left whole) in
    let low : at + offset < length (prefix ++ chunk) = omega (arith, length-append prefix chunk) in (
      let l : at + offset < length ((prefix ++ chunk) ++ more) = omega (arith, length-append (prefix ++ chunk) more) in
          l,
      differs_before file (prefix ++ chunk) more (at + offset) low at_it,
    )

pub first_differs : (file chunk more : List ℕ) (offset : ℕ) → IsPrefix (drop 0 file) chunk (Some offset) → IsPrefix file (chunk ++ more) (Some offset)
first_differs file chunk more offset (below, d) =
    (let l : offset < length (chunk ++ more) = omega (arith, length-append chunk more) in l, differs_before file chunk more offset below d)

-- ---- the whole file
pub known_within : (file whole : List ℕ) (offset : Option ℕ) (size : ℕ) → size ≡ length whole → IsPrefix file whole offset → unwrap_or offset size ≤ length file
known_within file whole None size is (rest, same) = omega (arith, ap length same, length-append whole rest)
known_within file whole (Some offset) size is (below, d) =
    let left : length (take offset file) ≡ min offset (length file) = length-take offset file in
    let right : length (take offset whole) ≡ offset = length-take-le offset whole (omega arith) in
    let e : length (take offset file) ≡ length (take offset whole) = ap length d.prefix in
    omega arith

pub goes_past : (file whole : List ℕ) (size count : ℕ) → size ≡ length whole → count ≡ length file → size < count → IsPrefix file whole None
    → DiffersAt file whole size
goes_past file whole size count is ends past (rest, same) = record {
  prefix = ap (λ (n : ℕ). take n file) is ∙ ap (take (length whole)) same ∙ take-append_seam whole rest ∙ sym (take_all size whole (omega arith));
  differs = λ e.
      let left : slice_get file size ≡ Some (get_or file size 0) = slice_get-get_or file size 0 (omega arith) in
      let right : slice_get whole size ≡ None = slice_get_past whole size (omega arith) in
      cc;
}

none : (rest : List ℕ) → length rest ≡ 0 → rest ≡ []
none [] e = refl
none (x ∷ rest) e = absurd (omega arith)

pub ends_there : (file whole : List ℕ) (size count : ℕ) → size ≡ length whole → count ≡ length file → count ≤ size → IsPrefix file whole None → file ≡ whole
ends_there file whole size count is ends low (rest, same) =
    same ∙ ap (λ (l : List ℕ). whole ++ l) (none rest (omega (arith, ap length same, length-append whole rest))) ∙ append-nil whole

-- ---- what an answer tells, where it is known which one it is
pub prefix_at : (o : Option ℕ) (file prefix : List ℕ) (known : Option ℕ) → o ≡ known → IsPrefix file prefix o → IsPrefix file prefix known
prefix_at o file prefix known is h = subst (λ (r : Option ℕ). IsPrefix file prefix r) is h

pub step_same : (step : Comparison) (count : ℕ) (file prefix : List ℕ) → step ≡ Same count → IsStep step file prefix → take count file ≡ take count prefix
step_same step count file prefix is h = let k : IsStep (Same count) file prefix = subst (λ (s : Comparison). IsStep s file prefix) is h in k

pub step_differs : (step : Comparison) (offset : ℕ) (file prefix : List ℕ) → step ≡ Differs offset → IsStep step file prefix → DiffersAt file prefix offset
step_differs step offset file prefix is h = let k : IsStep (Differs offset) file prefix = subst (λ (s : Comparison). IsStep s file prefix) is h in k

pub same_within : (step : Comparison) (count most : ℕ) → step ≡ Same count → IsWithin step most → count ≤ most
same_within step count most is h = let k : IsWithin (Same count) most = subst (λ (s : Comparison). IsWithin s most) is h in k.1

pub differs_within : (step : Comparison) (offset most : ℕ) → step ≡ Differs offset → IsWithin step most → offset < most
differs_within step offset most is h = let k : IsWithin (Differs offset) most = subst (λ (s : Comparison). IsWithin s most) is h in k

pub goes_same : (step : Comparison) (count before now : ℕ) → step ≡ Same count → GoesOn step before now → now ≡ before + count
goes_same step count before now is h = let k : GoesOn (Same count) before now = subst (λ (s : Comparison). GoesOn s before now) is h in k

pub none_is : (o : Option ℕ) (P : Type 0) → o ≡ None → IfNone o P → P
none_is None P is h = h
none_is (Some x) P is h = absurd (cc)

-- a read whose bytes are all the same went on by as many
pub went_on : (step : Comparison) (size before now count : ℕ) → IsWhole step size → size ≡ count → now ≡ before + count → GoesOn step before now
went_on (Same n) size before now count whole is on = omega (arith, whole, is, on)
went_on (Differs offset) size before now count whole is on = tt
