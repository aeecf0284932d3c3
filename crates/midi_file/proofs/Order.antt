-- What happens in a file, in the order of ticks.
use Rattle.std.proofs.Common.{◌≡◌, ℕ, suc, ◌<◌, ◌≤◌, List, [], ◌∷◌, length, get_or, Bool, true, false, cond, refl, ap, sym, ◌∙◌, arith, lt-ltb}
use Rattle.std.proofs.Common.{ltb-true, leb-true, leb-false}
use Rattle.std.proofs.lemmas.Bool.{le-ltb}
use Rattle.std.specs.Prelude.{filter, nat_lt, nat_le, ◌==◌, not, ◌&&◌}
use Rattle.std.specs.List.Sorted.{IsNonDecreasingBy, IsStableByKey, ties}
use Rattle.std.specs.Ordering.{is_lt, nat_cmp}
use Rattle.std.specs.declared.cmp.Ordering.TheVariants.{Less, Equal, Greater}
use Rattle.midi_file.specs.Track.{TimedData}
use Rattle.midi_file.specs.File.{IsInTime, in_order, put_in_order}

-- ---- an act in its place

put_in_time : (least : ℕ) (e : TimedData) (es : List TimedData) → least ≤ e.tick → IsInTime least es → IsInTime least (put_in_order e es)
unfolding put_in_order
put_in_time least e [] low time = (low, tt)
put_in_time least e (f ∷ later) low time = by_test (nat_le e.tick f.tick) refl (λ (above : f.tick ≤ e.tick). put_in_time f.tick e later above time.1)
  where
    by_test : (t : Bool) → nat_le e.tick f.tick ≡ t → (f.tick ≤ e.tick → IsInTime f.tick (put_in_order e later))
        → IsInTime least (cond t (e ∷ f ∷ later) (f ∷ put_in_order e later))
    by_test true is put = (low, (leb-true e.tick f.tick is, time.1))
    by_test false is put =
        let above : f.tick < e.tick = leb-false e.tick f.tick is in
        (time.0, put (omega arith))

pub order_in_time : (es : List TimedData) → IsInTime 0 (in_order es)
unfolding in_order
order_in_time [] = tt
order_in_time (e ∷ later) = put_in_time 0 e (in_order later) (omega arith) (order_in_time later)

-- ---- those of one tick

abbrev less : TimedData → TimedData → Bool
less x y = is_lt (nat_cmp x.tick y.tick)

by_compare : (t u : Bool) → is_lt (cond t Less (cond u Equal Greater)) ≡ t
by_compare true u = refl
by_compare false true = refl
by_compare false false = refl

less_is : (x y : TimedData) → less x y ≡ nat_lt x.tick y.tick
less_is x y = by_compare (nat_lt x.tick y.tick) (x.tick == y.tick)

-- acts of one tick, and of two
pub tied : (x y : TimedData) → x.tick ≡ y.tick → ties less x y ≡ true
tied x y e =
    let a : less x y ≡ false = less_is x y ∙ le-ltb x.tick y.tick (omega arith) in
    let b : less y x ≡ false = less_is y x ∙ le-ltb y.tick x.tick (omega arith) in
    rw (a, b) refl

apart_below : (x y : TimedData) → x.tick < y.tick → ties less x y ≡ false
apart_below x y below =
    let a : less x y ≡ true = less_is x y ∙ lt-ltb x.tick y.tick below in
    rw a refl

by_and : (s t : Bool) → s && t ≡ true → (s ≡ true) × (t ≡ true)
by_and true t e = (refl, e)
by_and false t e = absurd (cc)

not_true : (t : Bool) → not t ≡ true → t ≡ false
not_true true e = absurd (cc)
not_true false e = refl

tied_ticks : (x y : TimedData) → ties less x y ≡ true → x.tick ≡ y.tick
tied_ticks x y e =
    let both = by_and (not (less x y)) (not (less y x)) e in
    let a : y.tick ≤ x.tick = ltb_false (sym (less_is x y) ∙ not_true _ both.0) in
    let b : x.tick ≤ y.tick = ltb_false (sym (less_is y x) ∙ not_true _ both.1) in
    omega arith
  where
    ltb_false : {m n : ℕ} → nat_lt m n ≡ false → n ≤ m
    ltb_false {m = m} {n = n} is = search (arith, is)

keep : (p : TimedData → Bool) (e : TimedData) (es : List TimedData) → p e ≡ true → filter p (e ∷ es) ≡ e ∷ filter p es
keep p e es is = rw is refl

skip : (p : TimedData → Bool) (e : TimedData) (es : List TimedData) → p e ≡ false → filter p (e ∷ es) ≡ filter p es
skip p e es is = rw is refl

passed_by : (p : TimedData → Bool) (e f : TimedData) (later es : List TimedData) → filter p es ≡ filter p (e ∷ later)
    → (p e ≡ true → p f ≡ true → ⊥) → filter p (f ∷ es) ≡ filter p (e ∷ f ∷ later)
passed_by p e f later es same apart = by_tests (p e) (p f) refl refl
  where
    by_tests : (s t : Bool) → p e ≡ s → p f ≡ t → filter p (f ∷ es) ≡ filter p (e ∷ f ∷ later)
    by_tests true true x y = absurd (apart x y)
    by_tests true false x y = skip p f es y ∙ same ∙ keep p e later x ∙ ap (λ (r : List TimedData). e ∷ r) (sym (skip p f later y))
        ∙ sym (keep p e (f ∷ later) x)
    by_tests false true x y = keep p f es y ∙ ap (λ (r : List TimedData). f ∷ r) (same ∙ skip p e later x) ∙ sym (keep p f later y)
        ∙ sym (skip p e (f ∷ later) x)
    by_tests false false x y = skip p f es y ∙ same ∙ skip p e later x ∙ sym (skip p f later y) ∙ sym (skip p e (f ∷ later) x)

put_keeps : (x e : TimedData) (es : List TimedData) → filter (ties less x) (put_in_order e es) ≡ filter (ties less x) (e ∷ es)
unfolding put_in_order
put_keeps x e [] = refl
put_keeps x e (f ∷ later) = by_test (nat_le e.tick f.tick) refl (put_keeps x e later)
  where
    by_test : (t : Bool) → nat_le e.tick f.tick ≡ t → filter (ties less x) (put_in_order e later) ≡ filter (ties less x) (e ∷ later)
        → filter (ties less x) (cond t (e ∷ f ∷ later) (f ∷ put_in_order e later)) ≡ filter (ties less x) (e ∷ f ∷ later)
    by_test true is keeps = refl
    by_test false is keeps =
        let above : f.tick < e.tick = leb-false e.tick f.tick is in
        passed_by (ties less x) e f later (put_in_order e later) keeps
        (λ a b. let ea : x.tick ≡ e.tick = tied_ticks x e a in let eb : x.tick ≡ f.tick = tied_ticks x f b in absurd (omega arith))

order_keeps : (x : TimedData) (es : List TimedData) → filter (ties less x) (in_order es) ≡ filter (ties less x) es
unfolding in_order
order_keeps x [] = refl
order_keeps x (e ∷ later) = put_keeps x e (in_order later) ∙ by_test (ties less x e) refl (order_keeps x later)
  where
    by_test : (t : Bool) → ties less x e ≡ t → filter (ties less x) (in_order later) ≡ filter (ties less x) later
        → filter (ties less x) (e ∷ in_order later) ≡ filter (ties less x) (e ∷ later)
    by_test true is keeps = keep (ties less x) e (in_order later) is ∙ ap (λ (r : List TimedData). e ∷ r) keeps ∙ sym (keep (ties less x) e later is)
    by_test false is keeps = skip (ties less x) e (in_order later) is ∙ keeps ∙ sym (skip (ties less x) e later is)

-- ---- one order alone

none_above : (x : TimedData) (least : ℕ) (es : List TimedData) → x.tick < least → IsInTime least es → filter (ties less x) es ≡ []
none_above x least [] below time = refl
none_above x least (e ∷ later) below time =
    skip (ties less x) e later (apart_below x e (let low : least ≤ e.tick = time.0 in omega arith))
    ∙ none_above x e.tick later (let low : least ≤ e.tick = time.0 in omega arith) time.1

not_above : (x y : TimedData) (xs ys : List TimedData) → IsInTime y.tick (y ∷ ys) → filter (ties less x) (x ∷ xs) ≡ filter (ties less x) (y ∷ ys)
    → y.tick ≤ x.tick
not_above x y xs ys time same = by_test (nat_lt x.tick y.tick) refl
  where
    by_test : (t : Bool) → nat_lt x.tick y.tick ≡ t → y.tick ≤ x.tick
    by_test true is =
        let empty : filter (ties less x) (y ∷ ys) ≡ [] = none_above x y.tick (y ∷ ys) (ltb-true x.tick y.tick is) time in
        let some : filter (ties less x) (x ∷ xs) ≡ x ∷ filter (ties less x) xs = keep (ties less x) x xs (tied x x refl) in
        absurd (cc)
    by_test false is = search (arith, is)

one_order : (least bottom : ℕ) (xs ys : List TimedData) → IsInTime least xs → IsInTime bottom ys
    → ((z : TimedData) → filter (ties less z) xs ≡ filter (ties less z) ys) → xs ≡ ys
one_order least bottom [] [] a b same = refl
one_order least bottom [] (y ∷ ys) a b same =
    let some : filter (ties less y) (y ∷ ys) ≡ y ∷ filter (ties less y) ys = keep (ties less y) y ys (tied y y refl) in
    let is : filter (ties less y) [] ≡ filter (ties less y) (y ∷ ys) = same y in
    absurd (cc)
one_order least bottom (x ∷ xs) [] a b same =
    let some : filter (ties less x) (x ∷ xs) ≡ x ∷ filter (ties less x) xs = keep (ties less x) x xs (tied x x refl) in
    let is : filter (ties less x) (x ∷ xs) ≡ filter (ties less x) [] = same x in
    absurd (cc)
one_order least bottom (x ∷ xs) (y ∷ ys) a b same =
    let low : y.tick ≤ x.tick = not_above x y xs ys (omega arith, b.1) (same x) in
    let high : x.tick ≤ y.tick = not_above y x ys xs (omega arith, a.1) (sym (same y)) in
    let first : filter (ties less x) (x ∷ xs) ≡ x ∷ filter (ties less x) xs = keep (ties less x) x xs (tied x x refl) in
    let second : filter (ties less x) (y ∷ ys) ≡ y ∷ filter (ties less x) ys = keep (ties less x) y ys (tied x y (omega arith)) in
    let is : filter (ties less x) (x ∷ xs) ≡ filter (ties less x) (y ∷ ys) = same x in
    let head : x ≡ y = cc in
    let tail : xs ≡ ys = one_order x.tick y.tick xs ys a.1 b.1 (λ z. tails z head) in
    cc
  where
    tails : (z : TimedData) → x ≡ y → filter (ties less z) xs ≡ filter (ties less z) ys
    tails z head = by_test (ties less z x) refl
      where
        same_y : ties less z x ≡ ties less z y
        same_y = ap (ties less z) head

        by_test : (t : Bool) → ties less z x ≡ t → filter (ties less z) xs ≡ filter (ties less z) ys
        by_test true is =
            let one : filter (ties less z) (x ∷ xs) ≡ x ∷ filter (ties less z) xs = keep (ties less z) x xs is in
            let two : filter (ties less z) (y ∷ ys) ≡ y ∷ filter (ties less z) ys = keep (ties less z) y ys (sym same_y ∙ is) in
            let all : filter (ties less z) (x ∷ xs) ≡ filter (ties less z) (y ∷ ys) = same z in
            cc
        by_test false is = sym (skip (ties less z) x xs is) ∙ same z ∙ skip (ties less z) y ys (sym same_y ∙ is)

-- ticks that don't fall
rises : (least : ℕ) (es : List TimedData) → ((d : TimedData) → 0 < length es → least ≤ (get_or es 0 d).tick)
    → IsNonDecreasingBy (λ (e : TimedData). e.tick) es → IsInTime least es
rises least [] low up = tt
rises least (e ∷ later) low up = (
  low e (omega arith),
  rises e.tick later (λ d some. up 0 1 d (omega arith) (omega arith)) (λ i j d le below. up (suc i) (suc j) d (omega arith) (omega arith)),
)

pub rises_in_time : (es : List TimedData) → IsNonDecreasingBy (λ (e : TimedData). e.tick) es → IsInTime 0 es
rises_in_time es up = rises 0 es (λ d some. omega arith) up

-- a stable sort by the tick
pub sorted_is : (old new : List TimedData) → IsNonDecreasingBy (λ (e : TimedData). e.tick) new → IsStableByKey (λ (e : TimedData). e.tick) nat_cmp old new
    → new ≡ in_order old
sorted_is old new up stable = one_order 0 0 new (in_order old) (rises_in_time new up) (order_in_time old) (λ z. stable z ∙ sym (order_keeps z old))
