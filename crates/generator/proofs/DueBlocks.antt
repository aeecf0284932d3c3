-- The commands of a script that are due at a block are those between two places.
use Rattle.std.proofs.Common.{◌≡◌, ◌≢◌, ℕ, zero, suc, ◌+◌, ◌-◌, ◌<◌, ◌≤◌, List, [], ◌∷◌, ◌++◌, map, refl, sym, ◌∙◌, ap, subst, arith, append_assoc}
use Rattle.std.specs.Prelude.{◌==◌, Bool, true, false, cond, filter}
use Rattle.std.specs.List.{range_with_len}
use Rattle.std.proofs.lemmas.Bool.{eq-eqb, ne_eqb, cond-true, cond-false}
use Rattle.std.proofs.lemmas.List.{append-nil}
use Rattle.std.proofs.lemmas.List.FromFn.{map-range_with_len_more, filter_of_map_range_with_len_more}
use Rattle.command_set.specs.Entries.{EntryData}
use Rattle.generator.specs.Generated.{due, entry}
use Rattle.generator.specs.Scripts.{AreBefore}
use Rattle.generator.proofs.Generating.{due_more}

due_up : (seed i k : ℕ) → due seed i ≤ due seed (i + k)
due_up seed i zero = let same : due seed (i + 0) ≡ due seed i = ap (due seed) (let e : i + 0 ≡ i = omega arith in e) in omega (arith, same)
due_up seed i (suc k) =
    let rest : due seed i ≤ due seed (i + k) = due_up seed i k in
    let same : due seed (i + suc k) ≡ due seed (i + k + 1) = ap (due seed) (let e : i + suc k ≡ i + k + 1 = omega arith in e) in
    omega (arith, rest, same, due_more seed (i + k))

-- due blocks don't fall
pub due_grows : (seed i j : ℕ) → i ≤ j → due seed i ≤ due seed j
due_grows seed i j up = subst (λ (n : ℕ). due seed i ≤ due seed n) (let e : i + (j - i) ≡ j = omega (arith, up) in e) (due_up seed i (j - i))

abbrev pub is_due : ℕ → EntryData → Bool
is_due b e = e.sent_at == b

-- the first entries of a script that are due at a block
abbrev pub due_of : ℕ → ℕ → ℕ → ℕ → List EntryData
due_of seed number b n = filter (is_due b) (map (entry seed number) (range_with_len 0 n))

one_more : (seed number b n : ℕ) → due_of seed number b (n + 1) ≡ due_of seed number b n ++ cond (due seed n == b) (entry seed number n ∷ []) []
one_more seed number b n = filter_of_map_range_with_len_more (is_due b) (entry seed number) 0 n n (omega arith)

-- commands that are due elsewhere
kept : (seed number b i k : ℕ) → ((j : ℕ) → i ≤ j → j < i + k → due seed j ≢ b) → due_of seed number b (i + k) ≡ due_of seed number b i
kept seed number b i zero never = ap (due_of seed number b) (let e : i + 0 ≡ i = omega arith in e)
kept seed number b i (suc k) never =
    let other : (due seed (i + k) == b) ≡ false = ne_eqb (due seed (i + k)) b (never (i + k) (omega arith) (omega arith)) in
    ap (due_of seed number b) (let e : i + suc k ≡ i + k + 1 = omega arith in e)
    ∙ one_more seed number b (i + k)
    ∙ ap (λ (back : List EntryData). due_of seed number b (i + k) ++ back) (cond-false (due seed (i + k) == b) (entry seed number (i + k) ∷ []) [] other)
    ∙ append-nil (due_of seed number b (i + k))
    ∙ kept seed number b i k (λ j up below. never j up (omega (arith, below)))

-- commands that are due at the block
chosen : (seed number b i k : ℕ) → ((j : ℕ) → i ≤ j → j < i + k → due seed j ≡ b)
    → due_of seed number b (i + k) ≡ due_of seed number b i ++ map (entry seed number) (range_with_len i k)
chosen seed number b i zero always = ap (due_of seed number b) (let e : i + 0 ≡ i = omega arith in e) ∙ sym (append-nil (due_of seed number b i))
chosen seed number b i (suc k) always =
    let here : (due seed (i + k) == b) ≡ true = eq-eqb (due seed (i + k)) b (always (i + k) (omega arith) (omega arith)) in
    let prefix : List EntryData = due_of seed number b i in
    ap (due_of seed number b) (let e : i + suc k ≡ i + k + 1 = omega arith in e)
    ∙ one_more seed number b (i + k)
    ∙ ap (λ (back : List EntryData). due_of seed number b (i + k) ++ back) (cond-true (due seed (i + k) == b) (entry seed number (i + k) ∷ []) [] here)
    ∙ ap (λ (all : List EntryData). all ++ entry seed number (i + k) ∷ []) (chosen seed number b i k (λ j up below. always j up (omega (arith, below))))
    ∙ append_assoc prefix (map (entry seed number) (range_with_len i k)) (entry seed number (i + k) ∷ [])
    ∙ ap (λ (back : List EntryData). prefix ++ back) (sym (map-range_with_len_more (entry seed number) i k (i + k) refl))
    ∙ ap (λ (n : ℕ). prefix ++ map (entry seed number) (range_with_len i n)) (let e : k + 1 ≡ suc k = omega arith in e)

pub due_run : (seed number b n from to : ℕ) → from ≤ to → AreBefore seed n b from → AreBefore seed n (b + 1) to
    → due_of seed number b n ≡ map (entry seed number) (range_with_len from (to - from))
due_run seed number b n from to up first last =
    let high : to ≤ n = last.count in
    let all : due_of seed number b n ≡ due_of seed number b to =
    ap (due_of seed number b) (let e : n ≡ to + (n - to) = omega (arith, high) in e)
    ∙ kept seed number b to (n - to) (λ j behind below at. absurd (omega (arith, due_grows seed to j behind, last.rest (omega (arith, behind, below)), at))) in
    let none : due_of seed number b from ≡ [] =
    ap (due_of seed number b) (let e : from ≡ 0 + from = omega arith in e)
    ∙ kept seed number b 0 from (λ j behind below at. absurd (omega (arith, first.past j (omega (arith, below)), at))) in
    let some : due_of seed number b (from + (to - from)) ≡ due_of seed number b from ++ map (entry seed number) (range_with_len from (to - from)) =
    chosen seed number b from (to - from)
    (λ j behind below. let least : b ≤ due seed from = first.rest (omega (arith, behind, below, high)) in
    let most : due seed j < b + 1 = last.past j (omega (arith, below, up)) in
    omega (arith, least, most, due_grows seed from j behind)) in
    all
    ∙ ap (due_of seed number b) (let e : to ≡ from + (to - from) = omega (arith, up) in e)
    ∙ some
    ∙ ap (λ (prefix : List EntryData). prefix ++ map (entry seed number) (range_with_len from (to - from))) none

pub none_before : (seed n : ℕ) → AreBefore seed n 0 0
none_before seed n = record {
  count = omega arith;
  past = λ j below. absurd (omega (arith, below));
  rest = λ more. omega arith;
}
