-- What the numbers of a generator make of the next command.
use Rattle.std.proofs.Common.{◌≡◌, ℕ, ◌+◌, ◌<◌, ◌≤◌, refl, sym, ◌∙◌, ap, arith, add-one}
use Rattle.std.specs.Prelude.{nat_lt, true, false}
use Rattle.std.proofs.lemmas.Bool.{lt-ltb, le-ltb, cond-true, cond-false}
use Rattle.voice_record.specs.Voice.{greatest_value}
use Rattle.command_set.specs.Command.{StartsNote, EndsNote, SetsParameter}
use Rattle.generator.specs.Lcg.{next, state, below, number_at}
use Rattle.generator.specs.Generated.{kind, command_at, numbers_at, numbers_before, due}

next_state : (seed k : ℕ) → state seed (k + 1) ≡ next (state seed k)
unfolding state
next_state seed k = rw add-one refl

-- one number_at more
state_on : (seed k j x y : ℕ) → x ≡ state seed k → k + 1 ≡ j → y ≡ next x → y ≡ state seed j
state_on seed k j x y at up is = is ∙ ap next at ∙ sym (next_state seed k) ∙ ap (state seed) up

pub begins : (seed x later : ℕ) → x ≡ next seed → later ≡ below 8 x → (x ≡ state seed (numbers_before seed 0 + 1)) × (later ≡ due seed 0)
unfolding state numbers_before due
begins seed x later is value = (is, value ∙ ap (below 8) is)

-- a note

pub note_is : (seed p x0 x1 x2 x3 k key velocity : ℕ) → x0 ≡ state seed (p + 1) → x1 ≡ next x0 → k ≡ below 8 x1 → k < 4
    → x2 ≡ next x1 → key ≡ below 60 x2 → x3 ≡ next x2 → velocity ≡ below 127 x3
    → (StartsNote 0 (36 + key) (1 + velocity) ≡ command_at seed p) × (x3 ≡ state seed (p + numbers_at seed p))
unfolding command_at numbers_at
note_is seed p x0 x1 x2 x3 k key velocity at is1 isk low is2 iskey is3 isvelocity =
    let s1 : x1 ≡ state seed (p + 2) = state_on seed (p + 1) (p + 2) x0 x1 at (omega arith) is1 in
    let s2 : x2 ≡ state seed (p + 3) = state_on seed (p + 2) (p + 3) x1 x2 s1 (omega arith) is2 in
    let s3 : x3 ≡ state seed (p + 4) = state_on seed (p + 3) (p + 4) x2 x3 s2 (omega arith) is3 in
    let same : k ≡ kind seed p = isk ∙ ap (below 8) s1 in
    let test : nat_lt (kind seed p) 4 ≡ true = lt-ltb (kind seed p) 4 (omega (arith, same, low)) in
    let keys : key ≡ number_at seed (p + 3) 60 = iskey ∙ ap (below 60) s2 in
    let velocities : velocity ≡ number_at seed (p + 4) 127 = isvelocity ∙ ap (below 127) s3 in (
      ap (λ (n : ℕ). StartsNote 0 (36 + n) (1 + velocity)) keys
          ∙ ap (λ (n : ℕ). StartsNote 0 (36 + number_at seed (p + 3) 60) (1 + n)) velocities
          ∙ sym (cond-true (nat_lt (kind seed p) 4) _ _ test),
      s3 ∙ ap (λ (n : ℕ). state seed (p + n)) (sym (cond-true (nat_lt (kind seed p) 4) 4 3 test)),
    )

-- a release

pub release_is : (seed p x0 x1 x2 k key : ℕ) → x0 ≡ state seed (p + 1) → x1 ≡ next x0 → k ≡ below 8 x1 → 4 ≤ k → k < 7
    → x2 ≡ next x1 → key ≡ below 60 x2
    → (EndsNote 0 (36 + key) ≡ command_at seed p) × (x2 ≡ state seed (p + numbers_at seed p))
unfolding command_at numbers_at
release_is seed p x0 x1 x2 k key at is1 isk high low is2 iskey =
    let s1 : x1 ≡ state seed (p + 2) = state_on seed (p + 1) (p + 2) x0 x1 at (omega arith) is1 in
    let s2 : x2 ≡ state seed (p + 3) = state_on seed (p + 2) (p + 3) x1 x2 s1 (omega arith) is2 in
    let same : k ≡ kind seed p = isk ∙ ap (below 8) s1 in
    let first : nat_lt (kind seed p) 4 ≡ false = le-ltb (kind seed p) 4 (omega (arith, same, high)) in
    let second : nat_lt (kind seed p) 7 ≡ true = lt-ltb (kind seed p) 7 (omega (arith, same, low)) in (
      ap (λ (n : ℕ). EndsNote 0 (36 + n)) (iskey ∙ ap (below 60) s2)
          ∙ sym (cond-true (nat_lt (kind seed p) 7) _ _ second)
          ∙ sym (cond-false (nat_lt (kind seed p) 4) _ _ first),
      s2 ∙ ap (λ (n : ℕ). state seed (p + n)) (sym (cond-false (nat_lt (kind seed p) 4) 4 3 first)),
    )

-- an algorithm

pub algorithm_is : (seed p x0 x1 x2 k number : ℕ) → x0 ≡ state seed (p + 1) → x1 ≡ next x0 → k ≡ below 8 x1 → 7 ≤ k
    → x2 ≡ next x1 → number ≡ below 32 x2
    → (SetsParameter 134 number ≡ command_at seed p) × (x2 ≡ state seed (p + numbers_at seed p))
unfolding command_at numbers_at
algorithm_is seed p x0 x1 x2 k number at is1 isk high is2 isnumber =
    let s1 : x1 ≡ state seed (p + 2) = state_on seed (p + 1) (p + 2) x0 x1 at (omega arith) is1 in
    let s2 : x2 ≡ state seed (p + 3) = state_on seed (p + 2) (p + 3) x1 x2 s1 (omega arith) is2 in
    let same : k ≡ kind seed p = isk ∙ ap (below 8) s1 in
    let first : nat_lt (kind seed p) 4 ≡ false = le-ltb (kind seed p) 4 (omega (arith, same, high)) in
    let second : nat_lt (kind seed p) 7 ≡ false = le-ltb (kind seed p) 7 (omega (arith, same, high)) in (
      ap (λ (n : ℕ). SetsParameter 134 n) (isnumber ∙ ap (below 32) s2)
          ∙ sym (cond-false (nat_lt (kind seed p) 7) _ _ second)
          ∙ sym (cond-false (nat_lt (kind seed p) 4) _ _ first),
      s2 ∙ ap (λ (n : ℕ). state seed (p + n)) (sym (cond-false (nat_lt (kind seed p) 4) 4 3 first)),
    )

pub algorithm_fits : (number : ℕ) → number < 32 → number ≤ greatest_value 134
unfolding greatest_value
algorithm_fits number low = omega (arith, low)

-- the command after it

numbers_before_more : (seed i : ℕ) → numbers_before seed (i + 1) ≡ numbers_before seed i + numbers_at seed (numbers_before seed i)
unfolding numbers_before
numbers_before_more seed i = rw add-one refl

pub due_more : (seed i : ℕ) → due seed (i + 1) ≡ due seed i + number_at seed (numbers_before seed (i + 1) + 1) 8
unfolding due
due_more seed i = rw add-one refl

pub goes_on : (seed i x y before later : ℕ) → x ≡ state seed (numbers_before seed i + numbers_at seed (numbers_before seed i)) → y ≡ next x → later ≡ below 8 y
    → before ≡ due seed i
    → (y ≡ state seed (numbers_before seed (i + 1) + 1)) × (before + later ≡ due seed (i + 1))
goes_on seed i x y before later at is value was =
    let here : y ≡ state seed (numbers_before seed (i + 1) + 1) =
    state_on seed (numbers_before seed i + numbers_at seed (numbers_before seed i)) (numbers_before seed (i + 1) + 1) x y at
    (omega (arith, numbers_before_more seed i)) is in
    (here, omega (arith, was, due_more seed i, value, ap (below 8) here))
