-- A silent operator's samples don't depend on what it hears; so what reaches the output through silent operators alone may be left out.
use Rattle.std.proofs.Common.{ℕ, zero, suc, ℤ, pos, ◌+ℤ◌, Bool, true, false, cond, refl, List, [], ◌∷◌, length, get_or, set, ◌+◌, ◌-◌, ◌<◌, ◌≤◌, ◌≢◌, ◌≡◌}
use Rattle.std.proofs.Common.{◌∙◌, ◌⊎◌, inl, inr, ap, sym, subst, arith, Option, Some, None, get_or-set_other, get_or-set_same, length-set, eqb, w32}
use Rattle.std.proofs.lemmas.Bool.{cases_lt, eq-eqb}
use Rattle.std.proofs.lemmas.Int.{int_wrap_fits}
use Rattle.dx_tables.specs.Numbers.{wrap}
use Rattle.dx_tables.proofs.Loops.{set_more}
use Rattle.operator_kernel.specs.declared.OpBlock.{OpBlock}
use Rattle.operator_kernel.specs.Operator.{HasGains, silent, sample_at, feedback_sample}
use Rattle.algorithm_bus.specs.Algorithms.{modulates, is_carrier, feedback_operator}
use Rattle.algorithm_bus.specs.Signals.{BlockInput, sum_of, input_of, is_fed_back, own_sample, signals_of, note_output}
use Rattle.algorithm_bus.specs.Buses.{HaveGains, IsBus, op_of, no_operator}
use Rattle.algorithm_bus.specs.Audible.{AreClosed, IsCovered, if_kept, is_kept, muted}
use Rattle.algorithm_bus.proofs.Panel.{fed_back_within, goes_down}
use Rattle.algorithm_bus.proofs.Sends.{own_same, signals_before, signals_here, signals_meet_equation}

-- a silent operator's samples are 0, whatever it hears
zero_by : (t : Bool) (x y : ℤ) → x ≡ pos 0 → y ≡ pos 0 → cond t x y ≡ pos 0
zero_by true x y e f = e
zero_by false x y e f = f

silent_sample : (op : OpBlock) (j : ℕ) (x : ℤ) → silent op ≡ true → sample_at op j x ≡ pos 0
unfolding sample_at
silent_sample op j x e = rw e refl

pub own_silent : (p : BlockInput) (o : ℕ) (f : ℕ → ℤ) (j : ℕ) → silent (p.op o) ≡ true → own_sample p o f j ≡ pos 0
unfolding own_sample
own_silent p o f j e = zero_by _ _ _ (silent_sample _ j _ e) (silent_sample _ j _ e)

-- sums over operators whose samples are alike where they are chosen
alike_by : (t : Bool) (x y : ℤ) → (t ≡ true → x ≡ y) → cond t x (pos 0) ≡ cond t y (pos 0)
alike_by true x y h = h refl
alike_by false x y h = refl

pub sum_alike : (chosen : ℕ → Bool) (y y' : ℕ → ℕ → ℤ) (k j : ℕ) → ((i : ℕ) → i < k → chosen (6 - i) ≡ true → y (6 - i) j ≡ y' (6 - i) j)
    → sum_of chosen y k j ≡ sum_of chosen y' k j
unfolding sum_of
sum_alike chosen y y' zero j h = refl
sum_alike chosen y y' (suc k) j h =
    let before = sum_alike chosen y y' k j (λ i lt. h i (omega arith)) in
    ap (λ z. z +ℤ cond (chosen (6 - k)) (y (6 - k) j) (pos 0)) before
    ∙ ap (λ z. sum_of chosen y' k j +ℤ z) (alike_by (chosen (6 - k)) _ _ (h k (omega arith)))

-- two block inputs that differ in the operators alone, of which those are muted that are not kept
pub record AreMuted (p q : BlockInput) (kept : ℕ → Bool) : Type 0 where
  pub algorithm_is : q.algorithm ≡ p.algorithm
  pub feedback_is : q.feedback ≡ p.feedback
  pub feedback_state_is : q.feedback_state ≡ p.feedback_state
  pub op_is : (o : ℕ) → 1 ≤ o → o ≤ 6 → q.op o ≡ if_kept (kept o) (p.op o)

still_silent : (t : Bool) (op : OpBlock) → silent op ≡ true → silent (if_kept t op) ≡ true
still_silent true op e = e
still_silent false op e = refl

-- an operator that is kept has the same samples under the same input
own_kept : (p q : BlockInput) (o : ℕ) (f : ℕ → ℤ) (j : ℕ) → q.algorithm ≡ p.algorithm → q.feedback ≡ p.feedback → q.feedback_state ≡ p.feedback_state
    → q.op o ≡ p.op o → own_sample q o f j ≡ own_sample p o f j
unfolding own_sample
own_kept p q o f j a b m e = rw (a, b, m, e) refl

-- what is heard of an operator, where that of the operators above is as it was
input_same : (p q : BlockInput) (kept : ℕ → Bool) (k j : ℕ) → q.algorithm ≡ p.algorithm
    → ((i : ℕ) → i < k → modulates p.algorithm (6 - i) (6 - k) ≡ true → signals_of q k (6 - i) j ≡ signals_of p k (6 - i) j)
    → input_of q (signals_of q k) k (6 - k) j ≡ input_of p (signals_of p k) k (6 - k) j
input_same p q kept k j a h =
    ap (λ n. wrap (sum_of (λ m. modulates n m (6 - k)) (signals_of q k) k j)) a
    ∙ ap wrap (sum_alike (λ m. modulates p.algorithm m (6 - k)) (signals_of q k) (signals_of p k) k j h)

module _ (p q : BlockInput) (kept : ℕ → Bool) (m : AreMuted p q kept)
    (closed : (o to : ℕ) → 1 ≤ o → o ≤ 6 → 1 ≤ to → to ≤ 6 → modulates p.algorithm o to ≡ true → kept to ≡ true → IsCovered (kept o) (p.op o)) where
  -- the k-th operator from the top
  own_covered : (k j : ℕ) → k < 6 → ((i : ℕ) → i < k → IsCovered (kept (6 - i)) (p.op (6 - i)) → signals_of q k (6 - i) j ≡ signals_of p k (6 - i) j)
      → IsCovered (kept (6 - k)) (p.op (6 - k)) → own_sample q (6 - k) (input_of q (signals_of q k) k (6 - k)) j ≡ own_sample p (6 - k)
      (input_of p (signals_of p k) k (6 - k)) j
  own_covered k j lt before c =
      let op = m.op_is (6 - k) (omega arith) (omega arith) in
      elim c [
        | inl s ↦ own_silent q (6 - k) _ j (ap silent op ∙ still_silent (kept (6 - k)) (p.op (6 - k)) s) ∙ sym (own_silent p (6 - k) _ j s)
        | inr t ↦
            let same : q.op (6 - k) ≡ p.op (6 - k) = op ∙ ap (λ b. if_kept b (p.op (6 - k))) t in
            own_same q (6 - k) _ _ j (input_same p q kept k j m.algorithm_is (λ i l e.
            before i l (closed (6 - i) (6 - k) (omega arith) (omega arith) (omega arith) (omega arith) e t)))
            ∙ own_kept p q (6 - k) _ j m.algorithm_is m.feedback_is m.feedback_state_is same
      ]

  -- what is heard of the operators that are silent or kept is as it was
  signals_same : (k i j : ℕ) → k ≤ 6 → i < k → IsCovered (kept (6 - i)) (p.op (6 - i)) → signals_of q k (6 - i) j ≡ signals_of p k (6 - i) j
  signals_same zero i j le lt c = absurd (omega arith)
  signals_same (suc k) i j le lt c =
      elim (cases_lt i k) [
        | inl l ↦ signals_before q k i j l (omega arith) ∙ signals_same k i j (omega arith) l c ∙ sym (signals_before p k i j l (omega arith))
        | inr ge ↦
            let e : k ≡ i = omega arith in
            let P : ℕ → Type 0 = λ i. IsCovered (kept (6 - i)) (p.op (6 - i)) in
            let Q : ℕ → Type 0 = λ i. signals_of q (suc k) (6 - i) j ≡ signals_of p (suc k) (6 - i) j in
            subst Q e (signals_here q k j ∙ own_covered k j (omega arith) (λ i l c. signals_same k i j (omega arith) l c) (subst P (sym e) c)
            ∙ sym (signals_here p k j))
      ]

  -- and so is the output, whose operators are silent or kept
  pub output_same : ((o : ℕ) → 1 ≤ o → o ≤ 6 → is_carrier p.algorithm o ≡ true → IsCovered (kept o) (p.op o)) → (j : ℕ) → note_output q j ≡ note_output p j
  unfolding note_output
  output_same carriers j =
      ap (λ n. wrap (sum_of (is_carrier n) (signals_of q 6) 6 j)) m.algorithm_is
      ∙ ap wrap (sum_alike (is_carrier p.algorithm) (signals_of q 6) (signals_of p 6) 6 j (λ i lt e.
      signals_same 6 i j (omega arith) lt (carriers (6 - i) (omega arith) (omega arith) e)))

-- the operators that are kept, up to one more
covered_at : (kept kept' : List Bool) (o : ℕ) (op : OpBlock) → is_kept kept' o ≡ is_kept kept o → IsCovered (is_kept kept o) op → IsCovered (is_kept kept' o) op
covered_at kept kept' o op e c = rw e c

kept_before : (kept : List Bool) (k o : ℕ) (t : Bool) → 1 ≤ o → o ≤ k → is_kept (set kept k t) o ≡ is_kept kept o
kept_before kept k o t low le = let ne : o - 1 ≢ k = omega arith in rw get_or-set_other refl

kept_here : (kept : List Bool) (k : ℕ) (t : Bool) → length kept ≡ 6 → k < 6 → is_kept (set kept k t) (k + 1) ≡ t
kept_here kept k t len lt =
    let e : k + 1 - 1 ≡ k = omega arith in
    let l : k < length kept = rw len lt in
    rw (e, get_or-set_same) refl

pub closed_none : (a : ℕ) (ops : List OpBlock) (kept : List Bool) → AreClosed a ops 0 kept
closed_none a ops kept = record {
  carriers = λ o low le. absurd (omega (arith, low, le));
  modulators = λ o to low le. absurd (omega (arith, low, le));
  fed_back = λ o low le. absurd (omega (arith, low, le));
}

upward : (a o to : ℕ) → a ≤ 31 → o ≤ to → to ≤ 6 → modulates a o to ≡ true → ⊥
upward a o to la le l e = let d = goes_down a o to la le l in cc

pub closed_next : (a : ℕ) (ops : List OpBlock) (k : ℕ) (kept : List Bool) (t : Bool) → a ≤ 31 → k < 6 → length kept ≡ 6 → AreClosed a ops k kept
    → (is_carrier a (k + 1) ≡ true → IsCovered t (op_of ops (k + 1)))
    → ((to : ℕ) → 1 ≤ to → to ≤ 6 → modulates a (k + 1) to ≡ true → is_kept kept to ≡ true → IsCovered t (op_of ops (k + 1)))
    → (is_fed_back (feedback_operator a) (k + 1) ≡ true → t ≡ true)
    → AreClosed a ops (k + 1) (set kept k t)
closed_next a ops k kept t la lt len c hc hm hf = record {
  carriers = λ o low le e.
      elim (cases_lt o (k + 1)) [
        | inl l ↦ covered_at kept (set kept k t) o (op_of ops o) (kept_before kept k o t low (omega arith)) (c.carriers o low (omega arith) e)
        | inr ge ↦
            let s : k + 1 ≡ o = omega arith in
            let P : ℕ → Type 0 = λ o. IsCovered (is_kept (set kept k t) o) (op_of ops o) in
            let e' : is_carrier a (k + 1) ≡ true = rw s e in
            subst P s (rw (kept_here kept k t len lt) (hc e'))
      ];
  modulators = λ o to low le tl tle e q.
      elim (cases_lt to o) [
        | inr ge ↦ absurd (upward a o to la ge tle e)
        | inl below ↦
            let q' : is_kept kept to ≡ true = sym (kept_before kept k to t tl (omega arith)) ∙ q in
            elim (cases_lt o (k + 1)) [
              | inl l ↦ covered_at kept (set kept k t) o (op_of ops o) (kept_before kept k o t low (omega arith))
                  (c.modulators o to low (omega arith) tl tle e q')
              | inr ge ↦
                  let s : k + 1 ≡ o = omega arith in
                  let P : ℕ → Type 0 = λ o. IsCovered (is_kept (set kept k t) o) (op_of ops o) in
                  let e' : modulates a (k + 1) to ≡ true = rw s e in
                  subst P s (rw (kept_here kept k t len lt) (hm to tl tle e' q'))
            ]
      ];
  fed_back = λ o low le e.
      elim (cases_lt o (k + 1)) [
        | inl l ↦ kept_before kept k o t low (omega arith) ∙ c.fed_back o low (omega arith) e
        | inr ge ↦
            let s : k + 1 ≡ o = omega arith in
            let P : ℕ → Type 0 = λ o. is_kept (set kept k t) o ≡ true in
            let e' : is_fed_back (feedback_operator a) (k + 1) ≡ true = rw s e in
            subst P s (kept_here kept k t len lt ∙ hf e')
      ];
}

-- the first n operators as they are kept
pub record AreMutedUpTo (n : ℕ) (ops few : List OpBlock) (kept : List Bool) : Type 0 where
  pub each : (k : ℕ) → k < n → get_or few k no_operator ≡ if_kept (get_or kept k false) (get_or ops k no_operator)

pub muted_none : (ops few : List OpBlock) (kept : List Bool) → AreMutedUpTo 0 ops few kept
muted_none ops few kept = record { each = λ k lt. absurd (omega (arith, lt)) }

pub muted_next : (n : ℕ) (ops few : List OpBlock) (kept : List Bool) (op : OpBlock) → length few ≡ 6 → n < 6 → AreMutedUpTo n ops few kept
    → op ≡ if_kept (get_or kept n false) (get_or ops n no_operator) → AreMutedUpTo (n + 1) ops (set few n op) kept
muted_next n ops few kept op len lt m h = record {
  each = let l : n < length few = rw len lt in
      set_more (λ k o. o ≡ if_kept (get_or kept k false) (get_or ops k no_operator)) few n op no_operator l m.each h;
}

-- all six of them make the same output
pub few_output : (a : ℕ) (ops few : List OpBlock) (kept : List Bool) (n : ℕ) → 6 ≤ n → AreClosed a ops 6 kept → AreMutedUpTo n ops few kept → (p : BlockInput)
    → p.algorithm ≡ a → p.op ≡ op_of ops → (j : ℕ) → note_output (record p { op = op_of few }) j ≡ note_output p j
few_output a ops few kept n le c m p ea eo j =
    let at : (o : ℕ) → p.op o ≡ op_of ops o = λ o. ap (λ f. f o) eo in
    let cover : (o : ℕ) → IsCovered (is_kept kept o) (op_of ops o) → IsCovered (is_kept kept o) (p.op o) = λ o h. rw (at o) h in
    output_same p (record p { op = op_of few }) (is_kept kept)
    (record {
      algorithm_is = refl;
      feedback_is = refl;
      feedback_state_is = refl;
      op_is = λ o low high. m.each (o - 1) (omega arith) ∙ ap (if_kept (is_kept kept o)) (sym (at o));
    })
    (λ o to a1 a2 a3 a4 e q. let e' : modulates a o to ≡ true = rw (← ea) e in cover o (c.modulators o to a1 a2 a3 a4 e' q))
    (λ o a1 a2 e. let e' : is_carrier a o ≡ true = rw (← ea) e in cover o (c.carriers o a1 a2 e')) j

pub bus_same : (y y' : ℕ → ℤ) (xs : List ℤ) → IsBus y xs → ((j : ℕ) → y j ≡ y' j) → IsBus y' xs
bus_same y y' xs b e = record { len = b.len; sample = λ j lt. b.sample j lt ∙ e j }

-- operator k + 1 is at place k
pub covered_op : (t : Bool) (ops : List OpBlock) (k : ℕ) → IsCovered t (get_or ops k no_operator) → IsCovered t (op_of ops (k + 1))
covered_op t ops k c =
    let e : k + 1 - 1 ≡ k = omega arith in
    rw e c

-- the operator with feedback is kept as it is
pub few_fed_back : (a : ℕ) (ops few : List OpBlock) (kept : List Bool) (n : ℕ) → a ≤ 31 → 6 ≤ n → AreClosed a ops 6 kept → AreMutedUpTo n ops few kept → (o : ℕ)
    → feedback_operator a ≡ Some o → op_of few o ≡ op_of ops o
few_fed_back a ops few kept n la le c m o e =
    let w = fed_back_within a o la e in
    let low = w.0 in
    let high = w.1 in
    let s : eqb o o ≡ true = eq-eqb o o refl in
    let f : is_fed_back (feedback_operator a) o ≡ true = rw e s in
    m.each (o - 1) (omega arith) ∙ ap (λ t. if_kept t (op_of ops o)) (c.fed_back o low high f)

-- gains of the first n operators
pub record HaveGainsUpTo (n : ℕ) (ops : List OpBlock) : Type 0 where
  pub each : (k : ℕ) (d : OpBlock) → k < n → HasGains (get_or ops k d)

pub gains_none : (ops : List OpBlock) → HaveGainsUpTo 0 ops
gains_none ops = record { each = λ k d lt. absurd (omega (arith, lt)) }

pub gains_next : (n : ℕ) (ops : List OpBlock) (op : OpBlock) → length ops ≡ 6 → n < 6 → HaveGainsUpTo n ops → HasGains op → HaveGainsUpTo (n + 1) (set ops n op)
gains_next n ops op e lt m h = record {
  each = λ k d below. let l : n < length ops = rw e lt in set_more (λ k o. HasGains o) ops n op d l (λ k b. m.each k d b) h k below;
}

pub gains_all : (n : ℕ) (ops : List OpBlock) → 6 ≤ n → HaveGainsUpTo n ops → HaveGains ops
gains_all n ops le m = λ operator first last. m.each (operator - 1) no_operator (omega arith)

-- where no carrier sounds there is no sound
sum_none : (chosen : ℕ → Bool) (y : ℕ → ℕ → ℤ) (k j : ℕ) → ((i : ℕ) → i < k → chosen (6 - i) ≡ true → y (6 - i) j ≡ pos 0) → sum_of chosen y k j ≡ pos 0
unfolding sum_of
sum_none chosen y zero j h = refl
sum_none chosen y (suc k) j h =
    ap (λ z. z +ℤ cond (chosen (6 - k)) (y (6 - k) j) (pos 0)) (sum_none chosen y k j (λ i lt. h i (omega arith)))
    ∙ ap (λ z. pos 0 +ℤ z) (alike_by (chosen (6 - k)) (y (6 - k) j) (pos 0) (h k (omega arith)) ∙ zero_by (chosen (6 - k)) (pos 0) (pos 0) refl refl)

pub no_output : (p : BlockInput) → p.algorithm ≤ 31 → ((o : ℕ) → 1 ≤ o → o ≤ 6 → is_carrier p.algorithm o ≡ true → silent (p.op o) ≡ true) → (j : ℕ)
    → note_output p j ≡ pos 0
unfolding note_output
no_output p la h j =
    ap wrap (sum_none (is_carrier p.algorithm) (signals_of p 6) 6 j (λ i lt e.
    signals_meet_equation p la (6 - i) j (omega arith) (omega arith) ∙ own_silent p (6 - i) _ j (h (6 - i) (omega arith) (omega arith) e)))
    ∙ int_wrap_fits w32 (pos 0) (record { sfits = omega arith })

pub silent_six : (k : ℕ) → silent (get_or (no_operator ∷ no_operator ∷ no_operator ∷ no_operator ∷ no_operator ∷ no_operator ∷ []) k no_operator) ≡ true
silent_six zero = refl
silent_six (suc zero) = refl
silent_six (suc (suc zero)) = refl
silent_six (suc (suc (suc zero))) = refl
silent_six (suc (suc (suc (suc zero)))) = refl
silent_six (suc (suc (suc (suc (suc zero))))) = refl
silent_six (suc (suc (suc (suc (suc (suc k)))))) = refl
