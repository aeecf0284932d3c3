-- What a step and a release make of a value in one of four stages.
use Rattle.std.proofs.Common.{◌≡◌, ℕ, zero, suc, ◌+◌, ◌-◌, ◌<◌, ◌≤◌, true, false, [], ◌∷◌, Option, Some, None, refl, ap, sym, subst, ◌∙◌, arith}
use Rattle.std.proofs.lemmas.Bool.{le-leb, lt-leb}
use Rattle.block_rates.specs.declared.stage.Stage.{Stage}
use Rattle.block_rates.specs.declared.stage.Stage.TheVariants.{First, Second, Third, Fourth}
use Rattle.block_rates.specs.Stages.{Motion, after, while_down, four_stages, released_after}
use Rattle.block_rates.specs.StageOrder.{stages_from, at_stage, next_stage, IsReleasedBy, IsAt}
use Rattle.block_rates.specs.Segments.{RunsOn}
use Rattle.block_rates.proofs.StageRuns.{after_zero, after_step_ends, after_step_goes_on, after_there}

released_later : (g : Stage) (k : ℕ) (off : Option ℕ) → IsReleasedBy g k off → IsReleasedBy g (k + 1) off
released_later Fourth k None h = h
released_later Fourth k (Some off) h = omega arith
released_later First k None h = h
released_later First k (Some off) h = h
released_later Second k None h = h
released_later Second k (Some off) h = h
released_later Third k None h = h
released_later Third k (Some off) h = h

released_next : (g : Stage) (k : ℕ) (off : Option ℕ) → IsReleasedBy g k off → IsReleasedBy (next_stage g) k off
released_next Fourth k off h = h
released_next First k None h = h
released_next First k (Some off) h = h
released_next Second k None h = h
released_next Second k (Some off) h = h
released_next Third k None h = h
released_next Third k (Some off) h = h

released_now : (g : Stage) (k : ℕ) (off : Option ℕ) → IsReleasedBy g k off → IsReleasedBy Fourth k (released_after k off)
released_now Fourth k None h = absurd h
released_now Fourth k (Some off) h = h
released_now First k None h = omega arith
released_now First k (Some off) h = absurd h
released_now Second k None h = omega arith
released_now Second k (Some off) h = absurd h
released_now Third k None h = omega arith
released_now Third k (Some off) h = absurd h

module _ {S X : Type 0} (motion : Motion S X) where
  begun : (start : X) (stages : ℕ → S) (a b c : S) (n : ℕ) → a ≡ stages 0 → b ≡ stages 1 → c ≡ stages 2
      → after motion (a ∷ b ∷ c ∷ []) start n ≡ four_stages motion start stages (0 + n) None
  unfolding four_stages
  begun start stages a b c n d e f =
      let z : 0 + n ≡ n = omega arith in
      rw (d, e, f, z) refl

  -- the stages at their begin
  pub at_begin : (start : X) (stages : ℕ → S) (a b c d : S) → a ≡ stages 0 → b ≡ stages 1 → c ≡ stages 2 → d ≡ stages 3
      → IsAt motion start stages 0 None First a b c d start
  at_begin start stages a b c d p q r s = record {
    first = p;
    second = q;
    third = r;
    fourth = s;
    released = tt;
    values = λ n. begun start stages a b c n p q r;
  }

module _ {S X : Type 0} (motion : Motion S X) (laws : RunsOn motion) where
  last_ends : (s : S) (x : X) (n : ℕ) → motion.is_there s (motion.go s x 1) ≡ true → after motion (s ∷ []) (motion.target s) n ≡ after motion (s ∷ []) x (n + 1)
  unfolding after
  last_ends s x n e = after_there motion laws s n ∙ sym (after_step_ends motion laws s [] x n e)

  -- a step that ends its stage
  stage_ends : (g : Stage) (a b c d : S) (x : X) (n : ℕ) → motion.is_there (at_stage g a b c d) (motion.go (at_stage g a b c d) x 1) ≡ true
      → after motion (stages_from (next_stage g) a b c d) (motion.target (at_stage g a b c d)) n ≡ after motion (stages_from g a b c d) x (n + 1)
  stage_ends First a b c d x n e = sym (after_step_ends motion laws a (b ∷ c ∷ []) x n e)
  stage_ends Second a b c d x n e = sym (after_step_ends motion laws b (c ∷ []) x n e)
  stage_ends Third a b c d x n e = last_ends c x n e
  stage_ends Fourth a b c d x n e = last_ends d x n e

  -- a step within a stage
  stage_goes_on : (g : Stage) (a b c d : S) (x : X) (n : ℕ) → motion.is_there (at_stage g a b c d) (motion.go (at_stage g a b c d) x 1) ≡ false
      → after motion (stages_from g a b c d) (motion.go (at_stage g a b c d) x 1) n ≡ after motion (stages_from g a b c d) x (n + 1)
  stage_goes_on First a b c d x n e = sym (after_step_goes_on motion laws a (b ∷ c ∷ []) x n e)
  stage_goes_on Second a b c d x n e = sym (after_step_goes_on motion laws b (c ∷ []) x n e)
  stage_goes_on Third a b c d x n e = sym (after_step_goes_on motion laws c [] x n e)
  stage_goes_on Fourth a b c d x n e = sym (after_step_goes_on motion laws d [] x n e)

  -- stage 3 is entered at the value after k steps
  fourth_entered : (start : X) (stages : ℕ → S) (x : X) (k n : ℕ) → x ≡ while_down motion start stages k
      → after motion (stages 3 ∷ []) x n ≡ four_stages motion start stages (k + n) (Some k)
  unfolding four_stages
  fourth_entered start stages x k zero e =
      let z : k + 0 ≡ k = omega arith in
      let le : k ≤ k = omega arith in
      rw (z, le-leb k k le) (after_zero motion laws (stages 3 ∷ []) x ∙ e)
  fourth_entered start stages x k (suc n) e =
      let lt : k < k + suc n = omega arith in
      let d : k + suc n - k ≡ suc n = omega arith in
      rw (lt-leb (k + suc n) k lt, d, e) refl

  four_down : (start : X) (stages : ℕ → S) (k : ℕ) → four_stages motion start stages k None ≡ while_down motion start stages k
  unfolding four_stages
  four_down start stages k = refl

  -- the value itself
  pub value_is : (start : X) (stages : ℕ → S) (k : ℕ) (off : Option ℕ) (g : Stage) (a b c d : S) (x : X) → IsAt motion start stages k off g a b c d x
      → x ≡ four_stages motion start stages k off
  value_is start stages k off g a b c d x h =
      let z : k + 0 ≡ k = omega arith in
      sym (after_zero motion laws (stages_from g a b c d) x) ∙ h.values 0 ∙ ap (λ m. four_stages motion start stages m off) z

  released_values : (start : X) (stages : ℕ → S) (k : ℕ) (off : Option ℕ) (g : Stage) (a b c d : S) (x : X) (n : ℕ) → IsReleasedBy g k off
      → IsAt motion start stages k off g a b c d x → after motion (d ∷ []) x n ≡ four_stages motion start stages (k + n) (released_after k off)
  released_values start stages k (Some off) Fourth a b c d x n r h = h.values n
  released_values start stages k None Fourth a b c d x n r h = absurd r
  released_values start stages k (Some off) First a b c d x n r h = absurd r
  released_values start stages k (Some off) Second a b c d x n r h = absurd r
  released_values start stages k (Some off) Third a b c d x n r h = absurd r
  released_values start stages k None g a b c d x n r h =
      rw h.fourth (fourth_entered start stages x k n (value_is start stages k None g a b c d x h ∙ four_down start stages k))

  module _ (start : X) (stages : ℕ → S) (k : ℕ) (off : Option ℕ) (g : Stage) (a b c d : S) (x : X) (h : IsAt motion start stages k off g a b c d x) where
    -- the key is released
    pub at_release : IsAt motion start stages k (released_after k off) Fourth a b c d x
    at_release = record {
      first = h.first;
      second = h.second;
      third = h.third;
      fourth = h.fourth;
      released = released_now g k off h.released;
      values = λ n. released_values start stages k off g a b c d x n h.released h;
    }

    -- a step that ends the stage
    pub at_end : (s : S) (y : X) → s ≡ at_stage g a b c d → y ≡ motion.go s x 1 → motion.is_there s y ≡ true
        → IsAt motion start stages (k + 1) off (next_stage g) a b c d y
    at_end s y same moved there =
        let t : y ≡ motion.target (at_stage g a b c d) = laws.arrives s y there ∙ ap motion.target same in
        let e : motion.is_there (at_stage g a b c d) (motion.go (at_stage g a b c d) x 1) ≡ true =
        subst (λ q. motion.is_there q (motion.go q x 1) ≡ true) same (subst (λ z. motion.is_there s z ≡ true) moved there) in
        record {
          first = h.first;
          second = h.second;
          third = h.third;
          fourth = h.fourth;
          released = released_next g (k + 1) off (released_later g k off h.released);
          values = λ n.
              let z : k + (n + 1) ≡ k + 1 + n = omega arith in
              rw t (stage_ends g a b c d x n e ∙ h.values (n + 1) ∙ ap (λ m. four_stages motion start stages m off) z);
        }

    -- a step that does not
    pub at_move : (s : S) (y : X) → s ≡ at_stage g a b c d → y ≡ motion.go s x 1 → motion.is_there s y ≡ false
        → IsAt motion start stages (k + 1) off g a b c d y
    at_move s y same moved there =
        let t : y ≡ motion.go (at_stage g a b c d) x 1 = moved ∙ ap (λ q. motion.go q x 1) same in
        let e : motion.is_there (at_stage g a b c d) (motion.go (at_stage g a b c d) x 1) ≡ false =
        subst (λ q. motion.is_there q (motion.go q x 1) ≡ false) same (subst (λ z. motion.is_there s z ≡ false) moved there) in
        record {
          first = h.first;
          second = h.second;
          third = h.third;
          fourth = h.fourth;
          released = released_later g k off h.released;
          values = λ n.
              let z : k + (n + 1) ≡ k + 1 + n = omega arith in
              rw t (stage_goes_on g a b c d x n e ∙ h.values (n + 1) ∙ ap (λ m. four_stages motion start stages m off) z);
        }
