-- What is left of a command's statuses where the shelf never fails.
use Rattle.std.proofs.Common.{◌≡◌, ◌≢◌, inl, inr, ℕ, List, [], ◌∷◌, refl, arith}
use Rattle.std.specs.Prelude.{Option, Some, None, IfSome, ◌↔◌}
use Rattle.outside.specs.Faults.{Rose}
use Rattle.outside.specs.Snapshot.{snapshot}
use Rattle.fault_lines.specs.Statuses.{IsOneOf}
use Rattle.tool_core.specs.Words.{RequestData}
use Rattle.tool_core.specs.Effects.{Effect, HasEffect}
use Rattle.tool_core.specs.Outcomes.{IsUnread, IsUnwritten, FailsReport}

-- a count that no call raises
no_rise : Rose 0 0 → ⊥
no_rise rose = omega (arith, rose)

pub only_report : (o : Option RequestData) (before now : Option (List ℕ)) (faults_before faults_now : ℕ)
    → IfSome o (λ request. IsUnwritten request (snapshot None 0 0 before faults_before) (snapshot None 0 0 now faults_now))
    → IfSome o (λ request. (effect : Effect) × HasEffect request None effect
    × FailsReport effect (snapshot None 0 0 before faults_before) (snapshot None 0 0 now faults_now))
only_report None before now faults_before faults_now h = tt
only_report (Some request) before now faults_before faults_now h =
    (h.effect, h.does, elim h.failed [ inl file ↦ absurd (no_rise file.cause) | inr put ↦ put ])

pub never_two : (s : ℕ) → IsOneOf s (0 ∷ 1 ∷ 2 ∷ 3 ∷ 4 ∷ 6 ∷ 7 ∷ 8 ∷ []) → s ≢ 2 → IsOneOf s (0 ∷ 1 ∷ 3 ∷ 4 ∷ 6 ∷ 7 ∷ 8 ∷ [])
never_two s (inl is) two = inl is
never_two s (inr (inl is)) two = inr (inl is)
never_two s (inr (inr (inl is))) two = absurd (two is)
never_two s (inr (inr (inr rest))) two = inr (inr rest)

pub never_three : (s : ℕ) → IsOneOf s (0 ∷ 1 ∷ 3 ∷ 4 ∷ 6 ∷ 7 ∷ 8 ∷ []) → s ≢ 3 → IsOneOf s (0 ∷ 1 ∷ 4 ∷ 6 ∷ 7 ∷ 8 ∷ [])
never_three s (inl is) three = inl is
never_three s (inr (inl is)) three = inr (inl is)
never_three s (inr (inr (inl is))) three = absurd (three is)
never_three s (inr (inr (inr rest))) three = inr (inr rest)

module _ (o : Option RequestData) (s : ℕ) (before now : Option (List ℕ)) (faults_before faults_now : ℕ) where
  pub not_unread : (s ≡ 2 → IfSome o (λ request. IsUnread request (snapshot None 0 0 before faults_before) (snapshot None 0 0 now faults_now)))
      → (s ≡ 1 ↔ o ≡ None) → s ≢ 2
  not_unread unread words = λ two. at o (words.1) (unread two) two
    where
      at : (p : Option RequestData) → (p ≡ None → s ≡ 1)
          → IfSome p (λ request. IsUnread request (snapshot None 0 0 before faults_before) (snapshot None 0 0 now faults_now)) → s ≡ 2 → ⊥
      at None one h two = let is : s ≡ 1 = one refl in omega (arith, is, two)
      at (Some request) one h two = elim h.cause [ inl rose ↦ no_rise rose | inr lacks ↦ lacks ]

  pub put_failed : (s ≡ 3 → IfSome o (λ request. IsUnwritten request (snapshot None 0 0 before faults_before) (snapshot None 0 0 now faults_now)))
      → (s ≡ 1 ↔ o ≡ None) → s ≡ 3 → Rose faults_before faults_now
  put_failed unwritten words three = at o (words.1) (only_report o before now faults_before faults_now (unwritten three))
    where
      at : (p : Option RequestData) → (p ≡ None → s ≡ 1)
          → IfSome p (λ request. (effect : Effect) × HasEffect request None effect
          × FailsReport effect (snapshot None 0 0 before faults_before) (snapshot None 0 0 now faults_now)) → Rose faults_before faults_now
      at None one h = let is : s ≡ 1 = one refl in absurd (omega (arith, is, three))
      at (Some request) one h = h.2.cause
