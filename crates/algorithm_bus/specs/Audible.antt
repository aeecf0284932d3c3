-- Which operators have to run: those that are heard, by themselves or through others that are.
use Rattle.std.specs.Prelude.{ℕ, ◌≡◌, ◌-◌, ◌≤◌, ◌⊎◌, Bool, true, false, if◌then◌else◌, List, slice_index_or, pos}
use Rattle.operator_kernel.specs.declared.OpBlock.{OpBlock}
use Rattle.operator_kernel.specs.Operator.{silent}
use Rattle.algorithm_bus.specs.Algorithms.{modulates, is_carrier, feedback_operator}
use Rattle.algorithm_bus.specs.Signals.{is_fed_back}
use Rattle.algorithm_bus.specs.Buses.{op_of}

-- whether an operator, by its number from 1 on, is one of these
abbrev pub is_kept : List Bool → ℕ → Bool
is_kept kept operator = slice_index_or kept (operator - 1) false

-- an operator with no gain, which is silent
abbrev pub muted : OpBlock → OpBlock
muted op = record { phase = op.phase; freq = op.freq; g1 = pos 0; g2 = pos 0 }

abbrev pub if_kept : Bool → OpBlock → OpBlock
if_kept kept op = if kept then op else muted op

-- an operator that is silent or has to run
abbrev pub IsCovered : Bool → OpBlock → Type 0
IsCovered kept op = (silent op ≡ true) ⊎ (kept ≡ true)

-- of the operators up to n every carrier is silent or kept, and so is every operator that modulates one that is kept; the operator with
-- feedback is kept
pub record AreClosed (a : ℕ) (ops : List OpBlock) (n : ℕ) (kept : List Bool) : Type 0 where
  pub carriers : (o : ℕ) → 1 ≤ o → o ≤ n → is_carrier a o ≡ true → IsCovered (is_kept kept o) (op_of ops o)
  pub modulators : (o to : ℕ) → 1 ≤ o → o ≤ n → 1 ≤ to → to ≤ 6 → modulates a o to ≡ true → is_kept kept to ≡ true →
      IsCovered (is_kept kept o) (op_of ops o)
  pub fed_back : (o : ℕ) → 1 ≤ o → o ≤ n → is_fed_back (feedback_operator a) o ≡ true → is_kept kept o ≡ true
