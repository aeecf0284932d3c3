-- For private functions and proofs: what the vectors of the kernel hold.
use Rattle.std.specs.Prelude.{ℕ, ◌+◌, List, [], ◌∷◌, ℤ, pos, ◌+ℤ◌, ◌*ℤ◌}
use Rattle.dx_tables.specs.Numbers.{wrap}
use Rattle.operator_kernel.specs.declared.OpBlock.{OpBlock}
use Rattle.operator_kernel.specs.Operator.{gain_at}

-- the gains of four samples from j on
abbrev pub gain_lanes : OpBlock → ℕ → List ℤ
gain_lanes op j = gain_at op j ∷ gain_at op (j + 1) ∷ gain_at op (j + 2) ∷ gain_at op (j + 3) ∷ []

-- the phase of sample j without input
abbrev pub phase_of : OpBlock → ℕ → ℤ
phase_of op j = wrap (op.phase +ℤ pos j *ℤ op.freq)
