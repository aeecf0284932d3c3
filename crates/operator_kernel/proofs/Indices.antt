-- Indices in the sine table are found one by one, by a running phase.
use Rattle.std.proofs.Common.{ℕ, ℤ, pos, ◌+ℤ◌, ◌*ℤ◌, List, length, set, ◌+◌, ◌<◌, ◌≢◌, ◌≡◌, ◌∙◌, ap, sym, arith, w32, below_more, get_or-set_other}
use Rattle.std.proofs.Common.{get_or-set_same, length-set}
use Rattle.std.proofs.lemmas.Int.{ints, int_wrap-add_left, int_wrap_fits}
use Rattle.std.proofs.Common.{SFits}
use Rattle.dx_tables.specs.Numbers.{wrap, index_of, fraction_of}
use Rattle.operator_kernel.specs.declared.OpBlock.{OpBlock}
use Rattle.operator_kernel.specs.Operator.{phase_at}
use Rattle.operator_kernel.specs.Indices.{AreIndices}
use Rattle.operator_kernel.proofs.Gains.{mul_more}

pub AreIndices-none : (op : OpBlock) (x : ℕ → ℤ) (ps rs : List ℕ) → length ps ≡ 64 → length rs ≡ 64 → AreIndices op x 0 ps rs
AreIndices-none op x ps rs e f = record {
  indices_len = e;
  fractions_len = f;
  index = λ j lt. absurd (omega (arith, lt));
  fraction = λ j lt.
      absurd (omega (arith, lt));
}

pub AreIndices-next : (op : OpBlock) (x : ℕ → ℤ) (n : ℕ) (ps rs : List ℕ) (p : ℤ) (a b : ℕ) → n < 64 → AreIndices op x n ps rs → p ≡ phase_at op n (x n)
    → a ≡ index_of p → b ≡ fraction_of p → AreIndices op x (n + 1) (set ps n a) (set rs n b)
AreIndices-next op x n ps rs p a b lt m e f g = record {
  indices_len = simp length-set m.indices_len;
  fractions_len = simp length-set m.fractions_len;
  index = below_more _ _
      (λ j h. let ne : j ≢ n = omega arith in rw get_or-set_other (m.index j h))
      (let l : n < length ps = rw m.indices_len lt in rw get_or-set_same (f ∙ ap index_of e));
  fraction = below_more _ _
      (λ j h. let ne : j ≢ n = omega arith in rw get_or-set_other (m.fraction j h))
      (let l : n < length rs = rw m.fractions_len lt in rw get_or-set_same (g ∙ ap fraction_of e));
}

-- the running phase
pub phase_first : (p f : ℤ) → SFits w32 p → p ≡ wrap (p +ℤ pos 0 *ℤ f)
phase_first p f h =
    let e : p +ℤ pos 0 *ℤ f ≡ p = omega (arith, ints) in
    sym (ap wrap e ∙ int_wrap_fits w32 p h)

one_more : (p f : ℤ) (n : ℕ) → p +ℤ pos n *ℤ f +ℤ f ≡ p +ℤ pos (n + 1) *ℤ f
one_more p f n =
    let m : pos n *ℤ f +ℤ pos 1 *ℤ f ≡ pos (n + 1) *ℤ f = mul_more n 1 f in
    omega (arith, ints, m)

pub phase_next : (p f r s : ℤ) (n : ℕ) → r ≡ wrap (p +ℤ pos n *ℤ f) → s ≡ wrap (r +ℤ f) → s ≡ wrap (p +ℤ pos (n + 1) *ℤ f)
phase_next p f r s n e h = h ∙ ap (λ z. wrap (z +ℤ f)) e ∙ int_wrap-add_left w32 (p +ℤ pos n *ℤ f) f ∙ ap wrap (one_more p f n)

pub phase_here : (op : OpBlock) (r s x : ℤ) (n : ℕ) → r ≡ wrap (op.phase +ℤ pos n *ℤ op.freq) → s ≡ wrap (r +ℤ x) → s ≡ phase_at op n x
phase_here op r s x n e h = h ∙ ap (λ z. wrap (z +ℤ x)) e ∙ int_wrap-add_left w32 (op.phase +ℤ pos n *ℤ op.freq) x
