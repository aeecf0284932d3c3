use Rattle.std.proofs.Common.{ℕ, ℤ, pos, ◌+◌, ◌<◌, ◌≡◌, ◌∙◌, [], ◌∷◌, ap, sym, get_or, SFits, w32, arith, rules}
use Rattle.std.proofs.lemmas.Int.{to_z-of_z}
use Rattle.operator_kernel.specs.declared.OpBlock.{OpBlock}
use Rattle.operator_kernel.specs.Operator.{FeedbackState, mixed, sample_at, feedback_sample, feedback_state_after, feedback_state_of}
use Rattle.operator_kernel.proofs.Quartets.{state_next}
use Rattle.operator_kernel.proofs.operator.run_without_feedback.Goals as goal

-- the last two samples
state_is : (op : OpBlock) (m : FeedbackState) (x y : ℤ) → x ≡ sample_at op 62 (pos 0) → y ≡ sample_at op 63 (pos 0)
    → feedback_state_of (x ∷ y ∷ []) ≡ feedback_state_after op 0 m 64
state_is op m x y p q =
    let one = state_next op 0 m 63 in
    let two = ap (λ (s : FeedbackState). s.last) (state_next op 0 m 62) in
    rw (p, q) (sym (one ∙ rw two))

pub returns : goal.returns
returns c =
    let own = c.run_in.ensures in
    let f62 : SFits w32 (get_or c.run_in.new.bus 62 (pos 0)) = search rules in
    let f63 : SFits w32 (get_or c.run_in.new.bus 63 (pos 0)) = search rules in
    record {
      bus = record {
        len = c.mix_all.ensures.len;
        sample = λ j lt. c.mix_all.ensures.sample j lt ∙ ap (mixed c.args.add _) (own.sample j lt);
      };
      feedback_state = simp to_z-of_z (state_is c.args.op.now _ _ _ (own.sample 62 (omega arith)) (own.sample 63 (omega arith)));
    }
