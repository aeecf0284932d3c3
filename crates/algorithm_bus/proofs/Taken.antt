-- Blocks take over what their feedback paths came to.
use Rattle.std.proofs.Common.{ℕ, ℤ, pos, Option, Some, None, List, [], ◌∷◌, length, get_or, set, ◌+◌, ◌<◌, ◌≤◌, ◌≡◌, ◌≢◌, ◌∙◌, inl, inr, ap, sym, subst, refl}
use Rattle.std.proofs.Common.{arith, get_or-set_same, get_or-set_other, length-set}
use Rattle.std.proofs.lemmas.Bool.{cases_eq}
use Rattle.std.proofs.lemmas.List.{get_or_default}
use Rattle.operator_kernel.specs.declared.FeedbackPath.{FeedbackPath}
use Rattle.operator_kernel.specs.Operator.{feedback_sample, feedback_state_of}
use Rattle.operator_kernel.specs.Paths.{IsPathRun}
use Rattle.algorithm_bus.specs.declared.note_block.NoteBlock.{NoteBlock}
use Rattle.algorithm_bus.specs.Algorithms.{feedback_operator}
use Rattle.algorithm_bus.specs.Buses.{IsBus, op_of}
use Rattle.algorithm_bus.specs.NoteBlocks.{HasRunPath, KeepsAllButState, block_input, feedback_path, path_by}
use Rattle.algorithm_bus.proofs.Panel.{same_some}
use Rattle.algorithm_bus.proofs.Sends.{left_none, left_some}

pub took_some : (b new : NoteBlock) (o : ℕ) (path : FeedbackPath) (samples : List ℤ) → Some o ≡ feedback_operator b.algorithm → KeepsAllButState b new
    → new.feedback_state ≡ path.before_last ∷ path.last ∷ [] → IsPathRun (feedback_path b) path samples → HasRunPath b new samples
took_some b new o path samples e kept state run =
    let r : IsPathRun (path_by b (Some o)) path samples = subst (λ f. IsPathRun (path_by b f) path samples) (sym e) run in
    record {
      kept = kept;
      samples = λ m q. subst (λ n. IsBus (feedback_sample (op_of b.ops n) b.feedback (feedback_state_of b.feedback_state)) samples) (same_some _ _ (e ∙ q))
          (record { len = r.len; sample = r.sample });
      feedback_state = ap feedback_state_of state ∙ r.state ∙ left_some (block_input b) o e;
    }

pub took_none : (b : NoteBlock) (samples : List ℤ) → None ≡ feedback_operator b.algorithm → HasRunPath b b samples
took_none b samples e = record {
  kept = (refl, refl, refl);
  samples = λ m q. let n = e ∙ q in cc;
  feedback_state = left_none (block_input b) e;
}

-- one block more
pub taken_next : (old now : List NoteBlock) (fed : List (List ℤ)) (k : ℕ) (b new z : NoteBlock) → length old ≡ 16 → length now ≡ 16 → k < 16
    → ((i : ℕ) (d e : NoteBlock) → i < k → HasRunPath (get_or old i d) (get_or now i e) (get_or fed i []))
    → ((i : ℕ) (d : NoteBlock) → k ≤ i → get_or now i d ≡ get_or old i d) → b ≡ get_or now k z → HasRunPath b new (get_or fed k [])
    → (i : ℕ) (d e : NoteBlock) → i < k + 1 → HasRunPath (get_or old i d) (get_or (set now k new) i e) (get_or fed i [])
taken_next old now fed k b new z eo en lt done rest is h i d e il = elim (cases_eq i k) [
  | inl s ↦
      let l : k < length now = omega (arith, en) in
      let o : k < length old = omega (arith, eo) in
      let from : b ≡ get_or old k d = is ∙ rest k z (omega arith) ∙ get_or_default old k z d o in
      let P : ℕ → Type 0 = λ x. HasRunPath (get_or old x d) (get_or (set now k new) x e) (get_or fed x []) in
      subst P (sym s) (rw (get_or-set_same now k new e l) (subst (λ x. HasRunPath x new (get_or fed k [])) from h))
  | inr ne ↦ rw (get_or-set_other now k i new e ne) (done i d e (omega arith))
]
