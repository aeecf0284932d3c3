-- Rows of samples: a row for each sample, with one of each of four paths.
use Rattle.std.proofs.Common.{ℕ, ℤ, zero, suc, pos, List, [], ◌∷◌, length, get_or, set, map, to_z, of_z, w32, ◌+◌, ◌<◌, ◌≤◌, ◌≡◌, ◌∙◌, ap, refl, arith}
use Rattle.dx_tables.proofs.Loops.{set_more}
use Rattle.operator_kernel.specs.declared.FeedbackPath.{FeedbackPath}
use Rattle.operator_kernel.specs.declared.quartet.Quartet.{Quartet}
use Rattle.operator_kernel.specs.Paths.{path_at, path_sample, path_state}
use Rattle.operator_kernel.specs.Quartets.{AreLive, AreAt, AreRowsUpTo, AreLanesRun, IsLaneRun, fed_samples, befores, lasts}
use Rattle.operator_kernel.proofs.Fours.{four_same}
use Rattle.operator_kernel.proofs.Quartets.{sample_read, before_read, last_read}

pub samples_read : (ps : List FeedbackPath) (j : ℕ) → AreLive ps → j < 64 → map (to_z w32) (map (of_z w32) (fed_samples ps j)) ≡ fed_samples ps j
samples_read ps j l lt = four_same (sample_read (path_at ps 0) j (l.live 0 (omega arith)) lt) (sample_read (path_at ps 1) j (l.live 1 (omega arith)) lt)
    (sample_read (path_at ps 2) j (l.live 2 (omega arith)) lt) (sample_read (path_at ps 3) j (l.live 3 (omega arith)) lt)

pub rows_none : (ps : List FeedbackPath) (rows : List (List ℤ)) → AreRowsUpTo ps 0 rows
rows_none ps rows = λ j lt. absurd (omega (arith, lt))

pub rows_next : (ps : List FeedbackPath) (j : ℕ) (rows : List (List ℤ)) (row : List ℤ) → length rows ≡ 64 → j < 64 → AreRowsUpTo ps j rows
    → row ≡ fed_samples ps j → AreRowsUpTo ps (j + 1) (set rows j row)
rows_next ps j rows row e lt m h =
    let l : j < length rows = omega (arith, e) in
    set_more (λ i r. r ≡ fed_samples ps i) rows j row [] l m h

sample_of : (ps : List FeedbackPath) (j k : ℕ) → k < 4 → get_or (fed_samples ps j) k (pos 0) ≡ path_sample (path_at ps k) j
sample_of ps j zero lt = refl
sample_of ps j (suc zero) lt = refl
sample_of ps j (suc (suc zero)) lt = refl
sample_of ps j (suc (suc (suc zero))) lt = refl
sample_of ps j (suc (suc (suc (suc k)))) lt = absurd (omega arith)

before_of : (ps : List FeedbackPath) (j k : ℕ) → k < 4 → get_or (befores ps j) k (pos 0) ≡ (path_state (path_at ps k) j).before_last
before_of ps j zero lt = refl
before_of ps j (suc zero) lt = refl
before_of ps j (suc (suc zero)) lt = refl
before_of ps j (suc (suc (suc zero))) lt = refl
before_of ps j (suc (suc (suc (suc k)))) lt = absurd (omega arith)

last_of : (ps : List FeedbackPath) (j k : ℕ) → k < 4 → get_or (lasts ps j) k (pos 0) ≡ (path_state (path_at ps k) j).last
last_of ps j zero lt = refl
last_of ps j (suc zero) lt = refl
last_of ps j (suc (suc zero)) lt = refl
last_of ps j (suc (suc (suc zero))) lt = refl
last_of ps j (suc (suc (suc (suc k)))) lt = absurd (omega arith)

befores_read : (ps : List FeedbackPath) (j : ℕ) → AreLive ps → j ≤ 64 → map (to_z w32) (map (of_z w32) (befores ps j)) ≡ befores ps j
befores_read ps j l le = four_same (before_read (path_at ps 0) j (l.live 0 (omega arith)) le) (before_read (path_at ps 1) j (l.live 1 (omega arith)) le)
    (before_read (path_at ps 2) j (l.live 2 (omega arith)) le) (before_read (path_at ps 3) j (l.live 3 (omega arith)) le)

lasts_read : (ps : List FeedbackPath) (j : ℕ) → AreLive ps → j ≤ 64 → map (to_z w32) (map (of_z w32) (lasts ps j)) ≡ lasts ps j
lasts_read ps j l le = four_same (last_read (path_at ps 0) j (l.live 0 (omega arith)) le) (last_read (path_at ps 1) j (l.live 1 (omega arith)) le)
    (last_read (path_at ps 2) j (l.live 2 (omega arith)) le) (last_read (path_at ps 3) j (l.live 3 (omega arith)) le)

at_end : (ps : List FeedbackPath) (rows : List (List ℤ)) (q : Quartet) (j : ℕ) → j ≡ 64 → AreLive ps → AreAt ps j q → AreRowsUpTo ps j rows
    → (k : ℕ) → k < 4 → IsLaneRun (path_at ps k) rows k (get_or (map (to_z w32) (map (of_z w32) q.before_last)) k (pos 0))
    (get_or (map (to_z w32) (map (of_z w32) q.last)) k (pos 0))
at_end ps rows q j e live at m k lt =
    let le : j ≤ 64 = omega (arith, e) in
    record {
      samples = λ i il. let b : i < j = omega (arith, e, il) in ap (λ r. get_or r k (pos 0)) (m i b) ∙ sample_of ps i k lt;
      before_last_is = ap (λ b. get_or (map (to_z w32) (map (of_z w32) b)) k (pos 0)) at.before_last
          ∙ ap (λ b. get_or b k (pos 0)) (befores_read ps j live le) ∙ before_of ps j k lt ∙ ap (λ i. (path_state (path_at ps k) i).before_last) e;
      last_is = ap (λ b. get_or (map (to_z w32) (map (of_z w32) b)) k (pos 0)) at.last
          ∙ ap (λ b. get_or b k (pos 0)) (lasts_read ps j live le) ∙ last_of ps j k lt ∙ ap (λ i. (path_state (path_at ps k) i).last) e;
    }

pub lanes_run : (ps : List FeedbackPath) (rows : List (List ℤ)) (q : Quartet) (j : ℕ) → j ≡ 64 → AreLive ps → AreAt ps j q → AreRowsUpTo ps j rows
    → AreLanesRun ps rows (map (to_z w32) (map (of_z w32) q.before_last)) (map (to_z w32) (map (of_z w32) q.last))
lanes_run ps rows q j e live at m = record { lane = at_end ps rows q j e live at m }
