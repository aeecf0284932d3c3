-- Feedback paths that were run are marked, one after the other.
use Rattle.std.proofs.Common.{ℕ, ℤ, zero, pos, Bool, true, false, List, [], length, get_or, set, ◌+◌, ◌<◌, ◌≤◌, ◌≡◌, ◌≢◌, inl, inr, ◌∙◌, ap}
use Rattle.std.proofs.Common.{sym, subst, refl, arith, get_or-set_same, get_or-set_other, length-set}
use Rattle.std.proofs.lemmas.Bool.{cases_eq}
use Rattle.dx_tables.proofs.Ranges.{lt_or_le}
use Rattle.operator_kernel.specs.declared.FeedbackPath.{FeedbackPath}
use Rattle.operator_kernel.specs.declared.paths.Left.{Left}
use Rattle.operator_kernel.specs.Paths.{IsPath, IsPathRun, path_at, no_path}
use Rattle.operator_kernel.specs.Places.{AreKept, AreLeft, AreMarked, IsLeft}
use Rattle.operator_kernel.specs.Quartets.{AreLanesRun, AreLive, IsLaneRun, IsLive}

-- places of paths that weren't run
left_more : (ps : List FeedbackPath) (done : List Bool) (l : Left) (k x : ℕ) (places : List ℕ) → AreLeft ps done l → IsLeft ps done k → x < 8
    → (l.count ≡ 0 → (x : ℕ) → x < 8 → get_or places x 0 ≡ k) → get_or places l.count 0 ≡ k
    → (1 ≤ l.count → (x : ℕ) → x ≢ l.count → get_or places x 0 ≡ get_or l.places x 0) → IsLeft ps done (get_or places x 0)
left_more ps done l k x places m h lt first here others = elim (lt_or_le l.count 1) [
  | inl none ↦ subst (λ p. IsLeft ps done p) (sym (first (omega arith) x lt)) h
  | inr one ↦ elim (cases_eq x l.count) [
    | inl e ↦ subst (λ p. IsLeft ps done p) (sym (ap (λ i. get_or places i 0) e ∙ here)) h
    | inr ne ↦ subst (λ p. IsLeft ps done p) (sym (others one x ne)) (m.left one x lt)
  ]
]

pub left_next : (ps : List FeedbackPath) (done : List Bool) (l : Left) (k : ℕ) (places : List ℕ) → AreLeft ps done l → l.count < 8 → IsLeft ps done k
    → length places ≡ 8 → (l.count ≡ 0 → (x : ℕ) → x < 8 → get_or places x 0 ≡ k) → get_or places l.count 0 ≡ k
    → (1 ≤ l.count → (x : ℕ) → x ≢ l.count → get_or places x 0 ≡ get_or l.places x 0)
    → AreLeft ps done (record { places = places; count = l.count + 1 })
left_next ps done l k places m below h len first here others = record {
  len = len;
  count = omega arith;
  left = λ one x lt. left_more ps done l k x places m h lt first here others;
}

-- no path was run yet
pub marked_none : (ps : List FeedbackPath) (samples : List (List ℤ)) (done : List Bool) → length ps ≡ 16 → length samples ≡ 16 → length done ≡ 16
    → ((k : ℕ) → get_or done k false ≡ false) → AreMarked done ps ps samples
marked_none ps samples done e f g none = record {
  done_len = g;
  len = e;
  samples_len = f;
  run = λ k lt t. let n = none k in cc;
  left = λ k lt t. refl;
}

kept_by : (done : List Bool) (first now : List FeedbackPath) (samples : List (List ℤ)) (k : ℕ) (t : Bool) → AreMarked done first now samples → k < 16
    → get_or done k false ≡ t → ((path_at now k).op ≡ (path_at first k).op) × ((path_at now k).feedback ≡ (path_at first k).feedback)
kept_by done first now samples k true m lt e = let r = m.run k lt e in (r.op, r.feedback)
kept_by done first now samples k false m lt e = let r = m.left k lt e in (ap (λ p. p.op) r, ap (λ p. p.feedback) r)

-- what a path does stays
pub marked_kept : (done : List Bool) (first now : List FeedbackPath) (samples : List (List ℤ)) (k : ℕ) → AreMarked done first now samples → k < 16
    → ((path_at now k).op ≡ (path_at first k).op) × ((path_at now k).feedback ≡ (path_at first k).feedback)
marked_kept done first now samples k m lt = kept_by done first now samples k (get_or done k false) m lt refl

run_next : (done : List Bool) (first now : List FeedbackPath) (samples : List (List ℤ)) (k i : ℕ) (new : FeedbackPath) (row : List ℤ)
    → AreMarked done first now samples → k < 16 → IsPathRun (path_at first k) new row → i < 16 → get_or (set done k true) i false ≡ true
    → IsPathRun (path_at first i) (path_at (set now k new) i) (get_or (set samples k row) i [])
run_next done first now samples k i new row m lt h il t = elim (cases_eq i k) [
  | inl e ↦
      let l : k < length now = omega (arith, m.len) in
      let s : k < length samples = omega (arith, m.samples_len) in
      let P : ℕ → Type 0 = λ x. IsPathRun (path_at first x) (get_or (set now k new) x no_path) (get_or (set samples k row) x []) in
      subst P (sym e) (rw (get_or-set_same now k new no_path l, get_or-set_same samples k row [] s) h)
  | inr ne ↦
      let d : get_or done i false ≡ true = sym (get_or-set_other done k i true false ne) ∙ t in
      rw (get_or-set_other now k i new no_path ne, get_or-set_other samples k i row [] ne) (m.run i il d)
]

left_stays : (done : List Bool) (first now : List FeedbackPath) (samples : List (List ℤ)) (k i : ℕ) (new : FeedbackPath)
    → AreMarked done first now samples → k < 16 → i < 16 → get_or (set done k true) i false ≡ false → path_at (set now k new) i ≡ path_at first i
left_stays done first now samples k i new m lt il t = elim (cases_eq i k) [
  | inl e ↦
      let l : k < length done = omega (arith, m.done_len) in
      let s : get_or (set done k true) k false ≡ true = get_or-set_same done k true false l in
      let u : get_or (set done k true) k false ≡ false = ap (λ x. get_or (set done k true) x false) (sym e) ∙ t in
      cc
  | inr ne ↦
      let d : get_or done i false ≡ false = sym (get_or-set_other done k i true false ne) ∙ t in
      get_or-set_other now k i new no_path ne ∙ m.left i il d
]

-- one more path was run
pub marked_next : (done : List Bool) (first now : List FeedbackPath) (samples : List (List ℤ)) (k : ℕ) (new : FeedbackPath) (row : List ℤ)
    → AreMarked done first now samples → k < 16 → IsPathRun (path_at first k) new row
    → AreMarked (set done k true) first (set now k new) (set samples k row)
marked_next done first now samples k new row m lt h = record {
  done_len = simp length-set m.done_len;
  len = simp length-set m.len;
  samples_len = simp length-set m.samples_len;
  run = λ i il t. run_next done first now samples k i new row m lt h il t;
  left = λ i il t. left_stays done first now samples k i new m lt il t;
}

-- a lane that came back to its path
pub lane_run : (p old : FeedbackPath) (rows : List (List ℤ)) (lane : ℕ) (b l : ℤ) (row : List ℤ) → IsLaneRun p rows lane b l → old.op ≡ p.op
    → old.feedback ≡ p.feedback → length row ≡ 64
    → ((j : ℕ) → j < 64 → get_or row j (pos 0) ≡ get_or (get_or rows j []) lane (pos 0))
    → IsPathRun p (record { op = old.op; feedback = old.feedback; before_last = b; last = l }) row
lane_run p old rows lane b l row h eo ef len same = record {
  op = eo;
  feedback = ef;
  len = len;
  sample = λ j lt. same j lt ∙ h.samples j lt;
  state = let x = h.before_last_is in let y = h.last_is in rw (x, y);
}

-- what was kept at each step is kept
pub kept_none : (ps : List FeedbackPath) → AreKept ps ps
kept_none ps = λ k lt. (refl, refl)

pub kept_then : (a b d : List FeedbackPath) → AreKept a b → AreKept b d → AreKept a d
kept_then a b d p q = λ k lt. ((q k lt).0 ∙ (p k lt).0, (q k lt).1 ∙ (p k lt).1)

pub kept_set : (ps : List FeedbackPath) (i : ℕ) (new : FeedbackPath) → length ps ≡ 16 → i < 16 → new.op ≡ (path_at ps i).op
    → new.feedback ≡ (path_at ps i).feedback → AreKept ps (set ps i new)
kept_set ps i new e lt eo ef = λ k kl. elim (cases_eq k i) [
  | inl s ↦
      let l : i < length ps = omega (arith, e) in
      let P : ℕ → Type 0 = λ x. ((get_or (set ps i new) x no_path).op ≡ (path_at ps x).op)
      × ((get_or (set ps i new) x no_path).feedback ≡ (path_at ps x).feedback) in
      subst P (sym s) (rw (get_or-set_same ps i new no_path l) (eo, ef))
  | inr ne ↦ rw (get_or-set_other ps i k new no_path ne) (refl, refl)
]

pub path_kept : (p q : FeedbackPath) → IsPath p → (q.op ≡ p.op) × (q.feedback ≡ p.feedback) → IsPath q
path_kept p q h e =
    let eo = e.0 in
    let ef = e.1 in
    record { gains = rw eo h.gains; feedback = rw ef h.feedback }

-- what was marked stays marked
pub done_here : (done : List Bool) (k : ℕ) → length done ≡ 16 → k < 16 → get_or (set done k true) k false ≡ true
done_here done k e lt = let l : k < length done = omega (arith, e) in get_or-set_same done k true false l

pub done_stays : (done : List Bool) (k x : ℕ) → length done ≡ 16 → k < 16 → get_or done x false ≡ true → get_or (set done k true) x false ≡ true
done_stays done k x e lt t = elim (cases_eq x k) [
  | inl s ↦
      let P : ℕ → Type 0 = λ i. get_or (set done k true) i false ≡ true in
      subst P (sym s) (done_here done k e lt)
  | inr ne ↦ get_or-set_other done k x true false ne ∙ t
]

-- a path that was run alone
pub alone_run : (done : List Bool) (first now : List FeedbackPath) (samples : List (List ℤ)) (k : ℕ) (new : FeedbackPath) (row : List ℤ)
    → AreMarked done first now samples → k < 16 → get_or done k false ≡ false → IsPathRun (path_at now k) new row → IsPathRun (path_at first k) new row
alone_run done first now samples k new row m lt e h = subst (λ p. IsPathRun p new row) (m.left k lt e) h

-- four paths at four of the places
pub four_live : (ps : List FeedbackPath) (done : List Bool) (l : Left) (four : List FeedbackPath) (from : ℕ) → from ≤ 4 → AreLeft ps done l
    → 1 ≤ l.count → ((x : ℕ) → x < 4 → path_at four x ≡ path_at ps (get_or l.places (from + x) 0)) → AreLive four
four_live ps done l four from le m one same = record {
  live = λ x lt. subst (λ p. IsLive p) (sym (same x lt)) (m.left one (from + x) (omega arith)).live;
}

pub lanes_left : (done : List Bool) (first now : List FeedbackPath) (samples : List (List ℤ)) (l : Left) (four : List FeedbackPath)
    (rows : List (List ℤ)) (b last : List ℤ) (from : ℕ) → AreMarked done first now samples → from ≤ 4 → AreLeft now done l → 1 ≤ l.count
    → ((x : ℕ) → x < 4 → path_at four x ≡ path_at now (get_or l.places (from + x) 0)) → AreLanesRun four rows b last
    → (x : ℕ) → x < 4 → IsLaneRun (path_at first (get_or l.places (from + x) 0)) rows x (get_or b x (pos 0)) (get_or last x (pos 0))
lanes_left done first now samples l four rows b last from m le left one same run x lt =
    let h = left.left one (from + x) (omega arith) in
    subst (λ p. IsLaneRun p rows x (get_or b x (pos 0)) (get_or last x (pos 0))) (same x lt ∙ m.left _ h.below h.left) (run.lane x lt)
