-- What the end of a run says, clause by clause of the top call.
use Rattle.std.proofs.Common.{◌≡◌, ◌≢◌, ◌⊎◌, ℕ, zero, suc, ◌+◌, ◌-◌, ◌<◌, ◌≤◌, List, [], ◌∷◌, length, take, refl, sym, ap, ◌∙◌, subst, inl, inr, ⊎_elim, arith}
use Rattle.std.specs.Prelude.{◌==◌, Bool, true, false, Option, Some, None, IfSome, IsSomeAnd, option_map, is_some, slice_index_or, if◌then◌else◌}
use Rattle.std.proofs.lemmas.Bool.Decides.{eqb_tells}
use Rattle.std.specs.FinMap.{get, insert}
use Rattle.outside.specs.Files.{Files, Lacks, file_of, said}
use Rattle.outside.specs.Faults.{Rose}
use Rattle.outside.proofs.Shelves.{get-insert_same, get-insert_other, get-first}
use Rattle.fault_lines.specs.Lines.{Says, cannot_read, out_of_memory, limit_file, limit_commands}
use Rattle.fault_lines.specs.Statuses.{IsOneOf}
use Rattle.command_set.specs.Entries.{LoggedData}
use Rattle.script_plan.specs.Plan.{PlannedData}
use Rattle.script_outcome.specs.declared.fault.Place.{Place}
use Rattle.script_outcome.specs.declared.fault.ScriptKind.{ScriptKind}
use Rattle.script_outcome.specs.Plan.{Plan, Commands, Refused, TooMany}
use Rattle.script_read.specs.Plan.{plan}
use Rattle.take_files.specs.Files.{wav}
use Rattle.take_files.specs.Orders.{OrderData, IsOrder, IsOrdered}
use Rattle.take_files.proofs.Laws.{orders_unique}
use Rattle.turns.specs.Turns.{blocks_of, others_than, plan_of, many_commands}
use Rattle.turns.specs.Timed.{ArePlayed, IsTimed}
use Rattle.play_core.specs.declared.totals.Totals.{Totals}
use Rattle.play_core.specs.declared.refusal.PlayRefusal.{PlayRefusal}
use Rattle.play_core.specs.declared.refusal.PlayRefusal.TheVariants as why
use Rattle.play_core.specs.Words.{RequestData, requested_by}
use Rattle.play_core.specs.Limits.{command_limit}
use Rattle.play_core.specs.Verdict.{Verdict, Lacking, LongFile, LongScripts, Faulty, ManyCommands, ManyBlocks, Plays, IsPlayed, verdict, plans_in}
use Rattle.play_core.specs.Verdict.{blocks_of_run, places_of_run, nothing, with_script, with_plan, of_plan, of_file, of_blocks, of_scripts}
use Rattle.play_core.specs.Refused.{IsCaused, IsUnread, AgreesWith}
use Rattle.play_core.specs.Lines.{refusal_line, refusal_status, report, fault_line}
use Rattle.play_core.specs.Files.{AreBegun, with_two}
use Rattle.outside.specs.Snapshot.{Snapshot}
use Rattle.play_core.specs.Run.{HavePlans, IsRefused, IsStoppedRun, IsDone, IsRun, IsPlayedRun, SaysOfStop, report_of, left_of, sound_of, order_of, played}
use Rattle.play_core.proofs.Counts.{all_played, some_left, length_blocks, length_part}
use Rattle.play_core.proofs.Prompt.{all_prompt, one_alone}
use Rattle.play_core.specs.Headline.{Answers, ArePrompt, Asks, HasAll, IsComplete, IsLimit, LacksSome, Lists, Played, PlayedAs, Told, WasPlayed, journal_alone}
use Rattle.play_core.specs.Headline.{limit_line}

-- the words ask for this, over files that may be told

pub asked_for : (words : List (List ℕ)) (a : RequestData) (P : RequestData → Type 0) → requested_by words ≡ Some a → P a → Asks words P
asked_for words a P asks p = rw asks p

pub told_of : (words : List (List ℕ)) (files : Option Files) (a : RequestData) (P : RequestData → Files → Type 0) → requested_by words ≡ Some a
    → ((told : Files) → files ≡ Some told → P a told) → Told words files P
told_of words None a P asks p = rw asks tt
told_of words (Some told) a P asks p = rw asks (p told refl)

if_told : (P : Files → Type 0) (files : Option Files) (told : Files) → files ≡ Some told → IfSome files P → P told
if_told P files told is all = subst (λ (o : Option Files). IfSome o P) is all

-- the ends of a run by their statuses

left_status : (left status : ℕ) → status ≡ (if left == 0 then 0 else 5) → WasPlayed status
left_status left status is = by_test (left == 0) is
  where
    by_test : (b : Bool) → status ≡ (if b then 0 else 5) → WasPlayed status
    by_test true e = inl e
    by_test false e = inr e

pub refused_status : (why : PlayRefusal) (status : ℕ) → status ≡ refusal_status why → WasPlayed status ⊎ (status ≡ 3) → ⊥
refused_status (why.Unread k) status is (inl (inl e)) = absurd (omega arith)
refused_status (why.Unread k) status is (inl (inr e)) = absurd (omega arith)
refused_status (why.Unread k) status is (inr e) = absurd (omega arith)
refused_status why.LongFile status is (inl (inl e)) = absurd (omega arith)
refused_status why.LongFile status is (inl (inr e)) = absurd (omega arith)
refused_status why.LongFile status is (inr e) = absurd (omega arith)
refused_status why.LongScripts status is (inl (inl e)) = absurd (omega arith)
refused_status why.LongScripts status is (inl (inr e)) = absurd (omega arith)
refused_status why.LongScripts status is (inr e) = absurd (omega arith)
refused_status (why.Fault k place what) status is (inl (inl e)) = absurd (omega arith)
refused_status (why.Fault k place what) status is (inl (inr e)) = absurd (omega arith)
refused_status (why.Fault k place what) status is (inr e) = absurd (omega arith)
refused_status why.ManyCommands status is (inl (inl e)) = absurd (omega arith)
refused_status why.ManyCommands status is (inl (inr e)) = absurd (omega arith)
refused_status why.ManyCommands status is (inr e) = absurd (omega arith)
refused_status why.ManyBlocks status is (inl (inl e)) = absurd (omega arith)
refused_status why.ManyBlocks status is (inl (inr e)) = absurd (omega arith)
refused_status why.ManyBlocks status is (inr e) = absurd (omega arith)
refused_status why.Memory status is (inl (inl e)) = absurd (omega arith)
refused_status why.Memory status is (inl (inr e)) = absurd (omega arith)
refused_status why.Memory status is (inr e) = absurd (omega arith)

module _ (a : RequestData) (before now : Snapshot) (status : ℕ) where
  done_of : IsRun a before now status → WasPlayed status → IsDone a before now status
  done_of (inl r) was = absurd (refused_status r.why status r.status_is (inl was))
  done_of (inr (inl s)) (inl e) = let is = s.status_is in absurd (omega arith)
  done_of (inr (inl s)) (inr e) = let is = s.status_is in absurd (omega arith)
  done_of (inr (inr d)) was = d

  stopped_of : IsRun a before now status → status ≡ 3 → IsStoppedRun a before now status
  stopped_of (inl r) is = absurd (refused_status r.why status r.status_is (inr is))
  stopped_of (inr (inl s)) is = s
  stopped_of (inr (inr d)) is = ⊎_elim (λ (e : status ≡ 0). absurd (omega arith)) (λ (e : status ≡ 5).
      absurd (omega arith)) (left_status (left_of d.plans d.journal) status d.status_is)

  refused_of : IsRun a before now status → ¬ (WasPlayed status) → status ≢ 3 → IsRefused a before now status
  refused_of (inl r) not other = r
  refused_of (inr (inl s)) not other = absurd (other s.status_is)
  refused_of (inr (inr d)) not other = absurd (not (left_status (left_of d.plans d.journal) status d.status_is))

  pub statuses : IsRun a before now status → IsOneOf status (0 ∷ 1 ∷ 2 ∷ 3 ∷ 4 ∷ 5 ∷ 6 ∷ 8 ∷ [])
  statuses (inl r) = of_refusal r.why r.status_is
    where
      of_refusal : (why : PlayRefusal) → status ≡ refusal_status why → IsOneOf status (0 ∷ 1 ∷ 2 ∷ 3 ∷ 4 ∷ 5 ∷ 6 ∷ 8 ∷ [])
      of_refusal (why.Unread k) is = inr (inr (inl is))
      of_refusal why.LongFile is = inr (inr (inr (inr (inr (inr (inl is))))))
      of_refusal why.LongScripts is = inr (inr (inr (inr (inr (inr (inl is))))))
      of_refusal (why.Fault k place what) is = inr (inr (inr (inr (inl is))))
      of_refusal why.ManyCommands is = inr (inr (inr (inr (inr (inr (inl is))))))
      of_refusal why.ManyBlocks is = inr (inr (inr (inr (inr (inr (inl is))))))
      of_refusal why.Memory is = inr (inr (inr (inr (inr (inr (inr (inl is)))))))
  statuses (inr (inl s)) = inr (inr (inr (inl s.status_is)))
  statuses (inr (inr d)) = ⊎_elim (λ (e : status ≡ 0). inl e) (λ (e : status ≡ 5).
      inr (inr (inr (inr (inr (inl e)))))) (left_status (left_of d.plans d.journal) status d.status_is)

  pub not_usage : IsRun a before now status → status ≢ 1
  not_usage (inl r) is = of_refusal r.why r.status_is
    where
      of_refusal : (why : PlayRefusal) → status ≡ refusal_status why → ⊥
      of_refusal (why.Unread k) e = omega arith
      of_refusal why.LongFile e = omega arith
      of_refusal why.LongScripts e = omega arith
      of_refusal (why.Fault k place what) e = omega arith
      of_refusal why.ManyCommands e = omega arith
      of_refusal why.ManyBlocks e = omega arith
      of_refusal why.Memory e = omega arith
  not_usage (inr (inl s)) is = let e = s.status_is in omega arith
  not_usage (inr (inr d)) is = ⊎_elim (λ (e : status ≡ 0). omega arith) (λ (e : status ≡ 5).
      omega arith) (left_status (left_of d.plans d.journal) status d.status_is)

-- the plans of the run and those of the verdict are the same
plans_told : (a : RequestData) (files : Option Files) (told : Files) (plans : List (List PlannedData)) → HavePlans a files plans → files ≡ Some told
    → verdict a told ≡ Plays plans
plans_told a files told plans planned is = if_told (λ x. verdict a x ≡ Plays plans) files told is planned.1

-- ---- numbers of commands

none_left : (left status : ℕ) → status ≡ (if left == 0 then 0 else 5) → status ≡ 0 → left ≡ 0
none_left zero status is none = refl
none_left (suc n) status is none = absurd (grind (arith, eqb_tells (suc n) 0))

some_is_left : (left status : ℕ) → status ≡ (if left == 0 then 0 else 5) → status ≡ 5 → 0 < left
some_is_left zero status is some = absurd (grind (arith, eqb_tells 0 0))
some_is_left (suc n) status is some = omega arith

pub own_blocks : (asked : Option ℕ) (plans : List (List PlannedData)) → IfSome asked (λ n. blocks_of_run asked plans ≡ n)
own_blocks None plans = tt
own_blocks (Some n) plans = refl

other_status : (status n : ℕ) → status ≡ n → n ≢ 0 → n ≢ 5 → ¬ (WasPlayed status)
other_status status n is a b (inl e) = a (sym is ∙ e)
other_status status n is a b (inr e) = b (sym is ∙ e)

few_places : (a : RequestData) (plans : List (List PlannedData)) (journal : List LoggedData) → IsTimed journal plans (places_of_run a.places plans)
    → 0 < many_commands plans - length journal
    → places_of_run a.places plans < many_commands plans
few_places a plans journal timed left =
    let lacks = some_left plans journal timed.played left in
    let k = lacks.0 in
    let bound : places_of_run a.places plans ≤ length (blocks_of k journal) + others_than plans k =
    timed.full k (length (blocks_of k journal)) lacks.1 (rw (length_blocks k journal) lacks.2) (inl (omega arith)) in
    omega (arith, bound, length_blocks k journal, lacks.2, length_part plans k lacks.1)

-- with one place for each command the line has room for all
named_places : (asked : Option ℕ) (plans : List (List PlannedData)) → places_of_run asked plans < many_commands plans
    → IsSomeAnd asked (λ p. p < many_commands plans)
named_places None plans few = absurd (omega (arith, few))
named_places (Some p) plans few = few

-- ---- refusals

with_plan_played : (one : List PlannedData) (said : Verdict) → IsPlayed (with_plan one said) → IsPlayed said
with_plan_played one (Plays plans) p = tt
with_plan_played one (Lacking name) p = p
with_plan_played one LongFile p = p
with_plan_played one LongScripts p = p
with_plan_played one (Faulty number place what) p = p
with_plan_played one ManyCommands p = p
with_plan_played one ManyBlocks p = p

chosen_lacks : (b c : Bool) (number : ℕ) (p : Plan) (f g : List PlannedData → Verdict) (x : List ℕ)
    → IsPlayed (if b then LongFile else if c then LongScripts else of_plan number p f) → ((one : List PlannedData) → IsPlayed (f one) → g one ≡ Lacking x)
    → (if b then LongFile else if c then LongScripts else of_plan number p g) ≡ Lacking x
chosen_lacks true c number p f g x played next = absurd played
chosen_lacks false true number p f g x played next = absurd played
chosen_lacks false false number (Commands one) f g x played next = ap (with_plan one) (next one (with_plan_played one (f one) played))
chosen_lacks false false number (Refused place what) f g x played next = absurd played
chosen_lacks false false number TooMany f g x played next = absurd played

file_lacks : (blocks : Option ℕ) (t : Totals) (name : List ℕ) (o : Option (List ℕ)) (f g : List ℕ → List PlannedData → Verdict) (x : List ℕ)
    → IsPlayed (of_file blocks t name o f) → ((text : List ℕ) (one : List PlannedData) → IsPlayed (f text one) → g text one ≡ Lacking x)
    → of_file blocks t name o g ≡ Lacking x
file_lacks blocks t name None f g x played next = absurd played
file_lacks blocks t name (Some text) f g x played next = chosen_lacks _ _ t.scripts (plan text blocks (command_limit - t.commands)) (f text) (g text) x played
    (next text)

lacking_at : (told : Files) (blocks : Option ℕ) (names : List (List ℕ)) (k : ℕ) (t : Totals) → k < length names
    → IsPlayed (of_scripts told blocks t (take k names))
    → get told (slice_index_or names k []) ≡ None → of_scripts told blocks t names ≡ Lacking (slice_index_or names k [])
unfolding of_scripts
lacking_at told blocks [] k t below played none = absurd (omega arith)
lacking_at told blocks (name ∷ names) zero t below played none = rw none refl
lacking_at told blocks (name ∷ names) (suc k) t below played none =
    file_lacks blocks t name (get told name) (λ text one. of_scripts told blocks (with_script t (length text) (length one)) (take k names))
    (λ text one. of_scripts told blocks (with_script t (length text) (length one)) names) (slice_index_or names k []) played
    (λ text one p. lacking_at told blocks names k (with_script t (length text) (length one)) (omega arith) p none)

lacks_none : (told : Files) (name : List ℕ) → Lacks (Some told) name → get told name ≡ None
lacks_none told name lacks = by_get (get told name) lacks
  where
    by_get : (o : Option (List ℕ)) → is_some o ≡ false → o ≡ None
    by_get None e = refl
    by_get (Some x) e = absurd (cc)

lacking_verdict : (a : RequestData) (told : Files) (k : ℕ) (before now : ℕ) → IsUnread k a.blocks (Some told) a.scripts before now → ¬ (Rose before now)
    → verdict a told ≡ Lacking (slice_index_or a.scripts k [])
unfolding verdict
lacking_verdict a told k before now u none =
    ap (of_blocks a.blocks) (lacking_at told a.blocks a.scripts k nothing u.within u.earlier
    (lacks_none told (slice_index_or a.scripts k []) (⊎_elim (λ (r : Rose before now).
    absurd (none r)) (λ (l : Lacks (Some told) (slice_index_or a.scripts k [])). l) u.cause)))

eight : (v : Verdict) (status : ℕ) → status ≡ 8 → Answers v status
eight (Plays plans) status is = inr (inr (inr (inl is)))
eight (Lacking name) status is = inr (inl is)
eight LongFile status is = inr (inl is)
eight LongScripts status is = inr (inl is)
eight (Faulty number place what) status is = inr (inl is)
eight ManyCommands status is = inr (inl is)
eight ManyBlocks status is = inr (inl is)

module _ (a : RequestData) (before now : Snapshot) (status : ℕ) where
  refused_answers : (told : Files) → before.files ≡ Some told → ¬ (Rose before.reading now.reading) → (why : PlayRefusal) → status ≡ refusal_status why
      → IsCaused why a.blocks before.files a.scripts before.reading now.reading → AgreesWith why (verdict a told) → Answers (verdict a told) status
  refused_answers told is none (why.Unread k) e cause tells =
      rw (lacking_verdict a told k before.reading now.reading (subst (λ (o : Option Files).
      IsUnread k a.blocks o a.scripts before.reading now.reading) is cause) none) (inl e)
  refused_answers told is none why.LongFile e cause tells = rw tells (inl e)
  refused_answers told is none why.LongScripts e cause tells = rw tells (inl e)
  refused_answers told is none (why.Fault k place what) e cause tells = rw tells (inl e)
  refused_answers told is none why.ManyCommands e cause tells = rw tells (inl e)
  refused_answers told is none why.ManyBlocks e cause tells = rw tells (inl e)
  refused_answers told is none why.Memory e cause tells = eight (verdict a told) status e

  judged_of : (told : Files) → before.files ≡ Some told → ¬ (Rose before.reading now.reading) → IsRun a before now status → Answers (verdict a told) status
  judged_of told is none (inl r) = refused_answers told is none r.why r.status_is r.cause
      (if_told (λ x. AgreesWith r.why (verdict a x)) before.files told is r.tells)
  judged_of told is none (inr (inl s)) = subst (λ (v : Verdict). Answers v status) (sym (plans_told a before.files told s.plans s.planned is))
      (inr (inl s.status_is))
  judged_of told is none (inr (inr d)) = subst (λ (v : Verdict). Answers v status) (sym (plans_told a before.files told d.plans d.planned is))
      (⊎_elim (λ (e : status ≡ 0). inl e) (λ (e : status ≡ 5). inr (inr (inl e))) (left_status (left_of d.plans d.journal) status d.status_is))

  reads_of : IsRun a before now status → status ≢ 2 → now.reading ≡ before.reading
  reads_of (inl r) other = by_why r.why r.status_is r.cause
    where
      by_why : (why : PlayRefusal) → status ≡ refusal_status why → IsCaused why a.blocks before.files a.scripts before.reading now.reading
          → now.reading ≡ before.reading
      by_why (why.Unread k) e cause = absurd (other e)
      by_why why.LongFile e cause = cause
      by_why why.LongScripts e cause = cause
      by_why (why.Fault k place what) e cause = cause
      by_why why.ManyCommands e cause = cause
      by_why why.ManyBlocks e cause = cause
      by_why why.Memory e cause = cause
  reads_of (inr (inl s)) other = s.reading
  reads_of (inr (inr d)) other = d.reading

  writes_of : IsRun a before now status → status ≢ 3 → now.writing ≡ before.writing
  writes_of (inl r) other = r.writing
  writes_of (inr (inl s)) other = absurd (other s.status_is)
  writes_of (inr (inr d)) other = d.writing

  unread_of : IsRefused a before now status → status ≡ 2 → (k : ℕ) × IsUnread k a.blocks before.files a.scripts before.reading now.reading
      × Says (cannot_read (slice_index_or a.scripts k [])) before.written now.written before.faults now.faults
  unread_of r two = by_why r.why r.status_is r.cause r.line
    where
      by_why : (why : PlayRefusal) → status ≡ refusal_status why → IsCaused why a.blocks before.files a.scripts before.reading now.reading
          → Says (refusal_line why a.scripts) before.written now.written before.faults now.faults
          → (k : ℕ) × IsUnread k a.blocks before.files a.scripts before.reading now.reading
          × Says (cannot_read (slice_index_or a.scripts k [])) before.written now.written before.faults now.faults
      by_why (why.Unread k) e cause line = (k, cause, line)
      by_why why.LongFile e cause line = absurd (omega arith)
      by_why why.LongScripts e cause line = absurd (omega arith)
      by_why (why.Fault k place what) e cause line = absurd (omega arith)
      by_why why.ManyCommands e cause line = absurd (omega arith)
      by_why why.ManyBlocks e cause line = absurd (omega arith)
      by_why why.Memory e cause line = absurd (omega arith)

  memory_of : IsRefused a before now status → status ≡ 8 → Says out_of_memory before.written now.written before.faults now.faults
  memory_of r is = by_why r.why r.status_is r.line
    where
      by_why : (why : PlayRefusal) → status ≡ refusal_status why → Says (refusal_line why a.scripts) before.written now.written before.faults now.faults
          → Says out_of_memory before.written now.written before.faults now.faults
      by_why (why.Unread k) e line = absurd (omega arith)
      by_why why.LongFile e line = absurd (omega arith)
      by_why why.LongScripts e line = absurd (omega arith)
      by_why (why.Fault k place what) e line = absurd (omega arith)
      by_why why.ManyCommands e line = absurd (omega arith)
      by_why why.ManyBlocks e line = absurd (omega arith)
      by_why why.Memory e line = line

  -- the same of the files that are told, whatever the words
  told_tells : (words : List (List ℕ)) (v : Verdict) → requested_by words ≡ Some a → ((told : Files) → before.files ≡ Some told → verdict a told ≡ v)
      → Told words before.files (λ b told. verdict b told ≡ v)
  told_tells words v asks f = told_of words before.files a (λ b told. verdict b told ≡ v) asks f

  fault_of : (words : List (List ℕ)) → requested_by words ≡ Some a → IsRefused a before now status → status ≡ 4
      → (k : ℕ) × (place : Place) × (what : ScriptKind) × Told words before.files (λ b told. verdict b told ≡ Faulty k place what)
      × Says (fault_line k place what) before.written now.written before.faults now.faults
  fault_of words asks r four = by_why r.why r.status_is (λ told is. if_told (λ x. AgreesWith r.why (verdict a x)) before.files told is r.tells) r.line
    where
      by_why : (why : PlayRefusal) → status ≡ refusal_status why → ((told : Files) → before.files ≡ Some told → AgreesWith why (verdict a told))
          → Says (refusal_line why a.scripts) before.written now.written before.faults now.faults
          → (k : ℕ) × (place : Place) × (what : ScriptKind) × Told words before.files (λ b told. verdict b told ≡ Faulty k place what)
          × Says (fault_line k place what) before.written now.written before.faults now.faults
      by_why (why.Unread k) e tells line = absurd (omega arith)
      by_why why.LongFile e tells line = absurd (omega arith)
      by_why why.LongScripts e tells line = absurd (omega arith)
      by_why (why.Fault k place what) e tells line = (k, place, what, told_tells words (Faulty k place what) asks tells, line)
      by_why why.ManyCommands e tells line = absurd (omega arith)
      by_why why.ManyBlocks e tells line = absurd (omega arith)
      by_why why.Memory e tells line = absurd (omega arith)

  limit_of : (words : List (List ℕ)) → requested_by words ≡ Some a → IsRefused a before now status → status ≡ 6
      → (v : Verdict) × IsLimit v × Told words before.files (λ b told. verdict b told ≡ v)
      × Says (limit_line v) before.written now.written before.faults now.faults
  limit_of words asks r six = by_why r.why r.status_is (λ told is. if_told (λ x. AgreesWith r.why (verdict a x)) before.files told is r.tells) r.line
    where
      by_why : (why : PlayRefusal) → status ≡ refusal_status why → ((told : Files) → before.files ≡ Some told → AgreesWith why (verdict a told))
          → Says (refusal_line why a.scripts) before.written now.written before.faults now.faults
          → (v : Verdict) × IsLimit v × Told words before.files (λ b told. verdict b told ≡ v)
          × Says (limit_line v) before.written now.written before.faults now.faults
      by_why (why.Unread k) e tells line = absurd (omega arith)
      by_why why.LongFile e tells line = (LongFile, tt, told_tells words LongFile asks tells, line)
      by_why why.LongScripts e tells line = (LongScripts, tt, told_tells words LongScripts asks tells, line)
      by_why (why.Fault k place what) e tells line = absurd (omega arith)
      by_why why.ManyCommands e tells line = (ManyCommands, tt, told_tells words ManyCommands asks tells, line)
      by_why why.ManyBlocks e tells line = (ManyBlocks, tt, told_tells words ManyBlocks asks tells, line)
      by_why why.Memory e tells line = absurd (omega arith)

  -- a refusal that the told files don't bear out
  refused_complete : (told : Files) (plans : List (List PlannedData)) → before.files ≡ Some told → verdict a told ≡ Plays plans
      → ¬ (Rose before.reading now.reading)
      → (why : PlayRefusal) → status ≡ refusal_status why → IsCaused why a.blocks before.files a.scripts before.reading now.reading
      → AgreesWith why (verdict a told) → status ≡ 8
  refused_complete told plans is right none (why.Unread k) e cause tells =
      let lacks = lacking_verdict a told k before.reading now.reading (subst (λ (o : Option Files).
      IsUnread k a.blocks o a.scripts before.reading now.reading) is cause) none in absurd (cc)
  refused_complete told plans is right none why.LongFile e cause tells = absurd (cc)
  refused_complete told plans is right none why.LongScripts e cause tells = absurd (cc)
  refused_complete told plans is right none (why.Fault k place what) e cause tells = absurd (cc)
  refused_complete told plans is right none why.ManyCommands e cause tells = absurd (cc)
  refused_complete told plans is right none why.ManyBlocks e cause tells = absurd (cc)
  refused_complete told plans is right none why.Memory e cause tells = e

  complete_of : (told : Files) (plans : List (List PlannedData)) → before.files ≡ Some told → verdict a told ≡ Plays plans → IsRun a before now status
      → ¬ (Rose before.reading now.reading) → ¬ (Rose before.writing now.writing) → ¬ (Rose before.faults now.faults)
      → IsOneOf status (0 ∷ 5 ∷ 8 ∷ []) × (many_commands plans ≤ places_of_run a.places plans → IsOneOf status (0 ∷ 8 ∷ []))
  complete_of told plans is right (inl r) reading writing faults =
      let e = refused_complete told plans is right reading r.why r.status_is r.cause
      (if_told (λ x. AgreesWith r.why (verdict a x)) before.files told is r.tells) in
      (inr (inr (inl e)), λ room. inr (inl e))
  complete_of told plans is right (inr (inl s)) reading writing faults = absurd (⊎_elim (λ w. writing w.0) (λ p. faults p.1) s.line)
  complete_of told plans is right (inr (inr d)) reading writing faults =
      let same : Plays plans ≡ Plays d.plans = sym right ∙ plans_told a before.files told d.plans d.planned is in
      let are : plans ≡ d.plans = ap plans_in same in
      ⊎_elim
      (λ (e : status ≡ 0). (inl e, λ room. inl e))
      (λ (e : status ≡ 5). (
        inr (inl e),
        λ room.
            let few : places_of_run a.places d.plans < many_commands d.plans =
            few_places a d.plans d.journal d.timed (some_is_left (left_of d.plans d.journal) status d.status_is e) in
            let room_too : many_commands d.plans ≤ places_of_run a.places d.plans =
            subst (λ (l : List (List PlannedData)). many_commands l ≤ places_of_run a.places l) are room in
            absurd (omega (arith, few, room_too)),
      ))
      (left_status (left_of d.plans d.journal) status d.status_is)

-- what an order file says, of a journal with its plans
abbrev pub data_of : RequestData → List (List PlannedData) → List LoggedData → OrderData
data_of a plans journal = record { journal = journal; blocks = blocks_of_run a.blocks plans; scripts = length plans }

module _ (words : List (List ℕ)) (a : RequestData) (before now : Snapshot) (status : ℕ) (asks : requested_by words ≡ Some a) (differ : a.out ≢ a.order)
    (run : IsRun a before now status) where
  -- a fact of the run's end, of the files that are told
  of_done : (P : RequestData → List (List PlannedData) → Type 0) → ((d : IsDone a before now status) (told : Files) → before.files ≡ Some told → P a d.plans)
      → Played words status before.files P
  of_done P f = λ was. told_of words before.files a (λ b told. P b (plans_in (verdict b told))) asks
      (λ told is. let d = done_of a before now status run was in
      subst (λ (v : Verdict). P a (plans_in v)) (sym (plans_told a before.files told d.plans d.planned is)) (f d told is))

  order_bytes : (d : IsDone a before now status) (told : Files) → before.files ≡ Some told → file_of now.files a.order ≡ Some (order_of a d.plans d.journal)
  order_bytes d told is =
      ap (λ (o : Option Files). file_of o a.order) (d.files ∙ ap (option_map (played a d.plans d.journal)) is)
      ∙ get-insert_same (insert told a.out (sound_of a d.plans d.journal)) a.order (order_of a d.plans d.journal)

  sound_bytes : (d : IsDone a before now status) (told : Files) → before.files ≡ Some told → file_of now.files a.out ≡ Some (sound_of a d.plans d.journal)
  sound_bytes d told is =
      ap (λ (o : Option Files). file_of o a.out) (d.files ∙ ap (option_map (played a d.plans d.journal)) is)
      ∙ get-first told a.out (sound_of a d.plans d.journal) a.order (order_of a d.plans d.journal) differ

  same_order : (d : IsDone a before now status) (told : Files) → before.files ≡ Some told → (o : OrderData) → Lists now.files a.order o
      → o ≡ data_of a d.plans d.journal
  same_order d told is o lists =
      orders_unique.journals (order_of a d.plans d.journal) o (data_of a d.plans d.journal)
      (subst (λ (f : Option (List ℕ)). IsSomeAnd f (λ text. IsOrder text o)) (order_bytes d told is) lists)
      (record { ordered = d.ordered; spelled = refl })

  -- a fact of the journal that the order file lists
  pub of_order : (P : RequestData → List (List PlannedData) → OrderData → Type 0)
      → ((d : IsDone a before now status) (told : Files) → before.files ≡ Some told → P a d.plans (data_of a d.plans d.journal))
      → PlayedAs words status before.files now.files P
  of_order P f = of_done (λ b plans. (o : OrderData) → Lists now.files b.order o → P b plans o)
      (λ d told is o lists. subst (λ (x : OrderData). P a d.plans x) (sym (same_order d told is o lists)) (f d told is))

  pub clause_order : Played words status before.files (λ b plans. (o : OrderData) × Lists now.files b.order o × (o.scripts ≡ length b.scripts)
      × ((other : OrderData) → Lists now.files b.order other → other ≡ o))
  clause_order = of_done (λ b plans. (o : OrderData) × Lists now.files b.order o × (o.scripts ≡ length b.scripts)
      × ((other : OrderData) → Lists now.files b.order other → other ≡ o))
      (λ d told is. (
        data_of a d.plans d.journal,
        (subst (λ (f : Option (List ℕ)). IsSomeAnd f (λ text. IsOrder text (data_of a d.plans d.journal))) (sym (order_bytes d told is))
            (record { ordered = d.ordered; spelled = refl })),
        d.planned.0,
        same_order d told is,
      ))

  pub clause_blocks : PlayedAs words status before.files now.files (λ b plans o. o.blocks ≡ blocks_of_run b.blocks plans)
  clause_blocks = of_order (λ b plans o. o.blocks ≡ blocks_of_run b.blocks plans) (λ d told is. refl)

  pub clause_sound : PlayedAs words status before.files now.files (λ b plans o. file_of now.files b.out ≡ Some (wav o.journal o.blocks))
  clause_sound = of_order (λ b plans o. file_of now.files b.out ≡ Some (wav o.journal o.blocks)) (λ d told is. sound_bytes d told is)

  pub clause_all : status ≡ 0 → PlayedAs words status before.files now.files (λ b plans o. HasAll o.journal plans)
  clause_all none = of_order (λ b plans o. HasAll o.journal plans) (λ d told is.
      all_played d.plans d.journal d.timed.played (none_left (left_of d.plans d.journal) status d.status_is none))

  pub clause_played : PlayedAs words status before.files now.files (λ b plans o. ArePlayed o.journal plans)
  clause_played = of_order (λ b plans o. ArePlayed o.journal plans) (λ d told is. d.timed.played)

  pub clause_left : status ≡ 5 → PlayedAs words status before.files now.files (λ b plans o. LacksSome o.journal plans)
  clause_left five = of_order (λ b plans o. LacksSome o.journal plans) (λ d told is.
      some_left d.plans d.journal d.timed.played (some_is_left (left_of d.plans d.journal) status d.status_is five))

  pub clause_timed : PlayedAs words status before.files now.files (λ b plans o. IsTimed o.journal plans (places_of_run b.places plans))
  clause_timed = of_order (λ b plans o. IsTimed o.journal plans (places_of_run b.places plans)) (λ d told is. d.timed)

  pub clause_prompt : PlayedAs words status before.files now.files (λ b plans o. many_commands plans ≤ places_of_run b.places plans → ArePrompt o.journal plans)
  clause_prompt = of_order (λ b plans o. many_commands plans ≤ places_of_run b.places plans → ArePrompt o.journal plans)
      (λ d told is room. all_prompt d.plans d.journal (places_of_run a.places d.plans) d.timed room)

  pub clause_alone : PlayedAs words status before.files now.files
      (λ b plans o. many_commands plans ≤ places_of_run b.places plans → length plans ≡ 1 → o.journal ≡ journal_alone 0 (plan_of plans 0))
  clause_alone = of_order (λ b plans o. many_commands plans ≤ places_of_run b.places plans → length plans ≡ 1 → o.journal ≡ journal_alone 0 (plan_of plans 0))
      (λ d told is room one. one_alone d.plans d.journal (places_of_run a.places d.plans) d.timed room one)

  pub clause_others : Played words status before.files (λ b plans. (other : List ℕ) → other ≢ b.out → other ≢ b.order
      → file_of now.files other ≡ file_of before.files other)
  clause_others = of_done (λ b plans. (other : List ℕ) → other ≢ b.out → other ≢ b.order → file_of now.files other ≡ file_of before.files other)
      (λ d told is other first second.
      ap (λ (o : Option Files). file_of o other) (d.files ∙ ap (option_map (played a d.plans d.journal)) is)
      ∙ get-insert_other (insert told a.out (sound_of a d.plans d.journal)) a.order (order_of a d.plans d.journal) other second
      ∙ get-insert_other told a.out (sound_of a d.plans d.journal) other first
      ∙ ap (λ (o : Option Files). file_of o other) (sym is))

  pub clause_report : PlayedAs words status before.files now.files (λ b plans o. now.written ≡ option_map (said (report_of b plans o.journal)) before.written)
  clause_report = of_order (λ b plans o. now.written ≡ option_map (said (report_of b plans o.journal)) before.written) (λ d told is. d.written)

  pub clause_line : WasPlayed status → Asks words (λ b. (left : ℕ) × (blocks : ℕ) × (commands : ℕ) × (status ≡ (if left == 0 then 0 else 5))
      × IfSome b.blocks (λ n. blocks ≡ n)
      × (now.written ≡ option_map (said (report left blocks commands)) before.written))
  clause_line was =
      let d = done_of a before now status run was in
      asked_for words a (λ b. (left : ℕ) × (blocks : ℕ) × (commands : ℕ) × (status ≡ (if left == 0 then 0 else 5)) × IfSome b.blocks (λ n. blocks ≡ n)
      × (now.written ≡ option_map (said (report left blocks commands)) before.written)) asks
      (left_of d.plans d.journal, blocks_of_run a.blocks d.plans, length d.journal, d.status_is, own_blocks a.blocks d.plans, d.written)

  pub clause_right : WasPlayed status ⊎ (status ≡ 3) → Told words before.files (λ b told. IsPlayed (verdict b told))
  clause_right was = told_of words before.files a (λ b told. IsPlayed (verdict b told)) asks
      (λ told is. ⊎_elim
      (λ (w : WasPlayed status). let d = done_of a before now status run w in subst IsPlayed (sym (plans_told a before.files told d.plans d.planned is)) tt)
      (λ (e : status ≡ 3). let s = stopped_of a before now status run e in subst IsPlayed (sym (plans_told a before.files told s.plans s.planned is)) tt)
      was)

  pub clause_unread : status ≡ 2 → Asks words (λ b. (k : ℕ) × IsUnread k b.blocks before.files b.scripts before.reading now.reading
      × Says (cannot_read (slice_index_or b.scripts k [])) before.written now.written before.faults now.faults)
  clause_unread two = asked_for words a (λ b. (k : ℕ) × IsUnread k b.blocks before.files b.scripts before.reading now.reading
      × Says (cannot_read (slice_index_or b.scripts k [])) before.written now.written before.faults now.faults) asks
      (unread_of a before now status (refused_of a before now status run (other_status status 2 two (λ e. omega arith) (λ e. omega arith)) (λ e. omega arith))
      two)

  pub clause_write : status ≡ 3 → Rose before.writing now.writing ⊎ Rose before.faults now.faults
  clause_write three = let s = stopped_of a before now status run three in ⊎_elim (λ w. inl w.0) (λ p. inr p.1) s.line

  pub clause_stopped : status ≡ 3 → Asks words (λ b. (plans : List (List PlannedData)) × (journal : List LoggedData) × HavePlans b before.files plans
      × IsOrdered journal (blocks_of_run b.blocks plans) (length plans) × ArePlayed journal plans
      × AreBegun before.files now.files b.out (sound_of b plans journal) b.order (order_of b plans journal) × SaysOfStop b plans journal before now)
  clause_stopped three =
      let s = stopped_of a before now status run three in
      asked_for words a (λ b. (plans : List (List PlannedData)) × (journal : List LoggedData) × HavePlans b before.files plans
      × IsOrdered journal (blocks_of_run b.blocks plans) (length plans) × ArePlayed journal plans
      × AreBegun before.files now.files b.out (sound_of b plans journal) b.order (order_of b plans journal) × SaysOfStop b plans journal before now) asks
      (s.plans, s.journal, s.planned, s.ordered, s.begun, s.files, s.line)

  pub clause_fault : status ≡ 4 → (k : ℕ) × (place : Place) × (what : ScriptKind) × Told words before.files (λ b told. verdict b told ≡ Faulty k place what)
      × Says (fault_line k place what) before.written now.written before.faults now.faults
  clause_fault four = fault_of a before now status words asks (refused_of a before now status run
      (other_status status 4 four (λ e. omega arith) (λ e. omega arith)) (λ e. omega arith)) four

  pub clause_limit : status ≡ 6 → (v : Verdict) × IsLimit v × Told words before.files (λ b told. verdict b told ≡ v)
      × Says (limit_line v) before.written now.written before.faults now.faults
  clause_limit six = limit_of a before now status words asks (refused_of a before now status run
      (other_status status 6 six (λ e. omega arith) (λ e. omega arith)) (λ e. omega arith)) six

  pub clause_judged : Told words before.files (λ b told. ¬ (Rose before.reading now.reading) → Answers (verdict b told) status)
  clause_judged = told_of words before.files a (λ b told. ¬ (Rose before.reading now.reading) → Answers (verdict b told) status) asks (λ told is none.
      judged_of a before now status told is none run)

  pub clause_places : status ≡ 5 → Asks words (λ b. (plans : List (List PlannedData)) × HavePlans b before.files plans
      × IsSomeAnd b.places (λ p. p < many_commands plans))
  clause_places five =
      let d = done_of a before now status run (inr five) in
      asked_for words a (λ b. (plans : List (List PlannedData)) × HavePlans b before.files plans × IsSomeAnd b.places (λ p. p < many_commands plans)) asks (
        d.plans,
        d.planned,
        named_places a.places d.plans (few_places a d.plans d.journal d.timed
            (some_is_left (left_of d.plans d.journal) status d.status_is five)),
      )

  pub clause_reads : status ≢ 2 → now.reading ≡ before.reading
  clause_reads other = reads_of a before now status run other

  pub clause_writes : status ≢ 3 → now.writing ≡ before.writing
  clause_writes other = writes_of a before now status run other

  pub clause_puts : WasPlayed status → now.faults ≡ before.faults
  clause_puts was = let d = done_of a before now status run was in d.faults

  pub clause_untouched : ¬ (WasPlayed status) → status ≢ 3 → now.files ≡ before.files
  clause_untouched not other = let r = refused_of a before now status run not other in r.files

  pub clause_memory : status ≡ 8 → Says out_of_memory before.written now.written before.faults now.faults
  clause_memory is = memory_of a before now status (refused_of a before now status run (other_status status 8 is (λ e. omega arith) (λ e. omega arith)) (λ e.
      omega arith)) is

  pub clause_complete : ¬ (Rose before.reading now.reading) → ¬ (Rose before.writing now.writing) → ¬ (Rose before.faults now.faults)
      → Told words before.files (λ b told. IsComplete b (verdict b told) status)
  clause_complete reading writing faults = told_of words before.files a (λ b told. IsComplete b (verdict b told) status) asks
      (λ told is plans right. complete_of a before now status told plans is right run reading writing faults)
