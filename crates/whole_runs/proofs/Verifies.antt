-- What `tool verify` answers on the two files of a run.
use Rattle.std.proofs.Common.{◌≡◌, ◌≢◌, ◌≤◌, ◌<◌, ◌+◌, ◌*◌, ◌⊎◌, inl, inr, ℕ, List, [], ◌∷◌, ◌++◌, length, refl, sym, ◌∙◌, ap, subst, arith}
use Rattle.std.specs.Prelude.{Option, Some, None, IfSome, IsSomeAnd, is_some, false, unwrap_or, option_map, slice_get}
use Rattle.std.proofs.lemmas.Bool.{le-ltb}
use Rattle.std.specs.FinMap.{get}
use Rattle.outside.specs.Files.{Files, Lacks, content, file_of, said}
use Rattle.outside.specs.Faults.{Rose}
use Rattle.outside.specs.Snapshot.{Snapshot}
use Rattle.fault_lines.specs.Statuses.{IsOneOf}
use Rattle.take_files.specs.Files.{wav}
use Rattle.take_files.specs.Orders.{IsOrder, OrderData}
use Rattle.play_core.specs.Words as play
use Rattle.play_core.specs.Words.{RequestData}
use Rattle.play_core.specs.Headline.{Lists, Played, PlayedAs, WasPlayed}
use Rattle.tool_core.specs.declared.refusal.Refusal.{Refusal}
use Rattle.tool_core.specs.Verdicts.{Verdict, Lacking, TooLarge, TooMany, Refused, Good}
use Rattle.tool_core.specs.Orders.{IsOrderVerdict, sound_verdict, sound_limit, order_limit}
use Rattle.tool_core.specs.Words.{Verify, requested_by}
use Rattle.tool_core.specs.Inputs.{Input, AnOrder, ASound, IsJudged, Reaches, input}
use Rattle.tool_core.specs.Effects.{Effect, HasEffect, comparison, reads, written}
use Rattle.tool_core.specs.Comparisons.{IsCompared}
use Rattle.tool_core.specs.Lines.{same_line}
use Rattle.tool_core.specs.Outcomes.{WasDone, IsDone, IsUnread, IsUnwritten, FailsFile, FailsReport, IsRefused, IsPastLimit}
use Rattle.tool_core.proofs.Sounds.{length-wav}
use Rattle.whole_runs.specs.Verified.{Verified}

-- ---- what an option shows
pub at_some : {A : Type 0} (o : Option A) (P : A → Type 0) (x : A) → o ≡ Some x → IfSome o P → P x
at_some o P x is h = let k : IfSome (Some x) P = subst (λ (m : Option _). IfSome m P) is h in k

some_and : {A : Type 0} (o : Option A) (P : A → Type 0) → IsSomeAnd o P → (x : A) × (o ≡ Some x) × P x
some_and None P h = absurd h
some_and (Some x) P h = (x, refl, h)

some_at : {A : Type 0} (o : Option A) (P : A → Type 0) (x : A) → o ≡ Some x → P x → IfSome o P
some_at o P x is h = let k : IfSome (Some x) P = h in subst (λ (m : Option _). IfSome m P) (sym is) k

one_text : (o : Option (List ℕ)) (a b : List ℕ) → o ≡ Some a → o ≡ Some b → a ≡ b
one_text o a b x y = cc

-- ---- the files of a run
-- the order is there, and each reading of it has the sound that is there
pub record Left (order sound : List ℕ) (files : Files) : Type 0 where
  pub text : List ℕ
  pub there : get files order ≡ Some text
  pub o : OrderData
  pub lists : IsOrder text o
  pub sounds : (other : OrderData) → IsOrder text other → get files sound ≡ Some (wav other.journal other.blocks)

pub left_of : (order sound : List ℕ) (files : Files) (o : OrderData) → Lists (Some files) order o
    → ((other : OrderData) → Lists (Some files) order other → file_of (Some files) sound ≡ Some (wav other.journal other.blocks)) → Left order sound files
left_of order sound files o lists sounds =
    let found = some_and (get files order) (λ text. IsOrder text o) lists in
    record {
      text = found.0;
      there = found.1;
      o = o;
      lists = found.2;
      sounds = λ other is. sounds other (subst (λ (g : Option (List ℕ)). IsSomeAnd g (λ text. IsOrder text other)) (sym (found.1)) is);
    }

is_there : (g : Option (List ℕ)) (text : List ℕ) → g ≡ Some text → is_some g ≡ false → ⊥
is_there None text e h = cc
is_there (Some other) text e h = cc

no_place : {A : Type 0} (earlier : List A) (one : A) (later : List A) → [] ≡ earlier ++ one ∷ later → ⊥
no_place [] one later e = cc
no_place (a ∷ earlier) one later e = cc

-- one of two that are read
one_of_two : (x y one : Input) (earlier later : List Input) → x ∷ (y ∷ []) ≡ earlier ++ one ∷ later → (one ≡ x) ⊎ (one ≡ y)
one_of_two x y one [] later e = inl cc
one_of_two x y one (a ∷ []) later e = inr cc
one_of_two x y one (a ∷ (b ∷ more)) later e = absurd (no_place more one later cc)

module _ (order sound : List ℕ) (files : Files) (left : Left order sound files) where
  wav_there : get files sound ≡ Some (wav left.o.journal left.o.blocks)
  wav_there = left.sounds left.o left.lists

  -- ---- the verdicts on both files
  sound_good : sound_verdict (get files sound) ≡ Good
  unfolding sound_verdict
  sound_good =
      let within : length (wav left.o.journal left.o.blocks) ≤ sound_limit =
      omega (arith, length-wav left.o.journal left.o.blocks, left.lists.ordered.few_blocks) in
      rw (wav_there, le-ltb sound_limit (length (wav left.o.journal left.o.blocks)) within) refl

  at_order : (it : Verdict) → IsOrderVerdict (get files order) it → IsOrderVerdict (Some left.text) it
  at_order it h = subst (λ (g : Option (List ℕ)). IsOrderVerdict g it) left.there h

  of_one : (one : Input) (P : Type 0) (it : Verdict) → (one ≡ input order AnOrder) ⊎ (one ≡ input sound ASound) → (it ≢ Good)
      → (IsOrderVerdict (Some left.text) it → P) → IsJudged one files it → P
  of_one one P it (inl e) bad given h = given (at_order it (subst (λ (i : Input). IsJudged i files it) e h))
  of_one one P it (inr e) bad given h = absurd (bad (sym (subst (λ (i : Input). IsJudged i files it) e h) ∙ sound_good))

  one_is : (f : Option Files) (one : Input) → Reaches (reads (Verify order sound)) f one → (one ≡ input order AnOrder) ⊎ (one ≡ input sound ASound)
  one_is f one r = one_of_two (input order AnOrder) (input sound ASound) one r.earlier r.later r.place

  there_is : (one : Input) → (one ≡ input order AnOrder) ⊎ (one ≡ input sound ASound) → Lacks (Some files) one.name → ⊥
  there_is one (inl e) h = is_there (get files order) left.text left.there (subst (λ (i : Input). Lacks (Some files) i.name) e h)
  there_is one (inr e) h = is_there (get files sound) (wav left.o.journal left.o.blocks) wav_there (subst (λ (i : Input). Lacks (Some files) i.name) e h)

  pub never_refused : (mid now : Snapshot) → mid.files ≡ Some files → IsRefused (Verify order sound) mid now → ⊥
  never_refused mid now is r =
      of_one r.one ⊥ (Refused r.why) (one_is mid.files r.one r.reached) (λ e. cc) (λ h. h.1 left.o left.lists)
      (at_some mid.files (λ told. IsJudged r.one told (Refused r.why)) files is r.refused)

  pub long_order : (mid now : Snapshot) → mid.files ≡ Some files → IsPastLimit (Verify order sound) mid now → order_limit < length left.text
  long_order mid now is p = by p.limit
    where
      by : {A B : Type 0} → (IfSome mid.files (λ told. IsJudged p.one told TooLarge) × A) ⊎ (IfSome mid.files (λ told. IsJudged p.one told TooMany) × B)
          → order_limit < length left.text
      by (inl l) =
          of_one p.one (order_limit < length left.text) TooLarge (one_is mid.files p.one p.reached) (λ e. cc) (λ h. h)
          (at_some mid.files (λ told. IsJudged p.one told TooLarge) files is l.0)
      by (inr l) =
          of_one p.one (order_limit < length left.text) TooMany (one_is mid.files p.one p.reached) (λ e. cc) (λ h. absurd (h.1 left.o left.lists))
          (at_some mid.files (λ told. IsJudged p.one told TooMany) files is l.0)

  pub read_failed : (mid now : Snapshot) → mid.files ≡ Some files → IsUnread (Verify order sound) mid now → Rose mid.reading now.reading
  read_failed mid now is u = by u.cause
    where
      by : Rose mid.reading now.reading ⊎ Lacks mid.files u.one.name → Rose mid.reading now.reading
      by (inl rose) = rose
      by (inr lacks) =
          absurd (there_is u.one (one_is mid.files u.one u.reached) (subst (λ (f : Option Files). Lacks f u.one.name) is lacks))

  -- ---- the comparison
  no_offset : (o : OrderData) (offset : Option ℕ) → IsOrder (content files order) o → IsCompared (content files sound) (wav o.journal o.blocks) offset
      → offset ≡ None
  no_offset o None lists compared = refl
  no_offset o (Some place) lists compared =
      let listed : IsOrder left.text o = subst (λ (g : Option (List ℕ)). IsOrder (unwrap_or g []) o) left.there lists in
      let sounds : content files sound ≡ wav o.journal o.blocks = ap (λ (g : Option (List ℕ)). unwrap_or g []) (left.sounds o listed) in
      absurd (compared.differs (ap (λ (t : List ℕ). slice_get t place) sounds))

  none_differs : (mid : Snapshot) → mid.files ≡ Some files → (d : Effect) → HasEffect (Verify order sound) mid.files d → d ≡ comparison None
  none_differs mid is d does =
      let told =
      at_some mid.files (λ f. IsOrder (content f order) does.0 × IsCompared (content f sound) (wav does.0.journal does.0.blocks) does.1)
      files is does.3 in
      does.2 ∙ ap comparison (no_offset does.0 does.1 told.0 told.1)

  pub never_differs : (mid now : Snapshot) → mid.files ≡ Some files → IsDone (Verify order sound) 7 mid now → ⊥
  never_differs mid now is d =
      let seven : 7 ≡ 0 = d.status_is ∙ ap (λ (e : Effect). e.status) (none_differs mid is d.effect d.does) in
      omega (arith, seven)

  pub prints_same : (status : ℕ) (mid now : Snapshot) → mid.files ≡ Some files → IsDone (Verify order sound) status mid now
      → now.written ≡ option_map (said same_line) mid.written
  prints_same status mid now is d = d.report ∙ ap (λ (e : Effect). option_map (said e.prints) mid.written) (none_differs mid is d.effect d.does)

  pub put_failed : (mid now : Snapshot) → mid.files ≡ Some files → IsUnwritten (Verify order sound) mid now → Rose mid.faults now.faults
  put_failed mid now is u = by u.failed
    where
      by : FailsFile u.effect mid now ⊎ FailsReport u.effect mid now → Rose mid.faults now.faults
      by (inl f) =
          absurd (no_place f.earlier f.file f.later (sym (ap (λ (e : Effect). e.writes) (none_differs mid is u.effect u.does)) ∙ f.place))
      by (inr r) = r.cause

  -- ---- what stands in the files then
  none_written : (mid : Snapshot) (d : Effect) → mid.files ≡ Some files → HasEffect (Verify order sound) mid.files d
      → option_map (written d.writes) mid.files ≡ Some files
  none_written mid d is does =
      ap (λ (e : Effect). option_map (written e.writes) mid.files) (none_differs mid is d does) ∙ ap (λ (f : Option Files). option_map (written []) f) is

  pub done_keeps : (status : ℕ) (mid now : Snapshot) → mid.files ≡ Some files → IsDone (Verify order sound) status mid now → now.files ≡ Some files
  done_keeps status mid now is d = d.files ∙ none_written mid d.effect is d.does

  pub failed_keeps : (mid now : Snapshot) → mid.files ≡ Some files → IsUnwritten (Verify order sound) mid now → now.files ≡ Some files
  failed_keeps mid now is u = by u.failed
    where
      by : FailsFile u.effect mid now ⊎ FailsReport u.effect mid now → now.files ≡ Some files
      by (inl f) =
          absurd (no_place f.earlier f.file f.later (sym (ap (λ (e : Effect). e.writes) (none_differs mid is u.effect u.does)) ∙ f.place))
      by (inr r) = r.files ∙ none_written mid u.effect is u.does

  pub long_there : (now : Snapshot) → now.files ≡ Some files → order_limit < length left.text
      → IfSome (file_of now.files order) (λ text. order_limit < length text)
  long_there now is long = some_at (file_of now.files order) (λ text. order_limit < length text) left.text
      (ap (λ (f : Option Files). file_of f order) is ∙ left.there) long

  pub sound_kept : (now : Snapshot) → now.files ≡ Some files → (o : OrderData) → Lists now.files order o
      → file_of now.files sound ≡ Some (wav o.journal o.blocks)
  sound_kept now is o lists =
      let listed = some_and (get files order) (λ text. IsOrder text o) (subst (λ (f : Option Files). Lists f order o) is lists) in
      let same : IsOrder left.text o = subst (λ (text : List ℕ). IsOrder text o) (one_text (get files order) listed.0 left.text listed.1 left.there) listed.2 in
      ap (λ (f : Option Files). file_of f sound) is ∙ left.sounds o same

-- ---- the statuses that are left
pub fewer : (s : ℕ) → IsOneOf s (0 ∷ 1 ∷ 2 ∷ 3 ∷ 4 ∷ 6 ∷ 7 ∷ 8 ∷ []) → s ≢ 1 → s ≢ 4 → s ≢ 7 → IsOneOf s (0 ∷ 2 ∷ 3 ∷ 6 ∷ 8 ∷ [])
fewer s (inl is) one four seven = inl is
fewer s (inr (inl is)) one four seven = absurd (one is)
fewer s (inr (inr (inl is))) one four seven = inr (inl is)
fewer s (inr (inr (inr (inl is)))) one four seven = inr (inr (inl is))
fewer s (inr (inr (inr (inr (inl is))))) one four seven = absurd (four is)
fewer s (inr (inr (inr (inr (inr (inl is)))))) one four seven = inr (inr (inr (inl is)))
fewer s (inr (inr (inr (inr (inr (inr (inl is))))))) one four seven = absurd (seven is)
fewer s (inr (inr (inr (inr (inr (inr (inr is))))))) one four seven = inr (inr (inr (inr is)))

-- ---- what both calls say together
pub left_there : (mid : Option Files) (order sound : List ℕ) (o : OrderData) → Lists mid order o
    → ((other : OrderData) → Lists mid order other → file_of mid sound ≡ Some (wav other.journal other.blocks))
    → (files : Files) × (mid ≡ Some files) × Left order sound files
left_there None order sound o lists sounds = absurd lists
left_there (Some files) order sound o lists sounds = (files, refl, left_of order sound files o lists sounds)

-- what two statements over told files show, at what is asked for
told_by : (asked : Option RequestData) (files : Option Files) (P Q R : RequestData → Files → Type 0)
    → ((a : RequestData) (told : Files) → asked ≡ Some a → P a told → Q a told → R a told)
    → IfSome asked (λ a. IfSome files (λ told. P a told)) → IfSome asked (λ a. IfSome files (λ told. Q a told))
    → IfSome asked (λ a. IfSome files (λ told. R a told))
told_by None files P Q R f p q = tt
told_by (Some a) None P Q R f p q = tt
told_by (Some a) (Some told) P Q R f p q = f a told refl p q

pub verified_by : (words check : List (List ℕ)) (status s : ℕ) (before mid : Option Files) (R : RequestData → ℕ → Type 0) → WasPlayed status
    → Played words status before (λ a plans. (o : OrderData) × Lists mid a.order o × (o.scripts ≡ length a.scripts)
    × ((other : OrderData) → Lists mid a.order other → other ≡ o))
    → PlayedAs words status before mid (λ a plans o. file_of mid a.out ≡ Some (wav o.journal o.blocks))
    → ((a : RequestData) (files : Files) → play.requested_by words ≡ Some a → mid ≡ Some files → Left a.order a.out files
    → requested_by check ≡ Some (Verify a.order a.out) → R a s)
    → Verified words check before (Some s) R
verified_by words check status s before mid R was order sound shows =
    told_by (play.requested_by words) before
    (λ a told. (o : OrderData) × Lists mid a.order o × (o.scripts ≡ length a.scripts) × ((other : OrderData) → Lists mid a.order other → other ≡ o))
    (λ a told. (o : OrderData) → Lists mid a.order o → file_of mid a.out ≡ Some (wav o.journal o.blocks))
    (λ a told. requested_by check ≡ Some (Verify a.order a.out) → R a s)
    (λ a told asked listed sounds asks.
    let there = left_there mid a.order a.out listed.0 listed.1 sounds in
    shows a there.0 asked there.1 there.2 asks)
    (order was) (sound was)

pub not_two : (status : ℕ) → WasPlayed status → status ≢ 2
not_two status (inl is) e = omega (arith, is, e)
not_two status (inr is) e = omega (arith, is, e)

pub was_played : (status : ℕ) → (status ≡ 0) ⊎ ((status ≡ 0 → ⊥) × (status ≡ 5)) → WasPlayed status
was_played status (inl is) = inl is
was_played status (inr is) = inr (is.1)

not_done : (s : ℕ) → s ≢ 0 → s ≢ 7 → ¬ (WasDone s)
not_done s zero seven (inl is) = zero is
not_done s zero seven (inr is) = seven is

-- every status leaves both files as they were
pub all_keep : (order sound : List ℕ) (files : Files) → Left order sound files → (s : ℕ) (mid now : Snapshot) → mid.files ≡ Some files
    → IsOneOf s (0 ∷ 2 ∷ 3 ∷ 6 ∷ 8 ∷ []) → (WasDone s → IsDone (Verify order sound) s mid now) → (s ≡ 3 → IsUnwritten (Verify order sound) mid now)
    → (¬ (WasDone s) → s ≢ 3 → now.files ≡ mid.files) → now.files ≡ Some files
all_keep order sound files left s mid now is (inl zero) done failed untouched = done_keeps order sound files left s mid now is (done (inl zero))
all_keep order sound files left s mid now is (inr (inl two)) done failed untouched =
    untouched (not_done s (λ e. omega (arith, two, e)) (λ e. omega (arith, two, e))) (λ e. omega (arith, two, e)) ∙ is
all_keep order sound files left s mid now is (inr (inr (inl three))) done failed untouched = failed_keeps order sound files left mid now is (failed three)
all_keep order sound files left s mid now is (inr (inr (inr (inl six)))) done failed untouched =
    untouched (not_done s (λ e. omega (arith, six, e)) (λ e. omega (arith, six, e))) (λ e. omega (arith, six, e)) ∙ is
all_keep order sound files left s mid now is (inr (inr (inr (inr (inl eight))))) done failed untouched =
    untouched (not_done s (λ e. omega (arith, eight, e)) (λ e. omega (arith, eight, e))) (λ e. omega (arith, eight, e)) ∙ is
all_keep order sound files left s mid now is (inr (inr (inr (inr (inr none))))) done failed untouched = absurd none
