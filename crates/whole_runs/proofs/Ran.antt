-- What the calls of `play` and of `tool` say together, where the second verifies the files of the first.
use Rattle.std.proofs.Common.{◌≡◌, ◌≢◌, ◌<◌, ◌∙◌, inl, inr, ℕ, List, [], ◌∷◌, length, refl, sym, ap, subst, arith}
use Rattle.std.specs.Prelude.{Option, Some, None, IfSome, option_map, ◌==◌, if◌then◌else◌}
use Rattle.outside.specs.Files.{Files, file_of, said}
use Rattle.outside.specs.Faults.{Rose}
use Rattle.outside.specs.Snapshot.{Snapshot}
use Rattle.fault_lines.specs.Statuses.{IsOneOf}
use Rattle.take_files.specs.Files.{wav}
use Rattle.take_files.specs.Orders.{OrderData}
use Rattle.play_core.specs.Words as play
use Rattle.play_core.specs.Words.{RequestData}
use Rattle.play_core.specs.Lines.{report}
use Rattle.play_core.specs.Headline.{Asks, Lists, Played, PlayedAs, WasPlayed}
use Rattle.tool_core.specs.Words as tool
use Rattle.tool_core.specs.Words.{Verify, requested_by}
use Rattle.tool_core.specs.Lines.{same_line}
use Rattle.tool_core.specs.Orders.{order_limit}
use Rattle.tool_core.specs.Outcomes.{WasDone, IsDone, IsUnread, IsUnwritten, IsRefused, IsPastLimit}
use Rattle.whole_runs.specs.Verified.{Verified}
use Rattle.whole_runs.proofs.Verifies.{Left, all_keep, at_some, fewer, long_order, long_there, never_differs, never_refused, prints_same, put_failed}
use Rattle.whole_runs.proofs.Verifies.{read_failed, sound_kept, verified_by}

-- what both calls say: of the run, and of the command after it
pub record Ran (words check : List (List ℕ)) (p s : ℕ) (before mid now : Snapshot) : Type 0 where
  pub was : WasPlayed p
  pub order : Played words p before.files (λ a plans. (o : OrderData) × Lists mid.files a.order o × (o.scripts ≡ length a.scripts)
      × ((other : OrderData) → Lists mid.files a.order other → other ≡ o))
  pub sound : PlayedAs words p before.files mid.files (λ a plans o. file_of mid.files a.out ≡ Some (wav o.journal o.blocks))
  pub line : Asks words (λ a. (left : ℕ) × (blocks : ℕ) × (commands : ℕ) × (p ≡ (if left == 0 then 0 else 5)) × IfSome a.blocks (λ b. blocks ≡ b)
      × (mid.written ≡ option_map (said (report left blocks commands)) before.written))
  pub reading : mid.reading ≡ before.reading
  pub faults : mid.faults ≡ before.faults
  pub status : IsOneOf s (0 ∷ 1 ∷ 2 ∷ 3 ∷ 4 ∷ 6 ∷ 7 ∷ 8 ∷ [])
  pub usage : s ≡ 1 → requested_by check ≡ None
  pub done : WasDone s → IfSome (requested_by check) (λ r. IsDone r s mid now)
  pub unread : s ≡ 2 → IfSome (requested_by check) (λ r. IsUnread r mid now)
  pub unwritten : s ≡ 3 → IfSome (requested_by check) (λ r. IsUnwritten r mid now)
  pub refused : s ≡ 4 → IfSome (requested_by check) (λ r. IsRefused r mid now)
  pub past_limit : s ≡ 6 → IfSome (requested_by check) (λ r. IsPastLimit r mid now)
  pub untouched : ¬ (WasDone s) → s ≢ 3 → now.files ≡ mid.files

module _ (words check : List (List ℕ)) (p s : ℕ) (before mid now : Snapshot) (r : Ran words check p s before mid now) where
  -- at what was asked for
  at_asked : (P : tool.RequestData → Type 0) (q : tool.RequestData) → requested_by check ≡ Some q → IfSome (requested_by check) P → P q
  at_asked P q asks h = at_some (requested_by check) P q asks h

  module _ (a : RequestData) (files : Files) (is : mid.files ≡ Some files) (left : Left a.order a.out files)
      (asks : requested_by check ≡ Some (Verify a.order a.out)) where
    status_left : IsOneOf s (0 ∷ 2 ∷ 3 ∷ 6 ∷ 8 ∷ [])
    status_left =
        fewer s r.status (λ e. let none : requested_by check ≡ None = r.usage e in cc)
        (λ e. never_refused a.order a.out files left mid now is (at_asked (λ q. IsRefused q mid now) (Verify a.order a.out) asks (r.refused e)))
        (λ e. never_differs a.order a.out files left mid now is
        (subst (λ (n : ℕ). IsDone (Verify a.order a.out) n mid now) e (at_asked (λ q. IsDone q s mid now) (Verify a.order a.out) asks (r.done (inr e)))))

    files_left : now.files ≡ Some files
    files_left =
        all_keep a.order a.out files left s mid now is status_left
        (λ d. at_asked (λ q. IsDone q s mid now) (Verify a.order a.out) asks (r.done d))
        (λ e. at_asked (λ q. IsUnwritten q mid now) (Verify a.order a.out) asks (r.unwritten e)) r.untouched

  shown : (R : RequestData → ℕ → Type 0)
      → ((a : RequestData) (files : Files) → play.requested_by words ≡ Some a → mid.files ≡ Some files → Left a.order a.out files
      → requested_by check ≡ Some (Verify a.order a.out) → R a s)
      → Verified words check before.files (Some s) R
  shown R shows = verified_by words check p s before.files mid.files R r.was r.order r.sound shows

  pub same : Verified words check before.files (Some s) (λ a t. IsOneOf t (0 ∷ 2 ∷ 3 ∷ 6 ∷ 8 ∷ []))
  same = shown (λ a t. IsOneOf t (0 ∷ 2 ∷ 3 ∷ 6 ∷ 8 ∷ [])) (λ a files asked is left asks. status_left a files is left asks)

  pub prints : Verified words check before.files (Some s) (λ a t. t ≡ 0 → (left : ℕ) × (blocks : ℕ) × (commands : ℕ)
      × (now.written ≡ option_map (said same_line) (option_map (said (report left blocks commands)) before.written)))
  prints = shown
      (λ a t. t ≡ 0 → (left : ℕ) × (blocks : ℕ) × (commands : ℕ)
      × (now.written ≡ option_map (said same_line) (option_map (said (report left blocks commands)) before.written)))
      (λ a files asked is left asks. λ zero.
      let line =
      at_some (play.requested_by words)
      (λ b. (left : ℕ) × (blocks : ℕ) × (commands : ℕ) × (p ≡ (if left == 0 then 0 else 5)) × IfSome b.blocks (λ c. blocks ≡ c)
      × (mid.written ≡ option_map (said (report left blocks commands)) before.written)) a asked r.line in
      let printed = prints_same a.order a.out files left s mid now is (at_asked (λ q. IsDone q s mid now) (Verify a.order a.out) asks (r.done (inl zero))) in
      (line.0, line.1, line.2, printed ∙ ap (λ (t : Option (List ℕ)). option_map (said same_line) t) line.5))

  pub unread : Verified words check before.files (Some s) (λ a t. t ≡ 2 → Rose before.reading now.reading)
  unread = shown (λ a t. t ≡ 2 → Rose before.reading now.reading)
      (λ a files asked is left asks. λ two. subst (λ (n : ℕ). Rose n now.reading) r.reading
      (read_failed a.order a.out files left mid now is (at_asked (λ q. IsUnread q mid now) (Verify a.order a.out) asks (r.unread two))))

  pub unsaid : Verified words check before.files (Some s) (λ a t. t ≡ 3 → Rose before.faults now.faults)
  unsaid = shown (λ a t. t ≡ 3 → Rose before.faults now.faults)
      (λ a files asked is left asks. λ three. subst (λ (n : ℕ). Rose n now.faults) r.faults
      (put_failed a.order a.out files left mid now is (at_asked (λ q. IsUnwritten q mid now) (Verify a.order a.out) asks (r.unwritten three))))

  pub past_limit : Verified words check before.files (Some s) (λ a t. t ≡ 6 → IfSome (file_of now.files a.order) (λ text. order_limit < length text))
  past_limit = shown (λ a t. t ≡ 6 → IfSome (file_of now.files a.order) (λ text. order_limit < length text))
      (λ a files asked is left asks. λ six. long_there a.order a.out files left now (files_left a files is left asks)
      (long_order a.order a.out files left mid now is (at_asked (λ q. IsPastLimit q mid now) (Verify a.order a.out) asks (r.past_limit six))))

  pub kept : Verified words check before.files (Some s)
      (λ a t. (o : OrderData) → Lists now.files a.order o → file_of now.files a.out ≡ Some (wav o.journal o.blocks))
  kept = shown (λ a t. (o : OrderData) → Lists now.files a.order o → file_of now.files a.out ≡ Some (wav o.journal o.blocks))
      (λ a files asked is left asks. sound_kept a.order a.out files left now (files_left a files is left asks))
