-- How many commands of all scripts a journal has.
use Rattle.std.proofs.Common.{◌≡◌, ◌⊎◌, ℕ, zero, suc, ◌+◌, ◌<◌, ◌≤◌, List, [], ◌∷◌, ◌++◌, length, map, take, refl, sym, ap, ◌∙◌, subst, ⊎_elim, inl, inr, arith}
use Rattle.std.proofs.Common.{length-append, rules, ne_eqb}
use Rattle.std.specs.Prelude.{◌==◌, ◌-◌, Bool, true, false, cond, filter, All, sum, slice_index, slice_index_or}
use Rattle.std.proofs.Math.Seq.{take-length}
use Rattle.std.proofs.lemmas.List.{append-nil, length-map, get_or-map}
use Rattle.std.proofs.lemmas.List.Sums.{sum_by_more, sum-map, get_or-le-sum_by}
use Rattle.std.proofs.lemmas.List.Elements.{All-head, All-tail, All-nil, All-cons}
use Rattle.command_set.specs.Entries.{EntryData, LoggedData, entries_of, sent_by}
use Rattle.command_queue.specs.Entries.{quota_at}
use Rattle.command_queue.proofs.Counts.{below, below_more, below_none, below_all, total_bound, others_bound, sent_by_other}
use Rattle.script_plan.specs.Plan.{PlannedData}
use Rattle.players.specs.Players.{entries}
use Rattle.turns.specs.Turns.{plan_of, blocks_of, many_commands}
use Rattle.turns.specs.Timed.{IsScriptBegun, ArePlayed}
use Rattle.play_core.specs.Headline.{HasAll, LacksSome}

below_or : (a b : ℕ) → (a < b) ⊎ (b ≤ a)
below_or a b = grind arith

pub empty : {A : Type 0} (l : List A) → length l ≡ 0 → l ≡ []
empty [] e = refl
empty (x ∷ l) e = absurd (omega arith)

take_whole : (l : List ℕ) (n : ℕ) → length l ≡ n → take n l ≡ l
take_whole l n is = rw (← is) (take-length l)

none_of : (e n : ℕ) (xs : List EntryData) → n ≤ e → All (λ x. x.script < n) xs → sent_by e xs ≡ []
none_of e n [] over all = refl
none_of e n (x ∷ xs) over all =
    let is : x.script < n = All-head (λ y. y.script < n) x xs all in
    ap (λ b. cond b (x ∷ sent_by e xs) (sent_by e xs)) (ne_eqb x.script e (λ same. omega arith)) ∙ none_of e n xs over (All-tail (λ y. y.script < n) x xs all)

all_entries : (n : ℕ) (journal : List LoggedData) → All (λ l. l.entry.script < n) journal → All (λ e. e.script < n) (entries_of journal)
all_entries n [] all = All-nil (λ e. e.script < n)
all_entries n (l ∷ ls) all = All-cons (λ e. e.script < n) l.entry (entries_of ls) (All-head (λ x. x.entry.script < n) l ls all)
    (all_entries n ls (All-tail (λ x. x.entry.script < n) l ls all))

pub length_entries : (script seq : ℕ) (plan : List PlannedData) → length (entries script seq plan) ≡ length plan
length_entries script seq [] = refl
length_entries script seq (c ∷ cs) = ap suc (length_entries script (seq + 1) cs)

-- an end has as many entries in a journal as blocks
pub length_blocks : (k : ℕ) (journal : List LoggedData) → length (blocks_of k journal) ≡ length (sent_by k (entries_of journal))
length_blocks k [] = refl
length_blocks k (l ∷ ls) = by_test (l.entry.script == k) (length_blocks k ls)
  where
    by_test : (b : Bool) → length (blocks_of k ls) ≡ length (sent_by k (entries_of ls))
        → length (map (λ (x : LoggedData). x.block) (cond b (l ∷ filter (λ (x : LoggedData). x.entry.script == k) ls)
        (filter (λ (x : LoggedData). x.entry.script == k) ls)))
        ≡ length (cond b (l.entry ∷ sent_by k (entries_of ls)) (sent_by k (entries_of ls)))
    by_test true rest = ap suc rest
    by_test false rest = rest

quota_is : (plans : List (List PlannedData)) (k : ℕ) → k < length plans → quota_at (map length plans) k ≡ length (plan_of plans k)
quota_is [] k below = absurd (omega arith)
quota_is (one ∷ plans) zero below = refl
quota_is (one ∷ plans) (suc k) below = quota_is plans k (omega arith)

no_quota : (plans : List (List PlannedData)) (k : ℕ) → length plans ≤ k → quota_at (map length plans) k ≡ 0
no_quota [] k over = refl
no_quota (one ∷ plans) zero over = absurd (omega arith)
no_quota (one ∷ plans) (suc k) over = no_quota plans k (omega arith)

-- no more of a script than there are
pub length_part : (plans : List (List PlannedData)) (k : ℕ) → k < length plans → length (plan_of plans k) ≤ many_commands plans
length_part plans k below = rw (sum-map length plans) (get_or-le-sum_by length plans k [] below)

module _ (plans : List (List PlannedData)) (journal : List LoggedData) (played : ArePlayed journal plans) where
  abbrev all : List EntryData
  all = entries_of journal

  abbrev quotas : List ℕ
  quotas = map length plans

  many : length quotas ≡ length plans
  many = length-map plans length

  made : All (λ e. e.script < length quotas) all
  made = rw many (all_entries (length plans) journal played.scripts)

  -- of each script no more than its plan has
  fits : (k : ℕ) → k < length plans → length (sent_by k all) ≤ length (plan_of plans k)
  fits k below =
      let b = played.each k below in
      omega (arith, ap length b.entries_are, length_entries k 0 b.sent, ap length b.split, length-append b.sent b.left)

  bounded : (e : ℕ) → length (sent_by e all) ≤ quota_at quotas e
  bounded e = ⊎_elim
      (λ (below : e < length plans). rw (quota_is plans e below) (fits e below))
      (λ (over : length plans ≤ e). rw (no_quota plans e over, none_of e (length plans) all over (all_entries (length plans) journal played.scripts))
      (omega arith))
      (below_or e (length plans))

  same_length : length all ≡ length journal
  same_length = length-map journal (λ l. l.entry)

  -- where no command is left, each script was played to its end
  pub all_played : many_commands plans - length journal ≡ 0 → HasAll journal plans
  all_played none k below =
      let b = played.each k below in
      let o = others_bound quotas all made bounded k (omega (arith, many, below)) in
      let q : quota_at quotas k ≡ length (plan_of plans k) = quota_is plans k below in
      let p : length (plan_of plans k) ≤ many_commands plans = length_part plans k below in
      let whole : length b.left ≡ 0 = omega (
        arith,
        o,
        q,
        p,
        none,
        same_length,
        ap length b.entries_are,
        length_entries k 0 b.sent,
        ap length b.split,
        length-append b.sent b.left,
      ) in
      b.entries_are ∙ ap (entries k 0) (sym (b.split ∙ ap (λ (l : List PlannedData). b.sent ++ l) (empty b.left whole) ∙ append-nil b.sent))

  -- some script of the first n lacks commands, where there are fewer of them in all than these have
  search_lack : (n : ℕ) → n ≤ length plans → length (below n all) < sum (take n quotas) → LacksSome journal plans
  search_lack zero within fewer = absurd (omega (arith, fewer))
  search_lack (suc n) within fewer =
      let m : sum (take (n + 1) quotas) ≡ sum (take n quotas) + slice_index quotas n = sum_by_more (λ x. x) quotas n 0 (omega (arith, many, within)) in
      let next : n + 1 ≡ suc n = omega arith in
      let fewer_there : length (below (n + 1) all) < sum (take (n + 1) quotas) = subst (λ k. length (below k all) < sum (take k quotas)) (sym next) fewer in
      let q : quota_at quotas n ≡ length (plan_of plans n) = quota_is plans n (omega arith) in
      ⊎_elim
      (λ (lacks : length (sent_by n all) < length (plan_of plans n)). (n, (omega arith), lacks))
      (λ (has : length (plan_of plans n) ≤ length (sent_by n all)). search_lack n (omega arith) (omega (arith, fewer_there, m, q, has, below_more n all)))
      (below_or (length (sent_by n all)) (length (plan_of plans n)))

  pub some_left : 0 < many_commands plans - length journal → LacksSome journal plans
  some_left left =
      search_lack (length plans) (omega arith)
      (omega (
        arith,
        left,
        same_length,
        below_all (length plans) all (all_entries (length plans) journal played.scripts),
        ap sum
            (take_whole quotas (length plans) many),
      ))

  -- a journal has no more commands than there are
  pub not_more : length journal ≤ many_commands plans
  not_more = let bound = total_bound quotas all made bounded in omega (arith, bound, same_length)
