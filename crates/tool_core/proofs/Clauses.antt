-- What the ending of a command means, status by status.
use Rattle.std.proofs.Common.{◌≡◌, ◌≢◌, ◌≤◌, ◌⊎◌, inl, inr, ℕ, List, [], ◌∷◌, ◌++◌, refl, sym, ◌∙◌, ap, subst, arith}
use Rattle.std.specs.Prelude.{Option, Some, None, IfSome, is_some, false}
use Rattle.std.specs.FinMap.{get}
use Rattle.outside.specs.Files.{Files, Lacks}
use Rattle.outside.specs.Faults.{Rose}
use Rattle.outside.specs.Snapshot.{Snapshot}
use Rattle.fault_lines.specs.Lines.{cannot_read}
use Rattle.fault_lines.specs.Statuses.{IsOneOf}
use Rattle.take_files.specs.declared.read.OrderKind.{OrderKind}
use Rattle.take_files.specs.declared.read.OrderKind.TheVariants.{Many}
use Rattle.take_files.specs.Orders as orders
use Rattle.take_files.proofs.Laws.{orders_unique}
use Rattle.tool_core.specs.declared.refusal.Refusal.{Refusal}
use Rattle.tool_core.specs.declared.refusal.Refusal.TheVariants as why
use Rattle.tool_core.specs.declared.failure.Failure.{Failure}
use Rattle.tool_core.specs.declared.failure.Failure.TheVariants as failure
use Rattle.tool_core.specs.Verdicts.{Verdict, Lacking, Good, Refused, TooLarge, TooMany, verdict_on}
use Rattle.tool_core.specs.Words.{RequestData, Check, ListVoices, Pick, Pack, Replay, Verify, Gen, Bench}
use Rattle.tool_core.specs.Inputs.{Input, Kind, Midi, AnOrder, ASound, IsVerdict, IsJudged, AreGood, Decides}
use Rattle.tool_core.specs.Orders.{IsOrderVerdict, IsRefusedFor, sound_verdict}
use Rattle.tool_core.specs.Effects.{Effect, HasEffect, comparison, reads}
use Rattle.tool_core.specs.Failures.{Fails, FailsAt, status_of, line_of}
use Rattle.tool_core.specs.Outcomes.{WasDone, IsDone, IsUnread, IsUnwritten, IsRefused, IsPastLimit, IsOutOfMemory, AnswersBy, IsComplete, SaysLine}
use Rattle.tool_core.specs.Outcomes.{statuses_of}
use Rattle.tool_core.specs.Endings.{Finishes, Ends}

-- ---- one verdict decides
-- bytes are refused for one reason
same_reason : (file : List ℕ) (a b : Refusal) → IsRefusedFor a file → IsRefusedFor b file → a ≡ b
same_reason file (why.TooLong place) b x y = absurd x
same_reason file (why.Fault place fault) b x y = absurd x
same_reason file why.Cut b x y = absurd x
same_reason file why.NoVoice b x y = absurd x
same_reason file why.NoCartridge b x y = absurd x
same_reason file (why.Order line kind) (why.TooLong place) x y = absurd y
same_reason file (why.Order line kind) (why.Fault place fault) x y = absurd y
same_reason file (why.Order line kind) why.Cut x y = absurd y
same_reason file (why.Order line kind) why.NoVoice x y = absurd y
same_reason file (why.Order line kind) why.NoCartridge x y = absurd y
same_reason file (why.Order line kind) (why.Order other second) x y =
    let same = orders_unique.faults file line other kind second x.0 y.0 in
    ap (λ (n : ℕ). why.Order n kind) same.0 ∙ ap (λ (k : OrderKind). why.Order other k) same.1

-- too many entries is no other reason
not_many : (file : List ℕ) (line : ℕ) (a : Refusal) → orders.IsRefused file line Many → IsRefusedFor a file → ⊥
not_many file line (why.TooLong place) many x = x
not_many file line (why.Fault place fault) many x = x
not_many file line why.Cut many x = x
not_many file line why.NoVoice many x = x
not_many file line why.NoCartridge many x = x
not_many file line (why.Order other kind) many x = x.1 ((orders_unique.faults file other line kind Many x.0 many).1)

-- an order has one verdict
one_order : (o : Option (List ℕ)) (a b : Verdict) → IsOrderVerdict o a → IsOrderVerdict o b → a ≡ b
one_order None a b x y = x ∙ sym y
one_order (Some file) Lacking b x y = absurd x
one_order (Some file) TooLarge Lacking x y = absurd y
one_order (Some file) TooLarge TooLarge x y = refl
one_order (Some file) TooLarge TooMany x y = absurd (omega (arith, x, y.0))
one_order (Some file) TooLarge (Refused r) x y = absurd (omega (arith, x, y.0))
one_order (Some file) TooLarge Good x y = absurd (omega (arith, x, y.0))
one_order (Some file) TooMany Lacking x y = absurd y
one_order (Some file) TooMany TooLarge x y = absurd (omega (arith, x.0, y))
one_order (Some file) TooMany TooMany x y = refl
one_order (Some file) TooMany (Refused r) x y = absurd (not_many file x.2.0 r x.2.1 y.2)
one_order (Some file) TooMany Good x y = absurd (x.1 (y.1.0) (y.1.1))
one_order (Some file) (Refused r) Lacking x y = absurd y
one_order (Some file) (Refused r) TooLarge x y = absurd (omega (arith, x.0, y))
one_order (Some file) (Refused r) TooMany x y = absurd (not_many file y.2.0 r y.2.1 x.2)
one_order (Some file) (Refused r) (Refused s) x y = ap (λ (q : Refusal). Refused q) (same_reason file r s x.2 y.2)
one_order (Some file) (Refused r) Good x y = absurd (x.1 (y.1.0) (y.1.1))
one_order (Some file) Good Lacking x y = absurd y
one_order (Some file) Good TooLarge x y = absurd (omega (arith, x.0, y))
one_order (Some file) Good TooMany x y = absurd (y.1 (x.1.0) (x.1.1))
one_order (Some file) Good (Refused r) x y = absurd (y.1 (x.1.0) (x.1.1))
one_order (Some file) Good Good x y = refl

-- so has every file
one_verdict : (kind : Kind) (o : Option (List ℕ)) (a b : Verdict) → IsVerdict kind o a → IsVerdict kind o b → a ≡ b
one_verdict (Midi wanted) o a b x y = sym x ∙ y
one_verdict AnOrder o a b x y = one_order o a b x y
one_verdict ASound o a b x y = sym x ∙ y

one_decides : (inputs : List Input) (told : Files) (a b : Verdict) → Decides inputs told a → Decides inputs told b → a ≡ b
one_decides [] told a b x y = x ∙ sym y
one_decides (i ∷ inputs) told a b (inl x) (inl y) = one_verdict i.kind (get told i.name) a b (x.0) (y.0)
one_decides (i ∷ inputs) told a b (inl x) (inr y) = absurd (x.1 (one_verdict i.kind (get told i.name) a Good (x.0) (y.0)))
one_decides (i ∷ inputs) told a b (inr x) (inl y) = absurd (y.1 (one_verdict i.kind (get told i.name) b Good (y.0) (x.0)))
one_decides (i ∷ inputs) told a b (inr x) (inr y) = one_decides inputs told a b (x.1) (y.1)

good_decides : (inputs : List Input) (told : Files) → AreGood inputs told → Decides inputs told Good
good_decides [] told good = refl
good_decides (i ∷ inputs) told good = inr (good.0, good_decides inputs told (good.1))

reached_decides : (earlier later : List Input) (one : Input) (told : Files) (it : Verdict) → AreGood earlier told → IsJudged one told it → (it ≡ Good → ⊥)
    → Decides (earlier ++ one ∷ later) told it
reached_decides [] later one told it good judged bad = inl (judged, bad)
reached_decides (i ∷ earlier) later one told it good judged bad = inr (good.0, reached_decides earlier later one told it (good.1) judged bad)

lacks_verdict : (kind : Kind) (o : Option (List ℕ)) → is_some o ≡ false → IsVerdict kind o Lacking
unfolding verdict_on sound_verdict
lacks_verdict (Midi wanted) None e = refl
lacks_verdict AnOrder None e = refl
lacks_verdict ASound None e = refl
lacks_verdict kind (Some file) e = absurd (cc)

-- what a told shelf shows
at_told : (P : Files → Type 0) (o : Option Files) (told : Files) → o ≡ Some told → IfSome o P → P told
at_told P o told is h = let k : IfSome (Some told) P = subst (λ (f : Option Files). IfSome f P) is h in k

-- want of memory comes with each verdict
eight : (s : ℕ) (it : Verdict) → s ≡ 8 → IsOneOf s (statuses_of it)
eight s Lacking p = inr (inl p)
eight s TooLarge p = inr (inl p)
eight s TooMany p = inr (inl p)
eight s (Refused r) p = inr (inl p)
eight s Good p = inr (inr (inr (inl p)))

good_status : (s : ℕ) → WasDone s → IsOneOf s (statuses_of Good)
good_status s (inl zero) = inl zero
good_status s (inr seven) = inr (inr (inl seven))

-- ---- the statuses of an effect
compared_status : (place : Option ℕ) → ((comparison place).status ≡ 0) ⊎ ((comparison place).status ≡ 7)
compared_status None = inl refl
compared_status (Some place) = inr refl

effect_status : (request : RequestData) (files : Option Files) (d : Effect) → HasEffect request files d → WasDone d.status
effect_status (Check file) files d does = inl (ap (λ (x : Effect). x.status) (does.1))
effect_status (ListVoices file) files d does = inl (ap (λ (x : Effect). x.status) (does.1))
effect_status (Pick file slot out) files d does = inl (ap (λ (x : Effect). x.status) (does.1))
effect_status (Pack out names) files d does = inl (ap (λ (x : Effect). x.status) (does.1))
effect_status (Replay order out) files d does = inl (ap (λ (x : Effect). x.status) (does.1))
effect_status (Verify order sound) files d does =
    let e : d.status ≡ (comparison (does.1)).status = ap (λ (x : Effect). x.status) (does.2) in
    elim (compared_status (does.1)) [ inl zero ↦ inl (e ∙ zero) | inr seven ↦ inr (e ∙ seven) ]
effect_status (Gen seed scripts commands) files d does = inl (ap (λ (x : Effect). x.status) does)
effect_status (Bench seed blocks) files d does = inl (ap (λ (x : Effect). x.status) does)

abbrev pub IsVerify : RequestData → Type 0
IsVerify request = (order : List ℕ) × (sound : List ℕ) × (request ≡ Verify order sound)

zero_not_seven : (request : RequestData) (d : ℕ) → d ≡ 0 → d ≡ 7 → IsVerify request
zero_not_seven request d zero seven = absurd (omega (arith, zero, seven))

seven_verify : (request : RequestData) (files : Option Files) (d : Effect) → HasEffect request files d → d.status ≡ 7 → IsVerify request
seven_verify (Check file) files d does q = zero_not_seven (Check file) d.status (ap (λ (x : Effect). x.status) (does.1)) q
seven_verify (ListVoices file) files d does q = zero_not_seven (ListVoices file) d.status (ap (λ (x : Effect). x.status) (does.1)) q
seven_verify (Pick file slot out) files d does q = zero_not_seven (Pick file slot out) d.status (ap (λ (x : Effect). x.status) (does.1)) q
seven_verify (Pack out names) files d does q = zero_not_seven (Pack out names) d.status (ap (λ (x : Effect). x.status) (does.1)) q
seven_verify (Replay order out) files d does q = zero_not_seven (Replay order out) d.status (ap (λ (x : Effect). x.status) (does.1)) q
seven_verify (Verify order sound) files d does q = (order, sound, refl)
seven_verify (Gen seed scripts commands) files d does q = zero_not_seven (Gen seed scripts commands) d.status (ap (λ (x : Effect). x.status) does) q
seven_verify (Bench seed blocks) files d does q = zero_not_seven (Bench seed blocks) d.status (ap (λ (x : Effect). x.status) does) q

-- ---- the statuses of a failure
record IsOfFailure (s : ℕ) : Type 0 where
  kept : WasDone s → ⊥
  read : s ≢ 3
  other : s ≢ 1

failure_is : (s q : ℕ) → s ≡ q → 2 ≤ q → q ≢ 3 → q ≢ 7 → IsOfFailure s
failure_is s q is least three seven = record {
  kept = λ was. elim was [ inl a ↦ absurd (omega (arith, is, a, least)) | inr a ↦ absurd (seven (sym is ∙ a)) ];
  read = λ a. three (sym is ∙ a);
  other = λ a. absurd (omega (arith, is, a, least));
}

of_failure : (f : Failure) (s : ℕ) → s ≡ status_of f → IsOfFailure s
of_failure failure.Unread s is = failure_is s 2 is (omega arith) (λ a. omega (arith, a)) (λ a. omega (arith, a))
of_failure failure.TooLarge s is = failure_is s 6 is (omega arith) (λ a. omega (arith, a)) (λ a. omega (arith, a))
of_failure failure.TooMany s is = failure_is s 6 is (omega arith) (λ a. omega (arith, a)) (λ a. omega (arith, a))
of_failure (failure.Refused r) s is = failure_is s 4 is (omega arith) (λ a. omega (arith, a)) (λ a. omega (arith, a))
of_failure failure.Memory s is = failure_is s 8 is (omega arith) (λ a. omega (arith, a)) (λ a. omega (arith, a))

failure_status : (f : Failure) (s : ℕ) → s ≡ status_of f → IsOneOf s (0 ∷ 1 ∷ 2 ∷ 3 ∷ 4 ∷ 6 ∷ 7 ∷ 8 ∷ [])
failure_status failure.Unread s is = inr (inr (inl is))
failure_status failure.TooLarge s is = inr (inr (inr (inr (inr (inl is)))))
failure_status failure.TooMany s is = inr (inr (inr (inr (inr (inl is)))))
failure_status (failure.Refused r) s is = inr (inr (inr (inr (inl is))))
failure_status failure.Memory s is = inr (inr (inr (inr (inr (inr (inr (inl is)))))))

-- where the effect was done the status is its own
not_three : (s : ℕ) → WasDone s → s ≢ 3
not_three s (inl zero) = λ a. omega (arith, zero, a)
not_three s (inr seven) = λ a. omega (arith, seven, a)

not_one : (s : ℕ) → WasDone s → s ≢ 1
not_one s (inl zero) = λ a. omega (arith, zero, a)
not_one s (inr seven) = λ a. omega (arith, seven, a)

done_status : (s d : ℕ) → s ≡ d → WasDone d → WasDone s
done_status s d is (inl zero) = inl (is ∙ zero)
done_status s d is (inr seven) = inr (is ∙ seven)

one_done : (s : ℕ) → WasDone s → IsOneOf s (0 ∷ 1 ∷ 2 ∷ 3 ∷ 4 ∷ 6 ∷ 7 ∷ 8 ∷ [])
one_done s (inl zero) = inl zero
one_done s (inr seven) = inr (inr (inr (inr (inr (inr (inl seven))))))

-- ---- each clause
module _ (request : RequestData) (s : ℕ) (b n : Snapshot) where
  pub status_clause : Ends request s b n → IsOneOf s (0 ∷ 1 ∷ 2 ∷ 3 ∷ 4 ∷ 6 ∷ 7 ∷ 8 ∷ [])
  status_clause (inl x) =
      elim x.finishes.ends [
        | inl done ↦ one_done s (done_status s x.effect.status (done.0) (effect_status request b.files x.effect x.does))
        | inr failed ↦ inr (inr (inr (inl (failed.0))))
      ]
  status_clause (inr x) = failure_status x.why s x.status_is

  pub never_one : Ends request s b n → s ≢ 1
  never_one (inl x) =
      elim x.finishes.ends [
        | inl done ↦ not_one s (done_status s x.effect.status (done.0) (effect_status request b.files x.effect x.does))
        | inr failed ↦ λ a. omega (arith, failed.0, a)
      ]
  never_one (inr x) = (of_failure x.why s x.status_is).other

  pub done_clause : Ends request s b n → WasDone s → IsDone request s b n
  done_clause (inl x) was =
      elim x.finishes.ends [
        | inl done ↦ record { good = x.good; effect = x.effect; does = x.does; status_is = done.0; files = done.1.files; report = done.1.report }
        | inr failed ↦ absurd (not_three s was (failed.0))
      ]
  done_clause (inr x) was = absurd ((of_failure x.why s x.status_is).kept was)

  pub seven_clause : Ends request s b n → s ≡ 7 → IsVerify request
  seven_clause ends is = let d = done_clause ends (inr is) in seven_verify request b.files d.effect d.does (sym d.status_is ∙ is)

  unread_of : (f : Failure) (name : List ℕ) → Fails f (reads request) b.files name b.reading n.reading → s ≡ status_of f → SaysLine (line_of f name) b n → s ≡ 2
      → IsUnread request b n
  unread_of failure.Unread name fails is line q =
      record { one = fails.one; reached = fails.reached; cause = fails.reason; line = subst (λ (l : List ℕ). SaysLine (cannot_read l) b n) fails.named line }
  unread_of failure.TooLarge name fails is line q = absurd (omega (arith, is, q))
  unread_of failure.TooMany name fails is line q = absurd (omega (arith, is, q))
  unread_of (failure.Refused r) name fails is line q = absurd (omega (arith, is, q))
  unread_of failure.Memory name fails is line q = absurd (omega (arith, is, q))

  refused_of : (f : Failure) (name : List ℕ) → Fails f (reads request) b.files name b.reading n.reading → s ≡ status_of f → SaysLine (line_of f name) b n
      → s ≡ 4 → IsRefused request b n
  refused_of failure.Unread name fails is line q = absurd (omega (arith, is, q))
  refused_of failure.TooLarge name fails is line q = absurd (omega (arith, is, q))
  refused_of failure.TooMany name fails is line q = absurd (omega (arith, is, q))
  refused_of (failure.Refused r) name fails is line q = record { one = fails.one; reached = fails.reached; why = r; refused = fails.reason.1; line = line }
  refused_of failure.Memory name fails is line q = absurd (omega (arith, is, q))

  limit_of : (f : Failure) (name : List ℕ) → Fails f (reads request) b.files name b.reading n.reading → s ≡ status_of f → SaysLine (line_of f name) b n → s ≡ 6
      → IsPastLimit request b n
  limit_of failure.Unread name fails is line q = absurd (omega (arith, is, q))
  limit_of failure.TooLarge name fails is line q = record { one = fails.one; reached = fails.reached; limit = inl (fails.reason.1, line) }
  limit_of failure.TooMany name fails is line q = record { one = fails.one; reached = fails.reached; limit = inr (fails.reason.1, line) }
  limit_of (failure.Refused r) name fails is line q = absurd (omega (arith, is, q))
  limit_of failure.Memory name fails is line q = absurd (omega (arith, is, q))

  memory_of : (f : Failure) (name : List ℕ) → s ≡ status_of f → SaysLine (line_of f name) b n → s ≡ 8 → IsOutOfMemory b n
  memory_of failure.Unread name is line q = absurd (omega (arith, is, q))
  memory_of failure.TooLarge name is line q = absurd (omega (arith, is, q))
  memory_of failure.TooMany name is line q = absurd (omega (arith, is, q))
  memory_of (failure.Refused r) name is line q = absurd (omega (arith, is, q))
  memory_of failure.Memory name is line q = line

  kept_of : (f : Failure) (name : List ℕ) → Fails f (reads request) b.files name b.reading n.reading → s ≡ status_of f → s ≢ 2 → n.reading ≡ b.reading
  kept_of failure.Unread name fails is ne = absurd (ne is)
  kept_of failure.TooLarge name fails is ne = fails.reason.0
  kept_of failure.TooMany name fails is ne = fails.reason.0
  kept_of (failure.Refused r) name fails is ne = fails.reason.0
  kept_of failure.Memory name fails is ne = fails

  -- a command that went on to its end has none of the other statuses
  on_end : (effect : Effect) → HasEffect request b.files effect → Finishes effect s b n → (q : ℕ) → s ≡ q → q ≢ 0 → q ≢ 7 → q ≢ 3 → ⊥
  on_end effect does finishes q is a d e =
      elim finishes.ends [
        | inl done ↦ other (done_status s effect.status (done.0) (effect_status request b.files effect does))
        | inr failed ↦ e (sym is ∙ failed.0)
      ]
    where
      other : WasDone s → ⊥
      other (inl zero) = a (sym is ∙ zero)
      other (inr seven) = d (sym is ∙ seven)

  pub unread_clause : Ends request s b n → s ≡ 2 → IsUnread request b n
  unread_clause (inl x) q = absurd (on_end x.effect x.does x.finishes 2 q (λ a. omega (arith, a)) (λ a. omega (arith, a)) (λ a. omega (arith, a)))
  unread_clause (inr x) q = unread_of x.why x.name x.fails x.status_is x.line q

  pub refused_clause : Ends request s b n → s ≡ 4 → IsRefused request b n
  refused_clause (inl x) q = absurd (on_end x.effect x.does x.finishes 4 q (λ a. omega (arith, a)) (λ a. omega (arith, a)) (λ a. omega (arith, a)))
  refused_clause (inr x) q = refused_of x.why x.name x.fails x.status_is x.line q

  pub limit_clause : Ends request s b n → s ≡ 6 → IsPastLimit request b n
  limit_clause (inl x) q = absurd (on_end x.effect x.does x.finishes 6 q (λ a. omega (arith, a)) (λ a. omega (arith, a)) (λ a. omega (arith, a)))
  limit_clause (inr x) q = limit_of x.why x.name x.fails x.status_is x.line q

  pub memory_clause : Ends request s b n → s ≡ 8 → IsOutOfMemory b n
  memory_clause (inl x) q = absurd (on_end x.effect x.does x.finishes 8 q (λ a. omega (arith, a)) (λ a. omega (arith, a)) (λ a. omega (arith, a)))
  memory_clause (inr x) q = memory_of x.why x.name x.status_is x.line q

  pub unwritten_clause : Ends request s b n → s ≡ 3 → IsUnwritten request b n
  unwritten_clause (inl x) q =
      elim x.finishes.ends [
        | inl done ↦ absurd (not_three s (done_status s x.effect.status (done.0) (effect_status request b.files x.effect x.does)) q)
        | inr failed ↦ record { good = x.good; effect = x.effect; does = x.does; failed = failed.1 }
      ]
  unwritten_clause (inr x) q = absurd ((of_failure x.why s x.status_is).read q)

  pub reads_clause : Ends request s b n → s ≢ 2 → n.reading ≡ b.reading
  reads_clause (inl x) ne = x.finishes.reading
  reads_clause (inr x) ne = kept_of x.why x.name x.fails x.status_is ne

  pub writes_clause : Ends request s b n → s ≢ 3 → n.writing ≡ b.writing
  writes_clause (inl x) ne = elim x.finishes.ends [ inl done ↦ done.1.writing | inr failed ↦ absurd (ne (failed.0)) ]
  writes_clause (inr x) ne = x.writing

  pub puts_clause : Ends request s b n → WasDone s → n.faults ≡ b.faults
  puts_clause (inl x) was = elim x.finishes.ends [ inl done ↦ done.1.faults | inr failed ↦ absurd (not_three s was (failed.0)) ]
  puts_clause (inr x) was = absurd ((of_failure x.why s x.status_is).kept was)

  pub untouched_clause : Ends request s b n → ¬ (WasDone s) → s ≢ 3 → n.files ≡ b.files
  untouched_clause (inl x) never ne =
      elim x.finishes.ends [
        | inl done ↦ absurd (never (done_status s x.effect.status (done.0) (effect_status request b.files x.effect x.does)))
        | inr failed ↦ absurd (ne (failed.0))
      ]
  untouched_clause (inr x) never ne = x.files

  -- ---- what decides
  failure_decides : (f : Failure) (name : List ℕ) (told : Files) (it v : Verdict) → b.files ≡ Some told
      → (fails : FailsAt f (reads request) b.files name b.reading n.reading)
      → IsJudged fails.one told v → (v ≡ Good → ⊥) → Decides (reads request) told it → v ≡ it
  failure_decides f name told it v is fails judged bad decides =
      let good : AreGood fails.reached.earlier told = at_told (λ t. AreGood fails.reached.earlier t) b.files told is fails.reached.good in
      one_decides (reads request) told v it
      (subst (λ (l : List Input). Decides l told v) (sym fails.reached.place)
      (reached_decides fails.reached.earlier fails.reached.later fails.one told v good judged bad)) decides

  by_failure : (f : Failure) (name : List ℕ) (told : Files) (it : Verdict) → b.files ≡ Some told → Fails f (reads request) b.files name b.reading n.reading
      → s ≡ status_of f
      → Decides (reads request) told it → ¬ (Rose b.reading n.reading) → IsOneOf s (statuses_of it)
  by_failure failure.Unread name told it is fails q decides never =
      elim fails.reason [
        | inl rose ↦ absurd (never rose)
        | inr lacks ↦
            let there : Lacks (Some told) fails.one.name = subst (λ (o : Option Files). Lacks o fails.one.name) is lacks in
            subst (λ (v : Verdict). IsOneOf s (statuses_of v))
            (failure_decides failure.Unread name told it Lacking is fails (lacks_verdict fails.one.kind (get told fails.one.name) there) (λ e. cc) decides)
            (inl q)
      ]
  by_failure failure.TooLarge name told it is fails q decides never =
      subst (λ (v : Verdict). IsOneOf s (statuses_of v))
      (failure_decides failure.TooLarge name told it TooLarge is fails (at_told (λ t. IsJudged fails.one t TooLarge) b.files told is (fails.reason.1)) (λ e.
      cc) decides) (inl q)
  by_failure failure.TooMany name told it is fails q decides never =
      subst (λ (v : Verdict). IsOneOf s (statuses_of v))
      (failure_decides failure.TooMany name told it TooMany is fails (at_told (λ t. IsJudged fails.one t TooMany) b.files told is (fails.reason.1)) (λ e.
      cc) decides) (inl q)
  by_failure (failure.Refused r) name told it is fails q decides never =
      subst (λ (v : Verdict). IsOneOf s (statuses_of v))
      (failure_decides (failure.Refused r) name told it (Refused r) is fails (at_told (λ t. IsJudged fails.one t (Refused r)) b.files told is (fails.reason.1))
      (λ e. cc) decides) (inl q)
  by_failure failure.Memory name told it is fails q decides never = eight s it q

  answered : (told : Files) (it : Verdict) → b.files ≡ Some told → Ends request s b n → Decides (reads request) told it → ¬ (Rose b.reading n.reading)
      → IsOneOf s (statuses_of it)
  answered told it is (inl x) decides never =
      let good : AreGood (reads request) told = at_told (λ t. AreGood (reads request) t) b.files told is x.good in
      subst (λ (v : Verdict). IsOneOf s (statuses_of v)) (one_decides (reads request) told Good it (good_decides (reads request) told good) decides)
      (elim x.finishes.ends [
        | inl done ↦ good_status s (done_status s x.effect.status (done.0) (effect_status request b.files x.effect x.does))
        | inr failed ↦ inr (inl (failed.0))
      ])
  answered told it is (inr x) decides never = by_failure x.why x.name told it is x.fails x.status_is decides never

  not_failed : Ends request s b n → ¬ (Rose b.writing n.writing) → ¬ (Rose b.faults n.faults) → s ≢ 3
  not_failed ends w f = λ q. elim (unwritten_clause ends q).failed [ inl file ↦ w file.cause | inr put ↦ f put.cause ]

  completed : (told : Files) → b.files ≡ Some told → Ends request s b n → AreGood (reads request) told → ¬ (Rose b.reading n.reading)
      → ¬ (Rose b.writing n.writing)
      → ¬ (Rose b.faults n.faults) → IsOneOf s (0 ∷ 7 ∷ 8 ∷ [])
  completed told is ends good r w f = less (answered told Good is ends (good_decides (reads request) told good) r) (not_failed ends w f)
    where
      less : IsOneOf s (0 ∷ 3 ∷ 7 ∷ 8 ∷ []) → s ≢ 3 → IsOneOf s (0 ∷ 7 ∷ 8 ∷ [])
      less (inl a) ne = inl a
      less (inr (inl a)) ne = absurd (ne a)
      less (inr (inr rest)) ne = inr rest

-- the same of what a shelf and an output show
pub judged_clause : (request : RequestData) (s : ℕ) (files now_files : Option Files) (reading now_reading writing now_writing faults now_faults : ℕ)
    (written now_written : Option (List ℕ))
    → Ends request s (record { files = files; reading = reading; writing = writing; written = written; faults = faults })
    (record { files = now_files; reading = now_reading; writing = now_writing; written = now_written; faults = now_faults })
    → AnswersBy request s (record { files = files; reading = reading; writing = writing; written = written; faults = faults })
    (record { files = now_files; reading = now_reading; writing = now_writing; written = now_written; faults = now_faults })
judged_clause request s None now_files reading now_reading writing now_writing faults now_faults written now_written ends = tt
judged_clause request s (Some told) now_files reading now_reading writing now_writing faults now_faults written now_written ends = λ it decides never.
    answered request s (record { files = Some told; reading = reading; writing = writing; written = written; faults = faults })
    (record { files = now_files; reading = now_reading; writing = now_writing; written = now_written; faults = now_faults }) told it refl ends decides never

pub complete_clause : (request : RequestData) (s : ℕ) (files now_files : Option Files) (reading now_reading writing now_writing faults now_faults : ℕ)
    (written now_written : Option (List ℕ))
    → Ends request s (record { files = files; reading = reading; writing = writing; written = written; faults = faults })
    (record { files = now_files; reading = now_reading; writing = now_writing; written = now_written; faults = now_faults })
    → IsComplete request s (record { files = files; reading = reading; writing = writing; written = written; faults = faults })
    (record { files = now_files; reading = now_reading; writing = now_writing; written = now_written; faults = now_faults })
complete_clause request s None now_files reading now_reading writing now_writing faults now_faults written now_written ends = tt
complete_clause request s (Some told) now_files reading now_reading writing now_writing faults now_faults written now_written ends = λ good r w f.
    completed request s (record { files = Some told; reading = reading; writing = writing; written = written; faults = faults })
    (record { files = now_files; reading = now_reading; writing = now_writing; written = now_written; faults = now_faults }) told refl ends good r w f

-- ---- what holds of a request holds of what the words request
pub known : (P : RequestData → Type 0) (request : RequestData) (o : Option RequestData) → Some request ≡ o → P request → IfSome o P
known P request None e p = absurd (cc)
known P request (Some a) e p = let same : request ≡ a = cc in subst P same p

pub not_none : (request : RequestData) (o : Option RequestData) → Some request ≡ o → o ≡ None → ⊥
not_none request o e f = let h : Some request ≡ None = e ∙ f in absurd (cc)

pub if_none : (P : RequestData → Type 0) (o : Option RequestData) → None ≡ o → IfSome o P
if_none P None e = tt
if_none P (Some a) e = absurd (cc)

pub seven_known : (request : RequestData) (o : Option RequestData) → Some request ≡ o → IsVerify request → (order : List ℕ) × (sound : List ℕ)
    × (o ≡ Some (Verify order sound))
seven_known request o e is = (is.0, is.1, sym e ∙ ap (λ (r : RequestData). Some r) (is.2))
