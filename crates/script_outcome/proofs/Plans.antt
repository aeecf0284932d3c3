-- The plan of commands, and of commands with a fault or one more after them.
use Rattle.std.proofs.Common.{◌≡◌, ℕ, ◌+◌, ◌≤◌, List, [], ◌∷◌, ◌++◌, length, Bool, true, false, cond, refl, ap, sym, ◌∙◌, subst, arith, append_assoc}
use Rattle.std.proofs.Common.{append-nil, lt-ltb, length-append}
use Rattle.std.proofs.lemmas.Bool.{le-ltb}
use Rattle.std.specs.Prelude.{nat_lt}
use Rattle.script_plan.specs.Plan.{PlannedData, last_due_or, last_due}
use Rattle.script_outcome.specs.declared.fault.Place.{Place}
use Rattle.script_outcome.specs.declared.fault.ScriptKind.{ScriptKind}
use Rattle.script_outcome.specs.declared.fault.ScriptFault.{ScriptFault}
use Rattle.script_outcome.specs.declared.fault.ScriptFault.TheVariants as faults
use Rattle.script_outcome.specs.declared.fault.ScriptKind.TheVariants as kind
use Rattle.sysex_frame.specs.declared.frame.FrameFault.{FrameFault}
use Rattle.command_set.specs.Message.{MessageOutcome, Overlong, Faulty}
use Rattle.std.specs.Prelude.{Result, Ok, Err, OnOk, IfOk, IfErr, OnErr}
use Rattle.script_outcome.specs.Outcomes.{Outcome, Gives, Fails, message_outcomes}
use Rattle.script_outcome.specs.Plan.{Plan, Commands, Refused, TooMany, given, verdict, plan_of}
use Rattle.script_outcome.specs.ReaderAnswer.{Stops, all_given}

given_all : (cs : List PlannedData) (more : List Outcome) → given (all_given cs ++ more) ≡ cs ++ given more
given_all [] more = refl
given_all (c ∷ cs) more = ap (λ (ds : List PlannedData). c ∷ ds) (given_all cs more)

verdict_all : (ds cs : List PlannedData) (more : List Outcome) → verdict ds (all_given cs ++ more) ≡ verdict ds more
verdict_all ds [] more = refl
verdict_all ds (c ∷ cs) more = verdict_all ds cs more

chosen : (t : Bool) (x y : Plan) → t ≡ false → cond t x y ≡ y
chosen true x y e = absurd (cc)
chosen false x y e = refl

passed : (t : Bool) (x y : Plan) → t ≡ true → cond t x y ≡ x
passed true x y e = refl
passed false x y e = absurd (cc)

not_more : (room n : ℕ) → n ≤ room → nat_lt room n ≡ false
not_more room n l = le-ltb room n l

-- commands for which there is room, and a fault after them
pub fails_after : (room : ℕ) (cs : List PlannedData) (at : Place) (why : ScriptKind) (more : List Outcome) → length cs ≤ room
    → plan_of room (all_given cs ++ Fails at why ∷ more) ≡ Refused at why
unfolding plan_of
fails_after room cs at why more few =
    let all : given (all_given cs ++ Fails at why ∷ more) ≡ cs = given_all cs (Fails at why ∷ more) ∙ append-nil cs in
    chosen _ TooMany _ (ap (λ (ds : List PlannedData). nat_lt room (length ds)) all ∙ not_more room (length cs) few)
    ∙ verdict_all _ cs (Fails at why ∷ more)

pub fails : (room : ℕ) (cs : List PlannedData) (at : Place) (why : ScriptKind) (more : List Outcome) → length cs ≤ room
    → plan_of room (all_given cs ++ Fails at why ∷ [] ++ more) ≡ Refused at why
fails room cs at why more few = rw append_assoc (fails_after room cs at why more few)

-- a command for which there is no room
many_after : (room : ℕ) (cs : List PlannedData) (c : PlannedData) (more : List Outcome) → room ≤ length cs
    → plan_of room (all_given cs ++ Gives c ∷ more) ≡ TooMany
unfolding plan_of
many_after room cs c more full =
    let all : given (all_given cs ++ Gives c ∷ more) ≡ cs ++ c ∷ given more = given_all cs (Gives c ∷ more) in
    let count : length (cs ++ c ∷ given more) ≡ length cs + length (c ∷ given more) = length-append cs (c ∷ given more) in
    passed _ TooMany _ (ap (λ (ds : List PlannedData). nat_lt room (length ds)) all ∙ lt-ltb room (length (cs ++ c ∷ given more)) (omega arith))

pub many : (room : ℕ) (cs : List PlannedData) (c : PlannedData) (more : List Outcome) → room ≤ length cs
    → plan_of room (all_given cs ++ Gives c ∷ [] ++ more) ≡ TooMany
many room cs c more full = rw append_assoc (many_after room cs c more full)

-- commands for which there is room
pub whole : (room : ℕ) (cs : List PlannedData) → length cs ≤ room → plan_of room (all_given cs) ≡ Commands cs
unfolding plan_of
whole room cs few =
    let all : given (all_given cs) ≡ cs = ap given (sym (append-nil (all_given cs))) ∙ given_all cs [] ∙ append-nil cs in
    let none : verdict (given (all_given cs)) (all_given cs) ≡ Commands (given (all_given cs)) =
    ap (verdict (given (all_given cs))) (sym (append-nil (all_given cs))) ∙ verdict_all (given (all_given cs)) cs [] in
    chosen _ TooMany _ (ap (λ (ds : List PlannedData). nat_lt room (length ds)) all ∙ not_more room (length cs) few)
    ∙ none ∙ ap Commands all

-- what stops some outcomes stops them with more after
pub stops_more : (why : ScriptFault) (room : ℕ) (xs ys : List Outcome) → Stops why room xs → Stops why room (xs ++ ys)
stops_more (faults.Refused at why) room xs ys h = λ more. rw append_assoc (h (ys ++ more))
stops_more faults.TooMany room xs ys h = λ more. rw append_assoc (h (ys ++ more))
stops_more faults.Memory room xs ys h = tt

-- what a stop says of the plan of the outcomes alone
pub stopped_refused : (at : Place) (why : ScriptKind) (room : ℕ) (xs : List Outcome) → Stops (faults.Refused at why) room xs → plan_of room xs ≡ Refused at why
stopped_refused at why room xs h = ap (plan_of room) (sym (append-nil xs)) ∙ h []

pub stopped_many : (room : ℕ) (xs : List Outcome) → Stops faults.TooMany room xs → plan_of room xs ≡ TooMany
stopped_many room xs h = ap (plan_of room) (sym (append-nil xs)) ∙ h []

-- more commands
pub given_more : (cs : List PlannedData) (c : PlannedData) → all_given (cs ++ c ∷ []) ≡ all_given cs ++ Gives c ∷ []
given_more [] c = refl
given_more (d ∷ cs) c = ap (λ (xs : List Outcome). Gives d ∷ xs) (given_more cs c)

pub last_due_more : (least : ℕ) (cs : List PlannedData) (c : PlannedData) → last_due_or least (cs ++ c ∷ []) ≡ c.due
last_due_more least [] c = refl
last_due_more least (d ∷ cs) c = last_due_more d.due cs c

-- a message that is refused
pub stops_overlong : (room : ℕ) (cs : List PlannedData) (at : Place) (block count : ℕ) (told : MessageOutcome) (more : List Outcome) → length cs ≤ room
    → told ≡ Overlong count
    → plan_of room (all_given cs ++ message_outcomes at block told ++ more) ≡ Refused at kind.Long
stops_overlong room cs at block count told more few is =
    subst (λ (t : MessageOutcome). plan_of room (all_given cs ++ message_outcomes at block t ++ more) ≡ Refused at kind.Long) (sym is)
    (fails room cs at kind.Long more few)

pub stops_faulty : (room : ℕ) (cs : List PlannedData) (at : Place) (block : ℕ) (fault : FrameFault) (told : MessageOutcome) (more : List Outcome)
    → length cs ≤ room → told ≡ Faulty fault
    → plan_of room (all_given cs ++ message_outcomes at block told ++ more) ≡ Refused at (kind.Message fault)
stops_faulty room cs at block fault told more few is =
    subst (λ (t : MessageOutcome). plan_of room (all_given cs ++ message_outcomes at block t ++ more) ≡ Refused at (kind.Message fault)) (sym is)
    (fails room cs at (kind.Message fault) more few)

-- what an answer says, handed on
pub on_ok_more : {T E : Type 0} {P Q : Type 0} (r : Result T E) → OnOk r P → (P → Q) → OnOk r Q
on_ok_more (Ok x) p along = along p
on_ok_more (Err e) p along = tt

pub if_err_more : {T E : Type 0} {P Q : E → Type 0} (r : Result T E) → IfErr r P → ((e : E) → P e → Q e) → IfErr r Q
if_err_more (Ok x) p along = tt
if_err_more (Err e) p along = along e p

pub if_ok_more : {T E : Type 0} {P Q : T → Type 0} (r : Result T E) → IfOk r P → ((x : T) → P x → Q x) → IfOk r Q
if_ok_more (Ok x) p along = along x p
if_ok_more (Err e) p along = tt

-- no commands
pub few_of_none : (cs : List PlannedData) (room : ℕ) → cs ≡ [] → length cs ≤ room
few_of_none cs room none = rw none (omega arith)

pub due_of_none : (cs : List PlannedData) → cs ≡ [] → last_due cs ≤ 0
due_of_none cs none = rw none (omega arith)

pub on_err_more : {T E : Type 0} {P Q : Type 0} (r : Result T E) → OnErr r P → (P → Q) → OnErr r Q
on_err_more (Ok x) p along = tt
on_err_more (Err e) p along = along p
