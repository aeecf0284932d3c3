-- The commands of a file at their blocks, one after the other.
use Rattle.std.proofs.Common.{◌≡◌, ℕ, ◌+◌, ◌-◌, ◌*◌, ◌<◌, ◌≤◌, List, [], ◌∷◌, ◌++◌, length, Bool, true, false, cond, refl, ap, sym, ◌∙◌, subst, arith}
use Rattle.std.proofs.Common.{append_assoc, append-nil, add_assoc}
use Rattle.std.specs.Prelude.{Option}
use Rattle.script_plan.specs.Plan.{PlannedData}
use Rattle.script_outcome.specs.declared.fault.Place.TheVariants as place
use Rattle.script_outcome.specs.declared.fault.ScriptKind.TheVariants as kind
use Rattle.script_outcome.specs.declared.fault.ScriptFault.{ScriptFault}
use Rattle.script_outcome.specs.declared.fault.ScriptFault.TheVariants as faults
use Rattle.script_outcome.specs.Outcomes.{Outcome, Fails}
use Rattle.script_outcome.specs.Plan.{plan_of}
use Rattle.script_outcome.specs.ReaderAnswer.{Stops, all_given}
use Rattle.command_set.specs.Command.{CommandData}
use Rattle.midi_file.specs.Track.{ActData, Sets, Plays, TimedData, timed_at}
use Rattle.midi_file.specs.Chunks.{division_of, file_outcomes}
use Rattle.midi_file.specs.Time.{Change, block_of, changes_in, change_at, first_tempo, time_between, time_of}
use Rattle.midi_file.specs.File.{IsInTime, act_outcomes, acts_in, first_fault, in_order, midi_outcomes, ordered_outcomes, timed_outcomes, timed_plan}
use Rattle.midi_file.specs.File.{unless_refused}
use Rattle.midi_file.specs.FileSoFar.{Faults, all_come}
use Rattle.midi_file.specs.declared.time.Clock.{Clock}
use Rattle.script_outcome.proofs.Plans.{fails, stops_more}
use Rattle.midi_file.proofs.Times.{IsAfterTick, changes_after, time_on, no_time, time_changed}

-- ---- blocks

-- more time, a later block
pub block_rises : (division time more : ℕ) → 0 < division → time ≤ more → block_of division time ≤ block_of division more
block_rises division time more some le = grind (arith)

-- ---- one act after the other

-- a clock and the commands so far stand before these acts; what comes of all acts is this
pub record IsPlanned (clock : Clock) (blocks : Option ℕ) (division : ℕ) (changes : List Change) (rest : List TimedData) (given : List PlannedData)
    (all : List Outcome) : Type 0 where
  pub order : IsInTime clock.tick rest
  pub times : (tick : ℕ) → clock.tick ≤ tick → time_of changes tick ≡ clock.time + time_between clock.tempo clock.tick (changes_in rest) tick
  pub left : all_given given ++ ordered_outcomes blocks division changes rest ≡ all

first_order : (least tick : ℕ) (rest : List TimedData) → tick ≤ least → IsInTime least rest → IsInTime tick rest
first_order least tick [] le order = tt
first_order least tick (e ∷ later) le order = (let low : least ≤ e.tick = order.0 in omega arith, order.1)

pub planned_none : (clock : Clock) (blocks : Option ℕ) (division : ℕ) (events : List TimedData) (given : List PlannedData) → IsInTime 0 events
    → clock.time ≡ 0 → clock.tick ≡ 0 → clock.tempo ≡ first_tempo → given ≡ []
    → IsPlanned clock blocks division (changes_in events) events given (timed_plan blocks division events)
planned_none clock blocks division events given order time tick tempo none = record {
  order = subst (λ (t : ℕ). IsInTime t events) (sym tick) order;
  times = λ t le.
      sym (ap (λ (n : ℕ). n + time_between clock.tempo clock.tick (changes_in events) t) time
      ∙ ap (λ (n : ℕ). 0 + time_between n clock.tick (changes_in events) t) tempo
      ∙ ap (λ (n : ℕ). 0 + time_between first_tempo n (changes_in events) t) tick
      ∙ (omega arith));
  left = ap (λ (cs : List PlannedData). all_given cs ++ timed_plan blocks division events) none;
}

changes_first : (e : TimedData) (later : List TimedData) → changes_in (e ∷ later) ≡ change_at e.tick e.act ++ changes_in later
unfolding changes_in
changes_first e later = refl

outcomes_first : (blocks : Option ℕ) (division : ℕ) (changes : List Change) (e : TimedData) (later : List TimedData)
    → ordered_outcomes blocks division changes (e ∷ later) ≡ timed_outcomes blocks division changes e ++ ordered_outcomes blocks division changes later
unfolding ordered_outcomes
outcomes_first blocks division changes e later = refl

-- the time of the next act is that of the clock, once it has gone on to it
pub next_time : (clock : Clock) (blocks : Option ℕ) (division : ℕ) (changes : List Change) (e : TimedData) (later : List TimedData) (given : List PlannedData)
    (all : List Outcome)
    → IsPlanned clock blocks division changes (e ∷ later) given all → time_of changes e.tick ≡ clock.time + (e.tick - clock.tick) * clock.tempo
next_time clock blocks division changes e later given all p =
    let after : IsAfterTick e.tick (changes_in (e ∷ later)) = changes_after e.tick (e ∷ later) (omega arith, p.order.1) in
    p.times e.tick p.order.0
    ∙ ap (λ (n : ℕ). clock.time + n) (time_on clock.tempo clock.tick e.tick e.tick (changes_in (e ∷ later)) p.order.0 (omega arith) after
    ∙ ap (λ (n : ℕ). (e.tick - clock.tick) * clock.tempo + n) (no_time clock.tempo e.tick (changes_in (e ∷ later)) after) ∙ (omega arith))

-- the times after the next act
times_on : (clock : Clock) (changes : List Change) (e : TimedData) (later : List TimedData) → IsInTime clock.tick (e ∷ later)
    → ((tick : ℕ) → clock.tick ≤ tick → time_of changes tick ≡ clock.time + time_between clock.tempo clock.tick (changes_in (e ∷ later)) tick)
    → (tick : ℕ) → e.tick ≤ tick → time_of changes tick ≡ (clock.time + (e.tick - clock.tick) * clock.tempo) + time_between clock.tempo e.tick
    (changes_in (e ∷ later)) tick
times_on clock changes e later order times tick le =
    times tick (let low : clock.tick ≤ e.tick = order.0 in omega arith)
    ∙ ap (λ (n : ℕ). clock.time + n) (time_on clock.tempo clock.tick e.tick tick (changes_in (e ∷ later)) order.0 le
    (changes_after e.tick (e ∷ later) (omega arith, order.1)))
    ∙ sym (add_assoc clock.time ((e.tick - clock.tick) * clock.tempo) _)

-- after a new tempo
pub planned_tempo : (clock next : Clock) (blocks : Option ℕ) (division : ℕ) (changes : List Change) (e : TimedData) (later : List TimedData)
    (given : List PlannedData) (all : List Outcome) (tempo : ℕ)
    → IsPlanned clock blocks division changes (e ∷ later) given all → e.act ≡ Sets tempo
    → next.time ≡ clock.time + (e.tick - clock.tick) * clock.tempo → next.tick ≡ e.tick → next.tempo ≡ tempo
    → IsPlanned next blocks division changes later given all
planned_tempo clock next blocks division changes e later given all tempo p is time tick new = record {
  order = subst (λ (t : ℕ). IsInTime t later) (sym tick) p.order.1;
  times = λ t le.
      let low : e.tick ≤ t = omega (arith, tick) in
      let first : changes_in (e ∷ later) ≡ record { tick = e.tick; tempo = tempo } ∷ changes_in later = changes_first e later
      ∙ ap (λ (a : ActData). change_at e.tick a ++ changes_in later) is in
      times_on clock changes e later p.order p.times t low
      ∙ ap (λ (cs : List Change). (clock.time + (e.tick - clock.tick) * clock.tempo) + time_between clock.tempo e.tick cs t) first
      ∙ ap (λ (n : ℕ). (clock.time + (e.tick - clock.tick) * clock.tempo) + n)
      (time_changed clock.tempo tempo e.tick t (changes_in later) low (changes_after e.tick later p.order.1))
      ∙ ap (λ (n : ℕ). n + time_between tempo e.tick (changes_in later) t) (sym time)
      ∙ ap (λ (n : ℕ). next.time + time_between n e.tick (changes_in later) t) (sym new)
      ∙ ap (λ (n : ℕ). next.time + time_between next.tempo n (changes_in later) t) (sym tick);
  left = ap (λ (os : List Outcome). all_given given ++ os)
      (sym (outcomes_first blocks division changes e later
      ∙ ap (λ (a : ActData). act_outcomes blocks e.place (block_of division (time_of changes e.tick)) a ++ ordered_outcomes blocks division changes later) is))
      ∙ p.left;
}

-- what comes of a command, and of the acts after it
command_first : (clock next : Clock) (blocks : Option ℕ) (division : ℕ) (changes : List Change) (e : TimedData) (later : List TimedData)
    (given : List PlannedData) (all : List Outcome)
    → IsPlanned clock blocks division changes (e ∷ later) given all → next.time ≡ clock.time + (e.tick - clock.tick) * clock.tempo
    → (all_given given ++ act_outcomes blocks e.place (block_of division next.time) e.act) ++ ordered_outcomes blocks division changes later ≡ all
command_first clock next blocks division changes e later given all p time =
    append_assoc (all_given given) _ _
    ∙ ap (λ (n : ℕ). all_given given ++ (act_outcomes blocks e.place (block_of division n) e.act ++ ordered_outcomes blocks division changes later))
    (time ∙ sym (next_time clock blocks division changes e later given all p))
    ∙ ap (λ (os : List Outcome). all_given given ++ os) (sym (outcomes_first blocks division changes e later)) ∙ p.left

-- a command that is stopped
pub stopped_command : (clock next : Clock) (blocks : Option ℕ) (division room : ℕ) (changes : List Change) (e : TimedData) (later : List TimedData)
    (given : List PlannedData) (all : List Outcome) (why : ScriptFault)
    → IsPlanned clock blocks division changes (e ∷ later) given all → next.time ≡ clock.time + (e.tick - clock.tick) * clock.tempo
    → Stops why room (all_given given ++ act_outcomes blocks e.place (block_of division next.time) e.act) → Stops why room all
stopped_command clock next blocks division room changes e later given all why p time stops =
    subst (λ (os : List Outcome). Stops why room os) (command_first clock next blocks division changes e later given all p time) (stops_more why room _ _ stops)

-- after a command
pub planned_command : (clock next : Clock) (blocks : Option ℕ) (division : ℕ) (changes : List Change) (e : TimedData) (later : List TimedData)
    (given given' : List PlannedData) (all : List Outcome) (a : ActData)
    → IsPlanned clock blocks division changes (e ∷ later) given all → e.act ≡ a → change_at e.tick a ≡ []
    → next.time ≡ clock.time + (e.tick - clock.tick) * clock.tempo → next.tick ≡ e.tick → next.tempo ≡ clock.tempo
    → all_given given' ≡ all_given given ++ act_outcomes blocks e.place (block_of division next.time) e.act
    → IsPlanned next blocks division changes later given' all
planned_command clock next blocks division changes e later given given' all a p is none time tick tempo come = record {
  order = subst (λ (t : ℕ). IsInTime t later) (sym tick) p.order.1;
  times = λ t le.
      let low : e.tick ≤ t = omega (arith, tick) in
      let first : changes_in (e ∷ later) ≡ changes_in later =
      changes_first e later ∙ ap (λ (x : ActData). change_at e.tick x ++ changes_in later) is ∙ ap (λ (cs : List Change). cs ++ changes_in later) none in
      times_on clock changes e later p.order p.times t low
      ∙ ap (λ (cs : List Change). (clock.time + (e.tick - clock.tick) * clock.tempo) + time_between clock.tempo e.tick cs t) first
      ∙ ap (λ (n : ℕ). n + time_between clock.tempo e.tick (changes_in later) t) (sym time)
      ∙ ap (λ (n : ℕ). next.time + time_between n e.tick (changes_in later) t) (sym tempo)
      ∙ ap (λ (n : ℕ). next.time + time_between next.tempo n (changes_in later) t) (sym tick);
  left = ap (λ (os : List Outcome). os ++ ordered_outcomes blocks division changes later) come
      ∙ command_first clock next blocks division changes e later given all p time;
}

-- the same, as the code has the next act
pub planned_tempo_at : (clock next : Clock) (blocks : Option ℕ) (division : ℕ) (changes : List Change) (events : List TimedData) (e : TimedData)
    (later : List TimedData) (given : List PlannedData) (all : List Outcome) (tick place tempo : ℕ)
    → IsPlanned clock blocks division changes events given all → events ≡ e ∷ later → e ≡ timed_at tick place (Sets tempo)
    → next.time ≡ clock.time + (tick - clock.tick) * clock.tempo → next.tick ≡ tick → next.tempo ≡ tempo
    → IsPlanned next blocks division changes later given all
planned_tempo_at clock next blocks division changes events e later given all tick place tempo p split is time on new =
    planned_tempo clock next blocks division changes (timed_at tick place (Sets tempo)) later given all tempo
    (subst (λ (es : List TimedData). IsPlanned clock blocks division changes es given all) (split ∙ ap (λ (x : TimedData). x ∷ later) is) p) refl time on new

pub planned_command_at : (clock next : Clock) (blocks : Option ℕ) (division : ℕ) (changes : List Change) (events : List TimedData) (e : TimedData)
    (later : List TimedData) (given given' : List PlannedData) (all : List Outcome) (tick place block : ℕ) (command : CommandData)
    → IsPlanned clock blocks division changes events given all → events ≡ e ∷ later → e ≡ timed_at tick place (Plays command)
    → next.time ≡ clock.time + (tick - clock.tick) * clock.tempo → next.tick ≡ tick → next.tempo ≡ clock.tempo → block ≡ block_of division next.time
    → all_given given' ≡ all_given given ++ act_outcomes blocks place block (Plays command)
    → IsPlanned next blocks division changes later given' all
planned_command_at clock next blocks division changes events e later given given' all tick place block command p split is time on same at come =
    planned_command clock next blocks division changes (timed_at tick place (Plays command)) later given given' all (Plays command)
    (subst (λ (es : List TimedData). IsPlanned clock blocks division changes es given all) (split ∙ ap (λ (x : TimedData). x ∷ later) is) p) refl refl time on
    same
    (come ∙ ap (λ (n : ℕ). all_given given ++ act_outcomes blocks place n (Plays command)) at)

pub stopped_command_at : (clock next : Clock) (blocks : Option ℕ) (division room : ℕ) (changes : List Change) (events : List TimedData) (e : TimedData)
    (later : List TimedData) (given : List PlannedData) (all : List Outcome) (why : ScriptFault) (tick place block : ℕ) (command : CommandData)
    → IsPlanned clock blocks division changes events given all → events ≡ e ∷ later → e ≡ timed_at tick place (Plays command)
    → next.time ≡ clock.time + (tick - clock.tick) * clock.tempo → block ≡ block_of division next.time
    → Stops why room (all_given given ++ act_outcomes blocks place block (Plays command)) → Stops why room all
stopped_command_at clock next blocks division room changes events e later given all why tick place block command p split is time at stops =
    stopped_command clock next blocks division room changes (timed_at tick place (Plays command)) later given all why
    (subst (λ (es : List TimedData). IsPlanned clock blocks division changes es given all) (split ∙ ap (λ (x : TimedData). x ∷ later) is) p) time
    (subst (λ (n : ℕ). Stops why room (all_given given ++ act_outcomes blocks place n (Plays command))) at stops)

no_acts : (es : List TimedData) → length es ≡ 0 → es ≡ []
no_acts [] none = refl
no_acts (e ∷ es) none = absurd (omega arith)

nothing_left : (blocks : Option ℕ) (division : ℕ) (changes : List Change) → ordered_outcomes blocks division changes [] ≡ []
unfolding ordered_outcomes
nothing_left blocks division changes = refl

-- no act is left
pub all_planned : (clock : Clock) (blocks : Option ℕ) (division room : ℕ) (changes : List Change) (rest : List TimedData) (given : List PlannedData)
    (all : List Outcome)
    → IsPlanned clock blocks division changes rest given all → length rest ≡ 0 → length given ≤ room → (all ≡ all_given given) × (length given ≤ room)
all_planned clock blocks division room changes rest given all p none few = (
  sym (sym (append-nil (all_given given)) ∙ ap (λ (os : List Outcome). all_given given ++ os) (sym (nothing_left blocks division changes))
      ∙ ap (λ (es : List TimedData). all_given given ++ ordered_outcomes blocks division changes es) (sym (no_acts rest none)) ∙ p.left),
  few,
)

-- ---- whole files

acts_of_all : (es : List TimedData) → acts_in (all_come es) ≡ es
acts_of_all [] = refl
acts_of_all (e ∷ es) = ap (λ (fs : List TimedData). e ∷ fs) (acts_of_all es)

no_fault : (es : List TimedData) → first_fault (all_come es) ≡ []
no_fault [] = refl
no_fault (e ∷ es) = no_fault es

-- a file with no fault
pub whole_file : (blocks : Option ℕ) (bytes : List ℕ) (es sorted : List TimedData) (division : ℕ) → all_come es ≡ file_outcomes bytes → sorted ≡ in_order es
    → division ≡ division_of bytes
    → timed_plan blocks division sorted ≡ midi_outcomes blocks bytes
unfolding midi_outcomes
whole_file blocks bytes es sorted division come order is =
    let none : first_fault (file_outcomes bytes) ≡ [] = ap first_fault (sym come) ∙ no_fault es in
    let acts : acts_in (file_outcomes bytes) ≡ es = ap acts_in (sym come) ∙ acts_of_all es in
    ap (timed_plan blocks division) order
    ∙ ap (λ (fs : List TimedData). timed_plan blocks division (in_order fs)) (sym acts)
    ∙ ap (λ (n : ℕ). timed_plan blocks n (in_order (acts_in (file_outcomes bytes)))) is
    ∙ sym (ap (λ (os : List Outcome). unless_refused os (timed_plan blocks (division_of bytes) (in_order (acts_in (file_outcomes bytes))))) none)

-- a file with a fault
pub faulty_file : (why : ScriptFault) (blocks : Option ℕ) (room : ℕ) (bytes : List ℕ) → Faults why (file_outcomes bytes)
    → Stops why room (midi_outcomes blocks bytes)
unfolding midi_outcomes
faulty_file (faults.Refused at why) blocks room bytes fault = λ more.
    let is : first_fault (file_outcomes bytes) ≡ Fails at why ∷ [] = ap first_fault (sym (append-nil (file_outcomes bytes))) ∙ fault [] in
    ap (λ (os : List Outcome). plan_of room (unless_refused os (timed_plan blocks (division_of bytes) (in_order (acts_in (file_outcomes bytes)))) ++ more)) is
    ∙ fails room [] at why more (omega arith)
faulty_file faults.TooMany blocks room bytes fault = absurd fault
faulty_file faults.Memory blocks room bytes fault = tt

-- a command that is too late
late_stops : (room at : ℕ) (given : List PlannedData) (late : Bool) (os : List Outcome) → late ≡ true → length given ≤ room
    → Stops (faults.Refused (place.Byte at) kind.Late) room (all_given given ++ cond late (Fails (place.Byte at) kind.Late ∷ []) os)
late_stops room at given true os e few = λ more. fails room given (place.Byte at) kind.Late more few
late_stops room at given false os e few = absurd (cc)

pub stops_late : (why : ScriptFault) (room at : ℕ) (given : List PlannedData) (late : Bool) (os : List Outcome) → late ≡ true → length given ≤ room
    → why ≡ faults.Refused (place.Byte at) kind.Late
    → Stops why room (all_given given ++ cond late (Fails (place.Byte at) kind.Late ∷ []) os)
stops_late why room at given late os e few refused =
    subst (λ (f : ScriptFault). Stops f room (all_given given ++ cond late (Fails (place.Byte at) kind.Late ∷ []) os)) (sym refused)
    (late_stops room at given late os e few)
