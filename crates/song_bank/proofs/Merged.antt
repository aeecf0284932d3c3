-- Acts at tick 0 before the acts of a song, in the order of ticks.
use Rattle.std.proofs.Common.{◌≡◌, ℕ, zero, suc, ◌+◌, ◌-◌, ◌*◌, ◌/◌, ◌≤◌, List, [], ◌∷◌, ◌++◌, length, map, Bool, true, false, cond, refl, ap, sym, ◌∙◌, subst}
use Rattle.std.proofs.Common.{arith, append_assoc, append-nil}
use Rattle.std.proofs.lemmas.List.{map-append}
use Rattle.std.proofs.lemmas.Bool.{le-leb}
use Rattle.std.specs.Prelude.{Option, Some, None, nat_lt, nat_le, ◌||◌, flat_map}
use Rattle.command_set.specs.Command.{CommandData}
use Rattle.script_plan.specs.Plan.{PlannedData, planned_at}
use Rattle.script_outcome.specs.declared.fault.Place.{Place}
use Rattle.script_outcome.specs.declared.fault.Place.TheVariants as place
use Rattle.script_outcome.specs.declared.fault.ScriptKind.{ScriptKind}
use Rattle.script_outcome.specs.declared.fault.ScriptKind.TheVariants as kind
use Rattle.script_outcome.specs.Outcomes.{Outcome, Gives, Fails}
use Rattle.script_outcome.specs.ReaderAnswer.{all_given}
use Rattle.midi_file.specs.Track.{ActData, Sets, Plays, TimedData, timed_at, TrackOutcome, Comes, Breaks}
use Rattle.midi_file.specs.Time.{Change, block_of, change_at, changes_in, first_tempo, time_between, time_of}
use Rattle.midi_file.specs.File.{act_outcomes, acts_in, first_fault, in_order, is_too_late, ordered_outcomes, put_in_order, timed_outcomes, timed_plan}
use Rattle.midi_file.specs.FileSoFar.{all_come}
use Rattle.song_bank.proofs.Places.{placeless, no_place, bare}

-- ---- acts that come

pub no_fault : (es : List TimedData) → first_fault (all_come es) ≡ []
no_fault [] = refl
no_fault (e ∷ es) = no_fault es

pub acts_come : (es : List TimedData) → acts_in (all_come es) ≡ es
acts_come [] = refl
acts_come (e ∷ es) = ap (λ (x : List TimedData). e ∷ x) (acts_come es)

-- all that happens is acts, where there is no fault
pub come_all : (os : List TrackOutcome) → first_fault os ≡ [] → os ≡ all_come (acts_in os)
come_all [] none = refl
come_all (Comes e ∷ os) none = ap (λ (x : List TrackOutcome). Comes e ∷ x) (come_all os none)
come_all (Breaks at why ∷ os) none = absurd (cc)

-- what is the same at no places as some acts is acts
pub record Moved (os : List TrackOutcome) (es : List TimedData) : Type 0 where
  pub acts : List TimedData
  pub come : os ≡ all_come acts
  pub same : map placeless acts ≡ map placeless es

pub moved : (os : List TrackOutcome) (es : List TimedData) → bare os ≡ bare (all_come es) → Moved os es
moved [] [] is = record { acts = []; come = refl; same = refl }
moved [] (e ∷ es) is = absurd (cc)
moved (Comes f ∷ os) [] is = absurd (cc)
moved (Breaks at why ∷ os) [] is = absurd (cc)
moved (Breaks at why ∷ os) (e ∷ es) is = absurd (cc)
moved (Comes f ∷ os) (e ∷ es) is =
    let rest : bare os ≡ bare (all_come es) = cc in
    let first : placeless f ≡ placeless e = cc in
    let m = moved os es rest in
    record {
      acts = f ∷ m.acts;
      come = ap (λ (x : List TrackOutcome). Comes f ∷ x) m.come;
      same = ap (λ (x : TimedData). x ∷ map placeless m.acts) first ∙ ap (λ (x : List TimedData). placeless e ∷ x) m.same;
    }

-- ---- order

put_placeless : (e : TimedData) (es : List TimedData) → map placeless (put_in_order e es) ≡ put_in_order (placeless e) (map placeless es)
unfolding put_in_order
put_placeless e [] = refl
put_placeless e (f ∷ es) = by_test (nat_le e.tick f.tick) (put_placeless e es)
  where
    by_test : (t : Bool) → map placeless (put_in_order e es) ≡ put_in_order (placeless e) (map placeless es)
        → map placeless (cond t (e ∷ f ∷ es) (f ∷ put_in_order e es))
        ≡ cond t (placeless e ∷ placeless f ∷ map placeless es) (placeless f ∷ put_in_order (placeless e) (map placeless es))
    by_test true later = refl
    by_test false later = ap (λ (x : List TimedData). placeless f ∷ x) later

pub order_placeless : (es : List TimedData) → map placeless (in_order es) ≡ in_order (map placeless es)
unfolding in_order
order_placeless [] = refl
order_placeless (e ∷ es) = put_placeless e (in_order es) ∙ ap (put_in_order (placeless e)) (order_placeless es)

put_first : (command : CommandData) (es : List TimedData) → put_in_order (timed_at 0 0 (Plays command)) es ≡ timed_at 0 0 (Plays command) ∷ es
unfolding put_in_order
put_first command [] = refl
put_first command (f ∷ es) = rw (le-leb 0 f.tick (omega arith)) refl

abbrev pub plays_at_once : List CommandData → List TimedData
plays_at_once commands = map (λ (c : CommandData). timed_at 0 0 (Plays c)) commands

-- acts at tick 0 before others stay first
pub order_first : (cs : List CommandData) (es : List TimedData) → in_order (plays_at_once cs ++ es) ≡ plays_at_once cs ++ in_order es
unfolding in_order
order_first [] es = refl
order_first (c ∷ cs) es = ap (put_in_order (timed_at 0 0 (Plays c))) (order_first cs es) ∙ put_first c (plays_at_once cs ++ in_order es)

-- ---- tempos

changes_placeless : (es : List TimedData) → changes_in (map placeless es) ≡ changes_in es
unfolding changes_in
changes_placeless [] = refl
changes_placeless (e ∷ es) = ap (λ (x : List Change). change_at e.tick e.act ++ x) (changes_placeless es)

pub changes_same : (es fs : List TimedData) → map placeless es ≡ map placeless fs → changes_in es ≡ changes_in fs
changes_same es fs same = sym (changes_placeless es) ∙ ap changes_in same ∙ changes_placeless fs

pub changes_first : (cs : List CommandData) (es : List TimedData) → changes_in (plays_at_once cs ++ es) ≡ changes_in es
unfolding changes_in
changes_first [] es = refl
changes_first (c ∷ cs) es = changes_first cs es

-- ---- what comes of them

abbrev pub unplaced : Outcome → Outcome
unplaced (Gives c) = Gives c
unplaced (Fails at why) = Fails (place.Byte 0) why

act_unplaced : (blocks : Option ℕ) (at at' block : ℕ) (a : ActData) → map unplaced (act_outcomes blocks at block a) ≡ map unplaced
    (act_outcomes blocks at' block a)
act_unplaced blocks at at' block (Sets tempo) = refl
act_unplaced blocks at at' block (Plays command) = by_test (is_too_late blocks block)
  where
    by_test : (t : Bool) → map unplaced (cond t (Fails (place.Byte at) kind.Late ∷ []) (Gives (planned_at block command) ∷ []))
        ≡ map unplaced (cond t (Fails (place.Byte at') kind.Late ∷ []) (Gives (planned_at block command) ∷ []))
    by_test true = refl
    by_test false = refl

pub both_outcomes : (a b c d : List Outcome) → map unplaced a ≡ map unplaced b → map unplaced c ≡ map unplaced d → map unplaced (a ++ c) ≡ map unplaced (b ++ d)
both_outcomes a b c d p q =
    map-append unplaced a c ∙ ap (λ (x : List Outcome). x ++ map unplaced c) p ∙ ap (λ (x : List Outcome). map unplaced b ++ x) q
    ∙ sym (map-append unplaced b d)

ordered_first : (blocks : Option ℕ) (division : ℕ) (changes : List Change) (e : TimedData) (es : List TimedData)
    → ordered_outcomes blocks division changes (e ∷ es) ≡ timed_outcomes blocks division changes e ++ ordered_outcomes blocks division changes es
unfolding ordered_outcomes
ordered_first blocks division changes e es = refl

ordered_none : (blocks : Option ℕ) (division : ℕ) (changes : List Change) → ordered_outcomes blocks division changes [] ≡ []
unfolding ordered_outcomes
ordered_none blocks division changes = refl

ordered_placeless : (blocks : Option ℕ) (division : ℕ) (changes : List Change) (es : List TimedData)
    → map unplaced (ordered_outcomes blocks division changes es) ≡ map unplaced (ordered_outcomes blocks division changes (map placeless es))
unfolding ordered_outcomes
ordered_placeless blocks division changes [] = refl
ordered_placeless blocks division changes (e ∷ es) =
    both_outcomes _ _ _ _ (act_unplaced blocks e.place 0 (block_of division (time_of changes e.tick)) e.act) (ordered_placeless blocks division changes es)

pub ordered_same : (blocks : Option ℕ) (division : ℕ) (changes : List Change) (es fs : List TimedData) → map placeless es ≡ map placeless fs
    → map unplaced (ordered_outcomes blocks division changes es) ≡ map unplaced (ordered_outcomes blocks division changes fs)
ordered_same blocks division changes es fs same =
    ordered_placeless blocks division changes es
    ∙ ap (λ (x : List TimedData). map unplaced (ordered_outcomes blocks division changes x)) same
    ∙ sym (ordered_placeless blocks division changes fs)

-- the same acts at other places come to the same, but for the places of faults
pub plan_same : (blocks : Option ℕ) (division : ℕ) (es fs : List TimedData) → map placeless es ≡ map placeless fs
    → map unplaced (timed_plan blocks division (in_order es)) ≡ map unplaced (timed_plan blocks division (in_order fs))
plan_same blocks division es fs same =
    let order : map placeless (in_order es) ≡ map placeless (in_order fs) = order_placeless es ∙ ap in_order same ∙ sym (order_placeless fs) in
    ordered_same blocks division (changes_in (in_order es)) (in_order es) (in_order fs) order
    ∙ ap (λ (x : List Change). map unplaced (ordered_outcomes blocks division x (in_order fs))) (changes_same (in_order es) (in_order fs) order)

-- ---- commands at tick 0

time_at_first : (changes : List Change) → time_of changes 0 ≡ 0
unfolding time_between
time_at_first [] = refl
time_at_first (change ∷ changes) = rw (le-leb 0 change.tick (omega arith)) refl

first_block : (division : ℕ) (changes : List Change) → block_of division (time_of changes 0) ≡ 0
first_block division changes = ap (block_of division) (time_at_first changes) ∙ none_of division
  where
    none_of : (division : ℕ) → block_of division 0 ≡ 0
    none_of division = grind (arith)

abbrev pub planned_at_once : List CommandData → List PlannedData
planned_at_once commands = map (planned_at 0) commands

first_outcomes : (division : ℕ) (changes : List Change) (c : CommandData)
    → timed_outcomes None division changes (timed_at 0 0 (Plays c)) ≡ Gives (planned_at 0 c) ∷ []
first_outcomes division changes c = ap (λ (block : ℕ). act_outcomes None 0 block (Plays c)) (first_block division changes)

pub ordered_at_once : (division : ℕ) (changes : List Change) (cs : List CommandData) (es : List TimedData)
    → ordered_outcomes None division changes (plays_at_once cs ++ es) ≡ all_given (planned_at_once cs) ++ ordered_outcomes None division changes es
ordered_at_once division changes [] es = refl
ordered_at_once division changes (c ∷ cs) es =
    ordered_first None division changes (timed_at 0 0 (Plays c)) (plays_at_once cs ++ es)
    ∙ ap (λ (x : List Outcome). x ++ ordered_outcomes None division changes (plays_at_once cs ++ es)) (first_outcomes division changes c)
    ∙ ap (λ (x : List Outcome). Gives (planned_at 0 c) ∷ x) (ordered_at_once division changes cs es)

-- acts of tick 0 before all others: their commands, and then what comes of the others
pub plan_first : (division : ℕ) (cs : List CommandData) (es : List TimedData)
    → timed_plan None division (in_order (plays_at_once cs ++ es)) ≡ all_given (planned_at_once cs) ++ timed_plan None division (in_order es)
plan_first division cs es =
    ap (λ (x : List TimedData). timed_plan None division x) (order_first cs es)
    ∙ ordered_at_once division (changes_in (plays_at_once cs ++ in_order es)) cs (in_order es)
    ∙ ap (λ (x : List Change). all_given (planned_at_once cs) ++ ordered_outcomes None division x (in_order es)) (changes_first cs (in_order es))
