-- What an answer says of the plan.
use Rattle.std.proofs.Common.{◌≡◌, ℕ, ◌<◌, ◌≤◌, List, [], ◌∷◌, length, Bool, true, false, cond, refl, ap, sym, ◌∙◌, subst, arith}
use Rattle.std.specs.Prelude.{◌||◌, All, Option, Some, None, Result, Ok, Err, IfOk, IfSome, bytes_eq, codes}
use Rattle.midi_stream.specs.Messages.{is_unfinished}
use Rattle.script_plan.specs.Plan.{PlannedData}
use Rattle.script_outcome.specs.declared.fault.Place.{Place}
use Rattle.script_outcome.specs.declared.fault.Place.TheVariants as place
use Rattle.script_outcome.specs.declared.fault.ScriptKind.{ScriptKind}
use Rattle.script_outcome.specs.declared.fault.ScriptKind.TheVariants as kind
use Rattle.script_outcome.specs.declared.fault.ScriptFault.{ScriptFault}
use Rattle.script_outcome.specs.declared.fault.ScriptFault.TheVariants as faults
use Rattle.script_read.specs.Lines.{parsed_lines}
use Rattle.script_read.specs.EditLines.{parsed_edits}
use Rattle.script_read.specs.Edits.{edit_text_outcomes, edits_after}
use Rattle.script_outcome.specs.Outcomes.{Outcome}
use Rattle.script_read.specs.Outcomes.{stream_of, outcomes_after, text_outcomes}
use Rattle.script_outcome.specs.Plan.{Commands, Refused, TooMany, plan_of}
use Rattle.midi_file.specs.File.{midi_outcomes}
use Rattle.script_read.specs.Plan.{at_first, is_stream, is_midi_file, lines_outcomes, outcomes, plan}
use Rattle.script_outcome.specs.ReaderAnswer.{Settles, Stops, all_given}
use Rattle.script_outcome.proofs.Plans.{fails_after, stopped_refused, stopped_many, whole}
use Rattle.script_outcome.proofs.Early.{AllEarly, given_early}
use Rattle.script_read.proofs.Early.{all_early}

-- an answer as that of what comes of the script
of_result : (r s : Result (List PlannedData) ScriptFault) (room : ℕ) (os : List Outcome) → r ≡ s → Settles r room os → Settles s room os
of_result r s room os e h = subst (λ (x : Result (List PlannedData) ScriptFault). Settles x room os) e h

pub plan_ok : (r : Result (List PlannedData) ScriptFault) (bytes : List ℕ) (blocks : Option ℕ) (room : ℕ) → Settles r room (outcomes blocks bytes)
    → IfOk r (λ script. plan bytes blocks room ≡ Commands script)
unfolding plan
plan_ok (Ok script) bytes blocks room h = ap (plan_of room) h.0 ∙ whole room script h.1
plan_ok (Err why) bytes blocks room h = tt

pub plan_few : (r : Result (List PlannedData) ScriptFault) (room : ℕ) (os : List Outcome) → Settles r room os → IfOk r (λ script. length script ≤ room)
plan_few (Ok script) room os h = h.1
plan_few (Err why) room os h = tt

pub plan_refused : (r : Result (List PlannedData) ScriptFault) (bytes : List ℕ) (blocks : Option ℕ) (room : ℕ) (at : Place) (why : ScriptKind)
    → Settles r room (outcomes blocks bytes) → r ≡ Err (faults.Refused at why) → plan bytes blocks room ≡ Refused at why
unfolding plan
plan_refused r bytes blocks room at why h e = stopped_refused at why room (outcomes blocks bytes)
    (of_result r (Err (faults.Refused at why)) room (outcomes blocks bytes) e h)

pub plan_many : (r : Result (List PlannedData) ScriptFault) (bytes : List ℕ) (blocks : Option ℕ) (room : ℕ)
    → Settles r room (outcomes blocks bytes) → r ≡ Err faults.TooMany → plan bytes blocks room ≡ TooMany
unfolding plan
plan_many r bytes blocks room h e = stopped_many room (outcomes blocks bytes) (of_result r (Err faults.TooMany) room (outcomes blocks bytes) e h)

pub plan_early : (r : Result (List PlannedData) ScriptFault) (bytes : List ℕ) (blocks : Option ℕ) (room : ℕ) → Settles r room (outcomes blocks bytes)
    → IfOk r (λ script. IfSome blocks (λ n. 0 < n → All (λ (c : PlannedData). c.due < n) script))
plan_early (Ok script) bytes None room h = tt
plan_early (Ok script) bytes (Some n) room h = λ some. given_early n script (subst (λ (os : List Outcome). AllEarly n os) h.0 (all_early n bytes some))
plan_early (Err why) bytes blocks room h = tt

-- ---- first lines

pub midi_first : (blocks : Option ℕ) (first : List ℕ) (lines : List (List ℕ)) → bytes_eq first (codes "midi 1") ≡ true
    → lines_outcomes blocks (first ∷ lines) ≡ text_outcomes blocks (parsed_lines lines)
midi_first blocks first lines e = rw e refl

edit_first : (blocks : Option ℕ) (first : List ℕ) (lines : List (List ℕ)) → bytes_eq first (codes "midi 1") ≡ false → bytes_eq first (codes "edit 1") ≡ true
    → lines_outcomes blocks (first ∷ lines) ≡ edit_text_outcomes blocks (parsed_edits lines)
edit_first blocks first lines e f = rw (e, f) refl

pub edit_settled : (r : Result (List PlannedData) ScriptFault) (room : ℕ) (blocks : Option ℕ) (first : List ℕ) (lines : List (List ℕ))
    → bytes_eq first (codes "midi 1") ≡ false → bytes_eq first (codes "edit 1") ≡ true
    → Settles r room (edit_text_outcomes blocks (parsed_edits lines)) → Settles r room (lines_outcomes blocks (first ∷ lines))
edit_settled r room blocks first lines e f h = subst (λ (os : List Outcome). Settles r room os) (sym (edit_first blocks first lines e f)) h

other_first : (blocks : Option ℕ) (first : List ℕ) (lines : List (List ℕ)) → bytes_eq first (codes "midi 1") ≡ false → bytes_eq first (codes "edit 1") ≡ false
    → lines_outcomes blocks (first ∷ lines) ≡ at_first kind.Kind
other_first blocks first lines e f = rw (e, f) refl

pub stops_first : (room : ℕ) (why : ScriptKind) → Stops (faults.Refused (place.Line 1) why) room (at_first why)
stops_first room why = λ more. fails_after room [] (place.Line 1) why more (omega arith)

refused_with : (fault : ScriptFault) (room : ℕ) (why : ScriptKind) (os : List Outcome) → os ≡ at_first why → fault ≡ faults.Refused (place.Line 1) why
    → Stops fault room os
refused_with fault room why os is e =
    subst (λ (xs : List Outcome). Stops fault room xs) (sym is) (subst (λ (w : ScriptFault). Stops w room (at_first why)) (sym e) (stops_first room why))

pub other_refused : (fault : ScriptFault) (room : ℕ) (blocks : Option ℕ) (first : List ℕ) (lines : List (List ℕ)) → bytes_eq first (codes "midi 1") ≡ false
    → bytes_eq first (codes "edit 1") ≡ false
    → fault ≡ faults.Refused (place.Line 1) kind.Kind → Stops fault room (lines_outcomes blocks (first ∷ lines))
other_refused fault room blocks first lines e f is = refused_with fault room kind.Kind _ (other_first blocks first lines e f) is

-- a text of its first line alone
pub nothing_comes : (blocks : Option ℕ) → text_outcomes blocks [] ≡ []
unfolding text_outcomes outcomes_after stream_of is_unfinished
nothing_comes blocks = refl

no_edits : (blocks : Option ℕ) → edit_text_outcomes blocks [] ≡ []
unfolding edits_after
no_edits blocks = refl

neither : (a b : Bool) (xs ys zs : List Outcome) → xs ≡ [] → ys ≡ [] → (a || b) ≡ true → cond a xs (cond b ys zs) ≡ []
neither true b xs ys zs x y either = x
neither false true xs ys zs x y either = y
neither false false xs ys zs x y either = absurd (cc)

pub nothing_alone : (blocks : Option ℕ) (room : ℕ) (first : List ℕ) (script : List PlannedData)
    → (bytes_eq first (codes "midi 1") || bytes_eq first (codes "edit 1")) ≡ true → script ≡ []
    → (lines_outcomes blocks (first ∷ []) ≡ all_given script) × (length script ≤ room)
nothing_alone blocks room first script known none = (
  neither (bytes_eq first (codes "midi 1")) (bytes_eq first (codes "edit 1")) (text_outcomes blocks []) (edit_text_outcomes blocks []) (at_first kind.Kind)
      (nothing_comes blocks) (no_edits blocks) known ∙ ap all_given (sym none),
  rw none (omega arith),
)

unknown : (a b : Bool) (xs ys zs : List Outcome) → (a || b) ≡ false → cond a xs (cond b ys zs) ≡ zs
unknown true b xs ys zs e = absurd (cc)
unknown false true xs ys zs e = absurd (cc)
unknown false false xs ys zs e = refl

pub unknown_refused : (fault : ScriptFault) (room : ℕ) (blocks : Option ℕ) (first : List ℕ)
    → (bytes_eq first (codes "midi 1") || bytes_eq first (codes "edit 1")) ≡ false
    → fault ≡ faults.Refused (place.Line 1) kind.Kind → Stops fault room (lines_outcomes blocks (first ∷ []))
unknown_refused fault room blocks first e is =
    refused_with fault room kind.Kind _ (unknown (bytes_eq first (codes "midi 1")) (bytes_eq first (codes "edit 1")) (text_outcomes blocks [])
    (edit_text_outcomes blocks []) (at_first kind.Kind) e) is

-- a MIDI file
pub midi_settled : (result : Result (List PlannedData) ScriptFault) (room : ℕ) (blocks : Option ℕ) (bytes : List ℕ) → is_stream bytes ≡ false
    → is_midi_file bytes ≡ true
    → Settles result room (midi_outcomes blocks bytes) → Settles result room (outcomes blocks bytes)
unfolding outcomes
midi_settled result room blocks bytes e f settles = rw (e, f) settles
