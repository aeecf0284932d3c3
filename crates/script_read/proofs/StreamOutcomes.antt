-- What comes of a whole stream.
use Rattle.std.proofs.Common.{◌≡◌, ℕ, ◌+◌, ◌<◌, ◌≤◌, List, [], ◌++◌, length, take, drop, get_or, true, false, refl, ap, sym, ◌∙◌, subst, arith}
use Rattle.std.proofs.Common.{append-nil, cond, Bool}
use Rattle.std.specs.Prelude.{Result, Ok, Err, IfOk, IfErr, OnOk, OnErr, Option, not, ◌||◌, if◌then◌else◌}
use Rattle.std.proofs.lemmas.List.{take-append-drop}
use Rattle.std.proofs.Common.{length-take}
use Rattle.midi_stream.specs.Messages.{is_unfinished}
use Rattle.velocity_map.specs.declared.curve.Curve.{Curve}
use Rattle.velocity_map.specs.declared.curve.Curve.TheVariants.{Linear}
use Rattle.script_plan.specs.Plan.{PlannedData}
use Rattle.script_outcome.specs.declared.fault.Place.{Place}
use Rattle.script_outcome.specs.declared.fault.Place.TheVariants as place
use Rattle.script_outcome.specs.declared.fault.ScriptKind.TheVariants as kind
use Rattle.script_outcome.specs.declared.fault.ScriptFault.{ScriptFault}
use Rattle.script_outcome.specs.declared.fault.ScriptFault.TheVariants as faults
use Rattle.script_outcome.specs.Stream.{begun_at, begun_after, is_status, begins}
use Rattle.midi_stream.specs.Ended.{EndedMessage, ended_message}
use Rattle.script_outcome.specs.Outcomes.{Outcome, ended_outcomes, fed_outcomes}
use Rattle.script_read.specs.Outcomes.{stream_end, stream_outcomes}
use Rattle.script_outcome.specs.Plan.{Refused, plan_of}
use Rattle.script_outcome.specs.ReaderAnswer.{Settles, Stops, all_given}
use Rattle.script_outcome.proofs.Plans.{fails, stops_more}
use Rattle.script_outcome.proofs.EndedMessages.{begun_more, fed_more, take_next}
use Rattle.script_outcome.proofs.FedBytes.{fed_append}

abbrev place_in : List ℕ → Place
place_in before = place.Byte (begun_at before)

pub fed_next : (bytes : List ℕ) (at byte : ℕ) (cs : List PlannedData) → at < length bytes → get_or bytes at 0 ≡ byte
    → fed_outcomes (λ before. place.Byte (begun_at before)) 0 Linear [] (take at bytes) ≡ all_given cs
    → fed_outcomes (λ before. place.Byte (begun_at before)) 0 Linear [] (take (at + 1) bytes)
    ≡ all_given cs ++ ended_outcomes (place.Byte (begun_at (take at bytes))) 0 Linear (ended_message (take at bytes) byte)
fed_next bytes at byte cs below is given =
    ap (fed_outcomes place_in 0 Linear []) (take_next bytes at byte below is)
    ∙ fed_more place_in 0 Linear [] (take at bytes) byte
    ∙ ap (λ (os : List Outcome). os ++ ended_outcomes (place.Byte (begun_at (take at bytes))) 0 Linear (ended_message (take at bytes) byte)) given

-- a stop before the stream's end
pub stopped_within : (why : ScriptFault) (room at : ℕ) (bytes : List ℕ) → Stops why room
    (fed_outcomes (λ before. place.Byte (begun_at before)) 0 Linear [] (take at bytes))
    → Stops why room (stream_outcomes bytes)
unfolding stream_outcomes
stopped_within why room at bytes stops =
    let parts : fed_outcomes place_in 0 Linear [] bytes ≡ fed_outcomes place_in 0 Linear [] (take at bytes)
    ++ fed_outcomes place_in 0 Linear (take at bytes) (drop at bytes) =
    ap (fed_outcomes place_in 0 Linear []) (sym (take-append-drop at bytes)) ∙ fed_append place_in 0 Linear [] (take at bytes) (drop at bytes) in
    subst (λ (os : List Outcome). Stops why room (os ++ stream_end bytes)) (sym parts)
    (stops_more why room _ (stream_end bytes) (stops_more why room _ _ stops))

ended_by : (t : Bool) (x : List Outcome) → t ≡ false → cond t x [] ≡ []
ended_by true x e = absurd (cc)
ended_by false x e = refl

cut_by : (t : Bool) (x : List Outcome) → t ≡ true → cond t x [] ≡ x
cut_by true x e = refl
cut_by false x e = absurd (cc)

pub stream_whole : (bytes : List ℕ) (cs : List PlannedData) → fed_outcomes (λ before. place.Byte (begun_at before)) 0 Linear [] bytes ≡ all_given cs
    → is_unfinished bytes ≡ false → stream_outcomes bytes ≡ all_given cs
unfolding stream_outcomes
stream_whole bytes cs given rest =
    ap (λ (os : List Outcome). os ++ stream_end bytes) given
    ∙ ap (λ (os : List Outcome). all_given cs ++ os) (ended_by (is_unfinished bytes) _ rest) ∙ append-nil (all_given cs)

pub stream_cut : (bytes : List ℕ) (room start : ℕ) (cs : List PlannedData)
    → fed_outcomes (λ before. place.Byte (begun_at before)) 0 Linear [] bytes ≡ all_given cs
    → length cs ≤ room → is_unfinished bytes ≡ true → start ≡ begun_at bytes → Stops (faults.Refused (place.Byte start) kind.Cut) room (stream_outcomes bytes)
unfolding stream_outcomes
stream_cut bytes room start cs given few cut is = λ more.
    ap (λ (os : List Outcome). plan_of room (os ++ stream_end bytes ++ more)) given
    ∙ ap (λ (os : List Outcome). plan_of room (all_given cs ++ os ++ more)) (cut_by (is_unfinished bytes) _ cut)
    ∙ fails room cs (place.Byte (begun_at bytes)) kind.Cut more few
    ∙ ap (λ (n : ℕ). Refused (place.Byte n) kind.Cut) (sym is)

-- where the last message begins, after one more byte
pub start_next : (bytes : List ℕ) (at start next byte : ℕ) (rest : Bool) → at < length bytes → get_or bytes at 0 ≡ byte
    → rest ≡ not (is_unfinished (take at bytes)) → start ≡ begun_at (take at bytes) → next ≡ (if is_status byte || rest then at else start)
    → next ≡ begun_at (take (at + 1) bytes)
start_next bytes at start next byte rest below is rests began ends =
    let so_many : length (take at bytes) ≡ at = omega (arith, length-take at bytes) in
    ends
    ∙ ap (λ (r : Bool). if is_status byte || r then at else start) rests
    ∙ ap (λ (n : ℕ). if begins (take at bytes) byte then n else start) (sym so_many)
    ∙ ap (λ (n : ℕ). if begins (take at bytes) byte then length (take at bytes) else n) began
    ∙ sym (ap begun_at (take_next bytes at byte below is) ∙ begun_more (take at bytes) byte)

-- the place and the curve, by other names
pub ended_same : (start began : ℕ) (curve : Curve) (ended : Option EndedMessage) → start ≡ began → curve ≡ Linear
    → ended_outcomes (place.Byte start) 0 curve ended ≡ ended_outcomes (place.Byte began) 0 Linear ended
ended_same start began curve ended e l = ap (λ (n : ℕ). ended_outcomes (place.Byte n) 0 curve ended) e
    ∙ ap (λ (c : Curve). ended_outcomes (place.Byte began) 0 c ended) l

pub nothing_fed : fed_outcomes (λ before. place.Byte (begun_at before)) 0 Linear [] [] ≡ []
unfolding fed_outcomes
nothing_fed = refl

pub none_begun : begun_at [] ≡ 0
unfolding begun_at begun_after
none_begun = refl

-- the answer at the stream's end
pub stream_settled : (r : Result (List PlannedData) ScriptFault) (bytes : List ℕ) (room start : ℕ) (cs : List PlannedData)
    → fed_outcomes (λ before. place.Byte (begun_at before)) 0 Linear [] bytes ≡ all_given cs → length cs ≤ room → start ≡ begun_at bytes
    → IfOk r (λ script. script ≡ cs) → OnOk r (is_unfinished bytes ≡ false)
    → IfErr r (λ why. why ≡ faults.Refused (place.Byte start) kind.Cut) → OnErr r (is_unfinished bytes ≡ true)
    → Settles r room (stream_outcomes bytes)
stream_settled (Ok script) bytes room start cs given few began same whole cut unfinished =
    (stream_whole bytes cs given whole ∙ ap all_given (sym same), subst (λ (x : List PlannedData). length x ≤ room) (sym same) few)
stream_settled (Err why) bytes room start cs given few began same whole cut unfinished =
    subst (λ (w : ScriptFault). Stops w room (stream_outcomes bytes)) (sym cut) (stream_cut bytes room start cs given few unfinished began)
