-- What comes of more bytes after a stream.
use Rattle.std.proofs.Common.{◌≡◌, ℕ, ◌+◌, ◌<◌, List, [], ◌∷◌, ◌++◌, length, take, drop, get_or, refl, ap, sym, ◌∙◌, subst, append_assoc, append-nil}
use Rattle.std.proofs.lemmas.List.{take-append-drop}
use Rattle.velocity_map.specs.declared.curve.Curve.{Curve}
use Rattle.script_plan.specs.Plan.{PlannedData}
use Rattle.script_outcome.specs.declared.fault.Place.{Place}
use Rattle.script_outcome.specs.declared.fault.ScriptFault.{ScriptFault}
use Rattle.midi_stream.specs.Ended.{ended_message}
use Rattle.script_outcome.specs.Outcomes.{Outcome, ended_outcomes, fed_outcomes}
use Rattle.script_outcome.specs.ReaderAnswer.{Stops, all_given}
use Rattle.script_outcome.proofs.Plans.{stops_more}
use Rattle.script_outcome.proofs.EndedMessages.{fed_more, take_next}

-- what comes of more bytes
pub fed_append : (place_of : List ℕ → Place) (block : ℕ) (curve : Curve) (before xs ys : List ℕ)
    → fed_outcomes place_of block curve before (xs ++ ys)
    ≡ fed_outcomes place_of block curve before xs ++ fed_outcomes place_of block curve (before ++ xs) ys
unfolding fed_outcomes
fed_append place_of block curve before [] ys = rw (append-nil before) refl
fed_append place_of block curve before (x ∷ xs) ys =
    let first : List Outcome = ended_outcomes (place_of before) block curve (ended_message before x) in
    let join : (before ++ x ∷ []) ++ xs ≡ before ++ x ∷ xs = append_assoc before (x ∷ []) xs in
    ap (λ (os : List Outcome). first ++ os) (fed_append place_of block curve (before ++ x ∷ []) xs ys
    ∙ ap (λ (s : List ℕ). fed_outcomes place_of block curve (before ++ x ∷ []) xs ++ fed_outcomes place_of block curve s ys) join)
    ∙ sym (append_assoc first _ _)

-- ---- bytes of a line

pub fed_none : (place_of : List ℕ → Place) (block : ℕ) (curve : Curve) (before : List ℕ) → fed_outcomes place_of block curve before [] ≡ []
unfolding fed_outcomes
fed_none place_of block curve before = refl

fed_front : (place_of : List ℕ → Place) (block : ℕ) (curve : Curve) (before bytes : List ℕ) (at byte : ℕ) (first : List Outcome) → at < length bytes
    → get_or bytes at 0 ≡ byte
    → first ++ fed_outcomes place_of block curve before (take (at + 1) bytes)
    ≡ first ++ fed_outcomes place_of block curve before (take at bytes) ++ ended_outcomes (place_of (before ++ take at bytes)) block curve
    (ended_message (before ++ take at bytes) byte)
fed_front place_of block curve before bytes at byte first below is =
    ap (λ (s : List ℕ). first ++ fed_outcomes place_of block curve before s) (take_next bytes at byte below is)
    ∙ ap (λ (os : List Outcome). first ++ os) (fed_more place_of block curve before (take at bytes) byte)
    ∙ sym (append_assoc first _ _)

pub fed_step : (place_of : List ℕ → Place) (block : ℕ) (curve : Curve) (before bytes : List ℕ) (at byte : ℕ) (old now new : List PlannedData)
    → at < length bytes → get_or bytes at 0 ≡ byte
    → all_given now ≡ all_given old ++ fed_outcomes place_of block curve before (take at bytes)
    → all_given new ≡ all_given now ++ ended_outcomes (place_of (before ++ take at bytes)) block curve (ended_message (before ++ take at bytes) byte)
    → all_given new ≡ all_given old ++ fed_outcomes place_of block curve before (take (at + 1) bytes)
fed_step place_of block curve before bytes at byte old now new below is was more =
    more ∙ ap (λ (os : List Outcome). os ++ ended_outcomes (place_of (before ++ take at bytes)) block curve (ended_message (before ++ take at bytes) byte)) was
    ∙ sym (fed_front place_of block curve before bytes at byte (all_given old) below is)

pub fed_stopped : (place_of : List ℕ → Place) (block : ℕ) (curve : Curve) (before bytes : List ℕ) (at byte : ℕ) (why : ScriptFault) (room : ℕ)
    (old now : List PlannedData)
    → at < length bytes → get_or bytes at 0 ≡ byte
    → all_given now ≡ all_given old ++ fed_outcomes place_of block curve before (take at bytes)
    → Stops why room (all_given now ++ ended_outcomes (place_of (before ++ take at bytes)) block curve (ended_message (before ++ take at bytes) byte))
    → Stops why room (all_given old ++ fed_outcomes place_of block curve before bytes)
fed_stopped place_of block curve before bytes at byte why room old now below is was stops =
    let parts : all_given old ++ fed_outcomes place_of block curve before bytes
    ≡ all_given old ++ fed_outcomes place_of block curve before (take (at + 1) bytes)
    ++ fed_outcomes place_of block curve (before ++ take (at + 1) bytes) (drop (at + 1) bytes) =
    ap (λ (s : List ℕ). all_given old ++ fed_outcomes place_of block curve before s) (sym (take-append-drop (at + 1) bytes))
    ∙ ap (λ (os : List Outcome). all_given old ++ os) (fed_append place_of block curve before (take (at + 1) bytes) (drop (at + 1) bytes))
    ∙ sym (append_assoc (all_given old) _ _) in
    let front : all_given now ++ ended_outcomes (place_of (before ++ take at bytes)) block curve (ended_message (before ++ take at bytes) byte)
    ≡ all_given old ++ fed_outcomes place_of block curve before (take (at + 1) bytes) =
    ap (λ (os : List Outcome). os ++ ended_outcomes (place_of (before ++ take at bytes)) block curve (ended_message (before ++ take at bytes) byte)) was
    ∙ sym (fed_front place_of block curve before bytes at byte (all_given old) below is) in
    subst (λ (os : List Outcome). Stops why room os) (sym parts)
    (stops_more why room _ _ (subst (λ (os : List Outcome). Stops why room os) front stops))
