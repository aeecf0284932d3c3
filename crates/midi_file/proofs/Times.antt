-- The time of a tick, stretch by stretch.
use Rattle.std.proofs.Common.{◌≡◌, ℕ, ◌+◌, ◌-◌, ◌*◌, ◌<◌, ◌≤◌, List, [], ◌∷◌, ◌++◌, Bool, true, false, cond, refl, ap, sym, subst, ◌∙◌, arith}
use Rattle.std.proofs.Common.{add-mul, zero-mul, zero-add, add_assoc, leb-true, leb-false}
use Rattle.std.specs.Prelude.{nat_le}
use Rattle.midi_file.specs.Track.{ActData, Sets, Plays, TimedData}
use Rattle.midi_file.specs.Time.{Change, change_at, changes_in, time_between}
use Rattle.midi_file.specs.File.{IsInTime}

-- the first change is at a tick or later
abbrev pub IsAfterTick : ℕ → List Change → Type 0
IsAfterTick tick [] = Unit {0}
IsAfterTick tick (change ∷ later) = tick ≤ change.tick

lower : (tick low : ℕ) (changes : List Change) → low ≤ tick → IsAfterTick tick changes → IsAfterTick low changes
lower tick low [] le is = tt
lower tick low (change ∷ later) le is = omega arith

by_act : (tick : ℕ) (e : TimedData) (a : ActData) (later : List Change) → tick ≤ e.tick → IsAfterTick e.tick later
    → IsAfterTick tick (change_at e.tick a ++ later)
by_act tick e (Sets tempo) later le is = le
by_act tick e (Plays command) later le is = lower e.tick tick later le is

-- the changes among acts in order are in order
pub changes_after : (tick : ℕ) (events : List TimedData) → IsInTime tick events → IsAfterTick tick (changes_in events)
unfolding changes_in
changes_after tick [] time = tt
changes_after tick (e ∷ later) time = by_act tick e e.act (changes_in later) time.0 (changes_after e.tick later time.1)

-- a stretch in two parts
two_parts : (tempo from mid to : ℕ) → from ≤ mid → mid ≤ to → (to - from) * tempo ≡ (mid - from) * tempo + (to - mid) * tempo
two_parts tempo from mid to a b =
    let parts : to - from ≡ (mid - from) + (to - mid) = omega arith in
    ap (λ (n : ℕ). n * tempo) parts ∙ add-mul (mid - from) (to - mid) tempo

-- the time to a later tick, by a tick between
pub time_on : (tempo from mid to : ℕ) (changes : List Change) → from ≤ mid → mid ≤ to → IsAfterTick mid changes
    → time_between tempo from changes to ≡ (mid - from) * tempo + time_between tempo mid changes to
unfolding time_between
time_on tempo from mid to [] a b is = two_parts tempo from mid to a b
time_on tempo from mid to (change ∷ later) a b is = by_test (nat_le to change.tick)
  where
    by_test : (t : Bool) → cond t ((to - from) * tempo) ((change.tick - from) * tempo + time_between change.tempo change.tick later to)
        ≡ (mid - from) * tempo + cond t ((to - mid) * tempo) ((change.tick - mid) * tempo + time_between change.tempo change.tick later to)
    by_test true = two_parts tempo from mid to a b
    by_test false =
        ap (λ (n : ℕ). n + time_between change.tempo change.tick later to) (two_parts tempo from mid change.tick a is)
        ∙ add_assoc ((mid - from) * tempo) ((change.tick - mid) * tempo) (time_between change.tempo change.tick later to)

no_stretch : (tempo tick : ℕ) → (tick - tick) * tempo ≡ 0
no_stretch tempo tick =
    let none : tick - tick ≡ 0 = omega arith in
    ap (λ (n : ℕ). n * tempo) none ∙ zero-mul tempo

-- no time passes at a tick
pub no_time : (tempo tick : ℕ) (changes : List Change) → IsAfterTick tick changes → time_between tempo tick changes tick ≡ 0
unfolding time_between
no_time tempo tick [] is = no_stretch tempo tick
no_time tempo tick (change ∷ later) is = by_test (nat_le tick change.tick) refl
  where
    by_test : (t : Bool) → nat_le tick change.tick ≡ t → cond t ((tick - tick) * tempo)
        ((change.tick - tick) * tempo + time_between change.tempo change.tick later tick) ≡ 0
    by_test true e = no_stretch tempo tick
    by_test false e = let above : change.tick < tick = leb-false tick change.tick e in absurd (omega arith)

-- the time from a change on
pub time_changed : (tempo tempo' from to : ℕ) (later : List Change) → from ≤ to → IsAfterTick from later
    → time_between tempo from (record { tick = from; tempo = tempo' } ∷ later) to ≡ time_between tempo' from later to
unfolding time_between
time_changed tempo tempo' from to later le is = by_test (nat_le to from) refl
  where
    by_test : (t : Bool) → nat_le to from ≡ t → cond t ((to - from) * tempo) ((from - from) * tempo + time_between tempo' from later to) ≡ time_between tempo'
        from later to
    by_test true e =
        let same : to ≡ from = let high : to ≤ from = leb-true to from e in omega arith in
        subst (λ (n : ℕ). (n - from) * tempo ≡ time_between tempo' from later n) (sym same) (no_stretch tempo from ∙ sym (no_time tempo' from later is))
    by_test false e = ap (λ (n : ℕ). n + time_between tempo' from later to) (no_stretch tempo from) ∙ zero-add (time_between tempo' from later to)
