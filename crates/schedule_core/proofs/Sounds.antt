-- Each block answered is the sound of every later journal.
use Rattle.std.proofs.Common.{◌≡◌, ℕ, ◌+◌, ◌<◌, List, [], ◌∷◌, ◌++◌, length, map, refl, sym, ◌∙◌, ap, subst, arith}
use Rattle.std.specs.Prelude.{Bool, true, false, cond, ℤ, nat_lt}
use Rattle.std.specs.List.{range_with_len}
use Rattle.command_set.specs.Entries.{EntryData, LoggedData}
use Rattle.instrument.specs.Journal.{commands_at, sound}
use Rattle.schedule_core.specs.Core.{Core, opening, Step, Send, Take, Render, Settle, step, run, answer, answers, queued, refused, taken, next_entry}
use Rattle.instrument.proofs.Journals.{commands_kept, sound_agrees}

-- the journal has the core's commands at each block that was rendered
abbrev GoesOn : Core → List LoggedData → Type 0
GoesOn c journal = (b : ℕ) → b < c.blocks → commands_at journal b ≡ commands_at c.journal b

sent_back : (t : Bool) (c : Core) (e : EntryData) (script : ℕ) (journal : List LoggedData) → GoesOn (cond t (queued c e) (refused c script)) journal
    → GoesOn c journal
sent_back true c e script journal goes = goes
sent_back false c e script journal goes = goes

taken_back : (c : Core) (es : List EntryData) (journal : List LoggedData) → GoesOn (taken c es) journal → GoesOn c journal
taken_back c [] journal goes = goes
taken_back c (e ∷ es) journal goes = λ b below. goes b below ∙ commands_kept c.journal (e ∷ []) c.blocks b (λ same. absurd (omega (arith, below, same)))

back : (c : Core) (s : Step) (journal : List LoggedData) → GoesOn (step c s) journal → GoesOn c journal
back c (Send script due command) journal goes = sent_back (nat_lt (length c.waiting) c.places) c (next_entry c script due command) script journal goes
back c Take journal goes = taken_back c c.waiting journal goes
back c Render journal goes = λ b below. goes b (omega (arith, below))
back c Settle journal goes = λ b below. goes b below ∙ commands_kept c.journal c.waiting c.blocks b (λ same. absurd (omega (arith, below, same)))

goes_on : (c : Core) (steps : List Step) (journal : List LoggedData) → GoesOn (run c steps) journal → GoesOn c journal
goes_on c [] journal goes = goes
goes_on c (s ∷ steps) journal goes = back c s journal (goes_on (step c s) steps journal goes)

-- so many blocks, from a number on, are those of the journal
abbrev AreBlocks : List LoggedData → ℕ → ℕ → List (List ℤ) → Type 0
AreBlocks journal from to blocks = (blocks ≡ map (sound journal) (range_with_len from (length blocks))) × (to ≡ from + length blocks)

sent_still : (t : Bool) (c : Core) (e : EntryData) (script : ℕ) → (cond t (queued c e) (refused c script)).blocks ≡ c.blocks
sent_still true c e script = refl
sent_still false c e script = refl

taken_still : (c : Core) (es : List EntryData) → (taken c es).blocks ≡ c.blocks
taken_still c [] = refl
taken_still c (e ∷ es) = refl

rendered : (c : Core) (journal : List LoggedData) (to : ℕ) (later : List (List ℤ)) → GoesOn (step c Render) journal → AreBlocks journal (c.blocks + 1) to later
    → AreBlocks journal c.blocks to (sound c.journal c.blocks ∷ later)
rendered c journal to later goes are =
    let here : sound c.journal c.blocks ≡ sound journal c.blocks = sound_agrees c.journal journal c.blocks (λ a below. sym (goes a (omega (arith, below)))) in
    let rest : later ≡ map (sound journal) (range_with_len (c.blocks + 1) (length later)) = are.0 in
    (ap (λ (block : List ℤ). block ∷ later) here ∙ ap (λ (blocks : List (List ℤ)). sound journal c.blocks ∷ blocks) rest, omega (arith, are.1))

blocks_by : (c : Core) (s : Step) (journal : List LoggedData) (to : ℕ) (later : List (List ℤ)) → GoesOn (step c s) journal
    → AreBlocks journal (step c s).blocks to later
    → AreBlocks journal c.blocks to (answer c s ++ later)
blocks_by c (Send script due command) journal to later goes are =
    subst (λ (from : ℕ). AreBlocks journal from to later) (sent_still (nat_lt (length c.waiting) c.places) c (next_entry c script due command) script) are
blocks_by c Take journal to later goes are = subst (λ (from : ℕ). AreBlocks journal from to later) (taken_still c c.waiting) are
blocks_by c Render journal to later goes are = rendered c journal to later goes are
blocks_by c Settle journal to later goes are = are

blocks_are : (c : Core) (steps : List Step) (journal : List LoggedData) → GoesOn (run c steps) journal
    → AreBlocks journal c.blocks (run c steps).blocks (answers c steps)
blocks_are c [] journal goes = (refl, omega arith)
blocks_are c (s ∷ steps) journal goes =
    blocks_by c s journal (run (step c s) steps).blocks (answers (step c s) steps) (goes_on (step c s) steps journal goes)
    (blocks_are (step c s) steps journal goes)

pub run_appended : (c : Core) (steps more : List Step) → run c (steps ++ more) ≡ run (run c steps) more
run_appended c [] more = refl
run_appended c (s ∷ steps) more = run_appended (step c s) steps more

pub sounds_kept : (places scripts : ℕ) (steps more : List Step)
    → answers (opening places scripts) steps
    ≡ map (sound (run (opening places scripts) (steps ++ more)).journal) (range_with_len 0 (run (opening places scripts) steps).blocks)
sounds_kept places scripts steps more =
    let c : Core = opening places scripts in
    let whole : Core = run (run c steps) more in
    let are : AreBlocks whole.journal 0 (run c steps).blocks (answers c steps) =
    blocks_are c steps whole.journal (goes_on (run c steps) more whole.journal (λ b below. refl)) in
    let many : length (answers c steps) ≡ (run c steps).blocks = omega (arith, are.1) in
    are.0 ∙ ap (λ (n : ℕ). map (sound whole.journal) (range_with_len 0 n)) many
    ∙ ap (λ (d : Core). map (sound d.journal) (range_with_len 0 (run c steps).blocks)) (sym (run_appended c steps more))
