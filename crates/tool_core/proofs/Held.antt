-- Files of which nothing is held back, and statuses after which something may be.
use Rattle.std.proofs.Common.{◌≡◌, ◌≢◌, inl, inr, ℕ, ◌+◌, ◌<◌, ◌≤◌, List, [], ◌∷◌, ◌++◌, length, map, take, get_or, refl, sym, ◌∙◌, ap, subst, arith}
use Rattle.std.specs.Prelude.{Bool, true, false, string_bytes}
use Rattle.std.proofs.Math.Seq.{take-length}
use Rattle.outside.proofs.Shelves.{same_name, same_name-refl, same_name-same}
use Rattle.tool_core.specs.declared.generate.ScriptFile.{ScriptFile}
use Rattle.tool_core.specs.declared.failure.Failure.{Failure}
use Rattle.tool_core.specs.declared.failure.Failure.TheVariants as failure
use Rattle.tool_core.specs.Failures.{status_of}
use Rattle.tool_core.specs.Outcomes.{WasDone}
use Rattle.tool_core.specs.Effects.{Output}
use Rattle.tool_core.specs.Reads.{HoldsNone}
use Rattle.tool_core.specs.Scripts.{shown}
use Rattle.tool_core.proofs.Several.{taken_more}

-- what a call does to what is held back: nothing of its own file, and of others no more than before
still_none : (held now : List ℕ → ℕ) (own name : List ℕ) → held name ≡ 0 → now own ≡ 0 → ((other : List ℕ) → other ≢ own → now other ≤ held other)
    → now name ≡ 0
still_none held now own name was none others = by (same_name name own) refl
  where
    by : (b : Bool) → same_name name own ≡ b → now name ≡ 0
    by true e = ap now (same_name-same name own e) ∙ none
    by false e =
        let low : now name ≤ held name = others name (λ same. let t : same_name name own ≡ true = ap (same_name name) (sym same) ∙ same_name-refl name in
        absurd (cc)) in
        omega (arith, low, was)

all_still : (outputs : List Output) (held now : List ℕ → ℕ) (own : List ℕ) → HoldsNone outputs held → now own ≡ 0
    → ((other : List ℕ) → other ≢ own → now other ≤ held other) → HoldsNone outputs now
all_still [] held now own was none others = tt
all_still (one ∷ later) held now own was none others =
    (still_none held now own one.name was.0 none others, all_still later held now own was.1 none others)

one_more_held : (outputs : List Output) (one : Output) (now : List ℕ → ℕ) → HoldsNone outputs now → now one.name ≡ 0 → HoldsNone (outputs ++ one ∷ []) now
one_more_held [] one now was none = (none, tt)
one_more_held (o ∷ outputs) one now was none = (was.0, one_more_held outputs one now was.1 none)

pub holds_more : (files : List ScriptFile) (i : ℕ) (file : ScriptFile) (held now : List ℕ → ℕ) → i < length files → file ≡ get_or files i file
    → HoldsNone (map shown (take i files)) held → now (string_bytes file.name) ≡ 0
    → ((other : List ℕ) → other ≢ string_bytes file.name → now other ≤ held other) → HoldsNone (map shown (take (i + 1) files)) now
holds_more files i file held now below is was none others =
    subst (λ (l : List Output). HoldsNone l now) (sym (taken_more files i file below
    ∙ ap (λ (f : ScriptFile). map shown (take i files) ++ shown f ∷ []) (sym is)))
    (one_more_held (map shown (take i files)) (shown file) now (all_still (map shown (take i files)) held now (string_bytes file.name) was none others) none)

pub holds_all : (files : List ScriptFile) (i : ℕ) (now : List ℕ → ℕ) → i ≡ length files → HoldsNone (map shown (take i files)) now
    → HoldsNone (map shown files) now
holds_all files i now ended was =
    subst (λ (l : List ScriptFile). HoldsNone (map shown l) now) (ap (λ (n : ℕ). take n files) ended ∙ take-length files) was

-- a failure is no status after which the work is done
pub failed_undone : (why : Failure) (status : ℕ) → status ≡ status_of why → WasDone status → ⊥
failed_undone failure.Unread status is (inl e) = absurd (cc)
failed_undone failure.Unread status is (inr e) = absurd (cc)
failed_undone failure.TooLarge status is (inl e) = absurd (cc)
failed_undone failure.TooLarge status is (inr e) = absurd (cc)
failed_undone failure.TooMany status is (inl e) = absurd (cc)
failed_undone failure.TooMany status is (inr e) = absurd (cc)
failed_undone (failure.Refused why) status is (inl e) = absurd (cc)
failed_undone (failure.Refused why) status is (inr e) = absurd (cc)
failed_undone failure.Memory status is (inl e) = absurd (cc)
failed_undone failure.Memory status is (inr e) = absurd (cc)

pub three_undone : WasDone 3 → ⊥
three_undone (inl e) = absurd (cc)
three_undone (inr e) = absurd (cc)
