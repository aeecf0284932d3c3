-- Scripts read one after the other.
use Rattle.std.proofs.Common.{◌≡◌, ℕ, ◌+◌, ◌-◌, ◌≤◌, ◌<◌, List, [], ◌∷◌, ◌++◌, length, take, drop, map, get_or, rules, refl, sym, ◌∙◌, ap, subst, arith}
use Rattle.std.proofs.Common.{append_assoc, add-one, lt-ltb, ltb-true}
use Rattle.std.specs.Prelude.{nat_lt, Bool, true, false, Option, Some, None, IfSome, All, String, string_bytes, max, sum, if◌then◌else◌}
use Rattle.std.specs.declared.alloc.Global.{Global}
use Rattle.std.proofs.lemmas.Grind.{take_at_read}
use Rattle.std.proofs.lemmas.List.{take-append-drop, take_all, get_or-map, map-append, length-map, take-map}
use Rattle.std.proofs.lemmas.List.Sums.{sum-map, sum_by_push}
use Rattle.std.proofs.lemmas.List.Elements.{All-append}
use Rattle.std.specs.FinMap.{get}
use Rattle.std.proofs.lemmas.List.{append-nil}
use Rattle.outside.specs.Files.{Files, Lacks}
use Rattle.script_plan.specs.Plan.{PlannedData}
use Rattle.script_outcome.specs.Plan.{Plan, Commands, Refused, TooMany}
use Rattle.script_read.specs.Plan.{plan}
use Rattle.play_core.specs.declared.totals.Totals.{Totals}
use Rattle.play_core.specs.declared.refusal.PlayRefusal.{PlayRefusal}
use Rattle.play_core.specs.declared.refusal.PlayRefusal.TheVariants as why
use Rattle.instrument.specs.Limits.{block_limit}
use Rattle.play_core.specs.Limits.{command_limit, script_limit, scripts_limit}
use Rattle.turns.specs.Turns.{many_commands}
use Rattle.play_core.specs.Verdict.{Verdict, Lacking, LongFile, LongScripts, Faulty, ManyCommands, ManyBlocks, Plays, IsPlayed, nothing, verdict, blocks_of_run}
use Rattle.play_core.specs.Verdict.{of_blocks, with_script, with_plan, of_plan, of_text, of_file, of_scripts}
use Rattle.play_core.specs.Words.{RequestData}
use Rattle.play_core.specs.Refused.{AgreesWith, IsCaused}
use Rattle.play_core.specs.Scan.{AreBelow, IsTextOf, IsNext, NextTells, NextCause, with_all, AreRead}

pub all_none : (said : Verdict) → with_all [] said ≡ said
all_none (Plays plans) = refl
all_none (Lacking name) = refl
all_none LongFile = refl
all_none LongScripts = refl
all_none (Faulty number place what) = refl
all_none ManyCommands = refl
all_none ManyBlocks = refl

pub all_pushed : (plans : List (List PlannedData)) (one : List PlannedData) (said : Verdict)
    → with_all plans (with_plan one said) ≡ with_all (plans ++ one ∷ []) said
all_pushed before one (Plays plans) = ap (λ (l : List (List PlannedData)). Plays l) (sym (append_assoc before (one ∷ []) plans))
all_pushed before one (Lacking name) = refl
all_pushed before one LongFile = refl
all_pushed before one LongScripts = refl
all_pushed before one (Faulty number place what) = refl
all_pushed before one ManyCommands = refl
all_pushed before one ManyBlocks = refl

-- a number that is not above another
pub not_above : (x y : ℕ) → x ≤ y → nat_lt y x ≡ false
not_above x y le = by_bool (nat_lt y x) refl
  where
    by_bool : (b : Bool) → nat_lt y x ≡ b → b ≡ false
    by_bool false is = refl
    by_bool true is = let above : y < x = ltb-true _ _ is in absurd (omega arith)

pub reads_none : (told : Files) (blocks : Option ℕ) → AreRead told blocks [] [] nothing
reads_none told blocks = λ rest. sym (all_none (of_scripts told blocks nothing rest))

next_scripts : (told : Files) (blocks : Option ℕ) (t : Totals) (name : List ℕ) (names : List (List ℕ))
    → of_scripts told blocks t (name ∷ names) ≡ of_file blocks t name (get told name) (λ text one.
    of_scripts told blocks (with_script t (length text) (length one)) names)
unfolding of_scripts
next_scripts told blocks t name names = refl

one_script : (told : Files) (blocks : Option ℕ) (name : List ℕ) (t after : Totals) (one : List PlannedData) (names : List (List ℕ))
    → IsTextOf told blocks name t one after → of_scripts told blocks t (name ∷ names) ≡ with_plan one (of_scripts told blocks after names)
one_script told blocks name t after one names next =
    next_scripts told blocks t name names
    ∙ rw (
      next.found,
      not_above (length next.text) script_limit next.short,
      not_above (t.bytes + length next.text) scripts_limit next.fits,
      next.planned,
      next.totals,
    ) refl

pub reads_more : (told : Files) (blocks : Option ℕ) (before : List (List ℕ)) (name : List ℕ) (plans : List (List PlannedData)) (one : List PlannedData)
    (t after : Totals)
    → AreRead told blocks before plans t → IsTextOf told blocks name t one after → AreRead told blocks (before ++ name ∷ []) (plans ++ one ∷ []) after
reads_more told blocks before name plans one t after so_far next = λ rest.
    ap (of_scripts told blocks nothing) (append_assoc before (name ∷ []) rest)
    ∙ so_far (name ∷ rest)
    ∙ ap (with_all plans) (one_script told blocks name t after one rest next)
    ∙ all_pushed plans one (of_scripts told blocks after rest)

pub reads_whole : (told : Files) (blocks : Option ℕ) (names : List (List ℕ)) (plans : List (List PlannedData)) (t : Totals)
    → AreRead told blocks names plans t → of_scripts told blocks nothing names ≡ Plays plans
unfolding of_scripts
reads_whole told blocks names plans t so_far =
    ap (of_scripts told blocks nothing) (sym (append-nil names)) ∙ so_far [] ∙ ap (λ (l : List (List PlannedData)). Plays l) (append-nil plans)

tells_all : (why : PlayRefusal) (plans : List (List PlannedData)) (said : Verdict) → AgreesWith why said → AgreesWith why (with_all plans said)
tells_all (why.Unread number) plans said tells = tt
tells_all why.LongFile plans said tells = rw tells refl
tells_all why.LongScripts plans said tells = rw tells refl
tells_all (why.Fault number place what) plans said tells = rw tells refl
tells_all why.ManyCommands plans said tells = rw tells refl
tells_all why.ManyBlocks plans said tells = rw tells refl
tells_all why.Memory plans said tells = tt

pub tells_whole : (why : PlayRefusal) (told : Files) (blocks : Option ℕ) (names before : List (List ℕ)) (name : List ℕ) (rest : List (List ℕ))
    (plans : List (List PlannedData)) (t : Totals)
    → names ≡ before ++ name ∷ rest → AreRead told blocks before plans t
    → ((after : List ℕ → List PlannedData → Verdict) → AgreesWith why (of_file blocks t name (get told name) after))
    → AgreesWith why (of_scripts told blocks nothing names)
tells_whole why told blocks names before name rest plans t is so_far tells =
    rw (is, so_far (name ∷ rest), next_scripts told blocks t name rest)
    (tells_all why plans _ (tells (λ text one. of_scripts told blocks (with_script t (length text) (length one)) rest)))

-- the same of the names of the command line, where the files may be told

names_split : (names : List (String Global)) (i : ℕ) (name : String Global) → i < length names → name ≡ get_or names i name
    → map string_bytes names ≡ map string_bytes (take i names) ++ string_bytes name ∷ map string_bytes (drop (i + 1) names)
names_split names i name below is =
    let one : take (i + 1) names ≡ take i names ++ name ∷ [] = (take_at_read names i name below).1
    ∙ ap (λ (n : String Global). take i names ++ n ∷ []) (sym is) in
    ap (λ (l : List (String Global)). map string_bytes l) (sym (take-append-drop (i + 1) names) ∙ ap (λ (l : List (String Global)). l ++ drop (i + 1) names) one
    ∙ append_assoc (take i names) (name ∷ []) (drop (i + 1) names))
    ∙ map-append string_bytes (take i names) (name ∷ drop (i + 1) names)

names_more : (names : List (String Global)) (i : ℕ) (name : String Global) → i < length names → name ≡ get_or names i name
    → map string_bytes (take (i + 1) names) ≡ map string_bytes (take i names) ++ string_bytes name ∷ []
names_more names i name below is =
    ap (λ (l : List (String Global)). map string_bytes l) ((take_at_read names i name below).1 ∙ ap (λ (n : String Global). take i names ++ n ∷ []) (sym is))
    ∙ map-append string_bytes (take i names) (name ∷ [])

abbrev pub AreReadOf : Option Files → Option ℕ → List (String Global) → ℕ → List (List PlannedData) → Totals → Type 0
AreReadOf files blocks names i plans t = IfSome files (λ told. AreRead told blocks (map string_bytes (take i names)) plans t)

pub next_read : (files : Option Files) (blocks : Option ℕ) (names : List (String Global)) (i : ℕ) (name : String Global) (q : List ℕ)
    (plans all : List (List PlannedData)) (one : List PlannedData) (t after : Totals)
    → i < length names → name ≡ get_or names i name → q ≡ string_bytes name → all ≡ plans ++ one ∷ []
    → AreReadOf files blocks names i plans t → IsNext files blocks q t one after → AreReadOf files blocks names (i + 1) all after
next_read None blocks names i name q plans all one t after below is text whole so_far next = so_far
next_read (Some told) blocks names i name q plans all one t after below is text whole so_far next =
    rw (names_more names i name below is, whole)
    (reads_more told blocks (map string_bytes (take i names)) (string_bytes name) plans one t after so_far
    (subst (λ (n : List ℕ). IsTextOf told blocks n t one after) text next))

pub all_read : (files : Option Files) (blocks : Option ℕ) (names : List (String Global)) (i : ℕ) (plans : List (List PlannedData)) (t : Totals)
    → length names ≤ i → AreReadOf files blocks names i plans t → IfSome files (λ told. of_scripts told blocks nothing (map string_bytes names) ≡ Plays plans)
all_read None blocks names i plans t over so_far = so_far
all_read (Some told) blocks names i plans t over so_far =
    reads_whole told blocks (map string_bytes names) plans t
    (subst (λ (l : List (String Global)). AreRead told blocks (map string_bytes l) plans t) (take_all i names over) so_far)

pub refused_tells : (why : PlayRefusal) (files : Option Files) (blocks : Option ℕ) (names : List (String Global)) (i : ℕ) (name : String Global) (q : List ℕ)
    (plans : List (List PlannedData)) (t : Totals)
    → i < length names → name ≡ get_or names i name → q ≡ string_bytes name → AreReadOf files blocks names i plans t → NextTells why files blocks q t
    → IfSome files (λ told. AgreesWith why (of_scripts told blocks nothing (map string_bytes names)))
refused_tells why None blocks names i name q plans t below is text so_far tells = so_far
refused_tells why (Some told) blocks names i name q plans t below is text so_far tells =
    tells_whole why told blocks (map string_bytes names) (map string_bytes (take i names)) (string_bytes name) (map string_bytes (drop (i + 1) names)) plans t
    (names_split names i name below is) so_far
    (subst (λ (n : List ℕ). (after : List ℕ → List PlannedData → Verdict) → AgreesWith why (of_file blocks t n (get told n) after)) text tells)

good_before : (files : Option Files) (blocks : Option ℕ) (names : List (String Global)) (i : ℕ) (plans : List (List PlannedData)) (t : Totals)
    → AreReadOf files blocks names i plans t → IfSome files (λ told. IsPlayed (of_scripts told blocks nothing (take i (map string_bytes names))))
good_before None blocks names i plans t so_far = so_far
good_before (Some told) blocks names i plans t so_far =
    rw (take-map string_bytes i names, reads_whole told blocks (map string_bytes (take i names)) plans t so_far) tt

pub refused_cause : (why : PlayRefusal) (files : Option Files) (blocks : Option ℕ) (names : List (String Global)) (i number : ℕ) (name : String Global)
    (q : List ℕ) (plans : List (List PlannedData)) (t : Totals) (before now : ℕ)
    → i < length names → name ≡ get_or names i name → q ≡ string_bytes name → number ≡ i → AreReadOf files blocks names i plans t
    → NextCause why number files q before now
    → IsCaused why blocks files (map string_bytes names) before now
refused_cause (why.Unread k) files blocks names i number name q plans t before now below is text counted so_far cause =
    let at : k ≡ i = cause.0 ∙ counted in
    let here : get_or (map string_bytes names) i [] ≡ q = get_or-map string_bytes names i name [] below ∙ ap string_bytes (sym is) ∙ sym text in
    rw at (record {
      within = omega (arith, below, length-map names string_bytes);
      cause = rw here cause.1;
      earlier = good_before files blocks names i plans t so_far;
    })
refused_cause why.LongFile files blocks names i number name q plans t before now below is text counted so_far cause = cause
refused_cause why.LongScripts files blocks names i number name q plans t before now below is text counted so_far cause = cause
refused_cause (why.Fault script place what) files blocks names i number name q plans t before now below is text counted so_far cause = cause
refused_cause why.ManyCommands files blocks names i number name q plans t before now below is text counted so_far cause = cause
refused_cause why.ManyBlocks files blocks names i number name q plans t before now below is text counted so_far cause = cause
refused_cause why.Memory files blocks names i number name q plans t before now below is text counted so_far cause = cause

pub count_pushed : (plans : List (List PlannedData)) (one : List PlannedData) → many_commands (plans ++ one ∷ []) ≡ many_commands plans + length one
count_pushed plans one = sum-map length (plans ++ one ∷ []) ∙ sum_by_push length plans one ∙ ap (λ (n : ℕ). n + length one) (sym (sum-map length plans))

pub below_pushed : (blocks : Option ℕ) (plans : List (List PlannedData)) (one : List PlannedData)
    → IfSome blocks (λ b. All (λ l. AreBelow b l) plans) → IfSome blocks (λ b. AreBelow b one)
    → IfSome blocks (λ b. All (λ l. AreBelow b l) (plans ++ one ∷ []))
below_pushed None plans one all last = all
below_pushed (Some b) plans one all last = All-append (λ (l : List PlannedData). AreBelow b l) plans (one ∷ []) all (search rules)

-- what decides of a run with its number of blocks

tells_blocks : (why : PlayRefusal) (blocks : Option ℕ) (said : Verdict) → AgreesWith why said → AgreesWith why (of_blocks blocks said)
tells_blocks (why.Unread number) blocks said tells = tt
tells_blocks why.LongFile blocks said tells = rw tells refl
tells_blocks why.LongScripts blocks said tells = rw tells refl
tells_blocks (why.Fault number place what) blocks said tells = rw tells refl
tells_blocks why.ManyCommands blocks said tells = rw tells refl
tells_blocks why.ManyBlocks blocks said tells = rw tells refl
tells_blocks why.Memory blocks said tells = tt

pub tells_verdict : (why : PlayRefusal) (a : RequestData) (files : Option Files)
    → IfSome files (λ told. AgreesWith why (of_scripts told a.blocks nothing a.scripts)) → IfSome files (λ told. AgreesWith why (verdict a told))
unfolding verdict
tells_verdict why a None tells = tt
tells_verdict why a (Some told) tells = tells_blocks why a.blocks (of_scripts told a.blocks nothing a.scripts) tells

pub many_blocks : (a : RequestData) (files : Option Files) (plans : List (List PlannedData)) → block_limit < blocks_of_run a.blocks plans
    → IfSome files (λ told. of_scripts told a.blocks nothing a.scripts ≡ Plays plans) → IfSome files (λ told. verdict a told ≡ ManyBlocks)
unfolding verdict
many_blocks a None plans over is = tt
many_blocks a (Some told) plans over is =
    let above : nat_lt block_limit (blocks_of_run a.blocks plans) ≡ true = lt-ltb _ _ over in
    rw (is, above) refl

pub few_blocks : (a : RequestData) (files : Option Files) (plans : List (List PlannedData)) → blocks_of_run a.blocks plans ≤ block_limit
    → IfSome files (λ told. of_scripts told a.blocks nothing a.scripts ≡ Plays plans) → IfSome files (λ told. verdict a told ≡ Plays plans)
unfolding verdict
few_blocks a None plans within is = tt
few_blocks a (Some told) plans within is = rw (is, not_above (blocks_of_run a.blocks plans) block_limit within) refl
