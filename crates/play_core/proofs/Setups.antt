-- Players and numbers of a run.
use Rattle.std.proofs.Common.{◌≡◌, ℕ, zero, suc, ◌+◌, ◌<◌, ◌≤◌, List, [], ◌∷◌, ◌++◌, length, map, take, get_or, refl, sym, ap, ◌∙◌, subst, arith, max}
use Rattle.std.proofs.Common.{append_assoc}
use Rattle.std.specs.Prelude.{All, IfSome, Option, Some, None, sum, slice_index_or, slice_index}
use Rattle.std.proofs.lemmas.List.Elements.{All-head, All-tail}
use Rattle.play_core.specs.Scan.{AreBelow}
use Rattle.std.specs.List.{sum_by}
use Rattle.std.proofs.lemmas.Grind.{take_at_read}
use Rattle.std.proofs.lemmas.List.{map-append, take_all}
use Rattle.std.proofs.lemmas.List.Sums.{sum-map, get_or-le-sum_by}
use Rattle.lateness.specs.Late.{AllBelow}
use Rattle.script_plan.specs.Plan.{PlannedData, due_blocks, last_due, last_due_or, IsPlan, IsPlanFrom}
use Rattle.players.specs.Players.{PlayerView}
use Rattle.turns.specs.Turns.{plans_of, many_commands}
use Rattle.play_core.specs.Verdict.{greatest_due}
use Rattle.play_core.specs.Setup.{AreInTime}

max_zero : (n : ℕ) → max n 0 ≡ n
max_zero n = grind arith

max_assoc : (a b c : ℕ) → max a (max b c) ≡ max (max a b) c
max_assoc a b c = grind arith

greatest_pushed : (plans : List (List PlannedData)) (one : List PlannedData) → greatest_due (plans ++ one ∷ []) ≡ max (greatest_due plans) (last_due one)
greatest_pushed [] one = grind arith
greatest_pushed (first ∷ plans) one = ap (max (last_due first)) (greatest_pushed plans one) ∙ max_assoc (last_due first) (greatest_due plans) (last_due one)

-- one more script of a list
pub one_more_script : (scripts : List (List PlannedData)) (i : ℕ) (script : List PlannedData) → i < length scripts → script ≡ get_or scripts i script
    → take (i + 1) scripts ≡ take i scripts ++ script ∷ []
one_more_script scripts i script below is = (take_at_read scripts i script below).1 ∙ ap (λ (s : List PlannedData). take i scripts ++ s ∷ []) (sym is)

pub greatest_more : (scripts : List (List PlannedData)) (i due later : ℕ) (script : List PlannedData) → i < length scripts → script ≡ get_or scripts i script
    → due ≡ greatest_due (take i scripts) → later ≡ max due (last_due script) → later ≡ greatest_due (take (i + 1) scripts)
greatest_more scripts i due later script below is so_far next =
    next ∙ ap (λ (n : ℕ). max n (last_due script)) so_far ∙ sym (greatest_pushed (take i scripts) script)
    ∙ ap greatest_due (sym (one_more_script scripts i script below is))

pub lengths_more : (scripts : List (List PlannedData)) (i : ℕ) (script : List PlannedData) (quotas all : List ℕ) (n : ℕ) → i < length scripts
    → script ≡ get_or scripts i script
    → quotas ≡ map length (take i scripts) → n ≡ length script → all ≡ quotas ++ n ∷ [] → all ≡ map length (take (i + 1) scripts)
lengths_more scripts i script quotas all n below is so_far one whole =
    whole ∙ ap (λ (l : List ℕ). l ++ n ∷ []) so_far ∙ ap (λ (m : ℕ). map length (take i scripts) ++ m ∷ []) one
    ∙ sym (map-append length (take i scripts) (script ∷ [])) ∙ ap (λ (l : List (List PlannedData)).
    map length l) (sym (one_more_script scripts i script below is))

pub one_fits : (scripts : List (List PlannedData)) (i : ℕ) (script : List PlannedData) → i < length scripts → script ≡ get_or scripts i script
    → length script ≤ many_commands scripts
one_fits scripts i script below is =
    rw (sum-map length scripts) (subst (λ (s : List PlannedData). length s ≤ sum_by length scripts) (sym is) (get_or-le-sum_by length scripts i script below))

-- commands that are due below a block are due below a greater one
below_later : (few many : ℕ) (blocks : List ℕ) → few ≤ many → AllBelow few blocks → AllBelow many blocks
below_later few many [] le all = tt
below_later few many (b ∷ blocks) le all = ((let lt = all.0 in omega arith), below_later few many blocks le all.1)

pub in_time_later : (few many : ℕ) (plans : List (List PlannedData)) → few ≤ many → AreInTime few plans → AreInTime many plans
in_time_later few many [] le all = tt
in_time_later few many (p ∷ plans) le all = (below_later few many (due_blocks p) le all.0, in_time_later few many plans le all.1)

in_time_pushed : (blocks : ℕ) (plans : List (List PlannedData)) (one : List PlannedData) → AreInTime blocks plans → AllBelow blocks (due_blocks one)
    → AreInTime blocks (plans ++ one ∷ [])
in_time_pushed blocks [] one all last = (last, tt)
in_time_pushed blocks (p ∷ plans) one all last = (all.0, in_time_pushed blocks plans one all.1 last)

last_from : (least : ℕ) (plan : List PlannedData) → IsPlanFrom least plan → least ≤ last_due_or least plan
last_from least [] is = omega arith
last_from least (c ∷ plan) is = let rest = last_from c.due plan is.3 in let first = is.0 in omega arith

plan_below : (least : ℕ) (plan : List PlannedData) → IsPlanFrom least plan → AllBelow (last_due_or least plan + 1) (due_blocks plan)
plan_below least [] is = tt
plan_below least (c ∷ plan) is = ((let rest = last_from c.due plan is.3 in omega arith), plan_below c.due plan is.3)

pub in_time_more : (scripts : List (List PlannedData)) (i due later : ℕ) (script : List PlannedData) → i < length scripts → script ≡ get_or scripts i script
    → AreInTime (due + 1) (take i scripts) → later ≡ max due (last_due script) → IsPlan script → AreInTime (later + 1) (take (i + 1) scripts)
in_time_more scripts i due later script below is so_far next plan =
    rw (one_more_script scripts i script below is)
    (in_time_pushed (later + 1) (take i scripts) script
    (in_time_later (due + 1) (later + 1) (take i scripts) (grind (arith, next)) so_far)
    (below_later (last_due script + 1) (later + 1) (due_blocks script) (grind (arith, next)) (plan_below 0 script plan)))

all_below : (blocks : ℕ) (plan : List PlannedData) → AreBelow blocks plan → AllBelow blocks (due_blocks plan)
all_below blocks [] all = tt
all_below blocks (c ∷ plan) all = (
  All-head (λ (x : PlannedData). x.due < blocks) c plan all,
  all_below blocks plan
      (All-tail (λ (x : PlannedData). x.due < blocks) c plan all),
)

pub in_time_of : (blocks : ℕ) (plans : List (List PlannedData)) → All (λ one. AreBelow blocks one) plans → AreInTime blocks plans
in_time_of blocks [] all = tt
in_time_of blocks (p ∷ plans) all = (
  all_below blocks p (All-head (λ (l : List PlannedData). AreBelow blocks l) p plans all),
  in_time_of blocks plans
      (All-tail (λ (l : List PlannedData). AreBelow blocks l) p plans all),
)

pub some_in_time : (due : ℕ) (blocks : Option ℕ) (plans : List (List PlannedData)) → AreInTime (due + 1) plans
    → IfSome blocks (λ b. (b ≡ due + 201) × (b ≤ 1048576)) → IfSome blocks (λ b. AreInTime b plans)
some_in_time due None plans all is = tt
some_in_time due (Some b) plans all is = in_time_later (due + 1) b plans (let same = is.0 in omega arith) all

pub plans_many : (players : List PlayerView) → length (plans_of players) ≡ length players
plans_many [] = refl
plans_many (p ∷ players) = ap suc (plans_many players)

pub players_many : (players : List PlayerView) (plans : List (List PlannedData)) → plans_of players ≡ plans → length players ≡ length plans
players_many players plans is = sym (plans_many players) ∙ ap length is

pub due_at : (blocks : ℕ) (plans : List (List PlannedData)) (k : ℕ) → k < length plans → AreInTime blocks plans
    → AllBelow blocks (due_blocks (slice_index_or plans k []))
due_at blocks [] k below all = absurd (omega arith)
due_at blocks (p ∷ plans) zero below all = all.0
due_at blocks (p ∷ plans) (suc k) below all = due_at blocks plans k (omega arith) all.1

left_at : (players : List PlayerView) (k : ℕ) (d : PlayerView) → k < length players → (slice_index_or players k d).left ≡ slice_index_or (plans_of players) k []
left_at [] k d below = absurd (omega arith)
left_at (p ∷ players) zero d below = refl
left_at (p ∷ players) (suc k) d below = left_at players k d (omega arith)

pub all_due : (blocks : ℕ) (players : List PlayerView) → AreInTime blocks (plans_of players)
    → (k : ℕ) (d : PlayerView) → k < length players → AllBelow blocks (due_blocks (slice_index_or players k d).left)
all_due blocks players all k d below =
    rw (left_at players k d below) (due_at blocks (plans_of players) k (omega (arith, plans_many players, below)) all)
