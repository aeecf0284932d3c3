-- The entries of a run's journal stand one after the other as an order lists them.
use Rattle.std.proofs.Common.{◌≡◌, ◌⊎◌, ℕ, zero, suc, ◌+◌, ◌-◌, ◌^◌, ◌<◌, ◌≤◌, List, [], ◌∷◌, ◌++◌, length, map, take, get_or, refl, sym, ap, ◌∙◌, subst}
use Rattle.std.proofs.Common.{⊎_elim, inl, inr, arith, length-append, eq-eqb}
use Rattle.std.specs.Prelude.{◌==◌, Bool, true, false, cond, filter, All, slice_index, slice_index_or}
use Rattle.std.proofs.lemmas.List.{length-map}
use Rattle.std.proofs.lemmas.List.Elements.{All-head, All-tail}
use Rattle.command_set.specs.Command.{IsInRange}
use Rattle.command_set.specs.Entries.{EntryData, LoggedData, entries_of, sent_by}
use Rattle.instrument.specs.Logging.{AreTakenUpTo}
use Rattle.lateness.specs.Late.{AreDue}
use Rattle.script_plan.specs.Plan.{PlannedData, due_blocks}
use Rattle.players.specs.Players.{entries}
use Rattle.take_files.specs.Orders.{IsWritable, HasBlock, Follows, count_of, last_block}
use Rattle.turns.specs.Turns.{blocks_of, plan_of}
use Rattle.turns.specs.Timed.{IsScriptBegun, ArePlayed}
use Rattle.play_core.proofs.Counts.{length_entries, length_blocks}

-- where an entry stands among its script's
pub record StandsAt (journal : List LoggedData) (k j : ℕ) (l : LoggedData) (e : EntryData) : Type 0 where
  pub within : j < length (sent_by k (entries_of journal))
  pub entry : get_or (sent_by k (entries_of journal)) j e ≡ l.entry
  pub block : slice_index (blocks_of k journal) j ≡ l.block

push_same : (b : Bool) (k j : ℕ) (first l : LoggedData) (rest : List LoggedData) (e : EntryData) → (first.entry.script == k) ≡ b → StandsAt rest k j l e
    → StandsAt (first ∷ rest) k (length (cond b (first ∷ []) []) + j) l e
push_same true k j first l rest e is at =
    record {
      within = rw is (let w = at.within in omega arith);
      entry = rw is (let one : 1 + j ≡ suc j = omega arith in rw one at.entry);
      block = rw is (let one : 1 + j ≡ suc j = omega arith in rw one at.block);
    }
push_same false k j first l rest e is at =
    record {
      within = rw is (let w = at.within in omega arith);
      entry = rw is (let none : 0 + j ≡ j = omega arith in rw none at.entry);
      block = rw is (let none : 0 + j ≡ j = omega arith in rw none at.block);
    }

count_cons : (k : ℕ) (first : LoggedData) (rest : List LoggedData) → count_of k (first
    ∷ rest) ≡ length (cond (first.entry.script == k) (first ∷ []) []) + count_of k rest
count_cons k first rest = by_test (first.entry.script == k)
  where
    by_test : (b : Bool) → length (cond b (first ∷ filter (λ (l : LoggedData). l.entry.script == k) rest)
        (filter (λ (l : LoggedData). l.entry.script == k) rest))
        ≡ length (cond b (first ∷ []) []) + length (filter (λ (l : LoggedData). l.entry.script == k) rest)
    by_test true = omega arith
    by_test false = omega arith

stands : (journal : List LoggedData) (i : ℕ) (d : LoggedData) (e : EntryData) → i < length journal
    → StandsAt journal (get_or journal i d).entry.script (count_of (get_or journal i d).entry.script (take i journal)) (get_or journal i d) e
stands [] i d e below = absurd (omega arith)
stands (l ∷ ls) zero d e below =
    let own : (l.entry.script == l.entry.script) ≡ true = eq-eqb l.entry.script l.entry.script refl in
    record { within = rw own (omega arith); entry = rw own refl; block = rw own refl }
stands (l ∷ ls) (suc i) d e below =
    let k = (get_or ls i d).entry.script in
    rw (count_cons k l (take i ls)) (push_same (l.entry.script == k) k (count_of k (take i ls)) l (get_or ls i d) ls e refl (stands ls i d e (omega arith)))

-- the entries of a plan by their numbers
entries_at : (script seq : ℕ) (plan : List PlannedData) (j : ℕ) (e : EntryData) → j < length plan
    → ((get_or (entries script seq plan) j e).seq ≡ seq + j) × ((get_or (entries script seq plan) j e).sent_at ≡ slice_index (due_blocks plan) j)
entries_at script seq [] j e below = absurd (omega arith)
entries_at script seq (c ∷ plan) zero e below = ((let same : seq ≡ seq + 0 = omega arith in same), refl)
entries_at script seq (c ∷ plan) (suc j) e below =
    let rest = entries_at script (seq + 1) plan j e (omega arith) in
    (rest.0 ∙ (let same : seq + 1 + j ≡ seq + suc j = omega arith in same), rest.1)

prefix_due : (sent left : List PlannedData) (j : ℕ) → j < length sent → slice_index (due_blocks (sent ++ left)) j ≡ slice_index (due_blocks sent) j
prefix_due [] left j below = absurd (omega arith)
prefix_due (c ∷ sent) left zero below = refl
prefix_due (c ∷ sent) left (suc j) below = prefix_due sent left j (omega arith)

due_at : (ds blocks : List ℕ) (j : ℕ) → j < length blocks → AreDue ds blocks → slice_index ds j ≤ slice_index blocks j
due_at ds [] j below due = absurd (omega arith)
due_at [] (b ∷ blocks) j below due = absurd due
due_at (d ∷ ds) (b ∷ blocks) zero below due = due.0
due_at (d ∷ ds) (b ∷ blocks) (suc j) below due = due_at ds blocks j (omega arith) due.1

last_push : (none : ℕ) (journal : List LoggedData) (i : ℕ) (d : LoggedData) → i < length journal
    → last_block none (take (suc i) journal) ≡ (get_or journal i d).block
last_push none [] i d below = absurd (omega arith)
last_push none (l ∷ ls) zero d below = refl
last_push none (l ∷ ls) (suc i) d below = last_push l.block ls i d (omega arith)

later : (journal : List LoggedData) (i : ℕ) (d : LoggedData) (present : ℕ) → i < length journal → AreTakenUpTo present journal
    → last_block 0 (take i journal) ≤ (get_or journal i d).block
later journal zero d present below taken = omega arith
later journal (suc i) d present below taken =
    let order = taken.order i (suc i) d (omega arith) below in
    rw (last_push 0 journal i d (omega arith)) order

all_at : (P : LoggedData → Type 0) (journal : List LoggedData) (i : ℕ) (d : LoggedData) → i < length journal → All P journal → P (get_or journal i d)
all_at P [] i d below all = absurd (omega arith)
all_at P (l ∷ ls) zero d below all = All-head P l ls all
all_at P (l ∷ ls) (suc i) d below all = all_at P ls i d (omega arith) (All-tail P l ls all)

length_taken : (i : ℕ) (journal : List LoggedData) → length (take i journal) ≤ i
length_taken zero journal = omega arith
length_taken (suc i) [] = omega arith
length_taken (suc i) (l ∷ ls) = let rest = length_taken i ls in omega arith

few_of : (k : ℕ) (journal : List LoggedData) → count_of k journal ≤ length journal
few_of k [] = omega arith
few_of k (l ∷ ls) = by_test (l.entry.script == k) (few_of k ls)
  where
    by_test : (b : Bool) → count_of k ls ≤ length ls → length (cond b (l ∷ filter (λ (x : LoggedData). x.entry.script == k) ls)
        (filter (λ (x : LoggedData). x.entry.script == k) ls)) ≤ length (l ∷ ls)
    by_test true rest = omega arith
    by_test false rest = omega arith

-- every entry follows those before it
pub all_follow : (journal : List LoggedData) (plans : List (List PlannedData)) (blocks : ℕ) → ArePlayed journal plans → AreTakenUpTo (blocks - 1) journal
    → All (λ l. IsInRange l.entry.command) journal
    → 1 ≤ blocks → blocks ≤ 1048576 → length plans ≤ 256 → length journal ≤ 1000000
    → (i : ℕ) (d : LoggedData) → i < length journal → Follows (take i journal) blocks (length plans) (slice_index_or journal i d)
all_follow journal plans blocks played taken ranges some few scripts many i d below =
    let l = get_or journal i d in
    let k = l.entry.script in
    let j = count_of k (take i journal) in
    let one : k < length plans = all_at (λ x. x.entry.script < length plans) journal i d below played.scripts in
    let begun = played.each k one in
    let at = stands journal i d l.entry below in
    let sent = begun.sent in
    let within : j < length sent = omega (arith, at.within, ap length begun.entries_are, length_entries k 0 sent) in
    let entry : get_or (entries k 0 sent) j l.entry ≡ l.entry = ap (λ (xs : List EntryData). get_or xs j l.entry) (sym begun.entries_are) ∙ at.entry in
    let numbers = entries_at k 0 sent j l.entry within in
    let seq : l.entry.seq ≡ j = ap (λ (x : EntryData). x.seq) (sym entry) ∙ numbers.0 ∙ (let same : 0 + j ≡ j = omega arith in same) in
    let sent_at : l.entry.sent_at ≡ slice_index (due_blocks (plan_of plans k)) j =
    ap (λ (x : EntryData). x.sent_at) (sym entry) ∙ numbers.1 ∙ sym (prefix_due sent begun.left j within)
    ∙ ap (λ (p : List PlannedData). slice_index (due_blocks p) j) (sym begun.split) in
    let in_blocks : j < length (blocks_of k journal) = omega (arith, at.within, length_blocks k journal) in
    let due : l.entry.sent_at ≤ l.block = rw (sent_at, ← at.block) (due_at (due_blocks (plan_of plans k)) (blocks_of k journal) j in_blocks begun.due) in
    let past : l.block ≤ blocks - 1 = all_at (λ x. x.block ≤ blocks - 1) journal i d below taken.past in
    let before : j ≤ length (take i journal) = few_of k (take i journal) in
    let shorter : length (take i journal) ≤ i = length_taken i journal in
    record {
      writable = record {
        block = omega (arith, past, some, few);
        due = omega (arith, due, past, some, few);
        script = omega (arith, one, scripts);
        seq = omega (arith, seq, before, shorter, below, many);
        command = all_at (λ x. IsInRange x.entry.command) journal i d below ranges;
      };
      block = record { later = later journal i d (blocks - 1) below taken; due = due; within = omega (arith, past, some) };
      script = one;
      seq = seq;
    }
