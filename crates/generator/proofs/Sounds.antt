-- The sum of all samples, block after block.
use Rattle.std.proofs.Common.{◌≡◌, ℕ, zero, suc, ◌+◌, ◌-◌, ◌/◌, ◌<◌, List, refl, sym, ◌∙◌, ap, subst, arith, ◌+ℤ◌, pos, fold}
use Rattle.std.specs.List.{range_with_len, flat_map}
use Rattle.std.proofs.lemmas.List.Sums.{fold-append}
use Rattle.command_set.specs.Entries.{LoggedData}
use Rattle.instrument.specs.Journal.{commands_at, sound}
use Rattle.instrument.proofs.Journals.{commands_kept, sound_agrees}
use Rattle.generator.specs.Generated.{all_due_at, block_entries, journal_below, generated_journal, total, sum_of_samples}
use Rattle.generator.proofs.Ranges.{flat_more}

-- later blocks change no earlier commands
kept : (seed n m k a : ℕ) → a < m → commands_at (journal_below seed n (m + k)) a ≡ commands_at (journal_below seed n m) a
kept seed n m zero a below = ap (λ (b : ℕ). commands_at (journal_below seed n b) a) (let e : m + 0 ≡ m = omega arith in e)
kept seed n m (suc k) a below =
    ap (λ (b : ℕ). commands_at (journal_below seed n b) a) (let e : m + suc k ≡ m + k + 1 = omega arith in e)
    ∙ ap (λ (journal : _). commands_at journal a) (flat_more (block_entries seed n) (m + k))
    ∙ commands_kept (journal_below seed n (m + k)) (all_due_at seed n 4 (m + k)) (m + k) a (λ same. absurd (omega (arith, same, below)))
    ∙ kept seed n m k a below

sound_kept : (seed n b blocks : ℕ) → b < blocks → sound (journal_below seed n (b + 1)) b ≡ sound (journal_below seed n blocks) b
sound_kept seed n b blocks below =
    let all : b + 1 + (blocks - (b + 1)) ≡ blocks = omega (arith, below) in
    subst (λ (m : ℕ). sound (journal_below seed n (b + 1)) b ≡ sound (journal_below seed n m) b) all
    (sound_agrees (journal_below seed n (b + 1)) (journal_below seed n (b + 1 + (blocks - (b + 1)))) b
    (λ a low. sym (kept seed n (b + 1) (blocks - (b + 1)) a (omega (arith, low)))))

pub sound_generated : (seed b blocks : ℕ) → b < blocks → sound (journal_below seed (blocks / 4) (b + 1)) b ≡ sound (generated_journal seed blocks) b
unfolding generated_journal
sound_generated seed b blocks below = sound_kept seed (blocks / 4) b blocks below

pub generated_is : (seed b blocks : ℕ) → b ≡ blocks → journal_below seed (blocks / 4) b ≡ generated_journal seed blocks
unfolding generated_journal
generated_is seed b blocks all = ap (journal_below seed (blocks / 4)) all

pub sum_more : (journal : List LoggedData) (b : ℕ) → sum_of_samples journal (b + 1) ≡ fold ◌+ℤ◌ (sum_of_samples journal b) (sound journal b)
unfolding sum_of_samples
sum_more journal b = ap total (flat_more (sound journal) b) ∙ fold-append ◌+ℤ◌ (pos 0) (flat_map (sound journal) (range_with_len 0 b)) (sound journal b)

pub no_samples : (journal : List LoggedData) → sum_of_samples journal 0 ≡ pos 0
unfolding sum_of_samples
no_samples journal = refl
