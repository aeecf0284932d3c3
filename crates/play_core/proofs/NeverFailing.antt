-- What is left of a run's end over a shelf that never fails.
use Rattle.std.proofs.Common.{◌≡◌, ◌≢◌, ◌⊎◌, ◌<◌, ℕ, List, length, ⊎_elim}
use Rattle.std.specs.Prelude.{Option, Some, None, IfSome, IsSomeAnd}
use Rattle.outside.specs.Files.{Files, SaidSome}
use Rattle.outside.specs.Faults.{Rose}
use Rattle.command_set.specs.Entries.{LoggedData}
use Rattle.script_plan.specs.Plan.{PlannedData}
use Rattle.take_files.specs.Orders.{IsOrdered}
use Rattle.turns.specs.Timed.{ArePlayed}
use Rattle.play_core.specs.Words.{RequestData, requested_by}
use Rattle.turns.specs.Turns.{many_commands}
use Rattle.play_core.specs.Verdict.{blocks_of_run}
use Rattle.play_core.specs.Lines.{report}
use Rattle.play_core.specs.Files.{AreBegun}
use Rattle.outside.specs.Snapshot.{Snapshot}
use Rattle.play_core.specs.Run.{HavePlans, SaysOfStop, left_of, order_of, sound_of}
use Rattle.play_core.specs.Headline.{Asks}
use Rattle.play_core.proofs.Clauses.{own_blocks}

asks_more : (words : List (List ℕ)) (P Q : RequestData → Type 0) → ((a : RequestData) → P a → Q a) → Asks words P → Asks words Q
asks_more words P Q more = by_asked (requested_by words)
  where
    by_asked : (o : Option RequestData) → IfSome o P → IfSome o Q
    by_asked None p = tt
    by_asked (Some a) p = more a p

-- no write failed, so the output did
pub stopped_never_failing : (words : List (List ℕ)) (before now : Snapshot) → ¬ (Rose before.writing now.writing)
    → Asks words (λ a. (plans : List (List PlannedData)) × (journal : List LoggedData) × HavePlans a before.files plans
    × IsOrdered journal (blocks_of_run a.blocks plans) (length plans) × ArePlayed journal plans
    × AreBegun before.files now.files a.out (sound_of a plans journal) a.order (order_of a plans journal) × SaysOfStop a plans journal before now)
    → Asks words (λ a. (left : ℕ) × (blocks : ℕ) × (commands : ℕ) × IfSome a.blocks (λ b. blocks ≡ b)
    × ((now.written ≡ before.written) ⊎ SaidSome (report left blocks commands) before.written now.written))
stopped_never_failing words before now none = asks_more words _ _
    (λ a s. ⊎_elim (λ w. absurd (none w.0)) (λ p. (left_of s.0 s.1, blocks_of_run a.blocks s.0, length s.1, own_blocks a.blocks s.0, p.3)) s.6)

-- a number below another is one
pub some_places : (words : List (List ℕ)) (files : Option Files) → Asks words (λ a. (plans : List (List PlannedData)) × HavePlans a files plans
    × IsSomeAnd a.places (λ p. p < many_commands plans))
    → Asks words (λ a. a.places ≢ None)
some_places words files = asks_more words _ _ (λ a few. by_places (many_commands few.0) a.places few.2)
  where
    by_places : (n : ℕ) (o : Option ℕ) → IsSomeAnd o (λ p. p < n) → o ≢ None
    by_places n None few is = few
    by_places n (Some p) few is = absurd (cc)
