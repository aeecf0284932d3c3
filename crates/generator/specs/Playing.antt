-- For private functions and proofs: how a world and four generated scripts stand for the journal so far.
use Rattle.std.specs.Prelude.{ℕ, ◌≡◌, ◌≢◌, ◌+◌, ◌-◌, ◌<◌, ◌≤◌, List, ◌++◌, length, map, slice_index_or}
use Rattle.std.specs.List.{range_with_len, sum_by}
use Rattle.schedule_core.specs.Core.{Core, accepted_of}
use Rattle.generator.specs.Generated.{script_seed, entry, all_due_at, journal_below}
use Rattle.generator.specs.Scripts.{IsGenerated, AreBefore}
use Rattle.generator.specs.declared.script.GeneratedScript.{GeneratedScript}

-- The world may be sent the commands of a script that are left: as many were accepted as were generated, and the line has places
-- for the rest.
pub record CanSend (number seed commands : ℕ) (script : GeneratedScript) (world : Core) : Type 0 where
  pub generated : IsGenerated seed script
  pub made : number < length world.scripts
  pub accepted : length (accepted_of world number) ≡ script.count
  pub few : script.count ≤ commands
  pub room : length world.waiting + (commands - script.count) ≤ world.places

-- after a core the script's commands from one number up to another were sent, and nothing else happened
pub record IsSent (c : Core) (number seed from to : ℕ) (now : Core) : Type 0 where
  pub places : now.places ≡ c.places
  pub ends : length now.scripts ≡ length c.scripts
  pub blocks : now.blocks ≡ c.blocks
  pub journal : now.journal ≡ c.journal
  pub waiting : now.waiting ≡ c.waiting ++ map (entry seed number) (range_with_len from (to - from))
  pub own : length (accepted_of now number) ≡ to
  pub others : (k : ℕ) → k ≢ number → accepted_of now k ≡ accepted_of c k

-- so the world is, and it may be sent the rest
pub record HasSentTo (c : Core) (number seed commands from : ℕ) (script : GeneratedScript) (world : Core) : Type 0 where
  pub can : CanSend number seed commands script world
  pub sent : IsSent c number seed from script.count world

-- how many commands of all scripts were generated
abbrev pub generated_of : List GeneratedScript → ℕ
generated_of scripts = sum_by (λ s. s.count) scripts

-- In a block the due commands of the first scripts wait, all that were due before are logged, and each script has generated those
-- alone.
pub record IsInBlock (seed commands block sent : ℕ) (scripts : List GeneratedScript) (world : Core) : Type 0 where
  pub places : world.places ≡ 100000
  pub ends : length world.scripts ≡ 4
  pub blocks : world.blocks ≡ block
  pub journal : world.journal ≡ journal_below seed commands block
  pub waiting : world.waiting ≡ all_due_at seed commands sent block
  pub four : length scripts ≡ 4
  pub all : length world.journal + length world.waiting ≡ generated_of scripts
  pub accepted : (k : ℕ) (d : GeneratedScript) → k < 4 → length (accepted_of world k) ≡ (slice_index_or scripts k d).count
  pub generated : (k : ℕ) (d : GeneratedScript) → k < 4 → IsGenerated (script_seed seed k) (slice_index_or scripts k d)
  pub past : (k : ℕ) (d : GeneratedScript) → k < sent
      → AreBefore (script_seed seed k) commands (block + 1) (slice_index_or scripts k d).count
  pub next : (k : ℕ) (d : GeneratedScript) → sent ≤ k → k < 4
      → AreBefore (script_seed seed k) commands block (slice_index_or scripts k d).count
