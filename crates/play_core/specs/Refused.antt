-- Why nothing is played.
use Rattle.std.specs.Prelude.{◌≡◌, ◌⊎◌, ℕ, ◌<◌, List, [], take, length, Option, IfSome, slice_index_or}
use Rattle.outside.specs.Files.{Files, Lacks}
use Rattle.outside.specs.Faults.{Rose}
use Rattle.play_core.specs.declared.refusal.PlayRefusal.{PlayRefusal}
use Rattle.play_core.specs.declared.refusal.PlayRefusal.TheVariants as why
use Rattle.play_core.specs.Verdict.{Verdict, LongFile, LongScripts, Faulty, ManyCommands, ManyBlocks, nothing, of_scripts, IsPlayed}

-- the verdict that a refusal comes from; a read that failed and want of memory come from none
abbrev pub AgreesWith : PlayRefusal → Verdict → Type 0
AgreesWith (why.Unread number) said = Unit {0}
AgreesWith why.LongFile said = said ≡ LongFile
AgreesWith why.LongScripts said = said ≡ LongScripts
AgreesWith (why.Fault number place what) said = said ≡ Faulty number place what
AgreesWith why.ManyCommands said = said ≡ ManyCommands
AgreesWith why.ManyBlocks said = said ≡ ManyBlocks
AgreesWith why.Memory said = Unit {0}

-- the refusal is not that a script was not read
abbrev pub IsOfContent : PlayRefusal → Type 0
IsOfContent (why.Unread number) = ⊥
IsOfContent why.LongFile = Unit {0}
IsOfContent why.LongScripts = Unit {0}
IsOfContent (why.Fault number place what) = Unit {0}
IsOfContent why.ManyCommands = Unit {0}
IsOfContent why.ManyBlocks = Unit {0}
IsOfContent why.Memory = Unit {0}

-- Script number k was not read: a read failed and was counted, or the told files lack its name. Every script before it is good.
pub record IsUnread (k : ℕ) (blocks : Option ℕ) (files : Option Files) (names : List (List ℕ)) (before now : ℕ) : Type 0 where
  pub within : k < length names
  pub cause : Rose before now ⊎ Lacks files (slice_index_or names k [])
  pub earlier : IfSome files (λ told. IsPlayed (of_scripts told blocks nothing (take k names)))

-- why nothing is played, of these scripts, with the count of reading faults before and after
abbrev pub IsCaused : PlayRefusal → Option ℕ → Option Files → List (List ℕ) → ℕ → ℕ → Type 0
IsCaused (why.Unread k) blocks files names before now = IsUnread k blocks files names before now
IsCaused why.LongFile blocks files names before now = now ≡ before
IsCaused why.LongScripts blocks files names before now = now ≡ before
IsCaused (why.Fault number place what) blocks files names before now = now ≡ before
IsCaused why.ManyCommands blocks files names before now = now ≡ before
IsCaused why.ManyBlocks blocks files names before now = now ≡ before
IsCaused why.Memory blocks files names before now = now ≡ before

-- a script that was not read is one of so many
abbrev pub IsWithin : PlayRefusal → ℕ → Type 0
IsWithin (why.Unread k) count = k < count
IsWithin why.LongFile count = Unit {0}
IsWithin why.LongScripts count = Unit {0}
IsWithin (why.Fault number place what) count = Unit {0}
IsWithin why.ManyCommands count = Unit {0}
IsWithin why.ManyBlocks count = Unit {0}
IsWithin why.Memory count = Unit {0}
