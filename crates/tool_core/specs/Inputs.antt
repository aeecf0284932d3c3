-- The files that a command reads, one after the other, and the verdict on them.
use Rattle.std.specs.Prelude.{ℕ, ◌≡◌, ◌≢◌, ◌⊎◌, List, [], ◌∷◌, ◌++◌, Option, IfSome}
use Rattle.std.specs.FinMap.{get}
use Rattle.outside.specs.Files.{Files}
use Rattle.tool_core.specs.Refusals.{Wanted}
use Rattle.tool_core.specs.Verdicts.{Verdict, Good, verdict_on}
use Rattle.tool_core.specs.Orders.{IsOrderVerdict, sound_verdict}

-- what a file is to be: MIDI bytes of which this is wanted, an order, or a sound file
pub data Kind : Type 0 where
  Midi : Wanted → Kind
  AnOrder : Kind
  ASound : Kind

-- a file that is read, by its name, and what it is to be
pub record Input : Type 0 where
  pub name : List ℕ
  pub kind : Kind

abbrev pub input : List ℕ → Kind → Input
input name kind = record { name = name; kind = kind }

-- the verdict on a file, which may not be there
abbrev pub IsVerdict : Kind → Option (List ℕ) → Verdict → Type 0
IsVerdict (Midi wanted) file it = verdict_on wanted file ≡ it
IsVerdict AnOrder file it = IsOrderVerdict file it
IsVerdict ASound file it = sound_verdict file ≡ it

-- the verdict on a file that is read
abbrev pub IsJudged : Input → Files → Verdict → Type 0
IsJudged one files it = IsVerdict one.kind (get files one.name) it

-- all of them are good
abbrev pub AreGood : List Input → Files → Type 0
AreGood [] files = Unit {0}
AreGood (one ∷ later) files = IsJudged one files Good × AreGood later files

-- the first verdict that isn't good decides; where all are good, all is good
abbrev pub Decides : List Input → Files → Verdict → Type 0
Decides [] files it = it ≡ Good
Decides (one ∷ later) files it = (IsJudged one files it × (it ≢ Good)) ⊎ (IsJudged one files Good × Decides later files it)

-- this file is one of them, at its place, and all before it are good
pub record Reaches (inputs : List Input) (files : Option Files) (one : Input) : Type 0 where
  pub earlier : List Input
  pub later : List Input
  pub place : inputs ≡ earlier ++ one ∷ later
  pub good : IfSome files (λ told. AreGood earlier told)
