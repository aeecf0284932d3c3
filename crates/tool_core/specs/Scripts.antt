-- For private functions and proofs: files of scripts that are written, as the program holds them.
use Rattle.std.specs.Prelude.{◌≡◌, ℕ, List, ◌∷◌, ◌++◌, length, string_bytes, Option, IfSome}
use Rattle.outside.specs.Files.{Files}
use Rattle.tool_core.specs.declared.generate.ScriptFile.{ScriptFile}
use Rattle.tool_core.specs.Effects.{Output, output, written}
use Rattle.tool_core.specs.Outcomes.{BeginsOut}

-- its name and bytes
abbrev pub shown : ScriptFile → Output
shown file = output (string_bytes file.name) file.text.items

-- of these files those before one are written, and that one is as before or begun
pub record FailsWriting (at : ℕ) (files : List Output) (before now : Option Files) : Type 0 where
  pub file : Output
  pub earlier : List Output
  pub later : List Output
  pub place : files ≡ earlier ++ file ∷ later
  pub number : at ≡ length earlier
  pub begun : IfSome before (λ told. BeginsOut (written earlier told) now file.name file.text)
