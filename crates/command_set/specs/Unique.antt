-- A text is the text of one command.
use Rattle.std.specs.Prelude.{◌≡◌}
use Rattle.command_set.specs.Command.{CommandData, IsInRange}
use Rattle.command_set.specs.Text.{text}

-- commands in range that have one text are one command
abbrev pub TextsAreUnique : Type 0
TextsAreUnique = (c d : CommandData) → IsInRange c → IsInRange d → text c ≡ text d → c ≡ d
