-- What both programs say of one run: `play` writes two files, and `tool verify` reads them.
use Rattle.std.specs.Prelude.{◌≡◌, ℕ, List, Option, Some, IfSome}
use Rattle.outside.specs.Files.{Files}
use Rattle.play_core.specs.Words.{RequestData}
use Rattle.play_core.specs.Headline.{Told}
use Rattle.tool_core.specs.Words as tool

-- Where the second program ran, over files that were told, and was asked to verify the two files that the first wrote: this holds of its status.
abbrev pub Verified : List (List ℕ) → List (List ℕ) → Option Files → Option ℕ → (RequestData → ℕ → Type 0) → Type 0
Verified words check files status P =
    IfSome status (λ s. Told words files (λ a told. tool.requested_by check ≡ Some (tool.Verify a.order a.out) → P a s))
