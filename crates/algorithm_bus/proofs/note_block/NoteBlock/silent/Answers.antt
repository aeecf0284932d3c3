use Rattle.std.proofs.Common.{ℕ, ◌-◌, ◌≤◌, arith}
use Rattle.algorithm_bus.proofs.Inaudible.{no_output, silent_six}
use Rattle.algorithm_bus.proofs.note_block.NoteBlock.silent.Goals as goal

pub returns : goal.returns
returns c = λ j. no_output _ (omega arith) (λ o low high e. silent_six (o - 1)) j
