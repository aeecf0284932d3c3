use Rattle.std.proofs.Common.{ℕ, ap, sym, ◌∙◌}
use Rattle.std.specs.Prelude.{option_map}
use Rattle.outside.specs.Files.{appended}
use Rattle.turns.specs.Steps.{block_before}
use Rattle.turns.proofs.Appending.{none_appended}
use Rattle.turns.proofs.write.write_block.Goals as goal

pub returns-then-t-eq0-clause-all : goal.returns-then-t-eq0-clause-all
returns-then-t-eq0-clause-all g c =
    none_appended (g.S.Shelf.files c.args.shelf.now) c.args.sound.now c.requires
    ∙ ap (λ (n : ℕ). option_map (appended c.args.sound.now (block_before n c.args.samples.now)) (g.S.Shelf.files c.args.shelf.now)) (sym c.if-t-eq0.true)
