use Rattle.std.proofs.Common.{◌++◌, List, refl, ap, sym, ◌∙◌, append-nil}
use Rattle.script_outcome.specs.Outcomes.{Outcome}
use Rattle.script_read.specs.Lines.{Maps}
use Rattle.script_outcome.specs.ReaderAnswer.{all_given}
use Rattle.script_read.proofs.LineOutcomes.{after_more, map_outcomes}
use Rattle.script_read.proofs.progress.Progress.set_curve.Goals as goal

pub returns-clause-after : goal.returns-clause-after
returns-clause-after c = λ blocks lines b.
    after_more c.args.self.now _ blocks lines (Maps c.args.curve) b (rw append-nil b.reads) refl refl refl refl
    (sym (ap (λ (os : List Outcome). all_given c.args.self.now.feed.script ++ os) (map_outcomes blocks lines c.args.curve)
    ∙ append-nil (all_given c.args.self.now.feed.script)))
