use Rattle.std.proofs.Common.{ℕ, ◌≡◌, ◌+◌, ◌<◌, ◌≤◌, List, [], get_or, pos, sym, subst, ap, ◌∙◌, arith}
use Rattle.operator_kernel.specs.declared.FeedbackPath.{FeedbackPath}
use Rattle.operator_kernel.specs.Paths.{path_at}
use Rattle.operator_kernel.specs.Places.{AreLeft, AreMarked}
use Rattle.operator_kernel.specs.Quartets.{AreLanesRun, AreLive, IsLaneRun, IsLive}
use Rattle.operator_kernel.proofs.Marks.{kept_none, kept_then, four_live, lanes_left}
use Rattle.operator_kernel.proofs.paths.run_together.Goals as goal

pub returns-then-left-lt2 : goal.returns-then-left-lt2
returns-then-left-lt2 c = record { run = λ first m. m; kept = kept_none _ }

pub four_at-low-requires-clause-below : goal.four_at-low-requires-clause-below
four_at-low-requires-clause-below c = λ x lt. (c.places_left-left.ensures.left (omega arith) x lt).below

pub four_at-high-requires-clause-below : goal.four_at-high-requires-clause-below
four_at-high-requires-clause-below c = λ x lt. (c.places_left-left.ensures.left (omega arith) x lt).below

pub run_quartets-requires-clause-low : goal.run_quartets-requires-clause-low
run_quartets-requires-clause-low c = four_live _ _ _ _ 0 (omega arith) c.places_left-left.ensures (omega arith) c.four_at-low.ensures

pub run_quartets-requires-clause-high : goal.run_quartets-requires-clause-high
run_quartets-requires-clause-high c = four_live _ _ _ _ 4 (omega arith) c.places_left-left.ensures (omega arith) c.four_at-high.ensures

pub keep_four-requires-clause-below : goal.keep_four-requires-clause-below
keep_four-requires-clause-below c = λ x lt. (c.places_left-left.ensures.left (omega arith) x lt).below

pub keep_four-requires-2-clause-below : goal.keep_four-requires-2-clause-below
keep_four-requires-2-clause-below c = λ x lt. (c.places_left-left.ensures.left (omega arith) x lt).below

pub returns : goal.returns
returns c =
    let l = c.places_left-left.ensures in
    record {
      run = λ first m. c.keep_four-2.ensures.run first (c.keep_four.ensures.run first m
          (lanes_left _ first _ _ _ _ _ _ _ 0 m (omega arith) l (omega arith) c.four_at-low.ensures c.run_quartets.ensures.low))
          (lanes_left _ first _ _ _ _ _ _ _ 4 m (omega arith) l (omega arith) c.four_at-high.ensures c.run_quartets.ensures.high);
      kept = kept_then _ _ _ c.keep_four.ensures.kept c.keep_four-2.ensures.kept;
    }
