use Rattle.std.proofs.Common.{ℕ, ◌+◌, ◌<◌, List, pos, slice_index_or}
use Rattle.operator_kernel.specs.declared.FeedbackPath.{FeedbackPath}
use Rattle.operator_kernel.specs.Paths.{path_at}
use Rattle.operator_kernel.specs.Places.{AreKept, AreMarked}
use Rattle.operator_kernel.specs.Quartets.{IsLaneRun}
use Rattle.operator_kernel.proofs.paths.keep_four.Given as goal

abbrev pub invariant-loop-x : goal.invariant-loop-x
invariant-loop-x l = record {
  run : (first : List FeedbackPath) → AreMarked l.initial.done first l.initial.paths l.initial.samples
      → ((x : ℕ) → x < 4 → IsLaneRun (path_at first (slice_index_or l.places (l.from + x) 0)) l.rows x (slice_index_or l.before_last x (pos 0))
      (slice_index_or l.last x (pos 0)))
      → AreMarked l.done first l.paths l.samples;
  kept : AreKept l.initial.paths l.paths;
}
