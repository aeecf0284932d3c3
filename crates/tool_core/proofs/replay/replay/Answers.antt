use Rattle.std.proofs.Common.{[], inl, inr, ◌∙◌}
use Rattle.take_files.specs.Files.{wav}
use Rattle.tool_core.specs.Words.{Replay}
use Rattle.tool_core.specs.declared.failure.Failure.TheVariants.{Memory}
use Rattle.tool_core.specs.Inputs.{AnOrder, input}
use Rattle.tool_core.specs.Effects.{writes}
use Rattle.tool_core.proofs.Endings.{performs, refuses, read_first, one_good, first_fails}
use Rattle.tool_core.proofs.OrderEndings.{order_judged, replay_does}
use Rattle.tool_core.proofs.Held.{failed_undone}
use Rattle.tool_core.proofs.ReadCounts.{told_whole}
use Rattle.tool_core.proofs.replay.replay.Goals as goal

pub returns-in-Ok-clause-ends : goal.returns-in-Ok-clause-ends
returns-in-Ok-clause-ends g c =
    let o = c.in-Ok.order in
    elim c.play_order.ensures.finishes [
      | inl finishes ↦
          performs (Replay c.args.file.now c.args.name.now) _ _ _ (writes c.args.name.now (wav o.journal o.blocks))
          (one_good (input c.args.file.now AnOrder) _ (order_judged _ c.args.file.now o c.in-Ok.ensures.good))
          (replay_does _ c.args.file.now c.args.name.now o c.in-Ok.ensures.good)
          (read_first (writes c.args.name.now (wav o.journal o.blocks)) _ _ _ _ _ _ _ _ _ _ c.read_order_file.ensures.files c.in-Ok.ensures.kept
          c.read_order_file.ensures.writing finishes)
      | inr memory ↦
          refuses (Replay c.args.file.now c.args.name.now) Memory c.args.file.now _ _ _ (memory.2 ∙ c.in-Ok.ensures.kept) memory.0 memory.4
          (memory.1 ∙ c.read_order_file.ensures.files) (memory.3 ∙ c.read_order_file.ensures.writing)
    ]

pub returns-in-Err-clause-ends : goal.returns-in-Err-clause-ends
returns-in-Err-clause-ends g c =
    refuses (Replay c.args.file.now c.args.name.now) c.in-Err.why c.args.file.now _ _ _
    (first_fails c.in-Err.why AnOrder [] _ c.args.file.now _ _ c.in-Err.ensures.refused)
    c.refuse.ensures.status c.refuse.ensures.line c.read_order_file.ensures.files c.read_order_file.ensures.writing

pub returns-in-Ok-clause-whole : goal.returns-in-Ok-clause-whole
returns-in-Ok-clause-whole g c = λ was.
    told_whole (g.S.Shelf.files c.args.shelf.now) c.args.file.now _ _ c.in-Ok.order c.in-Ok.ensures.good
    (λ file is. c.play_order.ensures.given ∙ c.in-Ok.ensures.given file is)

pub returns-in-Err-clause-whole : goal.returns-in-Err-clause-whole
returns-in-Err-clause-whole g c = λ was. absurd (failed_undone c.in-Err.why c.refuse.result c.refuse.ensures.status was)

pub returns-in-Err-clause-held : goal.returns-in-Err-clause-held
returns-in-Err-clause-held g c = λ was. absurd (failed_undone c.in-Err.why c.refuse.result c.refuse.ensures.status was)
