use Rattle.std.proofs.Common.{◌∙◌, ap}
use Rattle.instrument.specs.Journal.{state_at, sound}
use Rattle.instrument.proofs.Journals.{sound_is}
use Rattle.schedule_core.specs.Core.{Core}
use Rattle.schedule_core.specs.Fields.{core_of}
use Rattle.schedule_core.proofs.Worlds.{renders, stands_for}
use Rattle.schedule_core.proofs.world.World.render.Goals as goal

pub invariant_of-self : goal.invariant_of-self
invariant_of-self c =
    let w = c.self.inside in
    let v : Core = core_of w.places w.waiting.items w.journal.items w.blocks w.marks.items in
    (c.self.invariant.0, stands_for _ _ _ _ _ _ _ (renders _ _ _ _ _ _ _ v c.self.invariant.1 c.block.ensures.passed), c.self.invariant.2)

pub returns-clause-sound : goal.returns-clause-sound
returns-clause-sound c =
    let w = c.self.inside in
    let v : Core = core_of w.places w.waiting.items w.journal.items w.blocks w.marks.items in
    c.block.ensures.samples (state_at v.journal v.blocks) c.self.invariant.1.playing ∙ sound_is v.journal v.blocks
    ∙ ap (λ (d : Core). sound d.journal d.blocks) c.self.view_is
