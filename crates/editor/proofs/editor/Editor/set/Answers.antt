use Rattle.std.proofs.Common.{refl}
use Rattle.std.proofs.lemmas.List.{set-set, set-get_or}
use Rattle.editor.proofs.Left.{acted_by}
use Rattle.editor.proofs.editor.Editor.set.Goals as goal

pub returns-clause-acted : goal.returns-clause-acted
returns-clause-acted c =
    acted_by c.args.self.now c.self.inside.voice c.set.new.self _ c.self.inside.past c.self.inside.future _ _ _ c.self.view_is
    (rw (← c.self.view_is) c.in_ok-set.ensures.changed)
    (rw (c.in_ok-set.ensures.changed, c.get-old.ensures.value, set-set, set-get_or) refl)
    c.keep.ensures.past c.keep.ensures.future
