use Rattle.std.proofs.Common.{refl}
use Rattle.editor.proofs.Left.{acted_by}
use Rattle.editor.proofs.editor.Editor.replace.Goals as goal

pub returns-clause-acted : goal.returns-clause-acted
returns-clause-acted c =
    acted_by c.args.self.now c.self.inside.voice c.args.voice.now _ c.self.inside.past c.self.inside.future _ _ _ c.self.view_is
    refl c.in_ok-old.ensures.ok c.keep.ensures.past c.keep.ensures.future
