use Rattle.std.proofs.Common.{◌≡◌, ◌∷◌, [], ◌∙◌, ap, sym, subst, true, false}
use Rattle.std.specs.Prelude.{Option}
use Rattle.outside.specs.Files.{Files, Lacks, file_of}
use Rattle.tool_core.specs.Words.{Verify}
use Rattle.tool_core.specs.Inputs.{AnOrder, ASound, input}
use Rattle.tool_core.specs.Effects.{comparison}
use Rattle.tool_core.proofs.Endings.{performs, refuses, first_fails}
use Rattle.tool_core.proofs.OrderEndings.{good_both, sound_fails, verify_does, compared_ends}
use Rattle.tool_core.proofs.Held.{failed_undone}
use Rattle.tool_core.proofs.ReadCounts.{told_both}
use Rattle.tool_core.proofs.verify.verify.Goals as goal

pub returns-in-Ok-compare_order-clause-ends : goal.returns-in-Ok-compare_order-clause-ends
returns-in-Ok-compare_order-clause-ends g c =
    let same = c.read_order_file.ensures.files in
    let e = c.in-Ok-compare_order.ensures in
    let has : Lacks (g.S.Shelf.files c.args.shelf.now) c.args.sound.now → ⊥ =
    λ lacks. let f : false ≡ true = e.lacks (subst (λ (o : Option Files). Lacks o c.args.sound.now) (sym same) lacks) in absurd (cc) in
    performs (Verify c.args.file.now c.args.sound.now) _ _ _ (comparison c.in-Ok-compare_order.offset)
    (good_both c.args.file.now c.args.sound.now c.in-Ok.order _ c.in-Ok.ensures.good has
    (λ file is. e.within file (ap (λ (o : Option Files). file_of o c.args.sound.now) same ∙ is)))
    (verify_does c.args.file.now c.args.sound.now c.in-Ok.order _ c.in-Ok-compare_order.offset c.in-Ok.ensures.good has
    (λ file is. e.compared file (ap (λ (o : Option Files). file_of o c.args.sound.now) same ∙ is)))
    (compared_ends c.in-Ok-compare_order.offset _ _ _ (e.kept ∙ c.in-Ok.ensures.kept) (e.writing ∙ c.read_order_file.ensures.writing) (e.files
    ∙ same) c.put_comparison.ensures)

pub returns-in-Ok-clause-ends : goal.returns-in-Ok-clause-ends
returns-in-Ok-clause-ends g c =
    refuses (Verify c.args.file.now c.args.sound.now) c.in-Err-compare_order.why c.args.sound.now _ _ _
    (sound_fails c.in-Err-compare_order.why c.args.file.now c.args.sound.now c.in-Ok.order _ _ _ _ _ c.read_order_file.ensures.files c.in-Ok.ensures.kept
    c.in-Ok.ensures.good
    c.in-Err-compare_order.ensures.refused)
    c.refuse.ensures.status c.refuse.ensures.line (c.compare_order.ensures.files ∙ c.read_order_file.ensures.files) (c.compare_order.ensures.writing
    ∙ c.read_order_file.ensures.writing)

pub returns-clause-ends : goal.returns-clause-ends
returns-clause-ends g c =
    refuses (Verify c.args.file.now c.args.sound.now) c.in-Err.why c.args.file.now _ _ _
    (first_fails c.in-Err.why AnOrder (input c.args.sound.now ASound ∷ []) _ c.args.file.now _ _ c.in-Err.ensures.refused)
    c.refuse-in-Err.ensures.status c.refuse-in-Err.ensures.line c.read_order_file.ensures.files c.read_order_file.ensures.writing

pub returns-in-Ok-compare_order-clause-whole : goal.returns-in-Ok-compare_order-clause-whole
returns-in-Ok-compare_order-clause-whole g c = λ was.
    let same = c.read_order_file.ensures.files in
    let e = c.in-Ok-compare_order.ensures in
    told_both (g.S.Shelf.files c.args.shelf.now) c.args.file.now c.args.sound.now _ _ _ c.in-Ok.order c.in-Ok.ensures.good
    (λ lacks. let f : false ≡ true = e.lacks (subst (λ (o : Option Files). Lacks o c.args.sound.now) (sym same) lacks) in absurd (cc))
    c.in-Ok.ensures.given
    (λ file is. e.given file (ap (λ (o : Option Files). file_of o c.args.sound.now) same ∙ is))

pub returns-in-Ok-clause-whole : goal.returns-in-Ok-clause-whole
returns-in-Ok-clause-whole g c = λ was. absurd (failed_undone c.in-Err-compare_order.why c.refuse.result c.refuse.ensures.status was)

pub returns-clause-whole : goal.returns-clause-whole
returns-clause-whole g c = λ was. absurd (failed_undone c.in-Err.why c.refuse-in-Err.result c.refuse-in-Err.ensures.status was)
