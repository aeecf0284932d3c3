use Rattle.std.proofs.Common.{◌<◌, length, sym, ap, refl, arith, ◌∙◌}
use Rattle.std.proofs.lemmas.List.{take_all}
use Rattle.editor.specs.Changes.{command_of, left_by, IsSame}
use Rattle.editor.specs.History.{IsWholeNext}
use Rattle.editor.proofs.Left.{no_first, stepped_by, whole_first, on_err, has_first, same_first}
use Rattle.editor.proofs.revise.revise.Goals as goal

pub returns-in-None-clause-turned : goal.returns-in-None-clause-turned
returns-in-None-clause-turned c = no_first _ _ _ c.in-None.ensures

pub returns-in_err-command-in-Some-clause-memory : goal.returns-in_err-command-in-Some-clause-memory
returns-in_err-command-in-Some-clause-memory c =
    let voice = c.args.voice.now in
    let from = c.args.from.now in
    let to = c.args.to.now in
    let same : IsWholeNext (left_by voice from.items) × IsSame voice voice from from to to =
    (whole_first voice from.items _ c.in-Some.ensures c.in_err-command-in-Some.ensures.memory, record { voice = refl; past = refl; future = refl }) in
    on_err _ same

pub returns-clause-turned : goal.returns-clause-turned
returns-clause-turned c =
    let first = sym c.unwrap-change.ensures ∙ c.pop_front.ensures.value in
    let same = same_first _ _ _ first c.in-Some.ensures in
    let room : length c.args.to.now.items < c.args.to.now.capacity = c.requires (has_first _ _ first) in
    stepped_by c.args.voice.now c.make.new.voice c.args.from.now.items c.pop_front.new.self.items c.args.to.now.items c.push_front.new.self.items
    c.unwrap-change.result c.make.result _ first c.make.ensures.voice
    (c.make.ensures.answer ∙ ap command_of same ∙ sym c.in_ok-command-in-Some.ensures.command)
    c.make.ensures.back c.make.ensures.kind
    (ap (λ b. b.items) c.pop_front.ensures.items)
    (ap (λ b. b.items) c.push_front.ensures.items ∙ take_all _ _ (omega (arith, room)))
