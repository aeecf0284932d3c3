use Rattle.std.proofs.Common.{refl, sym, ◌∙◌}
use Rattle.command_set.specs.Command.{content}
use Rattle.script_read.specs.EditData.{request_data}
use Rattle.script_read.proofs.EditOutcomes.{after_answer, stops_answer, stops_give, stops_time}
use Rattle.script_read.proofs.editing.Editing.apply_request.Goals as goal

pub returns-in-Some-clause-stops : goal.returns-in-Some-clause-stops
returns-in-Some-clause-stops c = λ lines b.
    stops_time c.args.self.now c.args.bounds.blocks c.args.bounds.room lines c.args.block (request_data c.args.request) c.in-Some.kind c.refused.result b
    c.requires.order.few
    (sym c.fault_of_block.ensures ∙ c.in-Some.is) c.refused.ensures

pub returns-in-Err-clause-stops : goal.returns-in-Err-clause-stops
returns-in-Err-clause-stops c = λ lines b.
    stops_answer c.args.self.now c.args.bounds.blocks c.args.bounds.room lines c.args.block (request_data c.args.request) c.in-Err.fault b c.requires.order.few
    (sym c.fault_of_block.ensures ∙ c.in-None.is) c.in-Err.ensures.refused

pub returns-in-Ok-give-clause-after : goal.returns-in-Ok-give-clause-after
returns-in-Ok-give-clause-after c = λ lines b.
    after_answer c.args.self.now _ c.args.bounds.blocks lines c.args.block (request_data c.args.request) (content c.in-Ok.command) b
    (sym c.fault_of_block.ensures ∙ c.in-None.is) c.in-Ok.ensures.answered refl refl c.in-Ok-give.ensures.given

pub returns-in-Err-give-clause-stops : goal.returns-in-Err-give-clause-stops
returns-in-Err-give-clause-stops c = λ lines b.
    stops_give c.args.self.now c.args.bounds.blocks c.args.bounds.room lines c.args.block (request_data c.args.request) c.answer.new.editor
    (content c.in-Ok.command) c.in-Err-give.fault b
    (sym c.fault_of_block.ensures ∙ c.in-None.is) c.in-Ok.ensures.answered c.in-Err-give.ensures.stops
