use Rattle.std.proofs.Common.{◌∙◌, sym}
use Rattle.script_read.proofs.Plans.{nothing_alone, unknown_refused}
use Rattle.script_read.proofs.read.read_lone.Goals as goal

pub returns-then-is_text_kind : goal.returns-then-is_text_kind
returns-then-is_text_kind c = λ blocks room. nothing_alone blocks room c.args.line.now c.new.result (sym c.is_text_kind.ensures
    ∙ c.if-is_text_kind.true) c.new.ensures

pub returns-else-is_text_kind : goal.returns-else-is_text_kind
returns-else-is_text_kind c = λ blocks room. unknown_refused c.at_first.result room blocks c.args.line.now (sym c.is_text_kind.ensures
    ∙ c.if-is_text_kind.false) c.at_first.ensures
