use Rattle.std.proofs.Common.{ap, sym, Err}
use Rattle.script_read.proofs.Dumps.{cartridge_found, cartridge_missed}
use Rattle.script_read.proofs.grammar.cartridge_of.Goals as goal

pub returns-in-Ok-clause-parsed : goal.returns-in-Ok-clause-parsed
returns-in-Ok-clause-parsed c = sym (cartridge_found _ _ c.in-Ok.ensures.read)

pub returns-in-Err-NotCommand-clause-parsed : goal.returns-in-Err-NotCommand-clause-parsed
returns-in-Err-NotCommand-clause-parsed c = sym (cartridge_missed _ (c.in-Err-NotCommand.ensures.refused (ap Err c.in-Err-NotCommand.field-0-is)))
