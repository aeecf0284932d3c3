use Rattle.std.proofs.Common.{refl, SFits, w32, rules}
use Rattle.std.proofs.lemmas.Int.{to_z-of_z}
use Rattle.algorithm_bus.proofs.Taken.{took_none, took_some}
use Rattle.algorithm_bus.proofs.note_block.NoteBlock.keep_state.Goals as goal

pub returns-in-Some : goal.returns-in-Some
returns-in-Some c = λ samples run.
    let fb : SFits w32 c.args.path.now.before_last = search rules in
    let fl : SFits w32 c.args.path.now.last = search rules in
    let b = to_z-of_z w32 _ fb in
    let l = to_z-of_z w32 _ fl in
    took_some c.args.self.now _ c.in-Some.field-0 c.args.path.now samples c.in-Some.ensures.operator (refl, refl, refl) (cc) run

pub returns-in-None : goal.returns-in-None
returns-in-None c = λ samples run. took_none c.args.self.now samples c.in-None.ensures.operator
