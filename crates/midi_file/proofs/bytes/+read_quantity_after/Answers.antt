use Rattle.std.proofs.Common.{◌≡◌, ◌+◌, ◌*◌, ◌-◌, ◌<◌, ℕ, List, get_or, Fits, w8, arith, ◌∙◌, sym, ap, subst}
use Rattle.std.proofs.Math.Facts.{Fits-lt-pow}
use Rattle.script_outcome.proofs.Plans.{if_ok_more, if_err_more}
use Rattle.midi_file.specs.Bytes.{quantity_after}
use Rattle.midi_file.proofs.Quantities.{has_room, room_left, more_bytes}
use Rattle.midi_file.proofs.bytes.+read_quantity_after.Goals as goal

pub overflow_mul-value : goal.overflow_mul-value
overflow_mul-value t c = let small : c.args.so_far < 2097152 = has_room c.args.more c.args.so_far (omega arith) c.requires in omega arith

pub overflow_add-value : goal.overflow_add-value
overflow_add-value t c = let small : c.args.so_far < 2097152 = has_room c.args.more c.args.so_far (omega arith) c.requires in omega arith

pub read_quantity_after-requires : goal.read_quantity_after-requires
read_quantity_after-requires t c = (omega arith, room_left c.args.more c.args.so_far c.from.result (omega arith) (omega arith) c.requires)

pub returns-else-byte-lt128-clause-ok : goal.returns-else-byte-lt128-clause-ok
returns-else-byte-lt128-clause-ok t c =
    let fits : c.in-Some.byte.now < 256 = Fits-lt-pow (subst (λ (bs : List ℕ). Fits w8 (get_or bs 0 0)) c.in-Some.ensures.cases.0 (c.type_inv.bytes 0)) in
    let next : quantity_after c.args.more c.args.so_far c.args.bytes.now ≡ quantity_after (c.args.more - 1) (c.args.so_far * 128 + c.from.result)
    c.in-Some.rest.now =
    more_bytes c.args.more c.args.so_far c.args.bytes.now c.in-Some.byte.now c.in-Some.rest.now (omega arith) c.in-Some.ensures.cases.0 (omega arith) fits
    ∙ ap (λ (n : ℕ). quantity_after (c.args.more - 1) (c.args.so_far * 128 + n) c.in-Some.rest.now) (sym c.from.ensures) in
    if_ok_more c.read_quantity_after.result c.read_quantity_after.ensures.ok (λ r is. next ∙ is)

pub returns-else-byte-lt128-clause-err : goal.returns-else-byte-lt128-clause-err
returns-else-byte-lt128-clause-err t c =
    let fits : c.in-Some.byte.now < 256 = Fits-lt-pow (subst (λ (bs : List ℕ). Fits w8 (get_or bs 0 0)) c.in-Some.ensures.cases.0 (c.type_inv.bytes 0)) in
    let next : quantity_after c.args.more c.args.so_far c.args.bytes.now ≡ quantity_after (c.args.more - 1) (c.args.so_far * 128 + c.from.result)
    c.in-Some.rest.now =
    more_bytes c.args.more c.args.so_far c.args.bytes.now c.in-Some.byte.now c.in-Some.rest.now (omega arith) c.in-Some.ensures.cases.0 (omega arith) fits
    ∙ ap (λ (n : ℕ). quantity_after (c.args.more - 1) (c.args.so_far * 128 + n) c.in-Some.rest.now) (sym c.from.ensures) in
    if_err_more c.read_quantity_after.result c.read_quantity_after.ensures.err (λ why is. next ∙ is)
