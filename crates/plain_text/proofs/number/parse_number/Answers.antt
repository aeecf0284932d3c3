use Rattle.std.proofs.Common.{◌≡◌, ◌+◌, ◌*◌, get_or, ◌∙◌, sym, ap, arith, below_more, true, false}
use Rattle.std.proofs.lemmas.List.{take_all}
use Rattle.std.specs.Int.{IsInRange}
use Rattle.std.specs.Str.Parse.{digits_value}
use Rattle.plain_text.proofs.Numbers.{number_read, not_digits, not_small, one_more_digit}
use Rattle.plain_text.proofs.number.parse_number.Goals as goal

pub returns-then-not-is_digit-clause-value : goal.returns-then-not-is_digit-clause-value
returns-then-not-is_digit-clause-value c =
    sym (not_digits c.args.least c.args.most c.loop-digit.digit-index c.args.text.now c.loop-digit-test.true
    (λ digit. let is : c.is_digit.result ≡ true = c.is_digit.ensures.1 digit in absurd (cc (is, c.if-not-is_digit.true))))

pub returns-then-value-from-clause-value : goal.returns-then-value-from-clause-value
returns-then-value-from-clause-value c =
    let digit : IsInRange 48 57 (get_or c.args.text.now c.loop-digit.digit-index 0) = c.is_digit.ensures.0 c.if-not-is_digit.false in
    let next = one_more_digit c.loop-digit.digit-index c.loop-digit.value c.args.text.now c.loop-digit-test.true digit c.loop-digit.invariant.value in
    sym (not_small c.args.least c.args.most (c.loop-digit.digit-index + 1) (c.loop-digit.value * 10 + c.from.result) c.args.text.now
    (ap (λ d. c.loop-digit.value * 10 + d) c.from.ensures ∙ next) (omega arith))

pub loop-digit-preserved : goal.loop-digit-preserved
loop-digit-preserved c =
    let digit : IsInRange 48 57 (get_or c.args.text.now c.loop-digit.digit-index 0) = c.is_digit.ensures.0 c.if-not-is_digit.false in
    let next = one_more_digit c.loop-digit.digit-index c.loop-digit.value c.args.text.now c.loop-digit-test.true digit c.loop-digit.invariant.value in
    record {
      within = omega arith;
      value = ap (λ d. c.loop-digit.value * 10 + d) c.from.ensures ∙ next;
      digits = below_more _ _ c.loop-digit.invariant.digits digit;
    }

pub returns-clause-value : goal.returns-clause-value
returns-clause-value c =
    let i = c.loop-digit.invariant in
    let none : c.is_empty.result ≡ false = c.if-is_empty.false in
    c.kept.ensures.value
    ∙ sym (number_read c.args.least c.args.most c.loop-digit.value c.args.text.now (grind (arith, c.is_empty.ensures)) (sym (c.if-has_padding.ensures))
    (λ k below. i.digits k (omega arith))
    (i.value ∙ ap (digits_value 10) (take_all _ _ c.loop-digit-test.false)))
