use Rattle.std.proofs.Common.{◌≡◌, ℕ, ◌+◌, ◌*◌, ◌-◌, ◌^◌, ◌≤◌, get_or, refl, ◌∙◌, sym, ap, arith, below_more, true, false}
use Rattle.std.specs.Prelude.{Some, None, nat_le, ◌&&◌, if◌then◌else◌}
use Rattle.std.proofs.lemmas.Bool.{le-leb}
use Rattle.std.proofs.lemmas.List.{take_all}
use Rattle.std.specs.Int.{IsInRange}
use Rattle.std.specs.Str.Parse.{digits_value}
use Rattle.plain_text.proofs.Numbers.{number_read, not_digits, not_small, one_more_digit}
use Rattle.tool_core.proofs.seed.seed_of.Goals as goal

kept : (value most : ℕ) → value ≤ most → (if nat_le 0 value && nat_le value most then Some value else None) ≡ Some value
kept value most within = rw (le-leb 0 value (omega arith), le-leb value most within) refl

pub returns-then-not-is_digit : goal.returns-then-not-is_digit
returns-then-not-is_digit c =
    sym (not_digits 0 (2 ^ 64 - 1) c.loop-digit.digit-index c.args.text.now c.loop-digit-test.true
    (λ digit. let is : c.is_digit.result ≡ true = c.is_digit.ensures.1 digit in absurd (cc (is, c.if-not-is_digit.true))))

pub returns-then-value-from : goal.returns-then-value-from
returns-then-value-from c =
    let digit : IsInRange 48 57 (get_or c.args.text.now c.loop-digit.digit-index 0) = c.is_digit.ensures.0 c.if-not-is_digit.false in
    let next = one_more_digit c.loop-digit.digit-index c.loop-digit.value c.args.text.now c.loop-digit-test.true digit c.loop-digit.invariant.value in
    sym (not_small 0 (2 ^ 64 - 1) (c.loop-digit.digit-index + 1) (c.loop-digit.value * 10 + c.from.result) c.args.text.now
    (ap (λ d. c.loop-digit.value * 10 + d) c.from.ensures ∙ next) (omega (arith, c.if-value-from.true, c.from-in-loop-digit.ensures)))

pub loop-digit-preserved : goal.loop-digit-preserved
loop-digit-preserved c =
    let digit : IsInRange 48 57 (get_or c.args.text.now c.loop-digit.digit-index 0) = c.is_digit.ensures.0 c.if-not-is_digit.false in
    let next = one_more_digit c.loop-digit.digit-index c.loop-digit.value c.args.text.now c.loop-digit-test.true digit c.loop-digit.invariant.value in
    record {
      within = omega (arith, c.if-value-from.false, c.from-in-loop-digit.ensures);
      value = ap (λ d. c.loop-digit.value * 10 + d) c.from.ensures ∙ next;
      digits = below_more _ _ c.loop-digit.invariant.digits digit;
    }

pub returns : goal.returns
returns c =
    let i = c.loop-digit.invariant in
    let none : c.is_empty.result ≡ false = c.if-is_empty.false in
    sym (number_read 0 (2 ^ 64 - 1) c.loop-digit.value c.args.text.now (grind (arith, c.is_empty.ensures)) (sym (c.if-has_padding.ensures))
    (λ k below. i.digits k (omega arith))
    (i.value ∙ ap (digits_value 10) (take_all _ _ c.loop-digit-test.false))
    ∙ kept c.loop-digit.value (2 ^ 64 - 1) i.within)
