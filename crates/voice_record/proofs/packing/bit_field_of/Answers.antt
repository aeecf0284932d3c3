-- The table of the code is the bit table.
use Rattle.std.proofs.Common.{◌≡◌, ℕ, ◌+◌, ◌-◌, ◌*◌, ◌/◌, ◌%◌, ◌<◌, ◌≤◌, get_or, ap, arith, sym}
use Rattle.voice_record.specs.Packing.{row_of, operator_rows, common_rows}
use Rattle.voice_record.proofs.Rows.{operator_row, common_row, places_of}
use Rattle.voice_record.proofs.packing.bit_field_of.Goals as goal

-- what the code reads, by the rows
operator : (n : ℕ) → n < 126 → let own = get_or operator_rows (n % 21) (0, 0, 0) in
    (17 * (n / 21) + own.0 ≡ (row_of n).byte) × (own.1 ≡ (row_of n).shift) × (own.2 ≡ (row_of n).width) × (17 * (n / 21) + own.0 < 128) × (own.1 + own.2 ≤ 7)
operator n l =
    let e = operator_row n l in
    let p = places_of n (omega arith) in (
      ap (λ r. r.byte) (sym e),
      ap (λ r. r.shift) (sym e),
      ap (λ r. r.width) (sym e),
      rw e at p.byte,
      rw e at p.end,
    )

common : (n : ℕ) → 126 ≤ n → n < 155 → let own = get_or common_rows (n - 126) (0, 0, 0) in
    (own.0 ≡ (row_of n).byte) × (own.1 ≡ (row_of n).shift) × (own.2 ≡ (row_of n).width) × (own.0 < 128) × (own.1 + own.2 ≤ 7)
common n l small =
    let e = common_row n l in
    let p = places_of n small in (
      rw e (omega arith),
      ap (λ r. r.shift) (sym e),
      ap (λ r. r.width) (sym e),
      (let b = rw e at p.byte in omega (arith, b)),
      rw e at p.end,
    )

pub overflow_add-result : goal.overflow_add-result
overflow_add-result c = let h = (operator c.args.field c.if-field-lt-PITCH_RATES.true).3 in omega (arith, h)

pub returns-then-field-lt-PITCH_RATES-clause-byte : goal.returns-then-field-lt-PITCH_RATES-clause-byte
returns-then-field-lt-PITCH_RATES-clause-byte c = (operator c.args.field c.if-field-lt-PITCH_RATES.true).0

pub returns-then-field-lt-PITCH_RATES-clause-shift : goal.returns-then-field-lt-PITCH_RATES-clause-shift
returns-then-field-lt-PITCH_RATES-clause-shift c = (operator c.args.field c.if-field-lt-PITCH_RATES.true).1

pub returns-then-field-lt-PITCH_RATES-clause-width : goal.returns-then-field-lt-PITCH_RATES-clause-width
returns-then-field-lt-PITCH_RATES-clause-width c = (operator c.args.field c.if-field-lt-PITCH_RATES.true).2

pub returns-then-field-lt-PITCH_RATES-clause-inside : goal.returns-then-field-lt-PITCH_RATES-clause-inside
returns-then-field-lt-PITCH_RATES-clause-inside c = (operator c.args.field c.if-field-lt-PITCH_RATES.true).3

pub returns-then-field-lt-PITCH_RATES-clause-end : goal.returns-then-field-lt-PITCH_RATES-clause-end
returns-then-field-lt-PITCH_RATES-clause-end c = (operator c.args.field c.if-field-lt-PITCH_RATES.true).4

pub returns-else-field-lt-PITCH_RATES-clause-byte : goal.returns-else-field-lt-PITCH_RATES-clause-byte
returns-else-field-lt-PITCH_RATES-clause-byte c = (common c.args.field c.if-field-lt-PITCH_RATES.false (omega arith)).0

pub returns-else-field-lt-PITCH_RATES-clause-shift : goal.returns-else-field-lt-PITCH_RATES-clause-shift
returns-else-field-lt-PITCH_RATES-clause-shift c = (common c.args.field c.if-field-lt-PITCH_RATES.false (omega arith)).1

pub returns-else-field-lt-PITCH_RATES-clause-width : goal.returns-else-field-lt-PITCH_RATES-clause-width
returns-else-field-lt-PITCH_RATES-clause-width c = (common c.args.field c.if-field-lt-PITCH_RATES.false (omega arith)).2

pub returns-else-field-lt-PITCH_RATES-clause-inside : goal.returns-else-field-lt-PITCH_RATES-clause-inside
returns-else-field-lt-PITCH_RATES-clause-inside c = (common c.args.field c.if-field-lt-PITCH_RATES.false (omega arith)).3

pub returns-else-field-lt-PITCH_RATES-clause-end : goal.returns-else-field-lt-PITCH_RATES-clause-end
returns-else-field-lt-PITCH_RATES-clause-end c = (common c.args.field c.if-field-lt-PITCH_RATES.false (omega arith)).4
