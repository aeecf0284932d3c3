-- What a message without a fault is like, place by place, and the other way round.
use Rattle.std.proofs.Common.{◌≡◌, ℕ, ◌+◌, ◌-◌, ◌<◌, ◌≤◌, Bool, true, false, nat_le, List, length, get_or, arith, refl, subst, inl, inr, Some, None}
use Rattle.std.specs.declared.option.Option.{Option}
use Rattle.std.specs.Option.{option_or, option_map}
use Rattle.std.specs.List.{slice_range, position, position_or_len}
use Rattle.std.proofs.lemmas.Bool.{leb-false, ltb-false, eqb-true, eq-eqb, lt-leb, lt-ltb, le-ltb, cases_lt, or_parts, not-false}
use Rattle.std.proofs.lemmas.List.Edits.{length-between, get_or-between}
use Rattle.std.proofs.lemmas.List.Sums.{fails_before_first, position_or_len_is}
use Rattle.sysex_frame.specs.FrameFault.{where_true, not_framed, not_yamaha, data_byte, too_short, first_fault}
use Rattle.sysex_frame.specs.Halves.{early_fault, later_fault}
use Rattle.sysex_frame.specs.declared.frame.FrameFault.{FrameFault}
use Rattle.sysex_frame.specs.declared.frame.FrameFault.TheVariants.{DataByte}

-- ---- options and rows
pub none_parts : {A : Type 0} (a b : Option A) → option_or a b ≡ None → (a ≡ None) × (b ≡ None)
none_parts None b h = (refl, h)
none_parts (Some x) b h = absurd (cc)

pub option_or_assoc : {A : Type 0} (a b c : Option A) → option_or (option_or a b) c ≡ option_or a (option_or b c)
option_or_assoc None b c = refl
option_or_assoc (Some x) b c = refl

pub row_free : (b : Bool) (f : FrameFault) → where_true b f ≡ None → b ≡ false
row_free true f h = absurd (cc)
row_free false f h = refl

pub row_none : (b : Bool) (f : FrameFault) → b ≡ false → where_true b f ≡ None
row_none b f h = rw h

-- the first four rows and the others are the whole table
pub by_parts : (message : List ℕ) → first_fault message ≡ option_or (early_fault message) (later_fault message)
unfolding first_fault
by_parts message =
    elim (not_framed message) as (λ a. option_or a (option_or (not_yamaha message)
        (option_or (data_byte message) (option_or (too_short message) (later_fault message))))
    ≡ option_or (option_or a (option_or (not_yamaha message) (option_or (data_byte message) (option_or (too_short message) None)))) (later_fault message)) [
      | None ↦ elim (not_yamaha message) as (λ a. option_or a (option_or (data_byte message) (option_or (too_short message) (later_fault message)))
          ≡ option_or (option_or a (option_or (data_byte message) (option_or (too_short message) None))) (later_fault message)) [
            | None ↦ elim (data_byte message) as (λ a. option_or a (option_or (too_short message) (later_fault message)) ≡ option_or
                (option_or a (option_or (too_short message) None)) (later_fault message)) [
              | None ↦ elim (too_short message) as (λ a. option_or a (later_fault message) ≡ option_or (option_or a None) (later_fault message))
                  [ None ↦ refl | Some x ↦ refl ]
              | Some x ↦ refl
            ]
            | Some x ↦ refl
          ]
      | Some x ↦ refl
    ]

-- ---- the ends and the data bytes
pub record IsPlain (message : List ℕ) : Type 0 where
  pub long : 5 ≤ length message
  pub first : get_or message 0 0 ≡ 0xF0
  pub manufacturer : get_or message 1 0 ≡ 0x43
  pub bytes : (k : ℕ) → 2 ≤ k → k + 1 < length message → get_or message k 0 < 128
  pub ended : get_or message (length message - 1) 0 ≡ 0xF7

no_position : (xs : List ℕ) → option_map (λ k. DataByte (k + 2)) (position (λ b. nat_le 128 b) xs) ≡ None → (k : ℕ) → k < length xs → get_or xs k 0 < 128
no_position xs h k l =
    elim (cases_lt (position_or_len (λ b. nat_le 128 b) xs) (length xs)) [
      | inl a ↦ absurd (let e = lt-ltb _ _ a in let g = rw e at h in cc)
      | inr b ↦ leb-false _ _ (fails_before_first (λ b. nat_le 128 b) xs k 0 (omega arith))
    ]

position_none : (xs : List ℕ) → ((k : ℕ) → k < length xs → get_or xs k 0 < 128) → option_map (λ k. DataByte (k + 2)) (position (λ b. nat_le 128 b) xs) ≡ None
position_none xs h =
    let e : position_or_len (λ b. nat_le 128 b) xs ≡ length xs =
    position_or_len_is (λ b. nat_le 128 b) xs (length xs) 0 (omega arith) (λ k l. lt-leb _ _ (h k l)) (λ l. absurd (omega (arith, l))) in
    rw e (rw (le-ltb (length xs) (length xs) (omega arith)))

pub plain_from_none : (message : List ℕ) → early_fault message ≡ None → IsPlain message
plain_from_none message h =
    let one = none_parts (not_framed message) _ h in
    let two = none_parts (not_yamaha message) _ one.1 in
    let three = none_parts (data_byte message) _ two.1 in
    let four = none_parts (too_short message) None three.1 in
    let long : 5 ≤ length message = ltb-false _ _ (row_free _ _ four.0) in
    let ends = or_parts _ _ (row_free _ _ one.0) in
    let both = or_parts _ _ ends.1 in
    record {
      long = long;
      first = eqb-true _ _ (not-false _ both.0);
      manufacturer = eqb-true _ _ (not-false _ (row_free _ _ two.0));
      bytes = λ k two_on below.
          let size : length (slice_range message 2 (length message - 1)) ≡ length message - 1 - 2 =
              length-between message 2 (length message - 1) (omega arith) in
          let there : get_or (slice_range message 2 (length message - 1)) (k - 2) 0 ≡ get_or message (2 + (k - 2)) 0 =
              get_or-between message 2 (length message - 1) (k - 2) 0 (omega arith) in
          let same : 2 + (k - 2) ≡ k = omega arith in
          let small = no_position (slice_range message 2 (length message - 1)) three.0 (k - 2) (omega arith) in
          subst (λ j. get_or message j 0 < 128) same (rw there at small);
      ended = eqb-true _ _ (not-false _ both.1);
    }

pub none_from_plain : (message : List ℕ) → IsPlain message → early_fault message ≡ None
none_from_plain message p =
    let framed : not_framed message ≡ None =
    row_none _ _ (rw (le-ltb _ _ (let l = p.long in let m : 2 ≤ length message = omega arith in m), eq-eqb _ _ p.first, eq-eqb _ _ p.ended)) in
    let made : not_yamaha message ≡ None = row_none _ _ (rw (eq-eqb _ _ p.manufacturer)) in
    let size : length (slice_range message 2 (length message - 1)) ≡ length message - 1 - 2 = length-between message 2 (length message - 1) (omega arith) in
    let clean : data_byte message ≡ None =
    position_none (slice_range message 2 (length message - 1)) (λ k l. rw (get_or-between message 2 (length message - 1) k 0 (omega arith))
        (p.bytes (2 + k) (omega arith) (omega arith))) in
    let long : too_short message ≡ None = row_none _ _ (le-ltb _ _ p.long) in
    rw (framed, made, clean, long)
