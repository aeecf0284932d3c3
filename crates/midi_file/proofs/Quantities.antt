-- One more byte of a variable-length quantity.
use Rattle.std.proofs.Common.{◌≡◌, ℕ, zero, suc, ◌+◌, ◌-◌, ◌*◌, ◌^◌, ◌%◌, ◌<◌, ◌≤◌, List, [], ◌∷◌, refl, ap, sym, ◌∙◌, subst, arith, pow-suc}
use Rattle.std.proofs.Common.{mul-le-mul_left, mul-le-mul_right, mul_assoc, mul_comm, lt-ltb}
use Rattle.std.proofs.lemmas.Bool.{le-ltb}
use Rattle.std.proofs.Math.Nat.{one-le-pow}
use Rattle.script_outcome.specs.declared.fault.ScriptKind.TheVariants as kind
use Rattle.midi_file.specs.Bytes.{Got, Lacks, quantity_after}

pub no_more : (more so_far : ℕ) (bytes : List ℕ) → more ≡ 0 → quantity_after more so_far bytes ≡ Lacks kind.Event
unfolding quantity_after
no_more zero so_far bytes e = refl
no_more (suc more) so_far bytes e = absurd (omega arith)

pub none_left : (more so_far : ℕ) (bytes : List ℕ) → 0 < more → bytes ≡ [] → quantity_after more so_far bytes ≡ Lacks kind.Cut
unfolding quantity_after
none_left zero so_far bytes some e = absurd (omega arith)
none_left (suc more) so_far bytes some e = rw e refl

pub last_byte : (more so_far : ℕ) (bytes : List ℕ) (byte : ℕ) (rest : List ℕ) → 0 < more → bytes ≡ byte ∷ rest → byte < 128
    → quantity_after more so_far bytes ≡ Got (so_far * 128 + byte % 128) rest
unfolding quantity_after
last_byte zero so_far bytes byte rest some e low = absurd (omega arith)
last_byte (suc more) so_far bytes byte rest some e low =
    let same : byte % 128 ≡ byte = omega arith in
    rw (e, same, lt-ltb byte 128 low) refl

pub more_bytes : (more so_far : ℕ) (bytes : List ℕ) (byte : ℕ) (rest : List ℕ) → 0 < more → bytes ≡ byte ∷ rest → 128 ≤ byte → byte < 256
    → quantity_after more so_far bytes ≡ quantity_after (more - 1) (so_far * 128 + byte % 128) rest
unfolding quantity_after
more_bytes zero so_far bytes byte rest some e high fits = absurd (omega arith)
more_bytes (suc more) so_far bytes byte rest some e high fits =
    let same : byte % 128 ≡ byte - 128 = omega arith in
    let less : suc more - 1 ≡ more = omega arith in
    rw (e, same, less, le-ltb byte 128 high) refl

-- a quantity of four bytes has 28 bits
pub has_room : (more so_far : ℕ) → 0 < more → (so_far + 1) * 128 ^ more ≤ 268435456 → so_far < 2097152
has_room zero so_far some room = absurd (omega arith)
has_room (suc more) so_far some room =
    let one : 1 ≤ 128 ^ more = one-le-pow more 128 (omega arith) in
    let power : 128 ^ suc more ≡ 128 ^ more * 128 = pow-suc 128 more in
    let moved : (so_far + 1) * 128 ^ suc more ≡ ((so_far + 1) * 128) * 128 ^ more =
    ap (λ (n : ℕ). (so_far + 1) * n) (power ∙ mul_comm (128 ^ more) 128) ∙ sym (mul_assoc (so_far + 1) 128 (128 ^ more)) in
    let least : ((so_far + 1) * 128) * 1 ≤ ((so_far + 1) * 128) * 128 ^ more = mul-le-mul_left ((so_far + 1) * 128) one in
    omega arith

pub room_left : (more so_far bits : ℕ) → 0 < more → bits < 128 → (so_far + 1) * 128 ^ more ≤ 268435456
    → (so_far * 128 + bits + 1) * 128 ^ (more - 1) ≤ 268435456
room_left zero so_far bits some small room = absurd (omega arith)
room_left (suc more) so_far bits some small room =
    let less : suc more - 1 ≡ more = omega arith in
    let power : 128 ^ suc more ≡ 128 ^ more * 128 = pow-suc 128 more in
    let moved : (so_far + 1) * 128 ^ suc more ≡ ((so_far + 1) * 128) * 128 ^ more =
    ap (λ (n : ℕ). (so_far + 1) * n) (power ∙ mul_comm (128 ^ more) 128) ∙ sym (mul_assoc (so_far + 1) 128 (128 ^ more)) in
    let below : so_far * 128 + bits + 1 ≤ (so_far + 1) * 128 = omega arith in
    let least : (so_far * 128 + bits + 1) * 128 ^ more ≤ ((so_far + 1) * 128) * 128 ^ more = mul-le-mul_right (128 ^ more) below in
    subst (λ (n : ℕ). (so_far * 128 + bits + 1) * 128 ^ n ≤ 268435456) (sym less) (omega arith)
