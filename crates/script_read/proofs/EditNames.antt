-- Names: filled with spaces, and of bytes up to 127.
use Rattle.std.proofs.Common.{◌≡◌, ℕ, ◌-◌, List, [], ◌∷◌, ◌++◌, length, zero, suc, Bool, true, false, refl, ap, ◌∙◌, arith}
use Rattle.std.specs.Prelude.{◌&&◌, not, nat_lt, nat_le, Option, Some, None, replicate}
use Rattle.std.specs.List.{list_all, prefix_len}
use Rattle.std.proofs.lemmas.Bool.{leb-true, le-ltb}
use Rattle.std.proofs.lemmas.List.{drop-replicate}
use Rattle.std.proofs.lemmas.List.Folds.{list_all-append}
use borrow.Rule.Slice.PartMut.{put_mid}
use Rattle.editor.specs.Names.{first_high}
use Rattle.script_read.specs.EditLines.{is_name_byte}

pub filled_name : (text : List ℕ) → put_mid 0 (length text) (replicate 10 32) text ≡ text ++ replicate (10 - length text) 32
filled_name text = ap (λ (xs : List ℕ). text ++ xs) (drop-replicate (length text) 10 32)

pub true_and : (x y : Bool) → x ≡ true → y ≡ (x && y)
true_and true y is = refl
true_and false y is = absurd (cc)

first_true : (x y : Bool) → (x && y) ≡ true → x ≡ true
first_true true y is = refl
first_true false y is = absurd (cc)

second_true : (x y : Bool) → (x && y) ≡ true → y ≡ true
second_true true y is = is
second_true false y is = absurd (cc)

low_byte : (byte : ℕ) → is_name_byte byte ≡ true → nat_lt 127 byte ≡ false
low_byte byte is = le-ltb 127 byte (let most = leb-true byte 126 (second_true (nat_le 32 byte) (nat_le byte 126) is) in omega arith)

all_low : (name : List ℕ) → list_all is_name_byte name ≡ true → prefix_len (λ byte. not (nat_lt 127 byte)) name ≡ length name
all_low [] is = refl
all_low (byte ∷ name) is =
    let rest : prefix_len (λ b. not (nat_lt 127 b)) name ≡ length name = all_low name (second_true (is_name_byte byte) (list_all is_name_byte name) is) in
    rw (low_byte byte (first_true (is_name_byte byte) (list_all is_name_byte name) is)) (omega (arith, rest))

spaces : (k : ℕ) → list_all is_name_byte (replicate k 32) ≡ true
spaces zero = refl
spaces (suc k) = spaces k

none_high : (name : List ℕ) → list_all is_name_byte name ≡ true → first_high name ≡ None
none_high name is = rw (all_low name is) (rw (le-ltb (length name) (length name) (omega arith)) refl)

-- a name that is filled with spaces
pub filled_low : (short : Bool) (text : List ℕ) (k : ℕ) → (short && list_all is_name_byte text) ≡ true → first_high (text ++ replicate k 32) ≡ None
filled_low short text k is =
    none_high (text ++ replicate k 32) (list_all-append is_name_byte text (replicate k 32) ∙ rw (second_true short (list_all is_name_byte text) is) (spaces k))

pub no_place : {first : Option ℕ} (place : ℕ) → first ≡ None → first ≡ Some place → ⊥
no_place place none some = cc
