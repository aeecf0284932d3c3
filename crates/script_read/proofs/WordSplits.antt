-- The first word of a line.
use Rattle.std.proofs.Common.{◌≡◌, ℕ, ◌<◌, List, [], ◌∷◌, length, zero, suc, Bool, true, false, refl, ap, ◌∙◌, arith, sym, lt-ltb, eqb→eq}
use Rattle.std.proofs.lemmas.List.Splits.{join_with_byte-slice_split}
use Rattle.std.specs.Prelude.{◌==◌, filter, take, drop}
use Rattle.std.proofs.Math.Seq.{drop-length, take-nil}
use Rattle.std.specs.List.{join_with_byte}
use Rattle.plain_text.specs.Split.{split}
use Rattle.plain_text.specs.Words.{is_nonempty}
use Rattle.script_read.specs.Words.{after_word, text_after, words_of}

pub word_first : (line word after : List ℕ) → split 32 line ≡ word ∷ split 32 after → 0 < length word → words_of line ≡ word ∷ words_of after
unfolding words_of
word_first line word after e some = ap (filter is_nonempty) e ∙ rw (lt-ltb 0 (length word) some) refl

pub word_skipped : (line after : List ℕ) (word : List ℕ) → split 32 line ≡ word ∷ split 32 after → length word ≡ 0 → words_of line ≡ words_of after
unfolding words_of
word_skipped line after word e none = ap (filter is_nonempty) e ∙ rw none refl

pub word_last : (line : List ℕ) → split 32 line ≡ line ∷ [] → 0 < length line → words_of line ≡ line ∷ []
unfolding words_of
word_last line e some = ap (filter is_nonempty) e ∙ rw (lt-ltb 0 (length line) some) refl

pub word_none : (line : List ℕ) → split 32 line ≡ line ∷ [] → length line ≡ 0 → words_of line ≡ []
unfolding words_of
word_none line e none = ap (filter is_nonempty) e ∙ rw none refl

-- a line without bytes has no words
pub none_of_empty : words_of [] ≡ []
unfolding words_of
none_of_empty = refl

-- ---- the text after the first word

pub text_first : (line word after : List ℕ) → split 32 line ≡ word ∷ split 32 after → 0 < length word → text_after line ≡ after
unfolding text_after
text_first line word after e some =
    ap (λ (ps : List (List ℕ)). join_with_byte 32 (after_word ps)) e ∙ rw (lt-ltb 0 (length word) some) (join_with_byte-slice_split 32 after)

pub text_skipped : (line after word : List ℕ) → split 32 line ≡ word ∷ split 32 after → length word ≡ 0 → text_after line ≡ text_after after
unfolding text_after
text_skipped line after word e none = ap (λ (ps : List (List ℕ)). join_with_byte 32 (after_word ps)) e ∙ rw none refl

pub text_last : (line : List ℕ) → split 32 line ≡ line ∷ [] → 0 < length line → text_after line ≡ []
unfolding text_after
text_last line e some = ap (λ (ps : List (List ℕ)). join_with_byte 32 (after_word ps)) e ∙ rw (lt-ltb 0 (length line) some) refl

-- nothing stands after a whole text
pub nothing_after : (k : ℕ) (text : List ℕ) → take k (drop (length text) text) ≡ []
nothing_after k text = ap (take k) (drop-length text) ∙ take-nil k

-- whether a text is empty, by its length
pub is_some : (n : ℕ) (empty : Bool) → empty ≡ (n == 0) → empty ≡ false → 0 < n
is_some zero empty is e = absurd (cc)
is_some (suc n) empty is e = omega arith

pub is_none : (n : ℕ) (empty : Bool) → empty ≡ (n == 0) → empty ≡ true → n ≡ 0
is_none n empty is e = eqb→eq n 0 (rw (sym is ∙ e) tt)
