-- The lines of a journal, entry by entry.
use Rattle.std.proofs.Common.{◌≡◌, ℕ, zero, suc, ◌+◌, ◌<◌, List, [], ◌∷◌, ◌++◌, length, map, take, drop, get_or, refl, sym, ap, ◌∙◌, subst, arith, append_assoc}
use Rattle.std.proofs.Common.{append-nil, length-drop}
use Rattle.std.specs.Prelude.{All}
use Rattle.std.proofs.lemmas.List.{map-append, length-map, take_more, take-append-drop, get_or-drop}
use Rattle.std.proofs.lemmas.Grind.{flat_map-append}
use Rattle.command_set.specs.declared.entry.Logged.{Logged}
use Rattle.command_set.specs.Entries.{LoggedData, logged_data, journal_data}
use Rattle.take_files.specs.Files.{order_line}
use Rattle.turns.specs.Written.{order_lines}

-- one entry more
pub lines_push : (items : List Logged) (i : ℕ) (x : Logged) → i < length items → x ≡ get_or items i x
    → order_lines (journal_data (take (i + 1) items)) ≡ order_lines (journal_data (take i items)) ++ order_line (logged_data x)
lines_push items i x lt is =
    let e : take (i + 1) items ≡ take i items ++ x ∷ [] = take_more items i x lt ∙ ap (λ (y : Logged). take i items ++ y ∷ []) (sym is) in
    ap (λ (xs : List Logged). order_lines (journal_data xs)) e ∙ ap order_lines (map-append logged_data (take i items) (x ∷ []))
    ∙ flat_map-append order_line (journal_data (take i items)) (logged_data x ∷ [])
    ∙ ap (λ (xs : List ℕ). order_lines (journal_data (take i items)) ++ xs) (append-nil (order_line (logged_data x)))

-- what comes before an entry, the entry, and what follows it
pub lines_split : (items : List Logged) (i : ℕ) (x : Logged) → i < length items → x ≡ get_or items i x
    → order_lines (journal_data items) ≡ (order_lines (journal_data (take i items)) ++ order_line (logged_data x))
    ++ order_lines (journal_data (drop (i + 1) items))
lines_split items i x lt is =
    ap (λ (xs : List Logged). order_lines (journal_data xs)) (sym (take-append-drop (i + 1) items))
    ∙ ap order_lines (map-append logged_data (take (i + 1) items) (drop (i + 1) items))
    ∙ flat_map-append order_line (journal_data (take (i + 1) items)) (journal_data (drop (i + 1) items))
    ∙ ap (λ (xs : List ℕ). xs ++ order_lines (journal_data (drop (i + 1) items))) (lines_push items i x lt is)

data_after : (n : ℕ) (items : List Logged) → journal_data (drop n items) ≡ drop n (journal_data items)
data_after zero items = refl
data_after (suc n) [] = refl
data_after (suc n) (x ∷ items) = data_after n items

-- the entries from a number on
pub lines_more : (before journal : List LoggedData) (items new : List Logged) (n : ℕ) → journal_data items ≡ journal → take n journal ≡ before
    → new ≡ drop n items
    → order_lines journal ≡ order_lines before ++ order_lines (journal_data new)
lines_more before journal items new n same prefix is =
    let back : drop n journal ≡ journal_data new = sym (ap journal_data is ∙ data_after n items ∙ ap (drop n) same) in
    ap order_lines (sym (take-append-drop n journal)) ∙ flat_map-append order_line (take n journal) (drop n journal)
    ∙ (λ i. order_lines (prefix i) ++ order_lines (back i))

pub after_all : (P : LoggedData → Type 0) (journal : List LoggedData) (items new : List Logged) (n : ℕ) → journal_data items ≡ journal → new ≡ drop n items
    → All P journal → All P (journal_data new)
after_all P journal items new n same is all =
    subst (All P) (sym (ap journal_data is ∙ data_after n items ∙ ap (drop n) same))
    (λ k d lt. let l = length-drop n journal in subst P (sym (get_or-drop n journal k d)) (all (n + k) d (omega (arith, l, lt))))
