-- Which faults of a text are seen before more comes.
use Rattle.std.proofs.Common.{◌≡◌, ◌≢◌, ◌⊎◌, inl, inr, ℕ, ◌+◌, ◌<◌, ◌≤◌, ◌==◌, Bool, true, false, List, [], ◌∷◌, ◌++◌, length, refl, sym, ◌∙◌, ap}
use Rattle.std.proofs.Common.{subst, arith, append_assoc, cond}
use Rattle.std.specs.Prelude.{All}
use Rattle.std.proofs.lemmas.Bool.{cases_lt, eq-eqb, eqb-true}
use Rattle.std.proofs.lemmas.List.Elements.{All-nil, All-cons, All-head, All-tail}
use Rattle.std.proofs.lemmas.List.Splits.{length-slice_split}
use Rattle.std.proofs.lemmas.List.Sums.{sum_by-append}
use Rattle.plain_text.specs.Split.{split}
use Rattle.command_set.specs.Entries.{LoggedData}
use Rattle.take_files.specs.Files.{entry_text, header_text, order, order_header, order_line}
use Rattle.take_files.specs.Orders.{BeginsWith, HasFault, HasNoHeader, IsOrdered, IsRefused, IsWritable}
use Rattle.take_files.specs.Chunks.{IsSeen, line_feeds, open_bytes}
use Rattle.take_files.specs.declared.read.OrderKind.{OrderKind}
use Rattle.take_files.specs.declared.read.OrderKind.TheVariants.{Line, Block, Script, Sequence, Many}
use Rattle.take_files.proofs.Laws.{lines, order_more, writable}
use Rattle.take_files.proofs.Lengths.{entry_short, header_short}
use Rattle.command_set.proofs.WordBytes.{HasNo}
use Rattle.take_files.proofs.Lines.{cut_text, entry_whole, header_begins, header_more, header_whole, line_begins, line_more}

-- ---- line feeds

pub feeds_append : (a b : List ℕ) → line_feeds (a ++ b) ≡ line_feeds a + line_feeds b
feeds_append a b = sum_by-append (λ byte. cond (byte == 10) 1 0) a b

feeds_first : (byte : ℕ) (text : List ℕ) → line_feeds (byte ∷ text) ≡ cond (byte == 10) 1 0 + line_feeds text
feeds_first byte text =
    let e : line_feeds (byte ∷ text) ≡ (0 + cond (byte == 10) 1 0) + line_feeds text = feeds_append (byte ∷ []) text in omega (arith, e)

pub feeds_end : (a b : List ℕ) → line_feeds (a ++ 10 ∷ b) ≡ line_feeds a + 1 + line_feeds b
feeds_end a b =
    let e = feeds_append a (10 ∷ b) in
    let one : line_feeds (10 ∷ b) ≡ 1 + line_feeds b = feeds_first 10 b in
    omega (arith, e, one)

pub none_fed : (text : List ℕ) → HasNo 10 text → line_feeds text ≡ 0
none_fed [] h = refl
none_fed (byte ∷ text) h =
    let other : (byte == 10) ≡ false = All-head (λ b. (b == 10) ≡ false) byte text h in
    rw other (none_fed text (All-tail (λ b. (b == 10) ≡ false) byte text h))

pub has_no_feed : (text : List ℕ) → line_feeds text ≡ 0 → HasNo 10 text
has_no_feed [] e = All-nil (λ b. (b == 10) ≡ false)
has_no_feed (byte ∷ text) e = by (byte == 10) refl (has_no_feed text) where
  count : line_feeds (byte ∷ text) ≡ cond (byte == 10) 1 0 + line_feeds text
  count = feeds_first byte text

  by : (t : Bool) → (byte == 10) ≡ t → (line_feeds text ≡ 0 → HasNo 10 text) → HasNo 10 (byte ∷ text)
  by true is later = let one : ◌≡◌ {A = ℕ} (cond (byte == 10) 1 0) 1 = rw is refl in absurd (omega (arith, e, one, count))
  by false is later =
      let none : ◌≡◌ {A = ℕ} (cond (byte == 10) 1 0) 0 = rw is refl in
      All-cons (λ b. (b == 10) ≡ false) byte text is (later (omega (arith, e, none, count)))

-- a text that is cut, or not, at its first line feed
pub cut_feeds : (text line rest : List ℕ) → split 10 text ≡ line ∷ split 10 rest → line_feeds line ≡ 0
cut_feeds text line rest e =
    let all = length-slice_split (λ byte. byte == 10) text in
    let later = length-slice_split (λ byte. byte == 10) rest in
    let count = ap length e in
    let here = ap line_feeds (cut_text 10 text line rest e) ∙ feeds_end line rest in
    omega (arith, all, later, count, here)

pub uncut_feeds : (text : List ℕ) → split 10 text ≡ text ∷ [] → line_feeds text ≡ 0
uncut_feeds text e =
    let all = length-slice_split (λ byte. byte == 10) text in
    let count = ap length e in
    omega (arith, all, count)

-- the first line of a text that has one
abbrev FirstLine : List ℕ → Type 0
FirstLine text = (line : List ℕ) × (rest : List ℕ) × HasNo 10 line × (text ≡ line ++ 10 ∷ rest)

first_line : (text : List ℕ) → 0 < line_feeds text → FirstLine text
first_line [] some = absurd (omega arith)
first_line (byte ∷ text) some = by (byte == 10) refl (first_line text) where
  count : line_feeds (byte ∷ text) ≡ cond (byte == 10) 1 0 + line_feeds text
  count = feeds_first byte text

  by : (t : Bool) → (byte == 10) ≡ t → (0 < line_feeds text → FirstLine text) → FirstLine (byte ∷ text)
  by true is later = ([], text, All-nil (λ b. (b == 10) ≡ false), ap (λ (b : ℕ). b ∷ text) (eqb-true byte 10 is))
  by false is later =
      let none : ◌≡◌ {A = ℕ} (cond (byte == 10) 1 0) 0 = rw is refl in
      let more = later (omega (arith, some, none, count)) in
      (byte ∷ more.0, more.1, All-cons (λ b. (b == 10) ≡ false) byte more.0 is more.2, ap (λ (bs : List ℕ). byte ∷ bs) more.3)

-- ---- the bytes after the last line feed

open_append : (n : ℕ) (a b : List ℕ) → open_bytes n (a ++ b) ≡ open_bytes (open_bytes n a) b
open_append n [] b = refl
open_append n (byte ∷ a) b = open_append (cond (byte == 10) 0 (n + 1)) a b

pub open_none : (n : ℕ) (text : List ℕ) → HasNo 10 text → open_bytes n text ≡ n + length text
open_none n [] h = omega arith
open_none n (byte ∷ text) h =
    let other : (byte == 10) ≡ false = All-head (λ b. (b == 10) ≡ false) byte text h in
    rw other (let e = open_none (n + 1) text (All-tail (λ b. (b == 10) ≡ false) byte text h) in omega (arith, e))

open_line : (n : ℕ) (line rest : List ℕ) → open_bytes n (line ++ 10 ∷ rest) ≡ open_bytes 0 rest
open_line n line rest = open_append n line (10 ∷ rest)

open_lines : (journal : List LoggedData) (rest : List ℕ) → open_bytes 0 (lines journal ++ rest) ≡ open_bytes 0 rest
open_lines [] rest = refl
open_lines (l ∷ ls) rest =
    ap (open_bytes 0) (append_assoc (order_line l) (lines ls) rest ∙ line_more l (lines ls ++ rest)) ∙ open_line 0 (entry_text l) (lines ls ++ rest)
    ∙ open_lines ls rest

pub open_order : (journal : List LoggedData) (blocks scripts : ℕ) (rest : List ℕ) → open_bytes 0 (order journal blocks scripts ++ rest) ≡ open_bytes 0 rest
open_order journal blocks scripts rest =
    ap (open_bytes 0) (order_more journal blocks scripts rest ∙ header_more blocks scripts (lines journal ++ rest))
    ∙ open_line 0 (header_text blocks scripts) (lines journal ++ rest) ∙ open_lines journal rest

-- ---- the lines of an order

lines_fed : (journal : List LoggedData) → All IsWritable journal → line_feeds (lines journal) ≡ length journal
lines_fed [] w = refl
lines_fed (l ∷ ls) w =
    let here = ap line_feeds (line_more l (lines ls)) ∙ feeds_end (entry_text l) (lines ls) in
    let none = none_fed (entry_text l) (entry_whole l (All-head IsWritable l ls w)) in
    let later = lines_fed ls (All-tail IsWritable l ls w) in
    omega (arith, here, none, later)

pub order_fed : (journal : List LoggedData) (blocks scripts : ℕ) (rest : List ℕ) → IsOrdered journal blocks scripts
    → line_feeds (order journal blocks scripts ++ rest) ≡ length journal + 1 + line_feeds rest
order_fed journal blocks scripts rest h =
    let first = ap line_feeds (order_more journal blocks scripts rest ∙ header_more blocks scripts (lines journal ++ rest))
    ∙ feeds_end (header_text blocks scripts) (lines journal ++ rest) in
    let none = none_fed (header_text blocks scripts) (header_whole blocks scripts (omega (arith, h.few_blocks)) (omega (arith, h.few_scripts))) in
    let more = feeds_append (lines journal) rest in
    let each = lines_fed journal (writable journal blocks scripts h) in
    omega (arith, first, none, more, each)

-- ---- texts without a line feed, and long ones

-- a text with fewer bytes before its first line feed is another
long_differs : (short text rest more : List ℕ) → HasNo 10 text → length short < length text → text ++ more ≢ short ++ 10 ∷ rest
long_differs short [] rest more h l e = absurd (omega (arith, l))
long_differs [] (byte ∷ text) rest more h l e =
    let same : byte ≡ 10 = cc in
    let yes = eq-eqb byte 10 same in
    let no : (byte == 10) ≡ false = All-head (λ b. (b == 10) ≡ false) byte text h in
    absurd (cc)
long_differs (x ∷ short) (byte ∷ text) rest more h l e =
    let later : text ++ more ≡ short ++ 10 ∷ rest = cc in
    long_differs short text rest more (All-tail (λ b. (b == 10) ≡ false) byte text h) (omega (arith, l)) later

no_feed_differs : (text short rest : List ℕ) → line_feeds text ≡ 0 → text ≢ short ++ 10 ∷ rest
no_feed_differs text short rest none e = let some = ap line_feeds e ∙ feeds_end short rest in absurd (omega (arith, none, some))

pub no_line : (text : List ℕ) (l : LoggedData) → line_feeds text ≡ 0 → ¬ BeginsWith text l
no_line text l none b = no_feed_differs text (entry_text l) b.more none (b.spelled ∙ line_more l b.more)

pub no_first : (text : List ℕ) → line_feeds text ≡ 0 → HasNoHeader text
no_first text none blocks scripts more _ _ _ _ e = no_feed_differs text (header_text blocks scripts) more none (e ∙ header_more blocks scripts more)

long_line : (text more : List ℕ) (l : LoggedData) → HasNo 10 text → 8256 < length text → ¬ BeginsWith (text ++ more) l
long_line text more l h long b =
    let short = entry_short l b.writable in
    long_differs (entry_text l) text b.more more h (omega (arith, short, long)) (b.spelled ∙ line_more l b.more)

long_first : (text more : List ℕ) → HasNo 10 text → 8256 < length text → HasNoHeader (text ++ more)
long_first text more h long blocks scripts rest _ few _ least e =
    let short = header_short blocks scripts (omega (arith, few)) (omega (arith, least)) in
    long_differs (header_text blocks scripts) text rest more h (omega (arith, short, long)) (e ∙ header_more blocks scripts rest)

some_bytes : (text more : List ℕ) → 0 < length text → text ++ more ≢ []
some_bytes [] more some e = absurd (omega (arith, some))
some_bytes (byte ∷ text) more some e = absurd (cc)

-- either more has a line feed, or the line that was open is longer
still_open : (n : ℕ) (before more : List ℕ) (line : ℕ) → line ≤ line_feeds before + 1 → 8256 < open_bytes 0 before
    → (line ≤ line_feeds (before ++ more)) ⊎ (8256 < open_bytes 0 (before ++ more))
still_open n before more line at long =
    let count = feeds_append before more in
    elim (cases_lt 0 (line_feeds more)) [
      | inl some ↦ inl (omega (arith, at, count, some))
      | inr none ↦
          let e = open_append 0 before more ∙ open_none (open_bytes 0 before) more (has_no_feed more (omega (arith, none))) in
          inr (omega (arith, long, e))
    ]

-- ---- a line above the longest one

pub long_header : (text more : List ℕ) → line_feeds text ≡ 0 → 8256 < length text → IsSeen (text ++ more) 1 Line
long_header text more none long =
    let h = has_no_feed text none in
    let e = open_none 0 text h in
    (inl (refl, refl, long_first text more h long), still_open 0 text more 1 (omega arith) (omega (arith, long, e)))

pub long_entry : (journal : List LoggedData) (blocks scripts : ℕ) (text more : List ℕ) → IsOrdered journal blocks scripts → line_feeds text ≡ 0
    → 8256 < length text → IsSeen (order journal blocks scripts ++ (text ++ more)) (length journal + 2) Line
long_entry journal blocks scripts text more o none long =
    let h = has_no_feed text none in
    let e = open_order journal blocks scripts text ∙ open_none 0 text h in
    let count = order_fed journal blocks scripts text o in (
      inr (
        journal,
        blocks,
        scripts,
        refl,
        record {
          ordered = o;
          rest = text ++ more;
          some = some_bytes text more (omega (arith, long));
          spelled = refl;
          fault = λ l. long_line text more l h long;
        },
      ),
      subst (λ (bs : List ℕ). (length journal + 2 ≤ line_feeds bs) ⊎ (8256 < open_bytes 0 bs)) (append_assoc (order journal blocks scripts) text more)
          (still_open 0 (order journal blocks scripts ++ text) more (length journal + 2) (omega (arith, count, none)) (omega (arith, long, e))),
    )

-- ---- a line that has ended

begins_more : (text more : List ℕ) (l : LoggedData) → BeginsWith text l → BeginsWith (text ++ more) l
begins_more text more l b = record {
  writable = b.writable;
  more = b.more ++ more;
  spelled = ap (λ (bs : List ℕ). bs ++ more) b.spelled ∙ append_assoc (order_line l) b.more more;
}

-- its fault doesn't change where more comes
fault_more : (kind : OrderKind) (journal : List LoggedData) (blocks scripts : ℕ) (text line rest more : List ℕ) → HasNo 10 line
    → text ≡ line ++ 10 ∷ rest → HasFault kind journal blocks scripts text → HasFault kind journal blocks scripts (text ++ more)
fault_more Line journal blocks scripts text line rest more h e fault =
    λ l b.
    let whole : text ++ more ≡ line ++ 10 ∷ (rest ++ more) = ap (λ (bs : List ℕ). bs ++ more) e ∙ append_assoc line (10 ∷ rest) more in
    let is : entry_text l ≡ line = line_begins line (rest ++ more) l h (subst (λ (bs : List ℕ). BeginsWith bs l) whole b) in
    fault l (record {
      writable = b.writable;
      more = rest;
      spelled = e ∙ ap (λ (bs : List ℕ). bs ++ 10 ∷ rest) (sym is) ∙ sym (line_more l rest);
    })
fault_more Block journal blocks scripts text line rest more h e (l, b, never) = (l, begins_more text more l b, never)
fault_more Script journal blocks scripts text line rest more h e (l, b, has, past) = (l, begins_more text more l b, has, past)
fault_more Sequence journal blocks scripts text line rest more h e (l, b, has, below, never) = (l, begins_more text more l b, has, below, never)
fault_more Many journal blocks scripts text line rest more h e (l, b, follows, full) = (l, begins_more text more l b, follows, full)

-- a first line of another form is one whatever comes
header_more_none : (text line rest more : List ℕ) → HasNo 10 line → text ≡ line ++ 10 ∷ rest → HasNoHeader text → HasNoHeader (text ++ more)
header_more_none text line rest more h e never blocks scripts later some few least most is =
    let whole : line ++ 10 ∷ (rest ++ more) ≡ order_header blocks scripts ++ later =
    sym (ap (λ (bs : List ℕ). bs ++ more) e ∙ append_assoc line (10 ∷ rest) more) ∙ is in
    let same : header_text blocks scripts ≡ line =
    header_begins line (rest ++ more) later blocks scripts h (omega (arith, few)) (omega (arith, most)) whole in
    never blocks scripts rest some few least most
    (e ∙ ap (λ (bs : List ℕ). bs ++ 10 ∷ rest) (sym same) ∙ sym (header_more blocks scripts rest))

not_nil : (text more : List ℕ) → text ≢ [] → text ++ more ≢ []
not_nil [] more some e = some refl
not_nil (byte ∷ text) more some e = absurd (cc)

-- the first fault in a line that has ended stays the first fault
ended_more : (text more : List ℕ) (line : ℕ) (kind : OrderKind) → IsRefused text line kind → line ≤ line_feeds text → IsRefused (text ++ more) line kind
ended_more text more line kind (inl (at, is, never)) ended =
    let first = first_line text (omega (arith, at, ended)) in
    inl (at, is, header_more_none text first.0 first.1 more first.2 first.3 never)
ended_more text more line kind (inr (journal, blocks, scripts, at, stop)) ended =
    let count = ap line_feeds stop.spelled ∙ order_fed journal blocks scripts stop.rest stop.ordered in
    let first = first_line stop.rest (omega (arith, at, ended, count)) in
    inr (
      journal,
      blocks,
      scripts,
      at,
      record {
        ordered = stop.ordered;
        rest = stop.rest ++ more;
        some = not_nil stop.rest more stop.some;
        spelled = ap (λ (bs : List ℕ). bs ++ more) stop.spelled ∙ append_assoc (order journal blocks scripts) stop.rest more;
        fault = fault_more kind journal blocks scripts stop.rest first.0 first.1 more first.2 first.3 stop.fault;
      },
    )

-- the one fault of a line that hasn't ended
open_fault : (kind : OrderKind) (journal : List LoggedData) (blocks scripts : ℕ) (text : List ℕ) → line_feeds text ≡ 0
    → HasFault kind journal blocks scripts text → kind ≡ Line
open_fault Line journal blocks scripts text none fault = refl
open_fault Block journal blocks scripts text none (l, b, never) = absurd (no_line text l none b)
open_fault Script journal blocks scripts text none (l, b, has, past) = absurd (no_line text l none b)
open_fault Sequence journal blocks scripts text none (l, b, has, below, never) = absurd (no_line text l none b)
open_fault Many journal blocks scripts text none (l, b, follows, full) = absurd (no_line text l none b)

-- the first fault in a long line that hasn't ended stays the first fault
open_more : (text more : List ℕ) (line : ℕ) (kind : OrderKind) → IsRefused text line kind → line_feeds text < line → 8256 < open_bytes 0 text
    → IsSeen (text ++ more) line kind
open_more text more line kind (inl (at, is, never)) past long =
    let none : line_feeds text ≡ 0 = omega (arith, at, past) in
    let e = open_none 0 text (has_no_feed text none) in
    subst (λ (n : ℕ). IsSeen (text ++ more) n kind) (sym at) (subst (λ (k : OrderKind). IsSeen (text ++ more) 1 k) (sym is)
    (long_header text more none (omega (arith, long, e))))
open_more text more line kind (inr (journal, blocks, scripts, at, stop)) past long =
    let count = ap line_feeds stop.spelled ∙ order_fed journal blocks scripts stop.rest stop.ordered in
    let none : line_feeds stop.rest ≡ 0 = omega (arith, at, past, count) in
    let e = ap (open_bytes 0) stop.spelled ∙ open_order journal blocks scripts stop.rest ∙ open_none 0 stop.rest (has_no_feed stop.rest none) in
    let whole = ap (λ (bs : List ℕ). bs ++ more) stop.spelled ∙ append_assoc (order journal blocks scripts) stop.rest more in
    subst (λ (n : ℕ). IsSeen (text ++ more) n kind) (sym at)
    (subst (λ (k : OrderKind). IsSeen (text ++ more) (length journal + 2) k) (sym (open_fault kind journal blocks scripts stop.rest none stop.fault))
    (subst (λ (bs : List ℕ). IsSeen bs (length journal + 2) Line) (sym whole)
    (long_entry journal blocks scripts stop.rest more stop.ordered none (omega (arith, long, e)))))

-- a fault that was seen stays
pub seen_more : (fed more : List ℕ) (line : ℕ) (kind : OrderKind) → IsSeen fed line kind → IsSeen (fed ++ more) line kind
seen_more fed more line kind (is, inl ended) =
    let count = feeds_append fed more in (ended_more fed more line kind is ended, inl (omega (arith, ended, count)))
seen_more fed more line kind (is, inr long) =
    elim (cases_lt (line_feeds fed) line) [
      | inl past ↦ open_more fed more line kind is past long
      | inr before ↦
          let count = feeds_append fed more in
          let ended : line ≤ line_feeds fed = omega (arith, before) in
          (ended_more fed more line kind is ended, inl (omega (arith, ended, count)))
    ]
