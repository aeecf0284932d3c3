-- The one file that is written.
use Rattle.std.proofs.Common.{◌≡◌, inl, inr, ℕ, ◌+◌, List, [], ◌++◌, length, take, refl, sym, ◌∙◌, ap, append_assoc}
use Rattle.std.proofs.Math.Seq.{take-append_seam, take-append-add, take-length}
use Rattle.std.proofs.lemmas.List.{take-append-le}
use Rattle.std.specs.Prelude.{Option, Some, None, option_map, is_some, IfSome, true, false}
use Rattle.std.specs.FinMap.{get, insert}
use Rattle.outside.specs.Files.{Files, created, appended, Lacks, AppendedSome}
use Rattle.outside.proofs.Shelves.{get-insert_same, get-insert_other, appended_created, appended_second, then_mapped, mapped_alike}
use Rattle.tool_core.specs.Outcomes.{BeginsOut}

-- the files with the bytes under the name
abbrev pub with_out : List ℕ → List ℕ → Files → Files
with_out out text files = insert files out text

begun_none : (m : Files) (out text : List ℕ) → BeginsOut m (Some m) out text
begun_none m out text = record { begun = inl refl; others = λ name ne. refl }

begun_prefix : (m : Files) (out text : List ℕ) (count : ℕ) → BeginsOut m (Some (insert m out (take count text))) out text
begun_prefix m out text count = record {
  begun = inr (count, get-insert_same m out (take count text));
  others = λ name ne. get-insert_other m out (take count text) name ne;
}

pub begun_at_create : (o now : Option Files) (out text : List ℕ) → now ≡ o → IfSome o (λ m. BeginsOut m now out text)
begun_at_create None now out text is = tt
begun_at_create (Some m) now out text is = rw is (begun_none m out text)

some_appended : (o first now : Option Files) (out chunk : List ℕ) → first ≡ option_map (created out) o → now ≡ option_map (appended out chunk) first
    → now ≡ option_map (with_out out chunk) o
some_appended o first now out chunk made is =
    is ∙ ap (option_map (appended out chunk)) made ∙ then_mapped (created out) (appended out chunk) o
    ∙ mapped_alike _ _ (λ m. appended_created m out chunk) o

prefix_begun : (o now : Option Files) (out text : List ℕ) (count : ℕ) → now ≡ option_map (with_out out (take count text)) o
    → IfSome o (λ m. BeginsOut m now out text)
prefix_begun None now out text count is = tt
prefix_begun (Some m) now out text count is = rw is (begun_prefix m out text count)

pub begun_whole : (o now : Option Files) (out text : List ℕ) → now ≡ option_map (with_out out text) o → IfSome o (λ m. BeginsOut m now out text)
begun_whole o now out text is =
    prefix_begun o now out text (length text) (is ∙ ap (λ (l : List ℕ). option_map (with_out out l) o) (sym (take-length text)))

none_appended : (o first : Option Files) (out : List ℕ) → first ≡ option_map (created out) o → first ≡ option_map (with_out out []) o
none_appended o first out made = made

pub begun_at_append : (o first now : Option Files) (out text : List ℕ) → first ≡ option_map (created out) o → AppendedSome out text first now
    → IfSome o (λ m. BeginsOut m now out text)
begun_at_append o first now out text made (inl same) = prefix_begun o now out text 0 (same ∙ made)
begun_at_append o first now out text made (inr (count, fits, is)) = prefix_begun o now out text count (some_appended o first now out (take count text) made is)

pub written_whole : (o first now : Option Files) (out text : List ℕ) → first ≡ option_map (created out) o → now ≡ option_map (appended out text) first
    → now ≡ option_map (with_out out text) o
written_whole o first now out text made is = some_appended o first now out text made is

pub has_created : (o first : Option Files) (out : List ℕ) → first ≡ option_map (created out) o → Lacks first out → ⊥
has_created None first out is lacks = rw is at lacks
has_created (Some m) first out is lacks =
    let none : is_some (get (insert m out []) out) ≡ false = rw is at lacks in
    let some : is_some (get (insert m out []) out) ≡ true = ap is_some (get-insert_same m out []) in
    cc

-- ---- a file that is written chunk by chunk
pub chunk_written : (o before now : Option Files) (out prefix chunk : List ℕ) → before ≡ option_map (with_out out prefix) o
    → now ≡ option_map (appended out chunk) before
    → now ≡ option_map (with_out out (prefix ++ chunk)) o
chunk_written o before now out prefix chunk was is =
    is ∙ ap (option_map (appended out chunk)) was ∙ then_mapped (with_out out prefix) (appended out chunk) o
    ∙ mapped_alike _ _ (λ m. appended_second m out prefix chunk) o

pub begun_at_chunk : (o before now : Option Files) (out prefix chunk more whole : List ℕ) → before ≡ option_map (with_out out prefix) o
    → whole ≡ (prefix ++ chunk) ++ more
    → AppendedSome out chunk before now → IfSome o (λ m. BeginsOut m now out whole)
begun_at_chunk o before now out prefix chunk more whole was is (inl same) =
    prefix_begun o now out whole (length prefix)
    (same ∙ was ∙ ap (λ (l : List ℕ). option_map (with_out out l) o)
    (sym (ap (take (length prefix)) (is ∙ append_assoc prefix chunk more) ∙ take-append_seam prefix (chunk ++ more))))
begun_at_chunk o before now out prefix chunk more whole was is (inr (count, fits, part)) =
    prefix_begun o now out whole (length prefix + count)
    (chunk_written o before now out prefix (take count chunk) was part ∙ ap (λ (l : List ℕ). option_map (with_out out l) o)
    (sym (ap (take (length prefix + count)) (is ∙ append_assoc prefix chunk more) ∙ take-append-add prefix (chunk ++ more) count
    ∙ ap (λ (l : List ℕ). prefix ++ l) (take-append-le count chunk more fits))))

pub has_written : (o now : Option Files) (out text : List ℕ) → now ≡ option_map (with_out out text) o → Lacks now out → ⊥
has_written None now out text is lacks = rw is at lacks
has_written (Some m) now out text is lacks =
    let none : is_some (get (insert m out text) out) ≡ false = rw is at lacks in
    let some : is_some (get (insert m out text) out) ≡ true = ap is_some (get-insert_same m out text) in
    cc
