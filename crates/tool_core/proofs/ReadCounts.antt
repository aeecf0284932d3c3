-- Bytes that reads gave, counted: each byte of a file once.
use Rattle.std.proofs.Common.{◌≡◌, inl, inr, ℕ, ◌+◌, ◌-◌, ◌^◌, ◌<◌, ◌≤◌, min, List, [], length, drop, length-drop, arith, refl, ◌∙◌, ap, subst}
use Rattle.std.specs.Prelude.{Option, Some, None, IfSome, IsSomeAnd, false, is_some, unwrap_or}
use Rattle.std.specs.FinMap.{get}
use Rattle.outside.specs.Files.{Files, Lacks, ReadsFrom, content, file_of}
use Rattle.outside.specs.Faults.{more_by}
use Rattle.take_files.specs.Orders.{IsOrder, OrderData}
use Rattle.tool_core.specs.Orders.{order_limit}
use Rattle.tool_core.specs.Reads.{GaveAll, HasGiven}

pub given_none : (given : ℕ) → HasGiven given 0 given
given_none given = omega arith

pub given_begin : (given at : ℕ) → at ≡ 0 → HasGiven given at given
given_begin given at is = omega (arith, is)

-- one more read
pub given_more : (before at given count next : ℕ) {now : ℕ} → HasGiven before at given → now ≡ more_by given count → next ≡ at + count
    → HasGiven before next now
given_more before at given count next {now} was is on = omega (arith, was, is, on)

-- the last read, which gives nothing
pub given_last : (before at given count : ℕ) {now : ℕ} → HasGiven before at given → now ≡ more_by given count → count ≡ 0 → now ≡ more_by before at
given_last before at given count {now} was is none = omega (arith, was, is, none)

-- one read goes on within the file, and the last one is at its end
pub within_file : (file buffer : List ℕ) (at count : ℕ) → at ≤ length file → ReadsFrom file at count buffer → at + count ≤ length file
within_file file buffer at count low reads = omega (arith, reads.within, length-drop at file, low)

pub at_end : (file buffer : List ℕ) (at count : ℕ) → count ≡ 0 → 0 < length buffer → at ≤ length file → ReadsFrom file at count buffer → at ≡ length file
at_end file buffer at count none room low reads =
    elim (reads.ended.0 none) [ inl no_room ↦ absurd (omega arith) | inr past ↦ (let e : at ≡ length file = omega (arith, low, past) in e) ]

-- what two files gave, one after the other
pub given_both : (before between now a b : ℕ) → between ≡ more_by before a → now ≡ more_by between b → now ≡ more_by before (a + b)
given_both before between now a b first then = omega (arith, first, then)

-- an order that was read, and a sound file after it
told_order : (f : Option (List ℕ)) (o : OrderData) (before now : ℕ) → IsSomeAnd f (λ file. (length file ≤ order_limit) × IsOrder file o)
    → ((file : List ℕ) → f ≡ Some file → now ≡ more_by before (length file)) → now ≡ more_by before (length (unwrap_or f []))
told_order None o before now good gave = absurd good
told_order (Some file) o before now good gave = gave file refl

pub told_whole : (files : Option Files) (name : List ℕ) (before now : ℕ) (o : OrderData)
    → IfSome files (λ told. IsSomeAnd (get told name) (λ file. (length file ≤ order_limit) × IsOrder file o))
    → GaveAll files name before now → IfSome files (λ told. now ≡ more_by before (length (content told name)))
told_whole None name before now o good gave = tt
told_whole (Some told) name before now o good gave = told_order (get told name) o before now good gave

told_sound : (f : Option (List ℕ)) (before now : ℕ) → (is_some f ≡ false → ⊥)
    → ((file : List ℕ) → f ≡ Some file → now ≡ more_by before (length file)) → now ≡ more_by before (length (unwrap_or f []))
told_sound None before now has gave = absurd (has refl)
told_sound (Some file) before now has gave = gave file refl

pub told_both : (files : Option Files) (order sound : List ℕ) (before between now : ℕ) (o : OrderData)
    → IfSome files (λ told. IsSomeAnd (get told order) (λ file. (length file ≤ order_limit) × IsOrder file o))
    → (Lacks files sound → ⊥) → GaveAll files order before between → GaveAll files sound between now
    → IfSome files (λ told. now ≡ more_by before (length (content told order) + length (content told sound)))
told_both None order sound before between now o good has first then = tt
told_both (Some told) order sound before between now o good has first then =
    given_both before between now _ _ (told_order (get told order) o before between good first) (told_sound (get told sound) between now has then)
