-- A file that is fed to a reader, chunk by chunk.
use Rattle.std.proofs.Common.{◌≡◌, inl, inr, ℕ, ◌+◌, ◌<◌, ◌≤◌, List, [], ◌++◌, length, take, sym, ◌∙◌, ap, subst, arith}
use Rattle.std.specs.Prelude.{Option, Some, None, IfSome, IsSomeAnd, Result, Ok, Err, IfOk, IfErr}
use Rattle.std.specs.FinMap.{get}
use Rattle.std.proofs.Math.Seq.{take-add}
use Rattle.std.proofs.lemmas.List.{take_all}
use Rattle.outside.specs.Files.{Files, ReadsFrom}
use Rattle.take_files.specs.Orders.{IsOrder, OrderData}
use Rattle.take_files.specs.declared.read.OrderKind.{OrderKind}
use Rattle.take_files.specs.declared.read.OrderFault.{OrderFault}
use Rattle.take_files.specs.declared.read.OrderFault.TheVariants as fault
use Rattle.take_files.specs.Chunks.{HasFed, Standing}
use Rattle.tool_core.specs.declared.failure.Failure.{Failure}
use Rattle.tool_core.specs.declared.failure.Failure.TheVariants as failure
use Rattle.tool_core.specs.Inputs.{AnOrder}
use Rattle.tool_core.specs.Orders.{order_limit}
use Rattle.tool_core.specs.Failures.{IsFault, IsReason}
use Rattle.tool_core.specs.Endings.{IsOfBytes, IsReadFailure}
use Rattle.tool_core.proofs.Meanings.{limit_reason}

-- what a reader was fed of a file that may not be told
abbrev pub WasFed : Standing → ℕ → Option Files → List ℕ → Type 0
WasFed s at files name = IfSome files (λ told. IfSome (get told name) (λ file. HasFed s (take at file)))

-- the reader was fed the whole of it, and it is within the limit
abbrev pub WasFedWhole : Standing → Option Files → List ℕ → Type 0
WasFedWhole s files name = IfSome files (λ told. IsSomeAnd (get told name) (λ file. (length file ≤ order_limit) × HasFed s file))

pub fed_none : (o : Option Files) (name : List ℕ) (s : Standing) → HasFed s [] → WasFed s 0 o name
fed_none None name s fed = tt
fed_none (Some told) name s fed = one (get told name)
  where
    one : (f : Option (List ℕ)) → IfSome f (λ file. HasFed s (take 0 file))
    one None = tt
    one (Some file) = fed

pub fed_more : (o now : Option Files) (name chunk buffer : List ℕ) (at count : ℕ) (before after : Standing) → now ≡ o → chunk ≡ take count buffer
    → WasFed before at o name → IfSome now (λ told. IsSomeAnd (get told name) (λ file. ReadsFrom file at count buffer))
    → ((fed : List ℕ) → HasFed before fed → HasFed after (fed ++ chunk)) → WasFed after (at + count) o name
fed_more None now name chunk buffer at count before after same is fed read feeds = tt
fed_more (Some told) now name chunk buffer at count before after same is fed read feeds =
    one (get told name) fed (let h : IfSome (Some told) (λ t. IsSomeAnd (get t name) (λ file. ReadsFrom file at count buffer)) =
    subst (λ (f : Option Files). IfSome f (λ t. IsSomeAnd (get t name) (λ file. ReadsFrom file at count buffer))) same read in h)
  where
    one : (f : Option (List ℕ)) → IfSome f (λ file. HasFed before (take at file)) → IsSomeAnd f (λ file. ReadsFrom file at count buffer)
        → IfSome f (λ file. HasFed after (take (at + count) file))
    one None h r = absurd r
    one (Some file) h r =
        subst (λ (l : List ℕ). HasFed after l) (ap (λ (l : List ℕ). take at file ++ l) (is ∙ r.bytes) ∙ sym (take-add at count file)) (feeds (take at file) h)

pub fed_whole : (o now : Option Files) (name buffer : List ℕ) (at count : ℕ) (s : Standing) → now ≡ o → at ≤ order_limit → count ≡ 0 → 0 < length buffer
    → WasFed s at o name → IfSome now (λ told. IsSomeAnd (get told name) (λ file. ReadsFrom file at count buffer)) → WasFedWhole s o name
fed_whole None now name buffer at count s same within nothing room fed read = tt
fed_whole (Some told) now name buffer at count s same within nothing room fed read =
    one (get told name) fed (let h : IfSome (Some told) (λ t. IsSomeAnd (get t name) (λ file. ReadsFrom file at count buffer)) =
    subst (λ (f : Option Files). IfSome f (λ t. IsSomeAnd (get t name) (λ file. ReadsFrom file at count buffer))) same read in h)
  where
    one : (f : Option (List ℕ)) → IfSome f (λ file. HasFed s (take at file)) → IsSomeAnd f (λ file. ReadsFrom file at count buffer)
        → IsSomeAnd f (λ file. (length file ≤ order_limit) × HasFed s file)
    one None h r = absurd r
    one (Some file) h r =
        elim (r.ended.0 nothing) [
          | inl no_room ↦ absurd (omega (arith, no_room, room))
          | inr past ↦ (omega (arith, past, within), subst (λ (l : List ℕ). HasFed s l) (take_all at file past) h)
        ]

-- ---- the order of a file that was fed
pub order_read : (r : Result OrderData Failure) (files : Option Files) (name : List ℕ) (s : Standing) → WasFedWhole s files name
    → IfOk r (λ o. (file : List ℕ) → HasFed s file → IsOrder file o)
    → IfOk r (λ o. IfSome files (λ told. IsSomeAnd (get told name) (λ file. (length file ≤ order_limit) × IsOrder file o)))
order_read (Err e) files name s fed known = tt
order_read (Ok o) None name s fed known = tt
order_read (Ok o) (Some told) name s fed known = one (get told name) fed
  where
    one : (f : Option (List ℕ)) → IsSomeAnd f (λ file. (length file ≤ order_limit) × HasFed s file)
        → IsSomeAnd f (λ file. (length file ≤ order_limit) × IsOrder file o)
    one None h = absurd h
    one (Some file) h = (h.0, known file (h.1))

bytes_fault : (why : Failure) (files : Option Files) (name : List ℕ) (s : Standing) → WasFedWhole s files name
    → ((file : List ℕ) → HasFed s file → length file ≤ order_limit → IsFault why AnOrder (Some file))
    → IfSome files (λ told. IsFault why AnOrder (get told name))
bytes_fault why None name s fed known = tt
bytes_fault why (Some told) name s fed known = one (get told name) fed
  where
    one : (f : Option (List ℕ)) → IsSomeAnd f (λ file. (length file ≤ order_limit) × HasFed s file) → IsFault why AnOrder f
    one None h = absurd h
    one (Some file) h = known file (h.1) (h.0)

bytes_reason : (why : Failure) (files : Option Files) (name : List ℕ) (s : Standing) (before now : ℕ) → now ≡ before → WasFedWhole s files name → IsOfBytes why
    → ((file : List ℕ) → HasFed s file → length file ≤ order_limit → IsFault why AnOrder (Some file)) → IsReason why AnOrder files name before now
bytes_reason failure.Unread files name s before now same fed of known = absurd of
bytes_reason failure.TooLarge files name s before now same fed of known = (same, bytes_fault failure.TooLarge files name s fed known)
bytes_reason failure.TooMany files name s before now same fed of known = (same, bytes_fault failure.TooMany files name s fed known)
bytes_reason (failure.Refused why) files name s before now same fed of known = (same, bytes_fault (failure.Refused why) files name s fed known)
bytes_reason failure.Memory files name s before now same fed of known = same

pub order_reason : (r : Result OrderData Failure) (files : Option Files) (name : List ℕ) (s : Standing) (before now : ℕ) → now ≡ before
    → WasFedWhole s files name
    → IfErr r IsOfBytes → IfErr r (λ why. (file : List ℕ) → HasFed s file → length file ≤ order_limit → IsFault why AnOrder (Some file))
    → IfErr r (λ why. IsReason why AnOrder files name before now)
order_reason (Ok o) files name s before now same fed of known = tt
order_reason (Err why) files name s before now same fed of known = bytes_reason why files name s before now same fed of known

pub order_limit_reason : (why : Failure) (files : Option Files) (name : List ℕ) (before now : ℕ) → IsReadFailure why order_limit files name before now
    → IsReason why AnOrder files name before now
order_limit_reason why files name before now reason = limit_reason why AnOrder order_limit files name before now (λ file past. past) reason

-- bytes that are refused are no order
pub no_order : (found : OrderFault) (line : ℕ) (kind : OrderKind) → found ≡ fault.Refused line kind → found ≡ fault.Memory → ⊥
no_order found line kind is memory = absurd (cc)

abbrev failed : OrderFault → Result OrderData OrderFault
failed found = Err found

pub as_error : (found : OrderFault) (line : ℕ) (kind : OrderKind) → found ≡ fault.Refused line kind → failed found ≡ failed (fault.Refused line kind)
as_error found line kind is = ap failed is
