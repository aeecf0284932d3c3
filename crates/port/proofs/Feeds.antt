-- One feed after another.
use Rattle.std.proofs.Common.{◌≡◌, ℕ, ◌+◌, ◌≤◌, List, [], ◌∷◌, ◌++◌, length, take, Bool, Option, Some, None, refl, ap, subst, sym, ◌∙◌, arith}
use Rattle.std.proofs.Common.{append_assoc, append-nil, length-append}
use Rattle.std.specs.List.{count_by}
use Rattle.std.proofs.lemmas.List.Sums.{sum_by-append}
use Rattle.std.specs.Prelude.{cond}
use Rattle.midi_stream.specs.declared.reader.MidiReader.{MidiReader}
use Rattle.velocity_map.specs.declared.curve.Curve.{Curve}
use Rattle.command_set.specs.Command.{CommandData}
use Rattle.command_set.specs.Message.{MessageOutcome, Yields, PassedOver, Overlong, Faulty}
use Rattle.command_queue.specs.Ends.{SendView, accepted, entry_of}
use Rattle.port.specs.declared.fed.Fed.{Fed}
use Rattle.port.specs.declared.kept.Kept.{Kept}
use Rattle.port.specs.declared.fed.PortStop.{PortStop}
use Rattle.port.specs.declared.fed.PortStop.TheVariants.{All, Full, Memory}
use Rattle.port.specs.Outcomes.{commands_in, is_passed_over, is_refused}
use Rattle.port.specs.Feeding.{Handles, all_accepted, stopped}
use Rattle.port.specs.Keeping.{HasUsed, KeepsAt}
use Rattle.port.specs.Handling.{OneMore}
use Rattle.port.specs.Stopping.{FullOnly, refusals_after}

commands_in-append : (xs ys : List MessageOutcome) → commands_in (xs ++ ys) ≡ commands_in xs ++ commands_in ys
commands_in-append [] ys = refl
commands_in-append (Yields command ∷ xs) ys = ap (λ (cs : List CommandData). command ∷ cs) (commands_in-append xs ys)
commands_in-append (PassedOver ∷ xs) ys = commands_in-append xs ys
commands_in-append (Overlong count ∷ xs) ys = commands_in-append xs ys
commands_in-append (Faulty fault ∷ xs) ys = commands_in-append xs ys

all_accepted-append : (e : SendView) (xs ys : List CommandData) → all_accepted e (xs ++ ys) ≡ all_accepted (all_accepted e xs) ys
all_accepted-append e [] ys = refl
all_accepted-append e (x ∷ xs) ys = all_accepted-append (accepted e (entry_of e 0 x)) xs ys

count_by-append : (p : MessageOutcome → Bool) (xs ys : List MessageOutcome) → count_by p (xs ++ ys) ≡ count_by p xs + count_by p ys
count_by-append p xs ys = sum_by-append (λ t. cond (p t) 1 0) xs ys

-- one feed that did not stop, and then another
pub handles_more : (now later : List MessageOutcome) (old between new : SendView) (one two both : Fed) → one.stop ≡ All → Handles now old between one
    → Handles later between new two
    → both.stop ≡ two.stop → both.sent ≡ one.sent + two.sent → both.passed_over ≡ one.passed_over + two.passed_over → both.refused ≡ one.refused + two.refused
    → Handles (now ++ later) old new both
handles_more now later old between new one two both all h k stop sent passed refused =
    let at : between ≡ all_accepted old (commands_in now) = rw all at h.end_is in
    record {
      end_is =
          k.end_is ∙ ap (λ (e : SendView). stopped two.stop (all_accepted e (commands_in later))) at
          ∙ ap (λ (e : SendView). stopped two.stop e) (sym (all_accepted-append old (commands_in now) (commands_in later)))
          ∙ ap (λ (cs : List CommandData). stopped two.stop (all_accepted old cs)) (sym (commands_in-append now later))
          ∙ ap (λ (s : _). stopped s (all_accepted old (commands_in (now ++ later)))) (sym stop);
      sent_is = rw (commands_in-append now later) (omega (arith, sent, h.sent_is, k.sent_is, length-append (commands_in now) (commands_in later)));
      passed_over_is = omega (arith, passed, h.passed_over_is, k.passed_over_is, count_by-append is_passed_over now later);
      refused_is = omega (arith, refused, h.refused_is, k.refused_is, count_by-append is_refused now later);
    }

-- what a feed has done once so many of its bytes were used
pub record Reached (was reader : MidiReader) (was_curve curve : Curve) (was_kept keeps : Option Kept) (bytes : List ℕ) (index : ℕ) (old new : SendView)
    (fed : Fed) : Type 0 where
  pub used : fed.used ≡ index
  pub line : new.line ≡ old.line
  pub number : new.number ≡ old.number
  pub count : length new.list ≡ length old.list + fed.sent
  pub few : fed.sent + fed.passed_over + fed.refused ≤ index + 1
  pub refusals : new.refusals ≡ refusals_after fed.stop old.refusals
  pub received :
      (done : List MessageOutcome) (stream : List ℕ) → HasUsed was was_curve was_kept done stream
      → (now : List MessageOutcome) × (HasUsed reader curve keeps (done ++ now) (stream ++ take index bytes) × Handles now old new fed)

-- it did not stop
pub record GoesOn (keeps : Option Kept) (fed : Fed) : Type 0 where
  pub stop : fed.stop ≡ All
  pub clear : keeps ≡ None

pub clear_if : (stop : PortStop) (keeps : Option Kept) → KeepsAt stop keeps → stop ≡ All → keeps ≡ None
clear_if All None k e = refl
clear_if All (Some x) k e = absurd k
clear_if Full keeps k e = cc
clear_if Memory keeps k e = cc

pub goes_on : (keeps : Option Kept) (fed : Fed) → KeepsAt fed.stop keeps → fed.stop ≡ All → GoesOn keeps fed
goes_on keeps fed k e = record { stop = e; clear = clear_if fed.stop keeps k e }

pub kept_by : (keeps : Option Kept) (fed : Fed) → GoesOn keeps fed → KeepsAt fed.stop keeps
kept_by keeps fed g = rw (g.stop, g.clear) tt

pub full_by : (keeps : Option Kept) (fed : Fed) (end : SendView) → GoesOn keeps fed → FullOnly fed.stop end
full_by keeps fed end g = rw g.stop tt

-- at the start, after what was kept was tried
pub reached_first :
    (was reader : MidiReader) (was_curve curve : Curve) (was_kept keeps : Option Kept) (bytes : List ℕ) (old new : SendView) (fed : Fed)
    → OneMore old new 0 fed
    → ((done : List MessageOutcome) (stream : List ℕ) → HasUsed was was_curve was_kept done stream → (now : List MessageOutcome)
    × (HasUsed reader curve keeps (done ++ now) stream × Handles now old new fed))
    → Reached was reader was_curve curve was_kept keeps bytes 0 old new fed
reached_first was reader was_curve curve was_kept keeps bytes old new fed one received = record {
  used = one.used_is;
  line = one.line;
  number = one.number;
  count = one.count;
  few = omega (arith, one.few);
  refusals = one.refusals;
  received = λ done stream u. rw (append-nil stream) (received done stream u);
}

-- one byte later
pub reached_more :
    (was reader later : MidiReader) (was_curve curve later_curve : Curve) (was_kept keeps later_kept : Option Kept) (bytes : List ℕ) (index byte : ℕ)
    (old new last : SendView) (fed two both : Fed)
    → fed.stop ≡ All → Reached was reader was_curve curve was_kept keeps bytes index old new fed
    → take (index + 1) bytes ≡ take index bytes ++ byte ∷ []
    → OneMore new last 1 two
    → ((done : List MessageOutcome) (stream : List ℕ) → HasUsed reader curve keeps done stream → (now : List MessageOutcome)
    × (HasUsed later later_curve later_kept (done ++ now) (stream ++ byte ∷ []) × Handles now new last two))
    → both ≡ record {
      used = fed.used + two.used;
      sent = fed.sent + two.sent;
      passed_over = fed.passed_over + two.passed_over;
      refused =
          fed.refused + two.refused;
      stop = two.stop;
    }
    → Reached was later was_curve later_curve was_kept later_kept bytes (index + 1) old last both
reached_more was reader later was_curve curve later_curve was_kept keeps later_kept bytes index byte old new last fed two both stop r taken one received b =
    record {
      used = (let u : both.used ≡ fed.used + two.used = ap (λ (f : Fed). f.used) b in omega (arith, u, r.used, one.used_is));
      line = one.line ∙ r.line;
      number = one.number ∙ r.number;
      count = (let s : both.sent ≡ fed.sent + two.sent = ap (λ (f : Fed). f.sent) b in omega (arith, s, r.count, one.count));
      few = (
          let s : both.sent ≡ fed.sent + two.sent = ap (λ (f : Fed). f.sent) b in
          let p : both.passed_over ≡ fed.passed_over + two.passed_over = ap (λ (f : Fed). f.passed_over) b in
          let q : both.refused ≡ fed.refused + two.refused = ap (λ (f : Fed). f.refused) b in omega (arith, s, p, q, r.few, one.few));
      refusals = (
          let calm : new.refusals ≡ old.refusals = rw stop at r.refusals in
          one.refusals ∙ ap (refusals_after two.stop) calm ∙ ap (λ (s : PortStop). refusals_after s old.refusals) (sym (ap (λ (f : Fed). f.stop) b)));
      received = λ done stream u.
          (let h = r.received done stream u in
          let k = received (done ++ h.0) (stream ++ take index bytes) h.1.0 in
          let bytes_so_far : (stream ++ take index bytes) ++ byte ∷ [] ≡ stream ++ take (index + 1) bytes = append_assoc stream (take index bytes) (byte ∷ [])
          ∙ ap (λ (bs : List ℕ). stream ++ bs) (sym taken) in (
            h.0 ++ k.0,
            (
              rw (← append_assoc done h.0 k.0, ← bytes_so_far) k.1.0,
              handles_more h.0 k.0 old new last fed two both stop h.1.1 k.1.1 (ap (λ (f : Fed). f.stop) b) (ap (λ (f : Fed). f.sent) b)
                  (ap (λ (f : Fed). f.passed_over) b) (ap (λ (f : Fed). f.refused) b),
            ),
          ));
    }

-- what was received, by the count of bytes
pub received_to :
    (was reader : MidiReader) (was_curve curve : Curve) (was_kept keeps : Option Kept) (bytes : List ℕ) (index : ℕ) (old new : SendView) (fed : Fed)
    → Reached was reader was_curve curve was_kept keeps bytes index old new fed
    → (done : List MessageOutcome) (stream : List ℕ) → HasUsed was was_curve was_kept done stream
    → (now : List MessageOutcome) × (HasUsed reader curve keeps (done ++ now) (stream ++ take fed.used bytes) × Handles now old new fed)
received_to was reader was_curve curve was_kept keeps bytes index old new fed r done stream u =
    let P : ℕ → Type 0 = λ n. (now : List MessageOutcome) × (HasUsed reader curve keeps (done ++ now) (stream ++ take n bytes) × Handles now old new fed) in
    subst P (sym r.used) (r.received done stream u)
