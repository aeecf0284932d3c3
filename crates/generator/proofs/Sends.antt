-- A script's commands are sent, one after the other.
use Rattle.std.proofs.Common.{◌≡◌, ◌≢◌, ℕ, ◌+◌, ◌-◌, ◌<◌, ◌≤◌, List, [], ◌∷◌, ◌++◌, length, map, refl, sym, ◌∙◌, ap, subst, arith, append_assoc}
use Rattle.std.specs.Prelude.{◌==◌, nat_lt}
use Rattle.std.specs.List.{range_with_len}
use Rattle.std.proofs.lemmas.Bool.{eq-eqb, ne_eqb, lt-ltb, cond-true, cond-false}
use Rattle.std.proofs.lemmas.List.{append-nil, length_push, length-set}
use Rattle.std.proofs.lemmas.List.FromFn.{map-range_with_len_more}
use Rattle.command_set.specs.Entries.{EntryData}
use Rattle.schedule_core.specs.Core.{Core, Send, step, sends_of, accepted_of, with_entry, queued, refused, next_entry}
use Rattle.schedule_core.proofs.Legal.{accepted_queued}
use Rattle.generator.specs.Generated.{command, due, entry}
use Rattle.generator.specs.Playing.{IsSent}

-- the core after a script's next command
abbrev pub after_send : Core → ℕ → ℕ → ℕ → Core
after_send c number seed i = step c (Send number (due seed i) (command seed i))

abbrev grown : Core → ℕ → ℕ → ℕ → Core
grown c number seed i = queued c (next_entry c number (due seed i) (command seed i))

send_is : (c : Core) (number seed i : ℕ) → length c.waiting < c.places → after_send c number seed i ≡ grown c number seed i
send_is c number seed i room = cond-true (nat_lt (length c.waiting) c.places) (grown c number seed i) (refused c number)
    (lt-ltb (length c.waiting) c.places room)

own_grows : (c : Core) (number seed i : ℕ) → number < length c.scripts → length (accepted_of (grown c number seed i) number) ≡ length (accepted_of c number) + 1
own_grows c number seed i made =
    let e : EntryData = next_entry c number (due seed i) (command seed i) in
    ap length (accepted_queued c e number made ∙ cond-true (number == number) (accepted_of c number ++ e
    ∷ []) (accepted_of c number) (eq-eqb number number refl))
    ∙ length_push (accepted_of c number) e

others_stay : (c : Core) (number seed i k : ℕ) → number < length c.scripts → k ≢ number → accepted_of (grown c number seed i) k ≡ accepted_of c k
others_stay c number seed i k made ne =
    let e : EntryData = next_entry c number (due seed i) (command seed i) in
    accepted_queued c e k made ∙ cond-false (number == k) (accepted_of c k ++ e ∷ []) (accepted_of c k) (ne_eqb number k (λ same. ne (sym same)))

pub none_sent : (c : Core) (number seed from : ℕ) → length (accepted_of c number) ≡ from → IsSent c number seed from from c
none_sent c number seed from own = record {
  places = refl;
  ends = refl;
  blocks = refl;
  journal = refl;
  waiting =
      let none : from - from ≡ 0 = omega arith in
      sym (append-nil c.waiting) ∙ ap (λ (n : ℕ). c.waiting ++ map (entry seed number) (range_with_len from n)) (sym none);
  own = own;
  others = λ k ne. refl;
}

pub one_sent : (c d : Core) (number seed from i : ℕ) → from ≤ i → number < length d.scripts → length d.waiting < d.places → IsSent c number seed from i d
    → IsSent c number seed from (i + 1) (after_send d number seed i)
one_sent c d number seed from i up made room h =
    let e : EntryData = next_entry d number (due seed i) (command seed i) in
    let same : e ≡ entry seed number i = ap (λ (n : ℕ). let x : EntryData =
    record { script = number; seq = n; sent_at = due seed i; command = command seed i } in x) h.own in
    let is : after_send d number seed i ≡ grown d number seed i = send_is d number seed i room in
    let long : i + 1 - from ≡ i - from + 1 = omega (arith, up) in
    subst (λ (x : Core). IsSent c number seed from (i + 1) x) (sym is) (record {
      places = h.places;
      ends = length-set d.scripts number (with_entry (sends_of d number) e) ∙ h.ends;
      blocks = h.blocks;
      journal = h.journal;
      waiting =
          ap (λ (prefix : List EntryData). prefix ++ e ∷ []) h.waiting
          ∙ append_assoc c.waiting (map (entry seed number) (range_with_len from (i - from))) (e ∷ [])
          ∙ ap (λ (x : EntryData). c.waiting ++ (map (entry seed number) (range_with_len from (i - from)) ++ x ∷ [])) same
          ∙ ap (λ (back : List EntryData). c.waiting ++ back)
          (sym (map-range_with_len_more (entry seed number) from (i - from) i (omega (arith, up))))
          ∙ ap (λ (n : ℕ). c.waiting ++ map (entry seed number) (range_with_len from n)) (sym long);
      own = own_grows d number seed i made ∙ omega (arith, h.own);
      others = λ k ne. others_stay d number seed i k made ne ∙ h.others k ne;
    })
