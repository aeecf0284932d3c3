-- What each call makes of a world's fields stands for the core one step on.
use Rattle.std.proofs.Common.{◌≡◌, ℕ, zero, suc, ◌+◌, ◌-◌, ◌^◌, ◌<◌, min, List, [], ◌∷◌, ◌++◌, length, get_or, set, replicate, map, refl, sym, ◌∙◌, ap, subst}
use Rattle.std.proofs.Common.{arith}
use Rattle.std.specs.Prelude.{◌==◌, ◌&&◌, ◌↔◌, IsTrue, nat_lt, Bool, true, false, cond}
use Rattle.std.proofs.lemmas.Bool.{both_ways, lt-ltb, le-ltb, eqb-true, cond-true, cond-false}
use Rattle.std.proofs.lemmas.List.{map-append, length-map, length_push, length-set, length-replicate, get_or-replicate, ext_get_or, replicate_more}
use Rattle.std.specs.List.{range_with_len}
use Rattle.std.proofs.lemmas.List.FromFn.{length-map-range_with_len, get_or-map-range_with_len}
use Rattle.command_set.specs.declared.command.Command.{Command}
use Rattle.command_set.specs.declared.entry.Entry.{Entry}
use Rattle.command_set.specs.declared.entry.Logged.{Logged}
use Rattle.command_set.specs.Command.{content}
use Rattle.command_set.specs.Entries.{EntryData, LoggedData, entry_data, logged_data, journal_data, entries_of, sent_by}
use Rattle.instrument.specs.declared.instrument.Instrument.{Instrument}
use Rattle.instrument.specs.Instrument.{IsIn}
use Rattle.instrument.specs.State.{State, apply, passed}
use Rattle.instrument.specs.State.{opening as opening_state}
use Rattle.instrument.specs.Journal.{state_at}
use Rattle.schedule_core.specs.declared.mark.Mark.{Mark}
use Rattle.instrument.specs.Logging.{logged_at}
use Rattle.schedule_core.specs.Core.{Core, Sends, no_sends, sends_of, accepted_of, refusals_of, first_of, with_entry, with_refusal, opening, Send, Take, Render}
use Rattle.schedule_core.specs.Core.{Settle, step, run, queued, refused, taken, next_entry}
use Rattle.schedule_core.specs.Schedule.{IsLegal}
use Rattle.schedule_core.specs.Fields.{fresh_mark, core_of, mark_in, mark_of, sends_in, Stands}
use Rattle.instrument.proofs.Journals.{state_opening, state_logged, state_passed}
use Rattle.schedule_core.proofs.Legal.{at_set, fresh_at, accepted_queued, refusals_queued, accepted_refused, refusals_refused, opening_legal, step_legal}
use Rattle.schedule_core.proofs.Legal.{accepts, refuses}
use Rattle.schedule_core.proofs.Sounds.{run_appended}
use Rattle.schedule_core.proofs.Settling.{settles_by_taking}

pub opens : (places scripts : ℕ) (marks : List Mark) (i : Instrument) → marks ≡ replicate scripts fresh_mark → IsIn i opening_state
    → Stands places [] [] 0 marks i (opening places scripts)
opens places scripts marks i are h = record {
  legal = opening_legal places scripts;
  limit = refl;
  line = refl;
  log = refl;
  time = refl;
  ends = ap length are ∙ length-replicate scripts fresh_mark ∙ sym (length-replicate scripts no_sends);
  counts = λ script d below. ap (λ (ms : List Mark). get_or ms script d) are
      ∙ get_or-replicate scripts script fresh_mark d (omega (arith, below, length-replicate scripts no_sends))
      ∙ sym (ap mark_in (fresh_at places scripts script below));
  playing = subst (λ (s : State). IsIn i s) (sym state_opening) h;
}

-- marks

mark_accepted : (t : Bool) (old new : Mark) (list : List EntryData) (e : EntryData) (refusals first : ℕ)
    → old ≡ record { accepted = length list; refusals = refusals; first = first }
    → (t ≡ true → new ≡ record { accepted = length list + 1; refusals = refusals; first = first })
    → cond t new old ≡ record { accepted = length (cond t (list ++ e ∷ []) list); refusals = refusals; first = first }
mark_accepted true old new list e refusals first was now =
    now refl ∙ ap (λ (n : ℕ). let m : Mark = record { accepted = n; refusals = refusals; first = first } in m) (sym (length_push list e))
mark_accepted false old new list e refusals first was now = was

mark_refused : (t : Bool) (old new : Mark) (list refusals first : ℕ) → old ≡ record { accepted = list; refusals = refusals; first = first }
    → (t ≡ true → new ≡ record { accepted = list; refusals = min (refusals + 1) (2 ^ 64 - 1); first = cond (refusals == 0) list first })
    → cond t new old ≡ record { accepted = list; refusals = cond t (min (refusals + 1) (2 ^ 64 - 1)) refusals; first = cond (t && refusals == 0) list first }
mark_refused true old new list refusals first was now = now refl
mark_refused false old new list refusals first was now = was

-- the mark that a send reads
read_mark : {places : ℕ} {waiting : List Entry} {journal : List Logged} {blocks : ℕ} {marks : List Mark} {i : Instrument} {c : Core}
    → Stands places waiting journal blocks marks i c
    → (script : ℕ) (m : Mark) → script < length marks → m ≡ get_or marks script m → m ≡ mark_of c script
read_mark {marks} h script m below is = is ∙ h.counts script m (omega (arith, below, h.ends))

queued_mark : (c : Core) (e : EntryData) (k : ℕ) → e.script < length c.scripts
    → mark_of (queued c e) k ≡ record {
      accepted = length (cond (e.script == k) (accepted_of c k ++ e ∷ []) (accepted_of c k));
      refusals =
          refusals_of c k;
      first = first_of c k;
    }
queued_mark c e k made = λ j. let m : Mark = record {
  accepted = length (accepted_queued c e k made j);
  refusals = (refusals_queued c e k made).0 j;
  first = (refusals_queued c e k made).1 j;
} in m

refused_mark : (c : Core) (script k : ℕ) → script < length c.scripts
    → mark_of (refused c script) k ≡ record {
      accepted = length (accepted_of c k);
      refusals = cond (script == k) (min (refusals_of c k + 1) (2 ^ 64 - 1)) (refusals_of c k);
      first = cond (script == k && refusals_of c k == 0) (length (accepted_of c k)) (first_of c k);
    }
refused_mark c script k made = λ j. let m : Mark = record {
  accepted = length (accepted_refused c script k made j);
  refusals = (refusals_refused c script k made).0 j;
  first = (refusals_refused c script k made).1 j;
} in m

-- sends

pub accepted : (places : ℕ) (waiting : List Entry) (journal : List Logged) (blocks : ℕ) (marks : List Mark) (i : Instrument) (c : Core) (script due : ℕ)
    (command : Command) (m : Mark)
    → Stands places waiting journal blocks marks i c → length waiting < places → script < length marks → m ≡ get_or marks script m
    → (length c.waiting < c.places) × (m.accepted ≡ length (accepted_of c script))
    × Stands places (waiting ++ record { script = script; seq = m.accepted; sent_at = due; command = command } ∷ []) journal blocks
    (set marks script (record m { accepted = m.accepted + 1 })) i (step c (Send script due (content command)))
accepted places waiting journal blocks marks i c script due command m h room below is =
    let e : Entry = record { script = script; seq = m.accepted; sent_at = due; command = command } in
    let next : EntryData = next_entry c script due (content command) in
    let new : Mark = record m { accepted = m.accepted + 1 } in
    let made : script < length c.scripts = omega (arith, below, h.ends) in
    let many : length (queued c next).scripts ≡ length c.scripts = length-set c.scripts script (with_entry (sends_of c script) next) in
    let long : length waiting ≡ length c.waiting = sym (length-map waiting entry_data) ∙ ap length h.line in
    let fewer : length c.waiting < c.places = omega (arith, room, long, h.limit) in
    let mark : m ≡ mark_of c script = read_mark h script m below is in
    let seq : m.accepted ≡ length (accepted_of c script) = ap (λ (x : Mark). x.accepted) mark in
    let same : entry_data e ≡ next = ap (λ (n : ℕ). let d : EntryData = record { script = script; seq = n; sent_at = due; command = content command } in
    d) seq in
    let one : new ≡ record { accepted = length (accepted_of c script) + 1; refusals = refusals_of c script; first = first_of c script } =
    ap (λ (x : Mark). let y : Mark = record x { accepted = x.accepted + 1 } in y) mark in
    let stands : Stands places (waiting ++ e ∷ []) journal blocks (set marks script new) i (queued c next) = record {
      legal = accepts c script due (content command) made fewer h.legal;
      limit = h.limit;
      line = map-append entry_data waiting (e ∷ []) ∙ ap (λ (front : List EntryData). front ++ entry_data e ∷ []) h.line
          ∙ ap (λ (x : EntryData). c.waiting ++ x ∷ []) same;
      log = h.log;
      time = h.time;
      ends = length-set marks script new ∙ h.ends ∙ sym many;
      counts = λ k d inside.
          at_set (script == k) marks script k new d refl below
          ∙ mark_accepted (script == k) (get_or marks k d) new (accepted_of c k) next (refusals_of c k) (first_of c k)
          (h.counts k d (omega (arith, inside, many)))
          (λ t. let at : script ≡ k = eqb-true script k t in
          subst (λ (n : ℕ). new ≡ record { accepted = length (accepted_of c n) + 1; refusals = refusals_of c n; first = first_of c n }) at one)
          ∙ sym (queued_mark c next k made);
      playing = h.playing;
    } in
    let test : nat_lt (length c.waiting) c.places ≡ true = lt-ltb (length c.waiting) c.places fewer in (
      fewer,
      seq,
      subst (λ (d : Core). Stands places (waiting ++ e ∷ []) journal blocks (set marks script new) i d)
          (sym (cond-true (nat_lt (length c.waiting) c.places) (queued c next) (refused c script) test)) stands,
    )

pub turned_away : (places : ℕ) (waiting : List Entry) (journal : List Logged) (blocks : ℕ) (marks : List Mark) (i : Instrument) (c : Core) (script due : ℕ)
    (command : Command) (m : Mark)
    → Stands places waiting journal blocks marks i c → length waiting ≡ places → script < length marks → m ≡ get_or marks script m
    → (length c.waiting ≡ c.places)
    × Stands places waiting journal blocks
    (set marks script (record { accepted = m.accepted; refusals = min (m.refusals + 1) (2 ^ 64 - 1); first = cond (m.refusals == 0) m.accepted m.first }))
    i (step c (Send script due (content command)))
turned_away places waiting journal blocks marks i c script due command m h full below is =
    let next : EntryData = next_entry c script due (content command) in
    let new : Mark = record { accepted = m.accepted; refusals = min (m.refusals + 1) (2 ^ 64 - 1); first = cond (m.refusals == 0) m.accepted m.first } in
    let long : length waiting ≡ length c.waiting = sym (length-map waiting entry_data) ∙ ap length h.line in
    let all : length c.waiting ≡ c.places = sym long ∙ full ∙ h.limit in
    let made : script < length c.scripts = omega (arith, below, h.ends) in
    let many : length (refused c script).scripts ≡ length c.scripts = length-set c.scripts script (with_refusal (sends_of c script)) in
    let mark : m ≡ mark_of c script = read_mark h script m below is in
    let one : new ≡ record {
      accepted = length (accepted_of c script);
      refusals = min (refusals_of c script + 1) (2 ^ 64 - 1);
      first =
          cond (refusals_of c script == 0) (length (accepted_of c script)) (first_of c script);
    } =
    ap (λ (x : Mark). let y : Mark = record {
      accepted = x.accepted;
      refusals = min (x.refusals + 1) (2 ^ 64 - 1);
      first =
          cond (x.refusals == 0) x.accepted x.first;
    } in y) mark in
    let stands : Stands places waiting journal blocks (set marks script new) i (refused c script) = record {
      legal = refuses c script made (omega (arith, all)) h.legal;
      limit = h.limit;
      line = h.line;
      log = h.log;
      time = h.time;
      ends = length-set marks script new ∙ h.ends ∙ sym many;
      counts = λ k d inside.
          at_set (script == k) marks script k new d refl below
          ∙ mark_refused (script == k) (get_or marks k d) new (length (accepted_of c k)) (refusals_of c k) (first_of c k)
          (h.counts k d (omega (arith, inside, many)))
          (λ t. let at : script ≡ k = eqb-true script k t in
          subst (λ (n : ℕ). new ≡ record {
            accepted = length (accepted_of c n);
            refusals = min (refusals_of c n + 1) (2 ^ 64 - 1);
            first =
                cond (refusals_of c n == 0) (length (accepted_of c n)) (first_of c n);
          }) at one)
          ∙ sym (refused_mark c script k made);
      playing = h.playing;
    } in
    let test : nat_lt (length c.waiting) c.places ≡ false = le-ltb (length c.waiting) c.places (omega (arith, all)) in (
      all,
      subst (λ (d : Core). Stands places waiting journal blocks (set marks script new) i d)
          (sym (cond-false (nat_lt (length c.waiting) c.places) (queued c next) (refused c script) test)) stands,
    )

-- want of memory at a send
pub unsent : {places : ℕ} {waiting : List Entry} {journal : List Logged} {blocks : ℕ} {marks : List Mark} {i : Instrument} {c : Core}
    → Stands places waiting journal blocks marks i c → length waiting < places → length c.waiting < c.places
unsent {waiting} {c} h room =
    let long : length waiting ≡ length c.waiting = sym (length-map waiting entry_data) ∙ ap length h.line in
    omega (arith, room, long, h.limit)

-- takes

pub takes : (places : ℕ) (waiting later : List Entry) (journal : List Logged) (blocks : ℕ) (marks : List Mark) (i new : Instrument) (c : Core) (e : Entry)
    → waiting ≡ e ∷ later → Stands places waiting journal blocks marks i c → ((s : State) → IsIn i s → IsIn new (apply s (content e.command)))
    → Stands places later (journal ++ record { block = blocks; entry = e } ∷ []) blocks marks new (step c Take)
takes places waiting later journal blocks marks i new c e front h played =
    let l : Logged = record { block = blocks; entry = e } in
    let split : entry_data e ∷ map entry_data later ≡ c.waiting = ap (map entry_data) (sym front) ∙ h.line in
    let logged : logged_data l ≡ logged_at c.blocks (entry_data e) = ap (λ (n : ℕ). logged_at n (entry_data e)) h.time in
    let stands : Stands places later (journal ++ l ∷ []) blocks marks new (taken c (entry_data e ∷ map entry_data later)) = record {
      legal = subst (λ (es : List EntryData). IsLegal (taken c es)) (sym split) (step_legal c Take tt h.legal);
      limit = h.limit;
      line = refl;
      log = map-append logged_data journal (l ∷ []) ∙ ap (λ (front : List LoggedData). front ++ logged_data l ∷ []) h.log
          ∙ ap (λ (x : LoggedData). c.journal ++ x ∷ []) logged;
      time = h.time;
      ends = h.ends;
      counts = h.counts;
      playing = subst (λ (s : State). IsIn new s) (sym (state_logged c.journal c.blocks (entry_data e))) (played (state_at c.journal c.blocks) h.playing);
    } in
    subst (λ (es : List EntryData). Stands places later (journal ++ l ∷ []) blocks marks new (taken c es)) split stands

pub takes_none : (places : ℕ) (journal : List Logged) (blocks : ℕ) (marks : List Mark) (i : Instrument) (c : Core)
    → Stands places [] journal blocks marks i c → Stands places [] journal blocks marks i (step c Take)
takes_none places journal blocks marks i c h = subst (λ (es : List EntryData). Stands places [] journal blocks marks i (taken c es)) h.line h

-- blocks

pub renders : (places : ℕ) (waiting : List Entry) (journal : List Logged) (blocks : ℕ) (marks : List Mark) (i new : Instrument) (c : Core)
    → Stands places waiting journal blocks marks i c → ((s : State) → IsIn i s → IsIn new (passed s))
    → Stands places waiting journal (blocks + 1) marks new (step c Render)
renders places waiting journal blocks marks i new c h played = record {
  legal = step_legal c Render tt h.legal;
  limit = h.limit;
  line = h.line;
  log = h.log;
  time = ap (λ (n : ℕ). n + 1) h.time;
  ends = h.ends;
  counts = h.counts;
  playing = subst (λ (s : State). IsIn new s) (sym (state_passed c.journal c.blocks h.legal.blocks.past)) (played (state_at c.journal c.blocks) h.playing);
}

-- how many wait
pub how_many : {places : ℕ} {waiting : List Entry} {journal : List Logged} {blocks : ℕ} {marks : List Mark} {i : Instrument} {c : Core}
    → Stands places waiting journal blocks marks i c
    → length waiting ≡ length c.waiting
how_many {waiting} h = sym (length-map waiting entry_data) ∙ ap length h.line

-- one take more
pub one_more : (c : Core) (k : ℕ) → run c (replicate (k + 1) Take) ≡ step (run c (replicate k Take)) Take
one_more c k = ap (run c) (sym (replicate_more k Take)) ∙ run_appended c (replicate k Take) (Take ∷ [])

-- where none waits, a take changes nothing
taken_none : (c : Core) (es : List EntryData) → length es ≡ 0 → taken c es ≡ c
taken_none c [] none = refl
taken_none c (e ∷ es) none = absurd (omega (arith, none))

pub take_none : (c : Core) → length c.waiting ≡ 0 → step c Take ≡ c
take_none c none = taken_none c c.waiting none

-- as many takes as entries wait settle all
pub settles : (c : Core) (count : ℕ) → count ≡ length c.waiting → run c (replicate count Take) ≡ step c Settle
settles c count all = ap (λ (n : ℕ). run c (replicate n Take)) all ∙ sym (settles_by_taking c)

-- a test that is false says that none waits
pub none_waits : (t : Bool) (n : ℕ) → (IsTrue t ↔ (0 < n)) → t ≡ false → n ≡ 0
none_waits t zero says is = refl
none_waits t (suc n) says is = absurd (both_ways t is (says.1 (omega arith)))

-- one that waits is taken
taken_one : (c : Core) (es : List EntryData) → 0 < length es → length es ≡ length (taken (record c { waiting = es }) es).waiting + 1
taken_one c [] some = absurd (omega (arith, some))
taken_one c (e ∷ es) some = omega arith

pub take_one : (c : Core) → 0 < length c.waiting → length c.waiting ≡ length (step c Take).waiting + 1
take_one c some = taken_one c c.waiting some

-- a test that is true says that one waits
pub one_waits : (t : Bool) (n : ℕ) → (IsTrue t ↔ (0 < n)) → t ≡ true → 0 < n
one_waits t n says is = says.0 is

-- the fields determine the core

sends_same : (all : List EntryData) (marks : List Mark) (c : Core) (script : ℕ) → accepted_of c script ≡ sent_by script all
    → get_or marks script fresh_mark ≡ mark_of c script → sends_of c script ≡ sends_in all marks script
sends_same all marks c script list mark = λ j. let s : Sends = record {
  accepted = list j;
  refusals = (sym mark j).refusals;
  first = (sym mark j).first;
} in s

pub determined : (places : ℕ) (waiting : List Entry) (journal : List Logged) (blocks : ℕ) (marks : List Mark) (i : Instrument) (c : Core)
    → Stands places waiting journal blocks marks i c → core_of places waiting journal blocks marks ≡ c
determined places waiting journal blocks marks i c h =
    let all : List EntryData = entries_of (journal_data journal) ++ map entry_data waiting in
    let own : entries_of c.journal ++ c.waiting ≡ all = λ j. entries_of (sym h.log j) ++ sym h.line j in
    let many : length c.scripts ≡ length (map (sends_in all marks) (range_with_len 0 (length marks))) =
    sym h.ends ∙ sym (length-map-range_with_len (sends_in all marks) 0 (length marks)) in
    let scripts : c.scripts ≡ map (sends_in all marks) (range_with_len 0 (length marks)) =
    ext_get_or no_sends c.scripts (map (sends_in all marks) (range_with_len 0 (length marks))) many
    (λ k below.
    sends_same all marks c k (h.legal.lists k below ∙ ap (sent_by k) own) (h.counts k fresh_mark below)
    ∙ sym (get_or-map-range_with_len (sends_in all marks) 0 (length marks) k k no_sends (omega (arith, below, h.ends)) (omega arith))) in
    sym (λ j.
    let d : Core = record {
      places = sym h.limit j;
      scripts = scripts j;
      waiting = sym h.line j;
      journal = sym h.log j;
      blocks = sym h.time j;
    } in d)

-- so they stand for it
pub stands_for : (places : ℕ) (waiting : List Entry) (journal : List Logged) (blocks : ℕ) (marks : List Mark) (i : Instrument) (c : Core)
    → Stands places waiting journal blocks marks i c → Stands places waiting journal blocks marks i (core_of places waiting journal blocks marks)
stands_for places waiting journal blocks marks i c h =
    subst (λ (d : Core). Stands places waiting journal blocks marks i d) (sym (determined places waiting journal blocks marks i c h)) h
