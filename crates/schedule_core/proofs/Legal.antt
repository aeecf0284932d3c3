-- Each step keeps a core legal.
use Rattle.std.proofs.Common.{◌≡◌, ℕ, ◌+◌, ◌-◌, ◌^◌, ◌≤◌, ◌<◌, min, List, [], ◌∷◌, ◌++◌, length, get_or, set, map, refl, sym, ◌∙◌, ap, subst, arith}
use Rattle.std.proofs.Common.{append_assoc, length-append, inl, inr}
use Rattle.std.specs.Prelude.{◌==◌, ◌&&◌, nat_lt, Bool, true, false, cond, All, ◌⊎◌}
use Rattle.std.proofs.lemmas.Bool.{ltb-true, ltb-false, eqb-true, eqb-false, cases_lt}
use Rattle.std.proofs.lemmas.List.{append-nil, length-map, length_push, length-set, length-replicate, get_or-replicate, get_or-set_same, get_or-set_other}
use Rattle.std.proofs.lemmas.List.{get_or_append_left, get_or_push}
use Rattle.std.proofs.lemmas.List.Elements.{All-nil, All-head, All-tail, All-push, All-weaker, filter-append}
use Rattle.command_set.specs.Command.{CommandData}
use Rattle.command_set.specs.Entries.{EntryData, AreNumbered, entries_of, sent_by}
use Rattle.schedule_core.specs.Core.{Core, Sends, no_sends, sends_of, accepted_of, refusals_of, first_of, with_entry, with_refusal, opening, Step, Send, Take}
use Rattle.schedule_core.specs.Core.{Render, Settle, step, run, queued, refused, taken, next_entry, CanStep}
use Rattle.instrument.specs.Logging.{logged_at}
use Rattle.instrument.proofs.Journals.{IsPast, entries_logged, taken_up_to}
use Rattle.schedule_core.specs.Schedule.{IsLegal}

-- the first entries that wait are logged

logs : (c : Core) (es later : List EntryData) → c.waiting ≡ es ++ later → IsLegal c
    → IsLegal (record c { waiting = later; journal = c.journal ++ map (logged_at c.blocks) es })
logs c es later split h =
    let same : entries_of (c.journal ++ map (logged_at c.blocks) es) ++ later ≡ entries_of c.journal ++ c.waiting =
    ap (λ (front : List EntryData). front ++ later) (entries_logged c.journal c.blocks es) ∙ append_assoc (entries_of c.journal) es later
    ∙ ap (λ (back : List EntryData). entries_of c.journal ++ back) (sym split) in
    let long : length c.waiting ≡ length es + length later = ap length split ∙ length-append es later in
    let more : length (c.journal ++ map (logged_at c.blocks) es) ≡ length c.journal + length es =
    length-append c.journal (map (logged_at c.blocks) es) ∙ ap (λ (n : ℕ). length c.journal + n) (length-map es (logged_at c.blocks)) in
    record {
      queued = record {
        made = subst (All (λ (e : EntryData). e.script < length c.scripts)) (sym same) h.queued.made;
        numbered = λ s. subst (λ (all : List EntryData). AreNumbered (sent_by s all)) (sym same) (h.queued.numbered s);
        room = omega (arith, h.queued.room, long);
      };
      lists = λ e below. h.lists e below ∙ ap (sent_by e) (sym same);
      marked = λ e below some. let m = h.marked e below some in (m.0, omega (arith, m.1, long, more));
      blocks = taken_up_to c.blocks c.journal es h.blocks;
    }

taken_legal : (c : Core) (es : List EntryData) → c.waiting ≡ es → IsLegal c → IsLegal (taken c es)
taken_legal c [] split h = h
taken_legal c (e ∷ later) split h = logs c (e ∷ []) later split h

-- an entry is accepted

push_numbered : (es : List EntryData) (e d : EntryData) (i : ℕ) → AreNumbered es → e.seq ≡ length es → i < length (es ++ e ∷ []) → (i < length es)
    ⊎ (length es ≤ i)
    → (get_or (es ++ e ∷ []) i d).seq ≡ i
push_numbered es e d i h last below (inl inside) = rw (get_or_append_left es (e ∷ []) d i inside) (h i d inside)
push_numbered es e d i h last below (inr behind) =
    let end : length es ≡ i = omega (arith, length_push es e, below, behind) in
    rw (get_or_push es e d i end) (last ∙ end)

numbered_by : (t : Bool) (es : List EntryData) (e : EntryData) → AreNumbered es → (t ≡ true → e.seq ≡ length es) → AreNumbered (es ++ cond t (e ∷ []) [])
numbered_by true es e h last = λ i d below. push_numbered es e d i h (last refl) below (cases_lt i (length es))
numbered_by false es e h last = subst AreNumbered (sym (append-nil es)) h

sent_more : (s : ℕ) (es : List EntryData) (e : EntryData) → sent_by s (es ++ e ∷ []) ≡ sent_by s es ++ cond (e.script == s) (e ∷ []) []
sent_more s es e = filter-append (λ (x : EntryData). x.script == s) es (e ∷ [])

lists_by : (t : Bool) (e : EntryData) (list es : List EntryData) → list ≡ es → cond t (list ++ e ∷ []) list ≡ es ++ cond t (e ∷ []) []
lists_by true e list es same = ap (λ (all : List EntryData). all ++ e ∷ []) same
lists_by false e list es same = same ∙ sym (append-nil es)

marked_accepted : (t : Bool) (e : EntryData) (list waiting : List EntryData) (first places logged : ℕ)
    → (first ≤ length list) × (places + length list ≤ logged + length waiting + first)
    → (first ≤ length (cond t (list ++ e ∷ []) list)) × (places + length (cond t (list ++ e ∷ []) list) ≤ logged + length (waiting ++ e ∷ []) + first)
marked_accepted true e list waiting first places logged m =
    (omega (arith, m.0, length_push list e), omega (arith, m.1, length_push list e, length_push waiting e))
marked_accepted false e list waiting first places logged m = (m.0, omega (arith, m.1, length_push waiting e))

-- what became of the sends of each script

pub at_set : {A : Type 0} (t : Bool) (xs : List A) (i k : ℕ) (x d : A) → (i == k) ≡ t → i < length xs → get_or (set xs i x) k d ≡ cond t x (get_or xs k d)
at_set true xs i k x d is below = ap (λ (n : ℕ). get_or (set xs i x) n d) (sym (eqb-true i k is)) ∙ get_or-set_same xs i x d below
at_set false xs i k x d is below = get_or-set_other xs i k x d (λ e. eqb-false i k is (sym e))

entry_accepted : (t : Bool) (c : Core) (e : EntryData) (k : ℕ) → (e.script == k) ≡ t
    → (cond t (with_entry (sends_of c e.script) e) (sends_of c k)).accepted ≡ cond t (accepted_of c k ++ e ∷ []) (accepted_of c k)
entry_accepted true c e k is = ap (λ (n : ℕ). accepted_of c n ++ e ∷ []) (eqb-true e.script k is)
entry_accepted false c e k is = refl

entry_refusals : (t : Bool) (c : Core) (e : EntryData) (k : ℕ) → (e.script == k) ≡ t
    → ((cond t (with_entry (sends_of c e.script) e) (sends_of c k)).refusals ≡ refusals_of c k)
    × ((cond t (with_entry (sends_of c e.script) e) (sends_of c k)).first ≡ first_of c k)
entry_refusals true c e k is = (ap (λ (n : ℕ). refusals_of c n) (eqb-true e.script k is), ap (λ (n : ℕ). first_of c n) (eqb-true e.script k is))
entry_refusals false c e k is = (refl, refl)

sends_queued : (c : Core) (e : EntryData) (k : ℕ) → e.script < length c.scripts
    → sends_of (queued c e) k ≡ cond (e.script == k) (with_entry (sends_of c e.script) e) (sends_of c k)
sends_queued c e k below = at_set (e.script == k) c.scripts e.script k (with_entry (sends_of c e.script) e) no_sends refl below

pub accepted_queued : (c : Core) (e : EntryData) (k : ℕ) → e.script < length c.scripts
    → accepted_of (queued c e) k ≡ cond (e.script == k) (accepted_of c k ++ e ∷ []) (accepted_of c k)
accepted_queued c e k below = ap (λ (s : Sends). s.accepted) (sends_queued c e k below) ∙ entry_accepted (e.script == k) c e k refl

pub refusals_queued : (c : Core) (e : EntryData) (k : ℕ) → e.script < length c.scripts
    → (refusals_of (queued c e) k ≡ refusals_of c k) × (first_of (queued c e) k ≡ first_of c k)
refusals_queued c e k below =
    let same = entry_refusals (e.script == k) c e k refl in
    (ap (λ (s : Sends). s.refusals) (sends_queued c e k below) ∙ same.0, ap (λ (s : Sends). s.first) (sends_queued c e k below) ∙ same.1)

sends_refused : (c : Core) (script k : ℕ) → script < length c.scripts
    → sends_of (refused c script) k ≡ cond (script == k) (with_refusal (sends_of c script)) (sends_of c k)
sends_refused c script k below = at_set (script == k) c.scripts script k (with_refusal (sends_of c script)) no_sends refl below

refusal_accepted : (t : Bool) (c : Core) (script k : ℕ) → (script == k) ≡ t
    → (cond t (with_refusal (sends_of c script)) (sends_of c k)).accepted ≡ accepted_of c k
refusal_accepted true c script k is = ap (λ (n : ℕ). accepted_of c n) (eqb-true script k is)
refusal_accepted false c script k is = refl

refusal_refusals : (t : Bool) (c : Core) (script k : ℕ) → (script == k) ≡ t
    → ((cond t (with_refusal (sends_of c script)) (sends_of c k)).refusals ≡ cond t (min (refusals_of c k + 1) (2 ^ 64 - 1)) (refusals_of c k))
    × ((cond t (with_refusal (sends_of c script)) (sends_of c k)).first ≡ cond (t && refusals_of c k == 0) (length (accepted_of c k)) (first_of c k))
refusal_refusals true c script k is = (
  ap (λ (n : ℕ). min (refusals_of c n + 1) (2 ^ 64 - 1)) (eqb-true script k is),
  ap (λ (n : ℕ). cond (refusals_of c n == 0) (length (accepted_of c n)) (first_of c n)) (eqb-true script k is),
)
refusal_refusals false c script k is = (refl, refl)

pub accepted_refused : (c : Core) (script k : ℕ) → script < length c.scripts → accepted_of (refused c script) k ≡ accepted_of c k
accepted_refused c script k below = ap (λ (s : Sends). s.accepted) (sends_refused c script k below) ∙ refusal_accepted (script == k) c script k refl

pub refusals_refused : (c : Core) (script k : ℕ) → script < length c.scripts
    → (refusals_of (refused c script) k ≡ cond (script == k) (min (refusals_of c k + 1) (2 ^ 64 - 1)) (refusals_of c k))
    × (first_of (refused c script) k ≡ cond (script == k && refusals_of c k == 0) (length (accepted_of c k)) (first_of c k))
refusals_refused c script k below =
    let same = refusal_refusals (script == k) c script k refl in
    (ap (λ (s : Sends). s.refusals) (sends_refused c script k below) ∙ same.0, ap (λ (s : Sends). s.first) (sends_refused c script k below) ∙ same.1)

pub accepts : (c : Core) (script due : ℕ) (command : CommandData) → script < length c.scripts → length c.waiting < c.places → IsLegal c
    → IsLegal (queued c (next_entry c script due command))
accepts c script due command made room h =
    let e : EntryData = next_entry c script due command in
    let all : List EntryData = entries_of c.journal ++ c.waiting in
    let grown : entries_of c.journal ++ (c.waiting ++ e ∷ []) ≡ all ++ e ∷ [] = sym (append_assoc (entries_of c.journal) c.waiting (e ∷ [])) in
    let many : length (queued c e).scripts ≡ length c.scripts = length-set c.scripts script (with_entry (sends_of c script) e) in
    record {
      queued = record {
        made = subst (λ (n : ℕ). All (λ (x : EntryData). x.script < n) (entries_of c.journal ++ (c.waiting ++ e ∷ []))) (sym many)
            (subst (All (λ (x : EntryData). x.script < length c.scripts)) (sym grown)
            (All-push (λ (x : EntryData). x.script < length c.scripts) all e h.queued.made made));
        numbered = λ s.
            subst (λ (es : List EntryData). AreNumbered (sent_by s es)) (sym grown)
            (subst AreNumbered (sym (sent_more s all e))
            (numbered_by (script == s) (sent_by s all) e (h.queued.numbered s)
            (λ is. let same : script ≡ s = eqb-true script s is in ap length (h.lists script made) ∙ ap (λ (k : ℕ). length (sent_by k all)) same)));
        room = omega (arith, room, length_push c.waiting e);
      };
      lists = λ s below.
          accepted_queued c e s made
          ∙ lists_by (script == s) e (accepted_of c s) (sent_by s all) (h.lists s (omega (arith, below, many)))
          ∙ sym (sent_more s all e) ∙ ap (sent_by s) (sym grown);
      marked = λ s below some.
          let r = refusals_queued c e s made in
          let m = marked_accepted (script == s) e (accepted_of c s) c.waiting (first_of c s) c.places (length c.journal)
          (h.marked s (omega (arith, below, many)) (omega (arith, some, r.0))) in
          let long : length (accepted_of (queued c e) s) ≡ length (cond (script == s) (accepted_of c s ++ e ∷ []) (accepted_of c s)) =
          ap length (accepted_queued c e s made) in
          (omega (arith, m.0, r.1, long), omega (arith, m.1, r.1, long));
      blocks = h.blocks;
    }

-- a script is refused

marked_refused : (t u : Bool) (refusals list first places logged waiting : ℕ) → (refusals == 0) ≡ u → 0 < cond t (min (refusals + 1) (2 ^ 64 - 1)) refusals
    → places ≤ waiting
    → (0 < refusals → (first ≤ list) × (places + list ≤ logged + waiting + first))
    → (cond (t && u) list first ≤ list) × (places + list ≤ logged + waiting + cond (t && u) list first)
marked_refused true true refusals list first places logged waiting is some full m = (omega arith, omega (arith, full))
marked_refused true false refusals list first places logged waiting is some full m = m (omega (arith, eqb-false refusals 0 is))
marked_refused false true refusals list first places logged waiting is some full m = m some
marked_refused false false refusals list first places logged waiting is some full m = m some

pub refuses : (c : Core) (script : ℕ) → script < length c.scripts → c.places ≤ length c.waiting → IsLegal c → IsLegal (refused c script)
refuses c script made full h =
    let many : length (refused c script).scripts ≡ length c.scripts = length-set c.scripts script (with_refusal (sends_of c script)) in
    record {
      queued = record {
        made = subst (λ (n : ℕ). All (λ (x : EntryData). x.script < n) (entries_of c.journal ++ c.waiting)) (sym many) h.queued.made;
        numbered = h.queued.numbered;
        room = h.queued.room;
      };
      lists = λ s below. accepted_refused c script s made ∙ h.lists s (omega (arith, below, many));
      marked = λ s below some.
          let r = refusals_refused c script s made in
          let m = marked_refused (script == s) (refusals_of c s == 0) (refusals_of c s) (length (accepted_of c s)) (first_of c s) c.places (length c.journal)
          (length c.waiting)
          refl (subst (λ (n : ℕ). 0 < n) r.0 some) full (h.marked s (omega (arith, below, many))) in
          let long : length (accepted_of (refused c script) s) ≡ length (accepted_of c s) = ap length (accepted_refused c script s made) in
          (omega (arith, m.0, r.1, long), omega (arith, m.1, r.1, long));
      blocks = h.blocks;
    }

sent_legal : (t : Bool) (c : Core) (script due : ℕ) (command : CommandData) → nat_lt (length c.waiting) c.places ≡ t → script < length c.scripts → IsLegal c
    → IsLegal (cond t (queued c (next_entry c script due command)) (refused c script))
sent_legal true c script due command is made h = accepts c script due command made (ltb-true (length c.waiting) c.places is) h
sent_legal false c script due command is made h = refuses c script made (ltb-false (length c.waiting) c.places is) h

-- one step, and all

rendered_legal : (c : Core) → IsLegal c → IsLegal (record c { blocks = c.blocks + 1 })
rendered_legal c h = record {
  queued = h.queued;
  lists = h.lists;
  marked = h.marked;
  blocks = record {
    order = h.blocks.order;
    past = All-weaker (IsPast c.blocks) (IsPast (c.blocks + 1)) (λ l low. omega (arith, low)) c.journal h.blocks.past;
  };
}

pub step_legal : (c : Core) (s : Step) → CanStep (length c.scripts) s → IsLegal c → IsLegal (step c s)
step_legal c (Send script due command) can h = sent_legal (nat_lt (length c.waiting) c.places) c script due command refl can h
step_legal c Take can h = taken_legal c c.waiting refl h
step_legal c Render can h = rendered_legal c h
step_legal c Settle can h = logs c c.waiting [] (sym (append-nil c.waiting)) h

sent_scripts : (t : Bool) (c : Core) (e : EntryData) (script : ℕ) → length (cond t (queued c e) (refused c script)).scripts ≡ length c.scripts
sent_scripts true c e script = length-set c.scripts e.script (with_entry (sends_of c e.script) e)
sent_scripts false c e script = length-set c.scripts script (with_refusal (sends_of c script))

taken_scripts : (c : Core) (es : List EntryData) → (taken c es).scripts ≡ c.scripts
taken_scripts c [] = refl
taken_scripts c (e ∷ es) = refl

pub step_scripts : (c : Core) (s : Step) → length (step c s).scripts ≡ length c.scripts
step_scripts c (Send script due command) = sent_scripts (nat_lt (length c.waiting) c.places) c (next_entry c script due command) script
step_scripts c Take = ap length (taken_scripts c c.waiting)
step_scripts c Render = refl
step_scripts c Settle = refl

pub run_legal : (scripts : ℕ) (c : Core) (steps : List Step) → length c.scripts ≡ scripts → All (CanStep scripts) steps → IsLegal c → IsLegal (run c steps)
run_legal scripts c [] same can h = h
run_legal scripts c (s ∷ steps) same can h =
    run_legal scripts (step c s) steps (step_scripts c s ∙ same) (All-tail (CanStep scripts) s steps can)
    (step_legal c s (subst (λ (n : ℕ). CanStep n s) (sym same) (All-head (CanStep scripts) s steps can)) h)

pub fresh_at : (places scripts k : ℕ) → k < length (opening places scripts).scripts → sends_of (opening places scripts) k ≡ no_sends
fresh_at places scripts k below = get_or-replicate scripts k no_sends no_sends (omega (arith, below, length-replicate scripts no_sends))

pub opening_legal : (places scripts : ℕ) → IsLegal (opening places scripts)
opening_legal places scripts = record {
  queued = record {
    made = All-nil (λ (e : EntryData). e.script < length (opening places scripts).scripts);
    numbered = λ s i d below. absurd (omega (arith, below));
    room = omega arith;
  };
  lists = λ k below. ap (λ (s : Sends). s.accepted) (fresh_at places scripts k below);
  marked = λ k below some. absurd (let none : refusals_of (opening places scripts) k ≡ 0 = ap (λ (s : Sends). s.refusals) (fresh_at places scripts k below) in
      omega (arith, some, none));
  blocks = record {
    order = λ i j d up below. absurd (omega (arith, below));
    past = All-nil (IsPast 0);
  };
}
