-- A block of the four scripts, script after script.
use Rattle.std.proofs.Common.{◌≡◌, ◌≢◌, ℕ, zero, suc, ◌+◌, ◌-◌, ◌*◌, ◌<◌, ◌≤◌, List, [], ◌∷◌, ◌++◌, length, get_or, set, map, refl, sym, ◌∙◌, ap, subst, arith}
use Rattle.std.proofs.Common.{inl, inr, length-append}
use Rattle.std.specs.Prelude.{◌⊎◌}
use Rattle.std.specs.List.{range_with_len}
use Rattle.std.proofs.lemmas.Bool.{cases_eq, cases_lt}
use Rattle.std.proofs.lemmas.List.{length-map, get_or-set_same, get_or-set_other, length-set, length-replicate, get_or-replicate}
use Rattle.std.proofs.lemmas.List.FromFn.{length-map-range_with_len}
use Rattle.std.proofs.lemmas.List.Sums.{sum_by-cons, sum_by-set}
use Rattle.command_set.specs.Entries.{EntryData, LoggedData}
use Rattle.instrument.specs.Logging.{logged_at}
use Rattle.schedule_core.specs.Core.{Core, Sends, no_sends, accepted_of, opening, step, Settle, Render}
use Rattle.generator.specs.Generated.{script_seed, entry, due_at, all_due_at, block_entries, journal_below}
use Rattle.generator.specs.Scripts.{IsGenerated, AreBefore}
use Rattle.generator.specs.Playing.{CanSend, HasSentTo, IsInBlock, generated_of}
use Rattle.generator.specs.declared.script.GeneratedScript.{GeneratedScript}
use Rattle.generator.proofs.Ranges.{flat_more}
use Rattle.generator.proofs.DueBlocks.{due_of, due_run, none_before}

-- how many commands were generated

abbrev count_of : GeneratedScript → ℕ
count_of s = s.count

generated_most : (n : ℕ) (scripts : List GeneratedScript) → ((j : ℕ) (e : GeneratedScript) → j < length scripts → (get_or scripts j e).count ≤ n)
    → generated_of scripts ≤ length scripts * n
generated_most n [] few = omega arith
generated_most n (s ∷ ss) few =
    let rest : generated_of ss ≤ length ss * n = generated_most n ss (λ j e below. few (suc j) e (omega (arith, below))) in
    let here : s.count ≤ n = few 0 s (omega arith) in
    omega (arith, rest, here, sum_by-cons count_of s ss)

pub generated_room : (n : ℕ) (scripts : List GeneratedScript) (k : ℕ) (d : GeneratedScript) → k < length scripts
    → ((j : ℕ) (e : GeneratedScript) → j < length scripts → (get_or scripts j e).count ≤ n)
    → generated_of scripts + (n - (get_or scripts k d).count) ≤ length scripts * n
generated_room n [] k d below few = absurd (omega (arith, below))
generated_room n (s ∷ ss) zero d below few =
    let rest : generated_of ss ≤ length ss * n = generated_most n ss (λ j e below. few (suc j) e (omega (arith, below))) in
    let here : s.count ≤ n = few 0 s (omega arith) in
    omega (arith, rest, here, sum_by-cons count_of s ss)
generated_room n (s ∷ ss) (suc k) d below few =
    let rest : generated_of ss + (n - (get_or ss k d).count) ≤ length ss * n =
    generated_room n ss k d (omega (arith, below)) (λ j e below. few (suc j) e (omega (arith, below))) in
    let here : s.count ≤ n = few 0 s (omega arith) in
    omega (arith, rest, here, sum_by-cons count_of s ss)

-- scripts of which one has changed

by_place : (P : ℕ → GeneratedScript → Type 0) (scripts : List GeneratedScript) (k j : ℕ) (script e : GeneratedScript) → k < length scripts → (j ≡ k) ⊎ (j ≢ k)
    → (j ≡ k → P k script) → (j ≢ k → P j (get_or scripts j e)) → P j (get_or (set scripts k script) j e)
by_place P scripts k j script e below (inl same) here there =
    subst (λ (i : ℕ). P i (get_or (set scripts k script) i e)) (sym same) (subst (P k) (sym (get_or-set_same scripts k script e below)) (here same))
by_place P scripts k j script e below (inr ne) here there = subst (P j) (sym (get_or-set_other scripts k j script e ne)) (there ne)

abbrev changed : (P : ℕ → GeneratedScript → Type 0) (scripts : List GeneratedScript) (k j : ℕ) (script e : GeneratedScript) → k < length scripts
    → (j ≡ k → P k script) → (j ≢ k → P j (get_or scripts j e)) → P j (get_or (set scripts k script) j e)
changed P scripts k j script e below here there = by_place P scripts k j script e below (cases_eq j k) here there

-- a script's turn

pub few_of : {seed n b k : ℕ} {scripts : List GeneratedScript} {w : Core} → IsInBlock seed n b k scripts w → (j : ℕ) (e : GeneratedScript) → j < 4 → (j < k)
    ⊎ (k ≤ j)
    → (get_or scripts j e).count ≤ n
few_of h j e below (inl inside) = (h.past j e inside).count
few_of h j e below (inr behind) = (h.next j e behind below).count

pub all_few : {seed n b k : ℕ} {scripts : List GeneratedScript} {w : Core} → IsInBlock seed n b k scripts w → (j : ℕ) (e : GeneratedScript) → j < 4
    → (get_or scripts j e).count ≤ n
all_few {k} h j e below = few_of h j e below (cases_lt j k)

pub may_send : (seed n b k : ℕ) (scripts : List GeneratedScript) (e : GeneratedScript) (w : Core) → n ≤ 25000 → k < 4
    → (h : IsInBlock seed n b k scripts w) → CanSend k (script_seed seed k) n (get_or scripts k e) w
may_send seed n b k scripts e w small below h =
    let room : generated_of scripts + (n - (get_or scripts k e).count) ≤ length scripts * n =
    generated_room n scripts k e (omega (arith, below, h.four)) (λ j d inside. all_few h j d (omega (arith, inside, h.four))) in
    let wide : length scripts * n ≡ 4 * n = ap (λ (m : ℕ). m * n) h.four in
    record {
      generated = h.generated k e below;
      made = omega (arith, below, h.ends);
      accepted = h.accepted k e below;
      few = all_few h k e below;
      room = omega (arith, room, wide, small, h.all, h.places);
    }

pub next_script : (seed n b k : ℕ) (scripts : List GeneratedScript) (e script : GeneratedScript) (old new : Core) → k < 4
    → (h : IsInBlock seed n b k scripts old) → HasSentTo old k (script_seed seed k) n (get_or scripts k e).count script new
    → AreBefore (script_seed seed k) n (b + 1) script.count
    → (get_or scripts k e).count ≤ script.count → IsInBlock seed n b (k + 1) (set scripts k script) new
next_script seed n b k scripts before script old new below h g last up =
    let d : Core = new in
    let s = g.sent in
    let own : ℕ = script_seed seed k in
    let from : ℕ = (get_or scripts k before).count in
    let inside : k < length scripts = omega (arith, below, h.four) in
    let more : List EntryData = map (entry own k) (range_with_len from (script.count - from)) in
    let run : due_of own k b n ≡ more = due_run own k b n from script.count up (h.next k before (omega arith) below) last in
    let long : length d.waiting ≡ length old.waiting + (script.count - from) =
    ap length s.waiting ∙ length-append old.waiting more
    ∙ ap (λ (m : ℕ). length old.waiting + m) (length-map-range_with_len (entry own k) from (script.count - from)) in
    let sums : generated_of (set scripts k script) + from ≡ generated_of scripts + script.count = sum_by-set count_of scripts k script before inside in
    record {
      places = s.places ∙ h.places;
      ends = s.ends ∙ h.ends;
      blocks = s.blocks ∙ h.blocks;
      journal = s.journal ∙ h.journal;
      waiting =
          s.waiting
          ∙ ap (λ (prefix : List EntryData). prefix ++ more) h.waiting
          ∙ ap (λ (back : List EntryData). all_due_at seed n k b ++ back) (sym run)
          ∙ sym (flat_more (due_at seed n b) k);
      four = length-set scripts k script ∙ h.four;
      all = omega (arith, ap length s.journal, long, sums, h.all, up);
      accepted = λ j e low.
          changed (λ (i : ℕ) (x : GeneratedScript). length (accepted_of d i) ≡ x.count) scripts k j script e inside
          (λ same. s.own) (λ ne. ap length (s.others j ne) ∙ h.accepted j e low);
      generated = λ j e low.
          changed (λ (i : ℕ) (x : GeneratedScript). IsGenerated (script_seed seed i) x) scripts k j script e inside
          (λ same. g.can.generated) (λ ne. h.generated j e low);
      past = λ j e low.
          changed (λ (i : ℕ) (x : GeneratedScript). AreBefore (script_seed seed i) n (b + 1) x.count) scripts k j script e inside
          (λ same. last) (λ ne. h.past j e (omega (arith, low, ne)));
      next = λ j e high low.
          changed (λ (i : ℕ) (x : GeneratedScript). AreBefore (script_seed seed i) n b x.count) scripts k j script e inside
          (λ same. absurd (omega (arith, high, same))) (λ ne. h.next j e (omega (arith, high)) low);
    }

-- the first block, and the block after a block

pub first_block : (seed n : ℕ) (scripts : List GeneratedScript) (w : Core) → length scripts ≡ 4 → w ≡ opening 100000 4
    → ((k : ℕ) (d : GeneratedScript) → k < 4 → (get_or scripts k d).count ≡ 0)
    → ((k : ℕ) (d : GeneratedScript) → k < 4 → IsGenerated (script_seed seed k) (get_or scripts k d))
    → IsInBlock seed n 0 0 scripts w
first_block seed n scripts w four is none generated =
    let sum : generated_of scripts ≤ length scripts * 0 = generated_most 0 scripts (λ j e below. omega (arith, none j e (omega (arith, below, four)))) in
    subst (λ (c : Core). IsInBlock seed n 0 0 scripts c) (sym is) (record {
      places = refl;
      ends = length-replicate 4 no_sends;
      blocks = refl;
      journal = refl;
      waiting = refl;
      four = four;
      all = omega (arith, sum);
      accepted = λ k d below. ap (λ (s : Sends). length s.accepted) (get_or-replicate 4 k no_sends no_sends below) ∙ sym (none k d below);
      generated = generated;
      past = λ k d below. absurd (omega (arith, below));
      next = λ k d high below. subst (AreBefore (script_seed seed k) n 0) (sym (none k d below)) (none_before (script_seed seed k) n);
    })

-- what is logged when the line is settled
pub settled_is : (seed n b : ℕ) (scripts : List GeneratedScript) (w : Core) → IsInBlock seed n b 4 scripts w
    → (step w Settle).journal ≡ journal_below seed n (b + 1)
settled_is seed n b scripts w h =
    ap (λ (prefix : List LoggedData). prefix ++ map (logged_at w.blocks) w.waiting) h.journal
    ∙ ap (λ (now : ℕ). journal_below seed n b ++ map (logged_at now) w.waiting) h.blocks
    ∙ ap (λ (es : List EntryData). journal_below seed n b ++ map (logged_at b) es) h.waiting
    ∙ sym (flat_more (block_entries seed n) b)

pub next_block : (seed n b : ℕ) (scripts : List GeneratedScript) (old new : Core) → IsInBlock seed n b 4 scripts old → new ≡ step (step old Settle) Render
    → IsInBlock seed n (b + 1) 0 scripts new
next_block seed n b scripts old new h is =
    subst (λ (c : Core). IsInBlock seed n (b + 1) 0 scripts c) (sym is) (record {
      places = h.places;
      ends = h.ends;
      blocks = ap (λ (now : ℕ). now + 1) h.blocks;
      journal = settled_is seed n b scripts old h;
      waiting = refl;
      four = h.four;
      all = omega (arith, length-append old.journal (map (logged_at old.blocks) old.waiting), length-map old.waiting (logged_at old.blocks), h.all);
      accepted = h.accepted;
      generated = h.generated;
      past = λ k d below. absurd (omega (arith, below));
      next = λ k d high below. h.past k d below;
    })

-- how many commands were played
pub more_played : (seed n b : ℕ) (scripts : List GeneratedScript) (w : Core) → IsInBlock seed n b 4 scripts w
    → length (journal_below seed n (b + 1)) ≡ length (journal_below seed n b) + length w.waiting
more_played seed n b scripts w h =
    sym (ap length (settled_is seed n b scripts w h))
    ∙ length-append w.journal (map (logged_at w.blocks) w.waiting)
    ∙ omega (arith, ap length h.journal, length-map w.waiting (logged_at w.blocks))

-- they are as many as were generated, at most
pub few_played : (seed n b : ℕ) (scripts : List GeneratedScript) (w : Core) → n ≤ 25000 → IsInBlock seed n b 4 scripts w
    → length (journal_below seed n b) + length w.waiting ≤ 100000
few_played seed n b scripts w small h =
    let most : generated_of scripts ≤ length scripts * n = generated_most n scripts (λ j e inside. all_few h j e (omega (arith, inside, h.four))) in
    let wide : length scripts * n ≡ 4 * n = ap (λ (m : ℕ). m * n) h.four in
    omega (arith, most, wide, small, h.all, ap length h.journal)
