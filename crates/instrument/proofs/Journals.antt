-- A journal that grows by entries at the present block: its entries, its commands by block, and the state that they lead to.
use Rattle.std.proofs.Common.{◌≡◌, ℕ, zero, suc, ◌+◌, ◌-◌, ◌≤◌, ◌<◌, List, [], ◌∷◌, ◌++◌, length, get_or, map, refl, ◌∙◌, ap, arith, add-one, length-append}
use Rattle.std.proofs.Common.{inl, inr}
use Rattle.std.specs.Prelude.{◌==◌, ◌⊎◌, Bool, true, false, filter, All}
use Rattle.std.proofs.lemmas.Bool.{eq-eqb, ne_eqb, cases_lt}
use Rattle.std.proofs.lemmas.List.{append-nil, map-append, get_or_append_left, get_or-append_right}
use Rattle.std.proofs.lemmas.List.Elements.{All-head, All-tail, All-append, All-map, filter-append}
use Rattle.command_set.specs.Command.{CommandData}
use Rattle.command_set.specs.Entries.{EntryData, LoggedData, entries_of}
use Rattle.instrument.specs.State.{State, opening, passed, apply, samples}
use Rattle.instrument.specs.Journal.{commands_at, applied, state_at, sound}
use Rattle.instrument.specs.Logging.{logged_at, AreTakenUpTo}

abbrev is_at : ℕ → LoggedData → Bool
is_at b l = l.block == b

abbrev command_in : LoggedData → CommandData
command_in l = l.entry.command

pub commands_appended : (journal more : List LoggedData) (b : ℕ) → commands_at (journal ++ more) b ≡ commands_at journal b ++ commands_at more b
commands_appended journal more b = ap (map command_in) (filter-append (is_at b) journal more)
    ∙ map-append command_in (filter (is_at b) journal) (filter (is_at b) more)

commands_here : (b : ℕ) (e : EntryData) → commands_at (logged_at b e ∷ []) b ≡ e.command ∷ []
commands_here b e = let same : (b == b) ≡ true = eq-eqb b b refl in rw same refl

commands_elsewhere : (b c : ℕ) (es : List EntryData) → (b ≡ c → ⊥) → commands_at (map (logged_at b) es) c ≡ []
commands_elsewhere b c [] ne = refl
commands_elsewhere b c (e ∷ es) ne = let other : (b == c) ≡ false = ne_eqb b c ne in rw other (commands_elsewhere b c es ne)

-- what is logged at a block changes no other one
pub commands_kept : (journal : List LoggedData) (es : List EntryData) (b c : ℕ) → (b ≡ c → ⊥)
    → commands_at (journal ++ map (logged_at b) es) c ≡ commands_at journal c
commands_kept journal es b c ne =
    commands_appended journal (map (logged_at b) es) c ∙ ap (λ (cs : List CommandData). commands_at journal c ++ cs) (commands_elsewhere b c es ne)
    ∙ append-nil (commands_at journal c)

commands_pushed : (journal : List LoggedData) (b : ℕ) (e : EntryData) → commands_at (journal ++ logged_at b e ∷ []) b ≡ commands_at journal b ++ e.command ∷ []
commands_pushed journal b e = commands_appended journal (logged_at b e ∷ []) b ∙ ap (λ (cs : List CommandData). commands_at journal b ++ cs) (commands_here b e)

none_above : (journal : List LoggedData) (b c : ℕ) → b < c → All (λ l. l.block ≤ b) journal → commands_at journal c ≡ []
none_above [] b c later past = refl
none_above (l ∷ ls) b c later past =
    let low : l.block ≤ b = All-head (λ (x : LoggedData). x.block ≤ b) l ls past in
    let other : (l.block == c) ≡ false = ne_eqb l.block c (λ e. absurd (omega (arith, low, later, e))) in
    rw other (none_above ls b c later (All-tail (λ (x : LoggedData). x.block ≤ b) l ls past))

applied_pushed : (s : State) (cs : List CommandData) (c : CommandData) → applied s (cs ++ c ∷ []) ≡ apply (applied s cs) c
applied_pushed s [] c = refl
applied_pushed s (first ∷ cs) c = applied_pushed (apply s first) cs c

-- journals with the same commands up to a block lead to the same state
pub state_agrees : (one other : List LoggedData) (b : ℕ) → ((a : ℕ) → a ≤ b → commands_at one a ≡ commands_at other a) → state_at one b ≡ state_at other b
unfolding state_at
state_agrees one other zero same = ap (applied opening) (same 0 (omega arith))
state_agrees one other (suc b) same =
    ap (λ (s : State). applied (passed s) (commands_at one (suc b))) (state_agrees one other b (λ a below. same a (omega arith)))
    ∙ ap (applied (passed (state_at other b))) (same (suc b) (omega arith))

pub sound_agrees : (one other : List LoggedData) (b : ℕ) → ((a : ℕ) → a ≤ b → commands_at one a ≡ commands_at other a) → sound one b ≡ sound other b
unfolding sound
sound_agrees one other b same = ap samples (state_agrees one other b same)

pub sound_is : (journal : List LoggedData) (b : ℕ) → samples (state_at journal b) ≡ sound journal b
unfolding sound
sound_is journal b = refl

-- an entry that is logged at a block is applied to the block's state
pub state_logged : (journal : List LoggedData) (b : ℕ) (e : EntryData) → state_at (journal ++ logged_at b e ∷ []) b ≡ apply (state_at journal b) e.command
unfolding state_at
state_logged journal zero e = ap (applied opening) (commands_pushed journal 0 e) ∙ applied_pushed opening (commands_at journal 0) e.command
state_logged journal (suc b) e =
    ap (λ (s : State). applied (passed s) (commands_at (journal ++ logged_at (suc b) e ∷ []) (suc b)))
    (state_agrees (journal ++ logged_at (suc b) e ∷ []) journal b (λ a below. commands_kept journal (e ∷ []) (suc b) a (λ e. absurd (omega (arith, below, e)))))
    ∙ ap (applied (passed (state_at journal b))) (commands_pushed journal (suc b) e)
    ∙ applied_pushed (passed (state_at journal b)) (commands_at journal (suc b)) e.command

-- one block later, where nothing is logged above the block
pub state_passed : (journal : List LoggedData) (b : ℕ) → All (λ l. l.block ≤ b) journal → state_at journal (b + 1) ≡ passed (state_at journal b)
unfolding state_at
state_passed journal b past = rw add-one (ap (applied (passed (state_at journal b))) (none_above journal b (suc b) (omega arith) past))

pub state_opening : state_at [] 0 ≡ opening
unfolding state_at
state_opening = refl

-- the entries of the journal, and the order of their blocks

logged_entries : (b : ℕ) (es : List EntryData) → entries_of (map (logged_at b) es) ≡ es
logged_entries b [] = refl
logged_entries b (e ∷ es) = ap (λ (later : List EntryData). e ∷ later) (logged_entries b es)

pub entries_logged : (journal : List LoggedData) (b : ℕ) (es : List EntryData) → entries_of (journal ++ map (logged_at b) es) ≡ entries_of journal ++ es
entries_logged journal b es =
    map-append (λ (l : LoggedData). l.entry) journal (map (logged_at b) es) ∙ ap (λ (later : List EntryData). entries_of journal ++ later) (logged_entries b es)

abbrev pub IsPast : ℕ → LoggedData → Type 0
IsPast present l = l.block ≤ present

abbrev IsAt : ℕ → LoggedData → Type 0
IsAt present l = l.block ≡ present

past_more : (present : ℕ) (journal : List LoggedData) (es : List EntryData) → All (IsPast present) journal
    → All (IsPast present) (journal ++ map (logged_at present) es)
past_more present journal es past = All-append (IsPast present) journal (map (logged_at present) es) past
    (All-map (IsPast present) (logged_at present) es (λ k d below. omega arith))

order_by : (present : ℕ) (journal : List LoggedData) (es : List EntryData) (i j : ℕ) (d : LoggedData) → AreTakenUpTo present journal
    → i ≤ j → j < length (journal ++ map (logged_at present) es) → (j < length journal) ⊎ (length journal ≤ j)
    → (get_or (journal ++ map (logged_at present) es) i d).block ≤ (get_or (journal ++ map (logged_at present) es) j d).block
order_by present journal es i j d h up below (inl inside) =
    let early : i < length journal = omega (arith, up, inside) in
    rw (get_or_append_left journal (map (logged_at present) es) d i early, get_or_append_left journal (map (logged_at present) es) d j inside)
    (h.order i j d up inside)
order_by present journal es i j d h up below (inr after) =
    let at : get_or (journal ++ map (logged_at present) es) j d ≡ get_or (map (logged_at present) es) (j - length journal) d =
    get_or-append_right journal (map (logged_at present) es) (length journal) j d refl after in
    let inside : j - length journal < length (map (logged_at present) es) = omega (arith, length-append journal (map (logged_at present) es)) in
    let last : (get_or (map (logged_at present) es) (j - length journal) d).block ≡ present =
    All-map (IsAt present) (logged_at present) es (λ k d below. refl) (j - length journal) d inside in
    let same : (get_or (journal ++ map (logged_at present) es) j d).block ≡ present = ap (λ (l : LoggedData). l.block) at ∙ last in
    let low : (get_or (journal ++ map (logged_at present) es) i d).block ≤ present = past_more present journal es h.past i d (omega (arith, up, below)) in
    omega (arith, low, same)

pub taken_up_to : (present : ℕ) (journal : List LoggedData) (es : List EntryData) → AreTakenUpTo present journal
    → AreTakenUpTo present (journal ++ map (logged_at present) es)
taken_up_to present journal es h = record {
  order = λ i j d up below. order_by present journal es i j d h up below (cases_lt j (length journal));
  past = past_more present journal es h.past;
}
