-- No entry is logged at the block after the last turn.
use Rattle.std.proofs.Common.{◌≡◌, ℕ, ◌+◌, ◌-◌, ◌<◌, ◌≤◌, List, [], ◌∷◌, sym, subst, arith}
use Rattle.std.specs.Prelude.{All}
use Rattle.std.proofs.lemmas.List.Elements.{All-nil, All-cons, All-head, All-tail}
use Rattle.command_set.specs.Entries.{LoggedData}
use Rattle.instrument.specs.Logging.{AreTakenUpTo}
use Rattle.live_renderer.specs.Renderer.{RendererView, IsLive}

below_all : (present blocks : ℕ) (journal : List LoggedData) → present < blocks → All (λ l. l.block ≤ present) journal → All (λ l. l.block < blocks) journal
below_all present blocks [] lt all = All-nil (λ l. l.block < blocks)
below_all present blocks (l ∷ ls) lt all =
    let first : l.block ≤ present = All-head (λ x. x.block ≤ present) l ls all in
    All-cons (λ x. x.block < blocks) l ls (omega (arith, first, lt)) (below_all present blocks ls lt (All-tail (λ x. x.block ≤ present) l ls all))

pub none_above : (t blocks : ℕ) (r : RendererView) → t < blocks → r.blocks ≡ t + 1 - 1 → IsLive r → All (λ l. l.block < blocks) r.journal
none_above t blocks r lt is live = below_all r.blocks blocks r.journal (omega (arith, is, lt)) live.order.past

at_most : (blocks : ℕ) (journal : List LoggedData) → All (λ l. l.block < blocks) journal → All (λ l. l.block ≤ blocks - 1) journal
at_most blocks [] all = All-nil (λ l. l.block ≤ blocks - 1)
at_most blocks (l ∷ ls) all =
    let first : l.block < blocks = All-head (λ x. x.block < blocks) l ls all in
    All-cons (λ x. x.block ≤ blocks - 1) l ls (omega (arith, first)) (at_most blocks ls (All-tail (λ x. x.block < blocks) l ls all))

pub taken_below : (present blocks : ℕ) (journal : List LoggedData) → AreTakenUpTo present journal → All (λ l. l.block < blocks) journal
    → AreTakenUpTo (blocks - 1) journal
taken_below present blocks journal taken all = record { order = taken.order; past = at_most blocks journal all }
