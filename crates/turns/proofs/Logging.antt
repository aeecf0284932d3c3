-- What a renderer takes, one entry after the other.
use Rattle.std.proofs.Common.{◌≡◌, ℕ, ◌+◌, ◌-◌, ◌<◌, ◌≤◌, List, [], ◌∷◌, ◌++◌, length, map, take, refl, sym, ap, ◌∙◌, subst, arith, append_assoc, append-nil}
use Rattle.std.proofs.Common.{length-append}
use Rattle.std.proofs.lemmas.List.{map-append}
use Rattle.std.proofs.Math.Seq.{take-append_seam, take-length}
use Rattle.command_set.specs.Entries.{EntryData, LoggedData}
use Rattle.command_queue.specs.Ends.{TakeView}
use Rattle.instrument.specs.Logging.{logged_at}
use Rattle.live_renderer.specs.declared.stop.TakeOne.{TakeOne}
use Rattle.live_renderer.specs.declared.stop.TakeOne.TheVariants as one
use Rattle.live_renderer.specs.Renderer.{RendererView, Logs, KeepsSound, TookOne}
use Rattle.turns.specs.Steps.{LogsSome}

pub logs_none : (r : RendererView) → LogsSome r r
logs_none r = (
  0,
  record {
    entries = [];
    many = refl;
    journal = sym (append-nil r.journal);
    list = sym (append-nil r.taker.list);
    line = refl;
    blocks = refl;
    spare = omega arith;
  },
)

logs_got : (n m : ℕ) (a b c : RendererView) → Logs n a b → Logs m b c → Logs (n + m) a c
logs_got n m a b c h k = record {
  entries = h.entries ++ k.entries;
  many = omega (arith, length-append h.entries k.entries, h.many, k.many);
  journal = k.journal
      ∙ (λ i. h.journal i ++ map (logged_at (h.blocks i)) k.entries)
      ∙ append_assoc a.journal (map (logged_at a.blocks) h.entries) (map (logged_at a.blocks) k.entries)
      ∙ ap (λ (xs : List LoggedData). a.journal ++ xs) (sym (map-append (logged_at a.blocks) h.entries k.entries));
  list = k.list ∙ ap (λ (xs : List EntryData). xs ++ k.entries) h.list ∙ append_assoc a.taker.list h.entries k.entries;
  line = k.line ∙ h.line;
  blocks = k.blocks ∙ h.blocks;
  spare = omega (arith, k.spare, h.spare);
}

logs_same : (n : ℕ) (a b c : RendererView) → Logs n a b → c.journal ≡ b.journal → c.taker.list ≡ b.taker.list → c.taker.line ≡ b.taker.line
    → c.blocks ≡ b.blocks → c.spare ≡ b.spare → Logs n a c
logs_same n a b c h journal list line blocks spare = record {
  entries = h.entries;
  many = h.many;
  journal = journal ∙ h.journal;
  list = list ∙ h.list;
  line = line ∙ h.line;
  blocks = blocks ∙ h.blocks;
  spare = spare ∙ h.spare;
}

pub logs_more : (a b c : RendererView) (x : TakeOne) → LogsSome a b → TookOne x b c → LogsSome a c
logs_more a b c one.Got h took = (h.0 + 1, logs_got h.0 1 a b c h.1 took.1)
logs_more a b c one.Empty h took =
    let e = took.1 in (
      h.0,
      logs_same h.0 a b c h.1 (ap (λ (r : RendererView). r.journal) e) (ap (λ (r : RendererView). r.taker.list) e)
          (ap (λ (r : RendererView). r.taker.line) e) (ap (λ (r : RendererView). r.blocks) e) (ap (λ (r : RendererView). r.spare) e),
    )
logs_more a b c one.NoRoom h took = subst (λ (r : RendererView). LogsSome a r) (sym took.1) h

pub keeps_none : (r : RendererView) → KeepsSound r r
keeps_none r = λ b below. refl

pub keeps_more : (a b c : RendererView) → LogsSome a b → KeepsSound a b → KeepsSound b c → KeepsSound a c
keeps_more a b c h k l = λ n below. l n (subst (λ (m : ℕ). n < m) (sym h.1.blocks) below) ∙ k n below

pub line_after : (a b : RendererView) → LogsSome a b → b.taker.line ≡ a.taker.line
line_after a b h = h.1.line

pub logs_join : (a b c : RendererView) → LogsSome a b → LogsSome b c → LogsSome a c
logs_join a b c h k = (h.0 + k.0, logs_got h.0 k.0 a b c h.1 k.1)

-- what was in the journal is its prefix
pub prefix_kept : (a b : RendererView) (x : TakeOne) → TookOne x a b → (take (length a.journal) b.journal ≡ a.journal) × (length a.journal ≤ length b.journal)
prefix_kept a b one.Got t =
    let e = t.1.journal in (
      ap (take (length a.journal)) e ∙ take-append_seam a.journal (map (logged_at a.blocks) t.1.entries),
      (let l = ap length e in let m =
          length-append a.journal (map (logged_at a.blocks) t.1.entries) in omega (arith, l, m)),
    )
prefix_kept a b one.Empty t = let e = ap (λ (r : RendererView). r.journal) t.1 in
    (ap (take (length a.journal)) e ∙ take-length a.journal, (let l = ap length e in omega (arith, l)))
prefix_kept a b one.NoRoom t = let e = ap (λ (r : RendererView). r.journal) t.1 in
    (ap (take (length a.journal)) e ∙ take-length a.journal, (let l = ap length e in omega (arith, l)))

pub prefix_logged : (a b : RendererView) → LogsSome a b → (take (length a.journal) b.journal ≡ a.journal) × (length a.journal ≤ length b.journal)
prefix_logged a b h =
    let e = h.1.journal in (
      ap (take (length a.journal)) e ∙ take-append_seam a.journal (map (logged_at a.blocks) h.1.entries),
      (let l = ap length e in let m =
          length-append a.journal (map (logged_at a.blocks) h.1.entries) in omega (arith, l, m)),
    )
