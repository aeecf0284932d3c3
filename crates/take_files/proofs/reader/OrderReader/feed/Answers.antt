use Rattle.std.proofs.Common.{◌≡◌, ◌++◌, ◌∙◌, List, ℕ, Option, None, rules, sym, subst, ap}
use Rattle.take_files.specs.Chunks.{HasFed, Standing}
use Rattle.take_files.specs.OrderSoFar.{lines_read, standing}
use Rattle.take_files.specs.declared.read.OrderFault.{OrderFault}
use Rattle.take_files.proofs.Standings.{clean_fed, stopped_fed}
use Rattle.take_files.proofs.reader.OrderReader.feed.Goals as goal

pub returns-in-Some-clause-fed : goal.returns-in-Some-clause-fed
returns-in-Some-clause-fed c =
    λ fed h.
    let s = c.self.inside in
    let q = sym c.self.view_is ∙ ap (λ (f : Option OrderFault). standing f s.listing s.line.value.items) c.in-Some.is in
    subst (λ (x : Standing). HasFed x (fed ++ c.args.bytes.now)) (sym q)
    (stopped_fed c.in-Some.fault s.listing s.line.value.items fed c.args.bytes.now (subst (λ (x : Standing). HasFed x fed) q h))

pub returns-in-Ok-clause-fed : goal.returns-in-Ok-clause-fed
returns-in-Ok-clause-fed c =
    λ fed h.
    let s = c.self.inside in
    let none : s.fault ≡ None = c.in_default.is in
    let read = subst (λ (x : Standing). HasFed x fed) (sym c.self.view_is ∙ ap (λ (f : Option OrderFault). standing f s.listing s.line.value.items) none) h in
    let line : c.deref_mut.result.now.items ≡ s.line.value.items = search rules in
    subst (λ (f : Option OrderFault). HasFed (standing f c.read_lines.new.listing c.read_lines.new.line.items) (fed ++ c.args.bytes.now)) (sym none)
    (clean_fed c.read_lines.new.listing c.read_lines.new.line.items (fed ++ c.args.bytes.now) c.in-Ok.ensures.listing c.in-Ok.ensures.line c.in-Ok.ensures.short
    (c.in-Ok.ensures.text ∙ ap (λ (l : List ℕ). (lines_read s.listing ++ l) ++ c.args.bytes.now) line ∙ ap (λ (l : List ℕ). l ++ c.args.bytes.now) read.0))
