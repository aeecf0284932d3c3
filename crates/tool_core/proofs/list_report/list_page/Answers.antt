use Rattle.std.proofs.Common.{◌≡◌, ◌+◌, ℕ, List, ◌++◌, length, sym, ◌∙◌, ap, arith, length-append}
use Rattle.tool_core.specs.Lines.{name_lines}
use Rattle.tool_core.proofs.Reports.{names_none, names_next, names_all}
use Rattle.tool_core.proofs.list_report.list_page.Goals as goal

pub add-requires : goal.add-requires
add-requires c = omega (arith, c.as_slice.ensures.fits, c.loop-slot.invariant.room)

pub loop-slot-init : goal.loop-slot-init
loop-slot-init c = record {
  lines = c.new-page.ensures ∙ sym (names_none c.args.cartridge.now);
  room = let none : length c.new-page.result.items ≡ 0 = ap length c.new-page.ensures in omega arith;
}

pub loop-slot-preserved : goal.loop-slot-preserved
loop-slot-preserved c = record {
  lines = c.add.ensures ∙ ap (λ (l : List ℕ). l ++ c.as_slice.result.now) c.loop-slot.invariant.lines
      ∙ ap (λ (l : List ℕ). name_lines c.args.cartridge.now c.loop-slot.slot ++ l) (c.as_slice.ensures.value ∙ c.name_line-line.ensures
      ∙ ap (Rattle.tool_core.specs.Lines.name_line c.loop-slot.slot) c.voice.ensures.value)
      ∙ sym (names_next c.args.cartridge.now c.loop-slot.slot);
  room = let more : length c.add.new.page.items ≡ length c.loop-slot.page.items + length c.as_slice.result.now = ap length c.add.ensures
      ∙ length-append c.loop-slot.page.items c.as_slice.result.now in
      omega (arith, c.as_slice.ensures.fits, c.loop-slot.invariant.room);
}

pub returns : goal.returns
returns c = c.loop-slot.invariant.lines ∙ names_all c.args.cartridge.now c.loop-slot.slot (omega arith)
