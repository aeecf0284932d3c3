use Rattle.std.proofs.Common.{◌≡◌, ℕ, ◌+◌, ◌/◌, ◌≤◌, List, length, refl, sym, ◌∙◌, ap, arith, ℤ, ◌+ℤ◌, fold, w64, SFits, rules}
use Rattle.std.proofs.lemmas.Int.{ints, to_z-of_z}
use Rattle.command_set.specs.Entries.{LoggedData}
use Rattle.instrument.specs.Journal.{sound}
use Rattle.schedule_core.specs.Core.{Core, step, Settle, Render}
use Rattle.generator.specs.Generated.{generated_journal, journal_below}
use Rattle.generator.proofs.Blocks.{first_block, next_block, settled_is, more_played, few_played}
use Rattle.generator.proofs.Sounds.{no_samples, sum_more, sound_generated, generated_is}
use Rattle.generator.proofs.play.play_generated.Goals as goal

pub loop-block-init : goal.loop-block-init
loop-block-init c =
    let four = c.four_scripts-scripts in
    record {
      world = first_block c.args.seed (c.args.blocks / 4) four.result c.in_ok-world.world (search rules) c.in_ok-world.ensures.opening four.ensures.none
          four.ensures.generated;
      sent = refl;
      sum = sym (no_samples (generated_journal c.args.seed c.args.blocks));
      low = omega (arith, ints);
      high = omega (arith, ints);
    }

pub overflow_add-sent : goal.overflow_add-sent
overflow_add-sent c =
    let l = c.loop-block in
    let n : ℕ = c.args.blocks / 4 in
    let small : n ≤ 25000 = omega (arith, c.requires) in
    let h = c.in_ok-send_all_due.ensures c.args.seed l.invariant.world in
    let most = few_played c.args.seed n l.block _ c.send_all_due.new.world small h in
    record { fits = omega (arith, most, l.invariant.sent, c.in_ok-sent.ensures.count) }

pub render-requires : goal.render-requires
render-requires c =
    let l = c.loop-block in
    let h = c.in_ok-send_all_due.ensures c.args.seed l.invariant.world in
    let same : c.settle.new.self.blocks ≡ c.send_all_due.new.world.blocks = ap (λ (w : Core). w.blocks) c.in_ok-sent.ensures.settled in
    omega (arith, same, h.blocks, c.loop-block-test.true, c.ranges.blocks.fits)

pub loop-block-preserved : goal.loop-block-preserved
loop-block-preserved c =
    let l = c.loop-block in
    let seed : ℕ = c.args.seed in
    let n : ℕ = c.args.blocks / 4 in
    let b : ℕ = l.block in
    let journal : List LoggedData = generated_journal seed c.args.blocks in
    let scripts = c.send_all_due.new.scripts in
    let old = c.send_all_due.new.world in
    let h = c.in_ok-send_all_due.ensures seed l.invariant.world in
    let settled : c.settle.new.self ≡ step old Settle = c.in_ok-sent.ensures.settled in
    let out : c.render.new.out ≡ sound journal b =
    c.render.ensures.sound
    ∙ ap (λ (w : Core). sound w.journal w.blocks) settled
    ∙ ap (λ (js : List LoggedData). sound js old.blocks) (settled_is seed n b scripts old h)
    ∙ ap (sound (journal_below seed n (b + 1))) h.blocks
    ∙ sound_generated seed b c.args.blocks c.loop-block-test.true in
    let fits : SFits w64 c.add_samples-sum.result = record { sfits = c.add_samples-sum.type_inv } in
    let added = c.add_samples-sum.ensures in
    record {
      world = next_block seed n b scripts old c.render.new.self h (c.render.ensures.rendered ∙ ap (λ (w : Core). step w Render) settled);
      sent = omega (arith, l.invariant.sent, c.in_ok-sent.ensures.count, more_played seed n b scripts old h);
      sum =
          simp to_z-of_z
          (added.value
          ∙ ap (fold ◌+ℤ◌ _) out
          ∙ ap (λ (z : ℤ). fold ◌+ℤ◌ z (sound journal b)) l.invariant.sum
          ∙ sym (sum_more journal b));
      low = simp to_z-of_z (omega (arith, ints, added.low, l.invariant.low));
      high = simp to_z-of_z (omega (arith, ints, added.high, l.invariant.high));
    }

pub returns-clause-commands : goal.returns-clause-commands
returns-clause-commands c =
    let all : c.loop-block.block ≡ c.args.blocks = omega (arith, c.loop-block.auto.block-end, c.loop-block-test.false) in
    c.loop-block.invariant.sent ∙ ap length (generated_is c.args.seed c.loop-block.block c.args.blocks all)
