use Rattle.std.proofs.Common.{◌≡◌, ℕ, ◌∙◌, ap, arith}
use Rattle.generator.specs.Generated.{script_seed, generated_text}
use Rattle.generator.proofs.Lines.{line_is, lines_of, lines_more}
use Rattle.generator.proofs.text.script_text.Goals as goal

pub loop-turn-preserved : goal.loop-turn-preserved
loop-turn-preserved c =
    let i = c.loop-turn.invariant in
    let seed : ℕ = script_seed c.args.seed c.args.script in
    let n : ℕ = c.loop-turn._turn in
    record {
      text =
          c.in_ok-extend_from_slice-2.ensures.items
          ∙ lines_more seed n c.loop-turn.text.items _ i.text
          (c.as_slice.ensures.value ∙ c.write_line.ensures ∙ line_is seed c.loop-turn.generated.count n c.loop-turn.generated.due _ i.generated.due
          (c.next_command-command.ensures.command seed i.generated) i.count);
      generated = c.next_command-command.ensures.generated seed i.generated;
      count = omega (arith, c.next_command-command.ensures.count, i.count);
    }

pub returns : goal.returns
unfolding generated_text
returns c =
    let all : c.loop-turn._turn ≡ c.args.commands = omega (arith, c.loop-turn.auto._turn-end, c.loop-turn-test.false) in
    c.loop-turn.invariant.text ∙ ap (lines_of (script_seed c.args.seed c.args.script)) all
