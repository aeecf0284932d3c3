-- The tables of the code are those of the definition, and each entry has seven bits.
use Rattle.std.proofs.Common.{rules, arith}
use Rattle.voice_record.specs.Voice.{greatest_value}
use Rattle.voice_record.proofs.Voices.{greatest_small}
use Rattle.voice_record.proofs.limits.greatest.Goals as goal

pub returns-then-number-lt-PITCH_RATES-clause-value : goal.returns-then-number-lt-PITCH_RATES-clause-value
unfolding greatest_value
returns-then-number-lt-PITCH_RATES-clause-value c = search rules

pub returns-else-number-lt-PITCH_RATES-clause-value : goal.returns-else-number-lt-PITCH_RATES-clause-value
unfolding greatest_value
returns-else-number-lt-PITCH_RATES-clause-value c = search rules

pub returns-then-number-lt-PITCH_RATES-clause-small : goal.returns-then-number-lt-PITCH_RATES-clause-small
returns-then-number-lt-PITCH_RATES-clause-small c = rw (← returns-then-number-lt-PITCH_RATES-clause-value c) at (greatest_small c.args.number (omega arith))

pub returns-else-number-lt-PITCH_RATES-clause-small : goal.returns-else-number-lt-PITCH_RATES-clause-small
returns-else-number-lt-PITCH_RATES-clause-small c = rw (← returns-else-number-lt-PITCH_RATES-clause-value c) at (greatest_small c.args.number (omega arith))
