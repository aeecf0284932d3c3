use Rattle.std.proofs.Common.{arith}
use Rattle.generator.proofs.Generating.{note_is, release_is, algorithm_is, algorithm_fits}
use Rattle.generator.proofs.script.generate_command.Goals as goal

pub returns-then-kind-lt-FIRST_RELEASE-clause-command : goal.returns-then-kind-lt-FIRST_RELEASE-clause-command
returns-then-kind-lt-FIRST_RELEASE-clause-command c = λ seed index at.
    let n = note_is seed index c.args.lcg.now.state c.next_below-kind.new.self.state c.next_below-key.new.self.state c.next_below-velocity.new.self.state
    c.next_below-kind.result c.next_below-key.result c.next_below-velocity.result at c.next_below-kind.ensures.state c.next_below-kind.ensures.value
    c.if-kind-lt-FIRST_RELEASE.true
    c.next_below-key.ensures.state c.next_below-key.ensures.value c.next_below-velocity.ensures.state c.next_below-velocity.ensures.value in
    n.0

pub returns-then-kind-lt-FIRST_RELEASE-clause-state : goal.returns-then-kind-lt-FIRST_RELEASE-clause-state
returns-then-kind-lt-FIRST_RELEASE-clause-state c = λ seed index at.
    let n = note_is seed index c.args.lcg.now.state c.next_below-kind.new.self.state c.next_below-key.new.self.state c.next_below-velocity.new.self.state
    c.next_below-kind.result c.next_below-key.result c.next_below-velocity.result at c.next_below-kind.ensures.state c.next_below-kind.ensures.value
    c.if-kind-lt-FIRST_RELEASE.true
    c.next_below-key.ensures.state c.next_below-key.ensures.value c.next_below-velocity.ensures.state c.next_below-velocity.ensures.value in
    n.1

pub returns-then-kind-lt-FIRST_ALGORITHM-clause-command : goal.returns-then-kind-lt-FIRST_ALGORITHM-clause-command
returns-then-kind-lt-FIRST_ALGORITHM-clause-command c = λ seed index at.
    let key = c.next_below-key-then-kind-lt-FIRST_ALGORITHM in
    let r = release_is seed index c.args.lcg.now.state c.next_below-kind.new.self.state key.new.self.state c.next_below-kind.result key.result
    at c.next_below-kind.ensures.state c.next_below-kind.ensures.value c.if-kind-lt-FIRST_RELEASE.false c.if-kind-lt-FIRST_ALGORITHM.true key.ensures.state
    key.ensures.value in
    r.0

pub returns-then-kind-lt-FIRST_ALGORITHM-clause-state : goal.returns-then-kind-lt-FIRST_ALGORITHM-clause-state
returns-then-kind-lt-FIRST_ALGORITHM-clause-state c = λ seed index at.
    let key = c.next_below-key-then-kind-lt-FIRST_ALGORITHM in
    let r = release_is seed index c.args.lcg.now.state c.next_below-kind.new.self.state key.new.self.state c.next_below-kind.result key.result
    at c.next_below-kind.ensures.state c.next_below-kind.ensures.value c.if-kind-lt-FIRST_RELEASE.false c.if-kind-lt-FIRST_ALGORITHM.true key.ensures.state
    key.ensures.value in
    r.1

pub returns-else-kind-lt-FIRST_ALGORITHM-clause-range : goal.returns-else-kind-lt-FIRST_ALGORITHM-clause-range
returns-else-kind-lt-FIRST_ALGORITHM-clause-range c = (omega arith, algorithm_fits c.next_below-algorithm.result c.next_below-algorithm.ensures.range)

pub returns-else-kind-lt-FIRST_ALGORITHM-clause-command : goal.returns-else-kind-lt-FIRST_ALGORITHM-clause-command
returns-else-kind-lt-FIRST_ALGORITHM-clause-command c = λ seed index at.
    let number = c.next_below-algorithm in
    let a = algorithm_is seed index c.args.lcg.now.state c.next_below-kind.new.self.state number.new.self.state c.next_below-kind.result number.result
    at c.next_below-kind.ensures.state c.next_below-kind.ensures.value c.if-kind-lt-FIRST_ALGORITHM.false number.ensures.state number.ensures.value in
    a.0

pub returns-else-kind-lt-FIRST_ALGORITHM-clause-state : goal.returns-else-kind-lt-FIRST_ALGORITHM-clause-state
returns-else-kind-lt-FIRST_ALGORITHM-clause-state c = λ seed index at.
    let number = c.next_below-algorithm in
    let a = algorithm_is seed index c.args.lcg.now.state c.next_below-kind.new.self.state number.new.self.state c.next_below-kind.result number.result
    at c.next_below-kind.ensures.state c.next_below-kind.ensures.value c.if-kind-lt-FIRST_ALGORITHM.false number.ensures.state number.ensures.value in
    a.1
