use Rattle.std.proofs.Common.{arith}
use Rattle.replica_sync.proofs.NumberLemmas.{all_listed}
use Rattle.replica_sync.proofs.wanted.are_listed.Goals as goal

pub returns-clause-numbers : goal.returns-clause-numbers
returns-clause-numbers c =
    all_listed c.args.numbers.now c.args.commit c.args.lock
    (λ k few. c.loop-at.invariant k (omega (arith, few, c.len-at-end.ensures.value, c.loop-at-test.false)))
