use Rattle.std.proofs.Common.{arith}
use Rattle.sim_writer.proofs.ListLemmas.{same_by_places}
use Rattle.sim_writer.proofs.history.are_same_pages.Goals as goal

pub returns-clause-same : goal.returns-clause-same
returns-clause-same c _ = same_by_places c.args.a.now c.args.b.now c.loop-at.invariant.many
    (λ k below. c.loop-at.invariant.same k (omega (arith, below, c.loop-at-test.false, c.len-at-end.ensures)))
