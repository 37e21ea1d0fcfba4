use Rattle.std.proofs.Common.{◌-◌}
use Rattle.restore_plan.proofs.ChainLemmas.{IsOnTheWay}
use Rattle.restore_plan.proofs.reach.greatest_retained.Given as goal

abbrev pub invariant-loop : goal.invariant-loop
invariant-loop l = IsOnTheWay l.fn.names l.t l.sweep

abbrev pub decreases-loop : goal.decreases-loop
decreases-loop l = l.t - l.sweep.after
