use Rattle.std.proofs.Common.{◌-◌}
use Rattle.replica_store.specs.Chain.{names_of}
use Rattle.restore_plan.proofs.ChainLemmas.{IsOnTheWay, HasBegunWith}
use Rattle.restore_plan.proofs.beginning.first_of_plan.Given as goal

abbrev pub invariant-loop : goal.invariant-loop
invariant-loop l = IsOnTheWay (names_of l.dated) l.t l.sweep × HasBegunWith (names_of l.dated) l.t l.first l.sweep.after

abbrev pub decreases-loop : goal.decreases-loop
decreases-loop l = l.t - l.sweep.after
