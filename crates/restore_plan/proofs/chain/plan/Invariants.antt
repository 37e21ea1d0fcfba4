use Rattle.std.proofs.Common.{◌-◌}
use Rattle.restore_plan.specs.ChosenChain.{IsChosenBetween}
use Rattle.restore_plan.proofs.ChainLemmas.{IsOnTheWay}
use Rattle.restore_plan.proofs.chain.plan.Given as goal

abbrev pub invariant-loop-name : goal.invariant-loop-name
invariant-loop-name l = IsOnTheWay l.names l.t l.sweep × IsChosenBetween l.names l.t 0 l.chain l.sweep.after

abbrev pub decreases-loop-name : goal.decreases-loop-name
decreases-loop-name l = l.t - l.sweep.after
