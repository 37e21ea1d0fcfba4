use Rattle.std.proofs.Common.{ℕ, ◌-◌, ◌^◌, ◌≤◌, IfSome, List}
use Rattle.std.specs.Prelude.{IsSomeAnd}
use Rattle.replica_store.specs.declared.file_name.FileName.{FileName}
use Rattle.replica_store.specs.Chain.{LeadsTo}
use Rattle.restore_plan.specs.Moment.{IsRetainedAt}
use Rattle.restore_plan.specs.Walk.{AreWalks}
use Rattle.restore_plan.proofs.rising.last_of_rising.Given as goal

abbrev pub invariant-loop-t : goal.invariant-loop-t
invariant-loop-t l = record {
  walks : AreWalks l.names l.reached l.walks;
  chain : List FileName;
  leads : LeadsTo l.names 0 chain l.reached;
  last : IfSome l.last (IsRetainedAt l.dated l.moment);
  most : (other : ℕ) → IsRetainedAt l.dated l.moment other → other ≤ l.reached → IsSomeAnd l.last (λ t. other ≤ t);
}

abbrev pub decreases-loop-t : goal.decreases-loop-t
decreases-loop-t l = 2 ^ 64 - l.reached
