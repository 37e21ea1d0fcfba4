use Rattle.std.proofs.Common.{ℕ, ◌^◌, ◌<◌, ◌≤◌}
use Rattle.restore_plan.specs.Moment.{IsRetainedAt}
use Rattle.restore_plan.proofs.moment.last_of_any.Given as goal

abbrev pub invariant-loop-t : goal.invariant-loop-t
invariant-loop-t l = (other : ℕ) → IsRetainedAt l.dated l.moment other → other < 2 ^ 64 → other ≤ l.bound

abbrev pub decreases-loop-t : goal.decreases-loop-t
decreases-loop-t l = l.bound
