use Rattle.std.proofs.Common.{◌≤◌, length}
use Rattle.retention.proofs.YoungLemmas.{AreGoalsFrom}
use Rattle.retention.proofs.young.goals.Given as goal

abbrev pub invariant-loop-k : goal.invariant-loop-k
invariant-loop-k l = (l.k ≤ length l.ts) × AreGoalsFrom l.ts l.young l.k l.goals.items

abbrev pub decreases-loop-k : goal.decreases-loop-k
decreases-loop-k l = l.k
