use Rattle.std.proofs.Common.{◌≤◌, length}
use Rattle.retention.proofs.YoungLemmas.{AreYoungFrom}
use Rattle.retention.proofs.young.young.Given as goal

abbrev pub invariant-loop-i : goal.invariant-loop-i
invariant-loop-i l = (l.i ≤ length l.dated) × AreYoungFrom l.dated l.cut l.ts l.young.items l.i

abbrev pub decreases-loop-i : goal.decreases-loop-i
decreases-loop-i l = l.i
