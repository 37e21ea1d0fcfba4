use Rattle.std.proofs.Common.{◌≤◌, ◌<◌, length}
use Rattle.follow_bench.proofs.copy_log.Given as goal

abbrev pub invariant-loop-left : goal.invariant-loop-left
invariant-loop-left l = (0 < length l.buffer.items) × (l.left ≤ l.all)

abbrev pub decreases-loop-left : goal.decreases-loop-left
decreases-loop-left l = l.left
