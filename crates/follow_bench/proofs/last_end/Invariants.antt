use Rattle.std.proofs.Common.{◌≤◌, ◌+◌, length}
use Rattle.follow_bench.proofs.last_end.Given as goal

abbrev pub invariant-loop-taken : goal.invariant-loop-taken
invariant-loop-taken l = l.scan.taken + length l.rest ≤ length l.log

abbrev pub decreases-loop-taken : goal.decreases-loop-taken
decreases-loop-taken l = length l.rest
