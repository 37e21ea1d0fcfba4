use Rattle.std.proofs.Common.{◌≡◌, ◌+◌, length}
use Rattle.wal_frames.proofs.tests.feed_all.Given as goal

abbrev pub invariant-loop-taken : goal.invariant-loop-taken
invariant-loop-taken l = l.scan.taken + length l.rest ≡ l.fn.scan.taken + length l.bytes

abbrev pub decreases-loop-taken : goal.decreases-loop-taken
decreases-loop-taken l = length l.rest
