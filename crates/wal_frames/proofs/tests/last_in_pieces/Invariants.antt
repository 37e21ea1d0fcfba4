use Rattle.std.proofs.Common.{◌≡◌, ◌≤◌, ◌+◌, ◌-◌, length}
use Rattle.wal_frames.proofs.tests.last_in_pieces.Given as goal

abbrev pub invariant-loop-at : goal.invariant-loop-at
invariant-loop-at l = (l.scan.taken + 32 ≡ l.at) × (l.at ≤ length l.log)

abbrev pub decreases-loop-at : goal.decreases-loop-at
decreases-loop-at l = length l.log - l.at
