use Rattle.std.proofs.Common.{◌≡◌, ℕ, ◌+◌, ◌-◌, ◌≤◌, ◌++◌, List, length, take, drop}
use Rattle.wal_frames.specs.Scanned.{HasTaken}
use Rattle.sim_writer.proofs.passing.feed_all.Given as goal

abbrev pub invariant-loop-taken : goal.invariant-loop-taken
invariant-loop-taken l = record {
  rest_is : l.rest ≡ drop (length l.bytes - length l.rest) l.bytes;
  short : length l.rest ≤ length l.bytes;
  taken : l.scan.taken + length l.rest ≡ l.fn.scan.taken + length l.bytes;
  head : l.scan.head ≡ l.fn.scan.head;
  value : (log : List ℕ) → HasTaken l.fn.scan log
      → HasTaken l.scan (log ++ take (length l.bytes - length l.rest) l.bytes);
}

abbrev pub decreases-loop-taken : goal.decreases-loop-taken
decreases-loop-taken l = length l.rest
