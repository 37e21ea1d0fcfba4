use Rattle.std.proofs.Common.{◌-◌, length}
use Rattle.retention.proofs.PaintingLemmas.{IsSeeking}
use Rattle.retention.proofs.painting.first_unpainted.Given as goal

abbrev pub invariant-loop-at : goal.invariant-loop-at
invariant-loop-at l = IsSeeking l.fn.skips l.skips l.from l.at

abbrev pub decreases-loop-at : goal.decreases-loop-at
decreases-loop-at l = length l.skips - l.at
