use Rattle.std.proofs.Common.{◌-◌}
use Rattle.retention.proofs.PaintingLemmas.{IsPaintedTo}
use Rattle.retention.proofs.painting.paint.Given as goal

abbrev pub invariant-loop-k : goal.invariant-loop-k
invariant-loop-k l = IsPaintedTo l.fn.skips l.skips l.span.from l.span.to l.from

abbrev pub decreases-loop-k : goal.decreases-loop-k
decreases-loop-k l = l.span.to - l.from
