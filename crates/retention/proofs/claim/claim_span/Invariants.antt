use Rattle.std.proofs.Common.{◌-◌}
use Rattle.retention.specs.Claims.{AreClaimed}
use Rattle.retention.proofs.PaintingLemmas.{IsPaintedTo}
use Rattle.retention.proofs.claim.claim_span.Given as goal

abbrev pub invariant-loop-stretch : goal.invariant-loop-stretch
invariant-loop-stretch l = IsPaintedTo l.fn.skips l.skips l.span.from l.span.to l.from
    × AreClaimed l.span.from l.from l.name l.fn.skips l.fn.claims.items l.claims.items

abbrev pub decreases-loop-stretch : goal.decreases-loop-stretch
decreases-loop-stretch l = l.span.to - l.from
