use Rattle.std.proofs.Common.{◌≤◌, length}
use Rattle.retention.proofs.ClaimLemmas.{AreClaimsFrom}
use Rattle.retention.proofs.claim.claims.Given as goal

abbrev pub invariant-loop-i : goal.invariant-loop-i
invariant-loop-i l = (l.i ≤ length l.dated) × AreClaimsFrom l.dated l.cut l.stretches l.i l.skips l.claims.items

abbrev pub decreases-loop-i : goal.decreases-loop-i
decreases-loop-i l = l.i
