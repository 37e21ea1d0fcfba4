use Rattle.retention.proofs.PaintingLemmas.{AreUnpainted}
use Rattle.retention.proofs.painting.unpainted.Given as goal

abbrev pub invariant-loop-k : goal.invariant-loop-k
invariant-loop-k l = AreUnpainted l.k l.skips.items
