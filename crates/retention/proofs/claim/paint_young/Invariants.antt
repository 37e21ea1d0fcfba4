use Rattle.retention.proofs.ClaimLemmas.{IsYoungPainted}
use Rattle.retention.proofs.claim.paint_young.Given as goal

abbrev pub invariant-loop-one : goal.invariant-loop-one
invariant-loop-one l = IsYoungPainted l.dated l.cut l.stretches l.one-index l.skips
