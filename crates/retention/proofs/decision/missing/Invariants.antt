use Rattle.retention.proofs.DropLemmas.{AreMissingTo}
use Rattle.retention.proofs.decision.missing.Given as goal

abbrev pub invariant-loop-t : goal.invariant-loop-t
invariant-loop-t l = AreMissingTo l.before l.after l.t-index l.lost.items
