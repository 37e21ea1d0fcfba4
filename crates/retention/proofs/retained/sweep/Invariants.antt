use Rattle.retention.proofs.SweepLemmas.{IsSwept}
use Rattle.retention.proofs.retained.sweep.Given as goal

abbrev pub invariant-loop-name : goal.invariant-loop-name
invariant-loop-name l = IsSwept l.by_end l.name-index l.reached l.retained.items
