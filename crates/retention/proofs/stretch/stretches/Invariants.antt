use Rattle.retention.proofs.StretchLemmas.{AreBetweenTo}
use Rattle.retention.proofs.stretch.stretches.Given as goal

abbrev pub invariant-loop-k : goal.invariant-loop-k
invariant-loop-k l = AreBetweenTo l.ts l.goals l.k l.before l.stretches.items
