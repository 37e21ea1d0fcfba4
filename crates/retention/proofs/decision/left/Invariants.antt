use Rattle.std.proofs.Common.{◌≡◌, ◌++◌, drop}
use Rattle.retention.specs.Walk.{standing}
use Rattle.retention.proofs.decision.left.Given as goal

abbrev pub invariant-loop-i : goal.invariant-loop-i
invariant-loop-i l = l.names.items ++ standing (drop l.i l.kept) (drop l.i l.dated) ≡ standing l.kept l.dated
