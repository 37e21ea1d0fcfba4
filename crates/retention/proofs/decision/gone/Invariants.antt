use Rattle.std.proofs.Common.{◌≡◌, ◌++◌, drop}
use Rattle.retention.specs.Walk.{dropped}
use Rattle.retention.proofs.decision.gone.Given as goal

abbrev pub invariant-loop-i : goal.invariant-loop-i
invariant-loop-i l = l.names.items ++ dropped (drop l.i l.kept) (drop l.i l.dated) ≡ dropped l.kept l.dated
