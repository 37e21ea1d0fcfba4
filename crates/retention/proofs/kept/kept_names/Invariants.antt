use Rattle.std.proofs.Common.{◌≤◌, length}
use Rattle.retention.proofs.KeptLemmas.{AreKeptFrom}
use Rattle.retention.proofs.kept.kept_names.Given as goal

abbrev pub invariant-loop-p : goal.invariant-loop-p
invariant-loop-p l = (l.p ≤ length l.claims) × AreKeptFrom l.dated l.cut l.stretches l.claims l.p l.skips l.kept.items

abbrev pub decreases-loop-p : goal.decreases-loop-p
decreases-loop-p l = l.p
