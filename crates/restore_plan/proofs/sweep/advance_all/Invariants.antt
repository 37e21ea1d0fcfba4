use Rattle.std.proofs.Common.{ℕ, ◌<◌, IfSome, slice_index_or}
use Rattle.restore_plan.specs.declared.run.Run.{Run}
use Rattle.restore_plan.specs.Run.{AreRuns, HasTakenIn, IsWithin, IsMatched}
use Rattle.restore_plan.proofs.sweep.advance_all.Given as goal

abbrev pub invariant-loop-run : goal.invariant-loop-run
invariant-loop-run l =
    AreRuns l.names l.t l.after l.runs
    × ((k : ℕ) (d : Run) → k < l.run-index → HasTakenIn l.names l.after (slice_index_or l.runs k d)
    × IfSome (slice_index_or l.runs k d).best (λ name. IsMatched l.best name))
    × IfSome l.best (IsWithin l.names l.t l.after)
