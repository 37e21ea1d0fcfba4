use Rattle.std.proofs.Common.{◌≡◌, ℕ, ◌<◌, ◌≤◌, get_or}
use Rattle.replica_store.specs.declared.file_name.FileName.{FileName}
use Rattle.restore_plan.proofs.rising.is_rising.Given as goal

abbrev pub invariant-loop-at : goal.invariant-loop-at
invariant-loop-at l =
    (i k : ℕ) (d : FileName) → i ≤ k → k < l.at → (get_or l.fn.names k d).level ≡ (get_or l.fn.names i d).level
    → (get_or l.fn.names i d).max ≤ (get_or l.fn.names k d).max
