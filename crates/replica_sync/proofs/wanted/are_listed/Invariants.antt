use Rattle.std.proofs.Common.{ℕ, ◌≤◌, ◌<◌, get_or}
use Rattle.std.specs.Prelude.{◌≢◌}
use Rattle.replica_sync.proofs.wanted.are_listed.Given as goal

abbrev pub invariant-loop-at : goal.invariant-loop-at
invariant-loop-at l =
    (k : ℕ) → k < l.at → (1 ≤ get_or l.numbers k 0) × (get_or l.numbers k 0 ≤ l.commit)
    × (get_or l.numbers k 0 ≢ l.lock)
