use Rattle.std.proofs.Common.{◌≡◌, ◌≤◌, ◌+◌, ◌-◌, ◌++◌, ℕ, List, Option, length, take}
use Rattle.wal_follow.specs.Gathering.{HasGathered, KeepsBase}
use Rattle.wal_follow.proofs.gathering.Gathering.take.Given as goal

abbrev pub invariant-loop-done : goal.invariant-loop-done
invariant-loop-done l =
    (l.done ≤ length l.piece) × (l.self.scan.taken ≡ l.initial.self.scan.taken + l.done) × KeepsBase l.initial.self
    l.self
    × ((base : ℕ) (initial : Option ℕ) (log : List ℕ) → HasGathered base initial l.initial.self log
    → HasGathered base initial l.self (log ++ take l.done l.piece))

abbrev pub decreases-loop-done : goal.decreases-loop-done
decreases-loop-done l = length l.piece - l.done
