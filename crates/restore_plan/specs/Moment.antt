-- The last transaction at or before a moment. This project's rule.
use Rattle.std.specs.Prelude.{ℕ, ◌≤◌, List}
use Rattle.std.specs.Option.{IsSomeAnd}
use Rattle.replica_store.specs.declared.dated_names.Dated.{Dated}
use Rattle.replica_store.specs.Chain.{IsRetained, moment_of, names_of}

-- a retained transaction whose moment is at or before the given one
pub record IsRetainedAt (dated : List Dated) (moment t : ℕ) : Type 0 where
  pub retained : IsRetained (names_of dated) t
  pub early : IsSomeAnd (moment_of dated t) (λ own. own ≤ moment)

-- the greatest of these
pub record IsLastAt (dated : List Dated) (moment t : ℕ) : Type 0 where
  pub is : IsRetainedAt dated moment t
  pub greatest : (other : ℕ) → IsRetainedAt dated moment other → other ≤ t
