-- Which transactions are young, and the least protected one from each on.
use Rattle.std.specs.Prelude.{◌≡◌, ℕ, ◌+◌, ◌<◌, nat_le, Bool, false, if◌then◌else◌, Option, Some, None}
use Rattle.std.specs.Prelude.{List, length, slice_index, slice_index_or}
use Rattle.replica_store.specs.declared.dated_names.Dated.{Dated}
use Rattle.replica_store.specs.Chain.{moment_of}

-- whether there is a moment and it isn't before the cut
abbrev pub is_young : ℕ → Option ℕ → Bool
is_young cut None = false
is_young cut (Some own) = nat_le cut own

-- of each transaction whether it is young
pub record AreYoung (dated : List Dated) (cut : ℕ) (ts : List ℕ) (young : List Bool) : Type 0 where
  pub count : length young ≡ length ts
  pub each : (k : ℕ) → k < length ts → slice_index_or young k false ≡ is_young cut (moment_of dated (slice_index ts k))

-- of each transaction the first from it on that is young, or the last one
pub record AreGoals (ts : List ℕ) (young : List Bool) (goals : List ℕ) : Type 0 where
  pub count : length goals ≡ length ts
  pub last : (k : ℕ) → k + 1 ≡ length ts → slice_index goals k ≡ slice_index ts k
  pub each : (k : ℕ) → k + 1 < length ts
      → slice_index goals k ≡ (if slice_index_or young k false then slice_index ts k else slice_index goals (k + 1))
