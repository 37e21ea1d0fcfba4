-- Places in a row, some of them painted, told by how far one may skip from each: not at all from one that isn't
-- painted, and over painted ones alone from one that is.
use Rattle.std.specs.Prelude.{◌≡◌, ℕ, ◌+◌, ◌<◌, ◌≤◌, ◌⊎◌, List, length, slice_index_or}

-- where one may skip to
abbrev pub skip_from : List ℕ → ℕ → ℕ
skip_from skips k = slice_index_or skips k k

abbrev pub IsPainted : List ℕ → ℕ → Type 0
IsPainted skips k = k < skip_from skips k

pub record AreSkips (skips : List ℕ) : Type 0 where
  pub up : (k : ℕ) → k ≤ skip_from skips k
  pub within : (k : ℕ) → k < length skips → skip_from skips k ≤ length skips
  pub over : (k j : ℕ) → k ≤ j → j < skip_from skips k → IsPainted skips j

-- the same places are painted
pub record AreAsPainted (skips later : List ℕ) : Type 0 where
  pub count : length later ≡ length skips
  pub to : (k : ℕ) → IsPainted skips k → IsPainted later k
  pub back : (k : ℕ) → IsPainted later k → IsPainted skips k

-- the first from a place on that isn't painted
pub record IsFirstUnpainted (skips : List ℕ) (start k : ℕ) : Type 0 where
  pub from : start ≤ k
  pub unpainted : IsPainted skips k → ⊥
  pub passed : (j : ℕ) → start ≤ j → j < k → IsPainted skips j

-- besides those that were, the places from one to another are painted
pub record ArePainted (from to : ℕ) (skips later : List ℕ) : Type 0 where
  pub count : length later ≡ length skips
  pub still : (k : ℕ) → IsPainted skips k → IsPainted later k
  pub over : (k : ℕ) → from ≤ k → k < to → IsPainted later k
  pub only : (k : ℕ) → IsPainted later k → IsPainted skips k ⊎ ((from ≤ k) × (k < to))

-- one place more is painted, the first from a place on that wasn't
pub record IsTaken (skips later : List ℕ) (from to k : ℕ) : Type 0 where
  pub first : IsFirstUnpainted skips from k
  pub below : k < to
  pub painted : ArePainted k (k + 1) skips later

-- each place from one to another was painted already
pub record AreTaken (skips later : List ℕ) (from to : ℕ) : Type 0 where
  pub all : (j : ℕ) → from ≤ j → j < to → IsPainted skips j
  pub same : AreAsPainted skips later
