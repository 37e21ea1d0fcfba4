-- The pages of a piece, by the offsets of its frames.
use Rattle.std.specs.Prelude.{◌≡◌, ◌≢◌, ℕ, ◌<◌, ◌≤◌, ◌↔◌, ◌==◌, ◌||◌, if◌then◌else◌, nat_lt, Bool, false, List, Option}
use Rattle.std.specs.Prelude.{Some, None, ◌⊎◌}
use Rattle.std.specs.List.{Contains, filter}
use Rattle.std.specs.List.Sorted.{IsStrictlyIncreasing}
use Rattle.std.specs.FinMap.{get, keys}
use Rattle.ls_base.specs.PageSize.{lock_page}
use Rattle.snapshot_read.specs.PageOffsets.{Offsets}

-- A page is wanted: it stands behind the offset, or lies behind the least size.
pub record IsWanted (offsets : Offsets) (behind size least commit p : ℕ) : Type 0 where
  pub from : 1 ≤ p
  pub within : p ≤ commit
  pub unlocked : p ≢ lock_page size
  pub changed : ((at : ℕ) × (get offsets p ≡ Some at) × (behind < at)) ⊎ (least < p)

pub record AreListed (offsets : Offsets) (behind size least commit : ℕ) (numbers : List ℕ) : Type 0 where
  pub rising : IsStrictlyIncreasing numbers
  pub each : (p : ℕ) → Contains numbers p ↔ IsWanted offsets behind size least commit p

-- whether an offset is behind another
abbrev pub is_behind : ℕ → Option ℕ → Bool
is_behind behind None = false
is_behind behind (Some at) = nat_lt behind at

-- whether a frame behind the offset has the page, from 1 up to the least size, which isn't the lock page
abbrev pub has_written : Offsets → ℕ → ℕ → ℕ → ℕ → Bool
has_written offsets behind lock least p =
    if nat_lt p 1 || nat_lt least p || p == lock then false else is_behind behind (get offsets p)

-- the numbers of those pages
abbrev pub written : Offsets → ℕ → ℕ → ℕ → List ℕ
written offsets behind lock least = filter (has_written offsets behind lock least) (keys offsets)
