-- How many bytes of files a call took.
use Rattle.std.specs.Prelude.{◌≡◌, ℕ, ◌≤◌, Option, ◌⊎◌}
use Rattle.crash_disk.specs.Told.{gives}

-- the count of bytes that a disk gave rose by no more than so many
pub record GaveAtMost (most : ℕ) (before now : Option ℕ) : Type 0 where
  pub more : ℕ
  pub within : more ≤ most
  pub is : (now ≡ before) ⊎ (now ≡ gives before more)
