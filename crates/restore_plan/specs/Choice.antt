-- The better of two files that may both come next. This project's rule.
use Rattle.std.specs.Prelude.{◌≡◌, ◌≤◌}
use Rattle.replica_store.specs.declared.file_name.FileName.{FileName}

-- no file is preferred to the chosen one: none reaches further, none that reaches as far has a higher level, and
-- none of these begins later
pub record IsAsGood (chosen other : FileName) : Type 0 where
  pub farthest : other.max ≤ chosen.max
  pub highest : other.max ≡ chosen.max → other.level ≤ chosen.level
  pub latest : other.max ≡ chosen.max → other.level ≡ chosen.level → other.min ≤ chosen.min
