-- How far a chain has come.
use Rattle.std.specs.Prelude.{ℕ, List, Option, Some, None}
use Rattle.replica_store.specs.declared.file_name.FileName.{FileName}

-- on the way to t, by files of these names, a chain leads to `after`
pub record Progress : Type 0 where
  pub names : List FileName
  pub t : ℕ
  pub after : ℕ

-- after one more file, if there is one
abbrev pub stepped : Progress → Option FileName → Progress
stepped progress None = progress
stepped progress (Some name) = record progress { after = name.max }
