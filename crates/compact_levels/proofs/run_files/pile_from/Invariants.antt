use Rattle.std.proofs.Common.{◌≡◌, ℕ, ◌<◌, Some}
use Rattle.std.specs.Prelude.{slice_get}
use Rattle.replica_store.specs.declared.file_name.FileName.{FileName}
use Rattle.compact_levels.specs.RunFiles.{BeginsWith}
use Rattle.compact_levels.proofs.run_files.pile_from.Given as goal

abbrev pub invariant-loop-at : goal.invariant-loop-at
invariant-loop-at l =
    (k : ℕ) (name : FileName) → k < l.at → slice_get l.names k ≡ Some name → BeginsWith l.level l.min name → ⊥
