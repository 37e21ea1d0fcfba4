-- What the names of a replica become in the upkeep of a round. This project's rule.
use Rattle.std.specs.Prelude.{◌≡◌, ℕ, ◌+◌, ◌-◌, Bool, List, [], ◌∷◌, length, if◌then◌else◌}
use Rattle.crash_disk.specs.declared.event.Event.{Event}
use Rattle.crash_disk.specs.Files.{files_after}
use Rattle.replica_store.specs.declared.dated_names.Dated.{Dated}
use Rattle.replica_store.specs.declared.file_name.FileName.{FileName}
use Rattle.retention.specs.Drops.{AreDrops}
use Rattle.replica_upkeep.specs.Kept.{AreFiles}
use Rattle.replica_upkeep.specs.Levels.{MergesLevels, merge_levels}
use Rattle.replica_upkeep.specs.declared.answer.Upkeep.{Upkeep}

-- the names that are kept, with their moments
abbrev pub left : List Bool → List Dated → List Dated
left [] dated = dated
left (keep ∷ kept) [] = []
left (keep ∷ kept) (one ∷ dated) = if keep then one ∷ left kept dated else left kept dated

-- First each level has its turn, and then the drops go, with the cut so long before now, at least 0. The answer counts
-- the names that were added, those that went, and the transactions that were retained before the drops and aren't after
-- them.
pub record IsMaintained (dated : List Dated) (keep now : ℕ) (upkeep : Upkeep) (later : List Dated) : Type 0 where
  pub merged : List Dated
  pub merges : MergesLevels merge_levels now dated merged
  pub added : length merged ≡ length dated + upkeep.merged
  pub names : List FileName
  pub lost : List ℕ
  pub drops : AreDrops merged (now - keep) names lost
  pub left_over : later ≡ left drops.kept merged
  pub gone : upkeep.dropped ≡ length names
  pub losses : upkeep.lost ≡ length lost

-- the replica's files are those of the names, with their moments
pub record HasMaintained (dated : List Dated) (keep now : ℕ) (upkeep : Upkeep) (before after : List Event) : Type 0
  where
    pub later : List Dated
    pub maintained : IsMaintained dated keep now upkeep later
    pub files : AreFiles (files_after after) later
