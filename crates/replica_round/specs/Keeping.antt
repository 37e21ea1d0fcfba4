-- The upkeep of a replica behind a sync.
use Rattle.std.specs.Prelude.{◌≡◌, ℕ, List, ◌⊎◌}
use Rattle.crash_disk.specs.declared.event.Event.{Event}
use Rattle.crash_disk.specs.Files.{files_after}
use Rattle.replica_store.specs.declared.dated_names.Dated.{Dated}
use Rattle.round_line.specs.RoundText.{name_in}
use Rattle.replica_sync.specs.Newest.{next_moment}
use Rattle.replica_upkeep.specs.declared.answer.Upkeep.{Upkeep}
use Rattle.replica_upkeep.specs.declared.answer.UpkeepStop.{UpkeepStop}
use Rattle.replica_upkeep.specs.declared.answer.UpkeepStop.TheVariants.{Memory}
use Rattle.replica_upkeep.specs.Answers.{Explains}
use Rattle.replica_upkeep.specs.Kept.{AreFiles}
use Rattle.replica_upkeep.specs.Maintained.{HasMaintained}
use Rattle.replica_round.specs.declared.changing.Changed.{Changed}
use Rattle.replica_round.specs.StoreSide.{JoinsStored}

-- this list has the name of what was stored, too
abbrev pub JoinsChanged : Changed → ℕ → List Dated → Type 0
JoinsChanged changed now longer =
    JoinsStored (name_in changed.sync) (next_moment changed.files now) changed.files longer

-- the files are those of such a list
abbrev pub AreFilesWith : Changed → ℕ → List Event → Type 0
AreFilesWith changed now events =
    (longer : List Dated) → JoinsChanged changed now longer → AreFiles (files_after events) longer

-- the upkeep of such a list was done
pub record HasKeptUp (changed : Changed) (keep now : ℕ) (upkeep : Upkeep) (before after : List Event) : Type 0 where
  pub longer : List Dated
  pub joins : JoinsChanged changed now longer
  pub maintains : HasMaintained longer keep now upkeep before after

-- why the upkeep of such a list was refused
pub record StopsKeeping (changed : Changed) (now : ℕ) (refusal : UpkeepStop) (before : List Event) : Type 0 where
  pub longer : List Dated
  pub joins : JoinsChanged changed now longer
  pub explained : Explains longer now refusal before

-- there was no memory for such a list, or its upkeep was refused
abbrev pub ExplainsUpkeep : Changed → ℕ → UpkeepStop → List Event → List Event → Type 0
ExplainsUpkeep changed now refusal before after =
    ((refusal ≡ Memory) × (after ≡ before)) ⊎ StopsKeeping changed now refusal before
