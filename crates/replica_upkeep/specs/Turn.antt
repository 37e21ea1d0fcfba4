-- What the turn of a level does to a replica.
use Rattle.std.specs.Prelude.{◌≡◌, ℕ, ◌+◌, List, length}
use Rattle.crash_disk.specs.declared.event.Event.{Event}
use Rattle.crash_disk.specs.Files.{files_after}
use Rattle.compact_levels.specs.Merged.{IsDamagedRun, IsLackingRun}
use Rattle.ls_base.specs.History.{History}
use Rattle.ls_base.specs.SyncLog.{SyncLog}
use Rattle.replica_store.specs.declared.dated_names.Dated.{Dated}
use Rattle.replica_store.specs.Faithful.{IsFaithful}
use Rattle.replica_upkeep.specs.declared.answer.UpkeepStop.{UpkeepStop}
use Rattle.replica_upkeep.specs.declared.answer.UpkeepStop.TheVariants.{Damaged, PageMissing, Store, Memory}
use Rattle.replica_upkeep.specs.Answers.{Explains, IsDueAt, IsSound}
use Rattle.replica_upkeep.specs.Faith.{KeepsFaith, Settles}
use Rattle.replica_upkeep.specs.Kept.{AddsMerges, AreFiles}
use Rattle.replica_upkeep.specs.Levels.{MergesLevel, MergesLevels}

-- files may have been added, and what told the truth tells it, whatever the cut
pub record Adds (before now : List Event) : Type 0 where
  pub adds : AddsMerges before now
  pub read : (history : History) (log : SyncLog) → IsFaithful (files_after before) history log
      → IsFaithful (files_after now) history log
  pub faith : (cut : ℕ) → KeepsFaith cut before now

-- the turn ended, and the list is that of the files as they are then
pub record HasTurned (level now : ℕ) (dated longer : List Dated) (count : ℕ) (before after : List Event) : Type 0
  where
    pub merges : MergesLevel level now dated longer
    pub counts : length longer ≡ length dated + count
    pub files : AreFiles (files_after after) longer
    pub adds : Adds before after
    pub settles : Settles before after

-- the same of the turns of some levels
pub record HaveTurned
    (levels : List ℕ) (now : ℕ) (dated longer : List Dated) (count : ℕ) (before after : List Event) : Type 0 where
  pub merges : MergesLevels levels now dated longer
  pub counts : length longer ≡ length dated + count
  pub files : AreFiles (files_after after) longer
  pub adds : Adds before after
  pub settles : Settles before after

-- the run that is due has a file that is blamed
abbrev pub BlamesRun : ℕ → ℕ → List Dated → UpkeepStop → List Event → Type 0
BlamesRun level now dated (Damaged name damage) before =
    IsDueAt level now dated (files_after before) (λ files names run. IsDamagedRun files names run name damage)
BlamesRun level now dated (PageMissing name number) before =
    IsDueAt level now dated (files_after before) (λ files names run. IsLackingRun files names run name number)
BlamesRun level now dated (Store fault) before = Unit {0}
BlamesRun level now dated Memory before = Unit {0}

-- why the turn was refused, and what stands then
pub record StopsTurn (level now : ℕ) (dated : List Dated) (stop : UpkeepStop) (before after : List Event) : Type 0
  where
    pub blames : BlamesRun level now dated stop before
    pub adds : Adds before after

-- the same of the turns of the levels, one of which was refused
pub record StopsTurns (now : ℕ) (dated : List Dated) (stop : UpkeepStop) (before after : List Event) : Type 0 where
  pub explained : Explains dated now stop before
  pub sound : IsSound stop before
  pub adds : Adds before after
