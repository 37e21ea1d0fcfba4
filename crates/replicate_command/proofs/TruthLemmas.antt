-- Of files that tell the truth the newest one has a good header.
use Rattle.crash_disk.specs.Files.{Files}
use Rattle.ls_base.specs.History.{History}
use Rattle.ls_base.specs.SyncLog.{SyncLog}
use Rattle.replica_store.specs.declared.error.Damage.{Damage}
use Rattle.replica_store.specs.declared.file_name.FileName.{FileName}
use Rattle.replica_store.specs.Dating.{IsHeaderDamage}
use Rattle.replica_store.specs.Faithful.{IsFaithful}
use Rattle.replica_runs.specs.Newest.{newest_of, IsNewestFile}
use Rattle.replica_runs.proofs.NewestLemmas.{first_is, listed_in}
use Rattle.replica_round.proofs.SoundLemmas.{good_or_bad, header_under}

module _ (files : Files) (history : History) (log : SyncLog) (faithful : IsFaithful files history log) where
  -- where the files tell the truth the newest one's header isn't damaged
  pub newest_good : (name : FileName) (damage : Damage) → IsNewestFile files name → IsHeaderDamage files name damage → ⊥
  newest_good name damage is bad =
      let found = first_is is.names (newest_of is.names) name is.is.first in
      let header = header_under files history log faithful name (listed_in files is.names is.listed name found.0) in
      good_or_bad files name header.0 damage header.1 bad
