-- When each answer to a replication comes.
use Rattle.std.specs.Prelude.{◌≡◌, ℕ, ◌+◌, ◌≤◌, List, length, true, false, Some, ◌⊎◌}
use Rattle.db_page.specs.DatabaseHeader.{IsWalDatabase}
use Rattle.ls_base.specs.Fault.{Rose}
use Rattle.ls_base.specs.Limits.{log_limit}
use Rattle.ls_base.specs.SyncLog.{SyncLog}
use Rattle.live_gate.specs.LiveRecord.{LiveRecord}
use Rattle.replica_store.specs.declared.error.Damage.{Damage}
use Rattle.replica_store.specs.declared.file_name.FileName.{FileName}
use Rattle.replica_store.specs.CrashFaithful.{IsCrashFaithful}
use Rattle.wal_follow.specs.Answers.{FindsSizes}
use Rattle.replica_sync.specs.Answers.{last_txid}
use Rattle.replica_sync.specs.Faith.{IfBothTell}
use Rattle.ls_answers.specs.declared.outcome.Why.{Why}
use Rattle.ls_answers.specs.declared.outcome.Why.TheVariants.{Done, NoDatabase, Damaged, PageMissing, Memory}
use Rattle.replicate_command.specs.Answers.{IsTooLarge}
use Rattle.replicate_command.specs.Asked.{Asked}
use Rattle.replicate_command.specs.Later.{WasFound}
use Rattle.replicate_command.specs.Seen.{Seen}

-- the count of faults neither rose nor stands at its last value
abbrev pub IsCalm : ℕ → ℕ → Type 0
IsCalm before now = Rose before now → ⊥

-- the same of all objects
pub record IsAllCalm (seen : Seen) : Type 0 where
  pub live : IsCalm seen.live_faults seen.live_faults_after
  pub store : IsCalm seen.store_faults seen.store_faults_after
  pub sink : IsCalm seen.sink_faults seen.sink_faults_after

-- this is the answer, unless memory ran out
abbrev pub Answers : Why → Why → Type 0
Answers why answer = (why ≡ answer) ⊎ (why ≡ Memory)

-- no file is called damaged, and no page of one missing
pub record BlamesNoFile (why : Why) : Type 0 where
  pub damaged : (name : FileName) (damage : Damage) → why ≡ Damaged name damage → ⊥
  pub lacking : (name : FileName) (number : ℕ) → why ≡ PageMissing name number → ⊥

-- The database can be replicated: the header that it gave last is one of a database in WAL mode, its log isn't too
-- long, at no moment of the call a log of another page size or too large a state was found, and a number is left for
-- each round.
pub record MayReplicate (asked : Asked) (old new : LiveRecord) (log : SyncLog) : Type 0 where
  pub bytes : List ℕ
  pub gave : new.asked.head ≡ Some bytes
  pub header : IsWalDatabase bytes
  pub size : ℕ
  pub said : new.asked.wal_size ≡ Some size
  pub short : size ≤ log_limit
  pub one_size : (db wal : ℕ) → WasFound (λ first second. FindsSizes first second db wal) old.database new.database → ⊥
  pub small : (bytes : ℕ) → WasFound (IsTooLarge bytes) old.database new.database → ⊥
  pub numbers : length log + asked.rounds ≤ last_txid

-- Where no database is at the path, that is the answer. No file of a replica that tells the truth is blamed, and
-- where nothing fails and the database can be replicated, the answer is Done.
pub record ComesExactly (seen : Seen) (why : Why) : Type 0 where
  pub no_database : (r : LiveRecord) → seen.live ≡ Some r → seen.is_there ≡ false
      → IsCalm seen.live_faults seen.live_faults_after → Answers why NoDatabase
  pub truthful : IfBothTell seen.live seen.live_after seen.store seen.store_after
      (λ old new before now. (log : SyncLog) → new.database.chances ≡ 0
      → IsCrashFaithful before old.database.history log → BlamesNoFile why)
  pub done : IfBothTell seen.live seen.live_after seen.store seen.store_after
      (λ old new before now. (log : SyncLog) → new.database.chances ≡ 0
      → IsCrashFaithful before old.database.history log → seen.is_there ≡ true → IsAllCalm seen
      → MayReplicate seen.asked old new log → Answers why Done)
