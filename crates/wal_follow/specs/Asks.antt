-- What is asked of a live database before its log is read, and what the answers are.
use Rattle.std.specs.Prelude.{◌≡◌, ℕ, ◌<◌, ◌≤◌, false, take, Some, Result, Ok, Err, IsOk, IfOk, length}
use Rattle.ls_base.specs.Limits.{log_limit}
use Rattle.db_page.specs.DatabaseHeader.{IsFirstFault}
use Rattle.live_gate.specs.LiveRecord.{LiveRecord}
use Rattle.live_gate.specs.Step.{IsWriterStep}
use Rattle.wal_follow.specs.declared.fault.FollowFault.{FollowFault}
use Rattle.wal_follow.specs.declared.fault.FollowFault.TheVariants.{Header, SizesDiffer, WalTooLong, TooLarge}
use Rattle.wal_follow.specs.declared.fault.FollowFault.TheVariants.{GateBroken, Live, Memory}
use Rattle.wal_follow.specs.Answers.{SaysSize}

-- the answers that there are
abbrev pub IsHeaderAnswer : Result ℕ FollowFault → Type 0
IsHeaderAnswer (Ok size) = Unit {0}
IsHeaderAnswer (Err (Header fault)) = Unit {0}
IsHeaderAnswer (Err (Live fault)) = Unit {0}
IsHeaderAnswer (Err (SizesDiffer db wal)) = ⊥
IsHeaderAnswer (Err (WalTooLong n)) = ⊥
IsHeaderAnswer (Err (TooLarge n)) = ⊥
IsHeaderAnswer (Err (GateBroken broken)) = ⊥
IsHeaderAnswer (Err Memory) = ⊥

abbrev pub IsLengthAnswer : Result ℕ FollowFault → Type 0
IsLengthAnswer (Ok n) = n ≤ log_limit
IsLengthAnswer (Err (WalTooLong n)) = log_limit < n
IsLengthAnswer (Err (Live fault)) = Unit {0}
IsLengthAnswer (Err (Header fault)) = ⊥
IsLengthAnswer (Err (SizesDiffer db wal)) = ⊥
IsLengthAnswer (Err (TooLarge n)) = ⊥
IsLengthAnswer (Err (GateBroken broken)) = ⊥
IsLengthAnswer (Err Memory) = ⊥

-- the header that was given, for each answer
abbrev pub HasHead : Result ℕ FollowFault → LiveRecord → LiveRecord → Type 0
HasHead (Ok size) old new =
    SaysSize new.database.file size × (new.asked ≡ record old.asked { head = Some (take 100 new.database.file) })
HasHead (Err (Header fault)) old new =
    IsFirstFault (take 100 new.database.file) fault
    × (new.asked ≡ record old.asked { head = Some (take 100 new.database.file) })
HasHead (Err fault) old new = new.asked ≡ old.asked

pub record AsksHeader (result : Result ℕ FollowFault) (old new : LiveRecord) : Type 0 where
  pub step : IsWriterStep old.database new.database
  pub awake : IsOk result → new.database.stopped ≡ false
  pub head : HasHead result old new

-- the length that was given, for each answer
abbrev pub HasLength : Result ℕ FollowFault → LiveRecord → LiveRecord → Type 0
HasLength (Ok n) old new = new.asked ≡ record old.asked { wal_size = Some n }
HasLength (Err (WalTooLong n)) old new = new.asked ≡ record old.asked { wal_size = Some n }
HasLength (Err fault) old new = new.asked ≡ old.asked

pub record AsksLength (result : Result ℕ FollowFault) (old new : LiveRecord) : Type 0 where
  pub step : IsWriterStep old.database new.database
  pub awake : IsOk result → new.database.stopped ≡ false
  pub bound : IfOk result (λ n. length new.database.committed ≤ n)
  pub said : HasLength result old new
