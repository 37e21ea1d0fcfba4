-- What reading a log piece by piece gives.
use Rattle.std.specs.Prelude.{◌≡◌, ℕ, ◌+◌, ◌≤◌, false, List, ◌++◌, length, take, drop, Option, Result, Ok, Err, IsOk}
use Rattle.std.specs.Prelude.{IfOk, OnOk, ◌⊎◌}
use Rattle.live_gate.specs.declared.fault.LiveFault.{LiveFault}
use Rattle.live_gate.specs.LiveRecord.{LiveRecord}
use Rattle.live_gate.specs.LiveCalls.{AgreeInFront, read_offset}
use Rattle.live_gate.specs.Coincidence.{IsReadByChecksums}
use Rattle.live_gate.specs.Step.{IsWriterStep}
use Rattle.snapshot_read.specs.Reading.{IsUnderGate, AsksOfTheLog}
use Rattle.wal_follow.specs.declared.fault.FollowFault.{FollowFault}
use Rattle.wal_follow.specs.declared.fault.FollowFault.TheVariants.{Header, SizesDiffer, WalTooLong, TooLarge}
use Rattle.wal_follow.specs.declared.fault.FollowFault.TheVariants.{GateBroken, Live, Memory}
use Rattle.wal_follow.specs.declared.gathering.Gathering.{Gathering}
use Rattle.wal_follow.specs.Gathering.{HasGathered}

-- These bytes were answered since: what was read agrees with the part that was committed at first, as far as both go.
pub record HasRead (bytes : List ℕ) (old new : LiveRecord) : Type 0 where
  pub step : IsWriterStep old.database new.database
  pub asked : AsksOfTheLog old.asked new.asked
  pub aimed : new.asked.aimed ≡ old.asked.aimed
  pub answered : new.asked.answered ≡ old.asked.answered ++ bytes
  pub taken : new.asked.taken ≤ old.asked.taken + length bytes
  pub agrees : IsUnderGate old.database → new.database.stopped ≡ false
      → AgreeInFront bytes (drop (read_offset old) old.database.committed)
  -- the last answer passed for committed bytes as far as its checksums say so
  pub chance : new.database.chances ≡ 0 → IsReadByChecksums old → IsReadByChecksums new

-- no more came than was asked for, and no less than was committed at first
pub record IsEnough (left : ℕ) (bytes : List ℕ) (old : LiveRecord) : Type 0 where
  pub most : length bytes ≤ left
  pub least : IsUnderGate old.database
      → (length bytes ≡ left) ⊎ (length old.database.committed ≤ read_offset old + length bytes)

pub record Fills (result : Result ℕ LiveFault) (into : List ℕ) (old new : LiveRecord) : Type 0 where
  pub step : IsWriterStep old.database new.database
  pub awake : IfOk result (λ n. 1 ≤ length into → new.database.stopped ≡ false)
  pub asked : AsksOfTheLog old.asked new.asked
  pub taken : new.asked.taken ≤ old.asked.taken + length into
  pub read : IfOk result (λ n. HasRead (take n into) old new × IsEnough (length into) (take n into) old)

pub record ReadsOn
    (left : ℕ) (before after : Gathering) (result : Result (Unit {0}) FollowFault) (old new : LiveRecord)
    : Type 0 where
  pub step : IsWriterStep old.database new.database
  pub asked : AsksOfTheLog old.asked new.asked
  pub taken : new.asked.taken ≤ old.asked.taken + left
  pub awake : old.database.stopped ≡ false → IsOk result → new.database.stopped ≡ false
  pub read : OnOk result ((bytes : List ℕ) × HasRead bytes old new × IsEnough left bytes old
      × ((base : ℕ) (initial : Option ℕ) (log : List ℕ) → HasGathered base initial before log
      → HasGathered base initial after (log ++ bytes)))

-- the answers that there are
abbrev pub IsReadAnswer : Result (Unit {0}) FollowFault → Type 0
IsReadAnswer (Ok done) = Unit {0}
IsReadAnswer (Err (Live fault)) = Unit {0}
IsReadAnswer (Err Memory) = Unit {0}
IsReadAnswer (Err (Header fault)) = ⊥
IsReadAnswer (Err (WalTooLong n)) = ⊥
IsReadAnswer (Err (SizesDiffer db wal)) = ⊥
IsReadAnswer (Err (TooLarge n)) = ⊥
IsReadAnswer (Err (GateBroken broken)) = ⊥
