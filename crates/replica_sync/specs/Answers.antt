-- The causes of what a sync answers, whether its objects tell their content or not.
use Rattle.std.specs.Prelude.{◌≡◌, ℕ, ◌+◌, ◌-◌, ◌^◌, ◌<◌, ◌≤◌, List, Result, Ok, Err, IsErrOf}
use Rattle.crash_disk.specs.declared.fault.DiskFault.{DiskFault}
use Rattle.ls_base.specs.Fault.{Rose}
use Rattle.live_gate.specs.declared.fault.LiveFault.{LiveFault}
use Rattle.replica_store.specs.declared.dated_names.Dated.{Dated}
use Rattle.wal_follow.specs.declared.fault.FollowFault.TheVariants.{Header, SizesDiffer, WalTooLong, TooLarge}
use Rattle.wal_follow.specs.declared.fault.FollowFault.TheVariants.{GateBroken, Live, Memory}
use Rattle.round_line.specs.declared.round.Synced.{Synced}
use Rattle.round_line.specs.declared.round.Synced.TheVariants.{Same, Piece, Whole}
use Rattle.replica_sync.specs.declared.answer.SyncFault.{SyncFault}
use Rattle.replica_sync.specs.declared.answer.SyncFault.TheVariants as fault
use Rattle.replica_sync.specs.Newest.{newest_of, IsPieceName, IsWholeName}

-- the last number that a transaction can have
abbrev pub last_txid : ℕ
last_txid = 2 ^ 64 - 1

-- The stored file is of the transaction behind the newest one. `TxidSpent` comes exactly where there is none; what is
-- refused later had one.
abbrev pub IsNamed : List Dated → Result Synced SyncFault → Type 0
IsNamed dated (Ok Same) = Unit {0}
IsNamed dated (Ok (Piece name)) = IsPieceName name (newest_of dated + 1)
IsNamed dated (Ok (Whole name)) = IsWholeName name (newest_of dated + 1)
IsNamed dated (Err fault.TxidSpent) = newest_of dated ≡ last_txid
IsNamed dated (Err (fault.Store cause)) = newest_of dated < last_txid
IsNamed dated (Err (fault.Follow (GateBroken broken))) = newest_of dated < last_txid
IsNamed dated (Err (fault.Follow (Header cause))) = Unit {0}
IsNamed dated (Err (fault.Follow (SizesDiffer db wal))) = Unit {0}
IsNamed dated (Err (fault.Follow (WalTooLong n))) = Unit {0}
IsNamed dated (Err (fault.Follow (TooLarge n))) = Unit {0}
IsNamed dated (Err (fault.Follow (Live cause))) = Unit {0}
IsNamed dated (Err (fault.Follow Memory)) = Unit {0}
IsNamed dated (Err fault.Memory) = Unit {0}

-- neither count of faults falls, and a fault of an object comes only where its count rose
pub record HasCauses
    {T : Type 0} (live_before live_now store_before store_now : ℕ) (result : Result T SyncFault) : Type 0 where
  pub live_later : live_before ≤ live_now
  pub store_later : store_before ≤ store_now
  pub live_rose : (cause : LiveFault) → IsErrOf result (fault.Follow (Live cause)) → Rose live_before live_now
  pub store_rose : (cause : DiskFault) → IsErrOf result (fault.Store cause) → Rose store_before store_now

-- the refusals of storing what was found
abbrev pub IsNextAnswer : {T : Type 0} → List Dated → Result T SyncFault → Type 0
IsNextAnswer dated (Ok name) = Unit {0}
IsNextAnswer dated (Err fault.TxidSpent) = newest_of dated ≡ last_txid
IsNextAnswer dated (Err (fault.Store cause)) = newest_of dated < last_txid
IsNextAnswer dated (Err (fault.Follow (GateBroken broken))) = newest_of dated < last_txid
IsNextAnswer dated (Err (fault.Follow (Live cause))) = Unit {0}
IsNextAnswer dated (Err fault.Memory) = Unit {0}
IsNextAnswer dated (Err (fault.Follow (Header cause))) = ⊥
IsNextAnswer dated (Err (fault.Follow (SizesDiffer db wal))) = ⊥
IsNextAnswer dated (Err (fault.Follow (WalTooLong n))) = ⊥
IsNextAnswer dated (Err (fault.Follow (TooLarge n))) = ⊥
IsNextAnswer dated (Err (fault.Follow Memory)) = ⊥
