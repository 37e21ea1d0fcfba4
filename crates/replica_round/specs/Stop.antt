-- Which refusal of a round a refusal of one of its steps is.
use Rattle.live_gate.specs.declared.fault.LiveFault.{LiveFault}
use Rattle.live_gate.specs.declared.fault.PassFault.{PassFault}
use Rattle.live_gate.specs.declared.fault.PassFault.TheVariants as pass
use Rattle.replica_store.specs.declared.error.StoreError.{StoreError}
use Rattle.replica_store.specs.declared.error.StoreError.TheVariants as store
use Rattle.replica_sync.specs.declared.answer.SyncFault.{SyncFault}
use Rattle.replica_sync.specs.declared.answer.SyncFault.TheVariants as sync
use Rattle.replica_upkeep.specs.declared.answer.UpkeepStop.{UpkeepStop}
use Rattle.replica_upkeep.specs.declared.answer.UpkeepStop.TheVariants as upkeep
use Rattle.wal_follow.specs.declared.fault.FollowFault.TheVariants as follow
use Rattle.replica_round.specs.declared.stop.RoundStop.{RoundStop}
use Rattle.replica_round.specs.declared.stop.RoundStop.TheVariants.{Follow, TxidSpent, Store, Damaged, PageMissing}
use Rattle.replica_round.specs.declared.stop.RoundStop.TheVariants.{Memory}

abbrev pub stop_of_files : StoreError → RoundStop
stop_of_files (store.Store cause) = Store cause
stop_of_files (store.Damaged name damage) = Damaged name damage
stop_of_files store.Memory = Memory

abbrev pub stop_of_sync : SyncFault → RoundStop
stop_of_sync (sync.Follow fault) = Follow fault
stop_of_sync sync.TxidSpent = TxidSpent
stop_of_sync (sync.Store cause) = Store cause
stop_of_sync sync.Memory = Memory

abbrev pub stop_of_hold : LiveFault → RoundStop
stop_of_hold cause = Follow (follow.Live cause)

abbrev pub stop_of_pass : PassFault → RoundStop
stop_of_pass (pass.Live cause) = Follow (follow.Live cause)
stop_of_pass pass.Memory = Memory

abbrev pub stop_of_upkeep : UpkeepStop → RoundStop
stop_of_upkeep (upkeep.Damaged name damage) = Damaged name damage
stop_of_upkeep (upkeep.PageMissing name number) = PageMissing name number
stop_of_upkeep (upkeep.Store cause) = Store cause
stop_of_upkeep upkeep.Memory = Memory

-- behind this refusal a pass may have taken place unknown to the follower
abbrev pub MayHavePassed : RoundStop → Type 0
MayHavePassed (Follow (follow.Live cause)) = Unit {0}
MayHavePassed (Follow (follow.Header cause)) = ⊥
MayHavePassed (Follow (follow.SizesDiffer db wal)) = ⊥
MayHavePassed (Follow (follow.WalTooLong n)) = ⊥
MayHavePassed (Follow (follow.TooLarge n)) = ⊥
MayHavePassed (Follow (follow.GateBroken broken)) = ⊥
MayHavePassed (Follow follow.Memory) = ⊥
MayHavePassed TxidSpent = ⊥
MayHavePassed (Store cause) = ⊥
MayHavePassed (Damaged name damage) = ⊥
MayHavePassed (PageMissing name number) = ⊥
MayHavePassed Memory = Unit {0}

-- no file is blamed
abbrev pub BlamesNoFile : RoundStop → Type 0
BlamesNoFile (Follow fault) = Unit {0}
BlamesNoFile TxidSpent = Unit {0}
BlamesNoFile (Store cause) = Unit {0}
BlamesNoFile (Damaged name damage) = ⊥
BlamesNoFile (PageMissing name number) = ⊥
BlamesNoFile Memory = Unit {0}
