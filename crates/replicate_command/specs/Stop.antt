-- Why a replication was refused.
use Rattle.std.specs.Prelude.{Result, Ok, Err}
use Rattle.crash_disk.specs.declared.fault.NamesFault.{NamesFault}
use Rattle.crash_disk.specs.declared.fault.NamesFault.TheVariants as names
use Rattle.live_gate.specs.declared.fault.PassFault.{PassFault}
use Rattle.live_gate.specs.declared.fault.PassFault.TheVariants as pass
use Rattle.replica_store.specs.declared.error.StoreError.{StoreError}
use Rattle.replica_store.specs.declared.error.StoreError.TheVariants as error
use Rattle.wal_follow.specs.declared.fault.Broken.{Broken as Found}
use Rattle.wal_follow.specs.declared.fault.Broken.TheVariants as found
use Rattle.wal_follow.specs.declared.fault.FollowFault.{FollowFault}
use Rattle.wal_follow.specs.declared.fault.FollowFault.TheVariants as follow
use Rattle.replica_round.specs.declared.stop.RoundStop.{RoundStop}
use Rattle.replica_round.specs.declared.stop.RoundStop.TheVariants as round
use Rattle.ls_answers.specs.declared.outcome.Broken.{Broken}
use Rattle.ls_answers.specs.declared.outcome.Broken.TheVariants as broken
use Rattle.ls_answers.specs.declared.outcome.Why.{Why}
use Rattle.ls_answers.specs.declared.outcome.Why.TheVariants as why
use Rattle.replicate_command.specs.declared.stop.ReplicateStop.{ReplicateStop}
use Rattle.replicate_command.specs.declared.stop.ReplicateStop.TheVariants.{NoDatabase, Header, SizesDiffer}
use Rattle.replicate_command.specs.declared.stop.ReplicateStop.TheVariants.{WalTooLong, TooLarge, GateBroken, Damaged}
use Rattle.replicate_command.specs.declared.stop.ReplicateStop.TheVariants.{PageMissing, TxidSpent, Live, Store, Sink}
use Rattle.replicate_command.specs.declared.stop.ReplicateStop.TheVariants.{Memory}

-- how the gate was broken, in the words of the answer
abbrev pub broken_of : Found → Broken
broken_of (found.Salts was now) = broken.Salts was now
broken_of (found.Short at) = broken.Short at

-- the stop that a fault of the follower is
abbrev pub stop_of_follow : FollowFault → ReplicateStop
stop_of_follow (follow.Header fault) = Header fault
stop_of_follow (follow.SizesDiffer db wal) = SizesDiffer db wal
stop_of_follow (follow.WalTooLong size) = WalTooLong size
stop_of_follow (follow.TooLarge size) = TooLarge size
stop_of_follow (follow.GateBroken how) = GateBroken (broken_of how)
stop_of_follow (follow.Live fault) = Live
stop_of_follow follow.Memory = Memory

-- the stop that a refused round is
abbrev pub stop_of_round : RoundStop → ReplicateStop
stop_of_round (round.Follow fault) = stop_of_follow fault
stop_of_round round.TxidSpent = TxidSpent
stop_of_round (round.Store fault) = Store
stop_of_round (round.Damaged name damage) = Damaged name damage
stop_of_round (round.PageMissing name number) = PageMissing name number
stop_of_round round.Memory = Memory

-- the stop that an error of the replica is
abbrev pub stop_of_store : StoreError → ReplicateStop
stop_of_store (error.Store fault) = Store
stop_of_store (error.Damaged name damage) = Damaged name damage
stop_of_store error.Memory = Memory

-- the stops that refused attaches are
abbrev pub stop_of_pass : PassFault → ReplicateStop
stop_of_pass (pass.Live fault) = Live
stop_of_pass pass.Memory = Memory

abbrev pub stop_of_names : NamesFault → ReplicateStop
stop_of_names (names.Disk fault) = Store
stop_of_names names.Memory = Memory

-- the answer that a stop is
abbrev pub why_of_stop : ReplicateStop → Why
why_of_stop NoDatabase = why.NoDatabase
why_of_stop (Header fault) = why.Header fault
why_of_stop (SizesDiffer db wal) = why.SizesDiffer db wal
why_of_stop (WalTooLong size) = why.WalTooLong size
why_of_stop (TooLarge size) = why.TooLarge size
why_of_stop (GateBroken how) = why.GateBroken how
why_of_stop (Damaged name damage) = why.Damaged name damage
why_of_stop (PageMissing name number) = why.PageMissing name number
why_of_stop TxidSpent = why.TxidSpent
why_of_stop Live = why.LiveFault
why_of_stop Store = why.StoreFault
why_of_stop Sink = why.SinkFault
why_of_stop Memory = why.Memory

-- and that of a step that ended so
abbrev pub why_of : {T : Type 0} → Result T ReplicateStop → Why
why_of (Ok done) = why.Done
why_of (Err stop) = why_of_stop stop
