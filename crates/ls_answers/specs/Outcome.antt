use Rattle.std.specs.Prelude.{ℕ}
use Rattle.ls_answers.specs.declared.outcome.Why.{Why}
use Rattle.ls_answers.specs.declared.outcome.Why.TheVariants.{Done, SkippedOutput, SkippedReplica, NotBuilt, Usage}
use Rattle.ls_answers.specs.declared.outcome.Why.TheVariants.{NoReplica, MissingRange, NoMoment, Damaged, PageMissing}
use Rattle.ls_answers.specs.declared.outcome.Why.TheVariants.{OutputExists, StoreFault, TargetFault, SinkFault, Memory}
use Rattle.ls_answers.specs.declared.outcome.Why.TheVariants.{NoDatabase, Header, SizesDiffer, WalTooLong, TooLarge}
use Rattle.ls_answers.specs.declared.outcome.Why.TheVariants.{GateBroken, TxidSpent, LiveFault}

-- the exit status of each cause
abbrev pub status_of : Why → ℕ
status_of Done = 0
status_of SkippedOutput = 0
status_of SkippedReplica = 0
status_of NotBuilt = 2
status_of (Usage usage) = 2
status_of NoDatabase = 1
status_of (Header fault) = 1
status_of (SizesDiffer db wal) = 1
status_of (WalTooLong size) = 1
status_of (TooLarge size) = 1
status_of (GateBroken broken) = 1
status_of NoReplica = 1
status_of (MissingRange after) = 1
status_of NoMoment = 1
status_of (Damaged name damage) = 1
status_of (PageMissing name number) = 1
status_of (OutputExists size) = 1
status_of TxidSpent = 1
status_of LiveFault = 3
status_of StoreFault = 3
status_of TargetFault = 3
status_of SinkFault = 3
status_of Memory = 4
