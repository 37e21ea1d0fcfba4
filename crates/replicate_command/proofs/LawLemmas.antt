-- Replications follow one another.
use Rattle.std.proofs.Common.{ℕ, List}
use Rattle.crash_disk.specs.declared.event.Event.{Event}
use Rattle.ls_base.specs.SyncLog.{SyncLog}
use Rattle.ls_base.specs.History.{History}
use Rattle.live_gate.specs.LiveRecord.{Database}
use Rattle.round_line.specs.declared.round.Round.{Round}
use Rattle.replica_store.specs.CrashFaithful.{IsCrashFaithful}
use Rattle.replica_runs.specs.Keeping.{KeepsReplica}
use Rattle.replica_runs.proofs.RunLemmas.{crashes_are_fit_starts, ends_are_fit_starts}
use Rattle.replicate_command.specs.Asked.{cut_of}
use Rattle.replicate_command.specs.Laws.{IsFitStart, ReplicationsFollow}
use Rattle.replicate_command.specs.Promise.{Ending, EndsSo, ending_of}
use Rattle.replicate_command.specs.Promise.Ending.{Finished, Unprinted, Spent, Refused}

fit : (cut : ℕ) (old new : History) (before now : List Event) (log later : SyncLog)
    → KeepsReplica old new cut before now log later → IsCrashFaithful now new later → IsFitStart new before now old log
fit cut old new before now log later keeps faithful = record {
  later = later;
  lines = keeps.lines;
  ends = λ more. ends_are_fit_starts new more now later faithful;
  crashes = λ more after least had was placed.
      crashes_are_fit_starts old new more cut least before now after log later keeps had was placed;
}

fit_so : (ending : Ending) (cut : ℕ) (rounds : List Round) (log : SyncLog) (old new : Database)
    (before now : List Event) → EndsSo ending cut rounds log old new before now
    → IsFitStart new.history before now old.history log
fit_so Finished cut rounds log old new before now ends =
    fit cut old.history new.history before now log ends.ends.later ends.ends.keeps ends.ends.settles.faithful
fit_so Unprinted cut rounds log old new before now ends =
    fit cut old.history new.history before now log ends.refused.later ends.refused.keeps ends.refused.faithful
fit_so Spent cut rounds log old new before now ends =
    fit cut old.history new.history before now log ends.refused.later ends.refused.keeps ends.refused.faithful
fit_so Refused cut rounds log old new before now ends =
    fit cut old.history new.history before now log ends.later ends.keeps ends.faithful

pub replications_follow : ReplicationsFollow
replications_follow seen why ends old new before now is_old is_new is_before is_now log calm faithful =
    fit_so (ending_of why) (cut_of seen.asked) ends.promise.ended log old.database new.database before now
    (ends.promise.faith old new before now is_old is_new is_before is_now log calm faithful)
