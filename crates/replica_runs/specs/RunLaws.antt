-- The laws of runs of a replication: how one begins, what it keeps, and how the next one follows it.
use Rattle.std.specs.Prelude.{ℕ, ◌≤◌, List, ◌++◌, length, take}
use Rattle.crash_disk.specs.declared.event.Event.{Event}
use Rattle.crash_disk.specs.Files.{Files, files_after}
use Rattle.crash_disk.specs.GoesOn.{IsGrown}
use Rattle.crash_disk.specs.Images.{IsCrashImage, WasCrashImageSince, ArePlaced}
use Rattle.ls_base.specs.History.{History}
use Rattle.ls_base.specs.SyncLog.{SyncLog}
use Rattle.replica_store.specs.CarriesOn.{CarriesOn, IsExtendedBy, RetainsNew}
use Rattle.replica_store.specs.CrashFaithful.{IsCrashFaithful, IsSettled}
use Rattle.replica_store.specs.Faithful.{IsFaithful, IsFaithfulToFront}
use Rattle.replica_store.specs.Putting.{HasSyncedNames}
use Rattle.replica_runs.specs.Keeping.{KeepsReplica}

-- ---- how a run begins

-- A sync of the names makes a crash-faithful replica a settled one, from which the rounds carry on.
abbrev pub SyncedNamesBegin : Type 0
SyncedNamesBegin =
    (history : History) (cut : ℕ) (before settled : List Event) (log : SyncLog)
    → IsCrashFaithful before history log → IsGrown before settled → HasSyncedNames before settled
    → IsSettled settled history log × CarriesOn history cut settled settled log log

-- a run that was refused before the names were synced keeps all
abbrev pub NothingDoneKeeps : Type 0
NothingDoneKeeps =
    (old more : History) (cut : ℕ) (before : List Event) (log : SyncLog)
    → KeepsReplica old (old ++ more) cut before before log log

-- ---- what it keeps

-- What carried on since the names were synced keeps what there was before.
abbrev pub CarriedOnKeeps : Type 0
CarriedOnKeeps =
    (old more : History) (cut : ℕ) (before settled now : List Event) (log later : SyncLog)
    → IsGrown before settled → IsGrown settled now → HasSyncedNames before settled
    → CarriesOn (old ++ more) cut settled now log later → KeepsReplica old (old ++ more) cut before now log later

-- What the rounds up to some moment stored stays retained while the replica carries on.
abbrev pub NewOnesStay : Type 0
NewOnesStay =
    (history : History) (cut : ℕ) (settled mid now : List Event) (log ended later : SyncLog) → IsGrown mid now
    → CarriesOn history cut settled mid log ended → RetainsNew mid log ended
    → CarriesOn history cut mid now ended later → RetainsNew now log ended

-- and with what the next round stored
abbrev pub NewOnesJoin : Type 0
NewOnesJoin =
    (now : List Event) (log ended later : SyncLog) → RetainsNew now log ended → RetainsNew now ended later
    → RetainsNew now log later

-- At its end the files tell the later log.
abbrev pub CarriedOnExtends : Type 0
CarriedOnExtends =
    (history : History) (cut : ℕ) (settled now : List Event) (log later : SyncLog)
    → CarriesOn history cut settled now log later → IsFaithful (files_after now) history later
    → IsExtendedBy log (files_after now) later

-- ---- how the next run follows

-- What a crash left at any moment of the run is a fit start of the next one, over the history that the database has
-- then: a settled replica, for a front of the later log that has the lines which each crash before left.
abbrev pub CrashesAreFitStarts : Type 0
CrashesAreFitStarts =
    (old new more : History) (cut least : ℕ) (before now after : List Event) (log later : SyncLog)
    → KeepsReplica old new cut before now log later
    → ((image : Files) → IsCrashImage before image → IsFaithfulToFront image old log least)
    → WasCrashImageSince now (length before) (files_after after) → ArePlaced after
    → (lines : ℕ) × (least ≤ lines) × (lines ≤ length later) × IsSettled after (new ++ more) (take lines later)

-- and so is its end, where the replica is crash-faithful
abbrev pub EndsAreFitStarts : Type 0
EndsAreFitStarts =
    (history more : History) (now : List Event) (later : SyncLog) → IsCrashFaithful now history later
    → IsCrashFaithful now (history ++ more) later

-- One run after another keeps what both keep, whatever the database did between them.
abbrev pub RunsJoin : Type 0
RunsJoin =
    (first second between more : History) (cut : ℕ) (a b c : List Event) (log mid later : SyncLog)
    → IsGrown a b → IsGrown b c → KeepsReplica first second cut a b log mid
    → KeepsReplica (second ++ between) ((second ++ between) ++ more) cut b c mid later
    → KeepsReplica first ((second ++ between) ++ more) cut a c log later
