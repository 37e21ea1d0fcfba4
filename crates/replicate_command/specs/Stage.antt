-- A part of a replication, behind the sync of the names.
use Rattle.std.specs.Prelude.{◌≡◌, ◌≢◌, ℕ, ◌+◌, ◌≤◌, List, [], length, Option, Result, Ok, Err}
use Rattle.crash_disk.specs.declared.disk.Disk.{Ghosts as OfDisk}
use Rattle.crash_disk.specs.declared.event.Event.{Event}
use Rattle.crash_disk.specs.declared.out.Out.{Ghosts as OfOut}
use Rattle.crash_disk.specs.Files.{files_after}
use Rattle.crash_disk.specs.GoesOn.{IsGrown}
use Rattle.ls_base.specs.declared.place.Place.{Place}
use Rattle.ls_base.specs.History.{History}
use Rattle.ls_base.specs.SyncLog.{SyncLog}
use Rattle.live_gate.specs.declared.live.Live.{Ghosts as OfLive}
use Rattle.replica_store.specs.CarriesOn.{CarriesOn}
use Rattle.replica_store.specs.CrashFaithful.{IsCrashFaithful, IsSettled}
use Rattle.round_line.specs.declared.round.Round.{Round}
use Rattle.replica_runs.specs.Rounds.{HasRun}
use Rattle.replica_sync.specs.Answers.{last_txid}
use Rattle.replica_sync.specs.Faith.{EndsSince, IfBothTell, IsPlaceOfNewest}
use Rattle.wal_follow.specs.declared.following.Following.{Following}
use Rattle.ls_answers.specs.declared.outcome.Why.{Why}
use Rattle.replicate_command.specs.Answers.{Explains, IfStoreTells}
use Rattle.replicate_command.specs.Asked.{Asked, cut_of}
use Rattle.replicate_command.specs.Exact.{BlamesNoFile}
use Rattle.replicate_command.specs.Later.{ObjectsGoOn}
use Rattle.replicate_command.specs.Promise.{Ending, Prints, AreEnough, Whole, TellsRounds, ending_of}
use Rattle.replicate_command.specs.Promise.Ending.{Finished, Unprinted, Spent, Refused}
use Rattle.replicate_command.specs.Seen.{Seen, FaultsStay}
use Rattle.replicate_command.specs.Standing.{KeepsStanding}
use Rattle.replicate_command.specs.declared.stop.ReplicateStop.{ReplicateStop}

-- what the objects tell, before a part of it and after it
abbrev pub stage_of : {L S O : Type 0} → OfLive L → OfDisk S → OfOut O → Asked → L → L → S → S → O → O → Seen
stage_of of_live of_store of_out asked live live_after store store_after out out_after = record {
  asked = asked;
  live = of_live.told live;
  live_after = of_live.told live_after;
  is_there = of_live.is_there live asked.db;
  attached_after = of_live.attached live_after;
  store = of_store.told store;
  store_after = of_store.told store_after;
  folder_after = of_store.folder store_after;
  text = of_out.text out;
  text_after = of_out.text out_after;
  live_faults = of_live.fault_count live;
  live_faults_after = of_live.fault_count live_after;
  store_faults = of_store.fault_count store;
  store_faults_after = of_store.fault_count store_after;
  sink_faults = of_out.fault_count out;
  sink_faults_after = of_out.fault_count out_after;
}

-- what they tell, before a part of it that prints nothing and after it
abbrev pub silent_stage_of :
    {L S : Type 0} → OfLive L → OfDisk S → Asked → L → L → S → S → Option (List ℕ) → ℕ → Seen
silent_stage_of of_live of_store asked live live_after store store_after text sink_faults = record {
  asked = asked;
  live = of_live.told live;
  live_after = of_live.told live_after;
  is_there = of_live.is_there live asked.db;
  attached_after = of_live.attached live_after;
  store = of_store.told store;
  store_after = of_store.told store_after;
  folder_after = of_store.folder store_after;
  text = text;
  text_after = text;
  live_faults = of_live.fault_count live;
  live_faults_after = of_live.fault_count live_after;
  store_faults = of_store.fault_count store;
  store_faults_after = of_store.fault_count store_after;
  sink_faults = sink_faults;
  sink_faults_after = sink_faults;
}

-- what a follower asks of the log and of what the disk tells
abbrev pub Premise : Type 1
Premise = SyncLog → List Event → Type 0

abbrev pub Anything : Premise
Anything log events = Unit {0}

-- the place is that of the newest line
abbrev pub IsAt : Option Place → Premise
IsAt place log events = IsPlaceOfNewest (files_after events) log place

-- the follower that a step answers is there
abbrev pub IsAtResult : Result Following ReplicateStop → Premise
IsAtResult (Ok follower) log events = IsAt follower.place log events
IsAtResult (Err stop) log events = Unit {0}

-- the rounds went on to here
pub record HasGoneOn (to : Premise) (old new : History) (cut : ℕ) (settled now : List Event) (rounds : List Round)
    (log : SyncLog) : Type 0 where
  pub ended : SyncLog
  pub run : HasRun new cut settled now rounds log ended
  pub fits : to ended now
  pub newest : rounds ≢ [] → EndsSince old new ended

-- behind the rounds that ended another one began, which may have stored its file
pub record HasStopped (history : History) (cut : ℕ) (settled now : List Event) (rounds : List Round) (log : SyncLog)
    : Type 0 where
  pub mid : List Event
  pub up : IsGrown settled mid
  pub on : IsGrown mid now
  pub ended : SyncLog
  pub run : HasRun history cut settled mid rounds log ended
  pub later : SyncLog
  pub one : length later ≤ length ended + 1
  pub carries : CarriesOn history cut mid now ended later
  pub faithful : IsCrashFaithful now history later

pub record HasStoppedUnprinted (history : History) (cut : ℕ) (settled now : List Event) (rounds : List Round)
    (log : SyncLog) : Type 0 where
  pub stopped : HasStopped history cut settled now rounds log
  pub same : stopped.later ≡ stopped.ended

pub record HasStoppedSpent (history : History) (cut : ℕ) (settled now : List Event) (rounds : List Round)
    (log : SyncLog) : Type 0 where
  pub stopped : HasStopped history cut settled now rounds log
  pub last : length stopped.ended ≡ last_txid

abbrev pub GoesSo :
    Ending → Premise → History → History → ℕ → List Event → List Event → List Round → SyncLog → Type 0
GoesSo Finished to old new cut settled now rounds log = HasGoneOn to old new cut settled now rounds log
GoesSo Unprinted to old new cut settled now rounds log = HasStoppedUnprinted new cut settled now rounds log
GoesSo Spent to old new cut settled now rounds log = HasStoppedSpent new cut settled now rounds log
GoesSo Refused to old new cut settled now rounds log = HasStopped new cut settled now rounds log

-- What a part of a replication does, from a settled replica on: so many rounds, the first with this number.
pub record RunsOn (number count : ℕ) (from to : Premise) (seen : Seen) (why : Why) : Type 0 where
  pub explained : Explains seen why
  pub goes_on : ObjectsGoOn seen
  pub faults : FaultsStay seen
  pub rounds : List Round
  pub enough : AreEnough (ending_of why) count rounds
  pub prints : Prints (ending_of why) number seen.text seen.text_after rounds
  pub tells : Whole (ending_of why) (TellsRounds seen rounds)
  pub keeps : IfStoreTells seen (KeepsStanding (cut_of seen.asked))
  pub faith : IfBothTell seen.live seen.live_after seen.store seen.store_after
      (λ old new settled now. (log : SyncLog) → new.database.chances ≡ 0
      → IsSettled settled old.database.history log → from log settled
      → GoesSo (ending_of why) to old.database.history new.database.history (cut_of seen.asked) settled now rounds log)
  pub sound : IfBothTell seen.live seen.live_after seen.store seen.store_after
      (λ old new settled now. (log : SyncLog) → new.database.chances ≡ 0
      → IsSettled settled old.database.history log → from log settled → BlamesNoFile why)
