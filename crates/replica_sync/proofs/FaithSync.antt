-- A sync keeps the faith of the replica.
use Rattle.std.proofs.Common.{◌≡◌, ℕ, ◌≤◌, false, List, [], ◌∷◌, ◌++◌, length, Option, Some, Ok, refl, sym, subst}
use Rattle.std.proofs.Common.{length-append, arith}
use Rattle.crash_disk.specs.declared.event.Event.{Event}
use Rattle.crash_disk.specs.Files.{files_after}
use Rattle.ls_base.specs.declared.line.Line.{Line}
use Rattle.ls_base.specs.declared.place.Place.{Place}
use Rattle.ls_base.specs.SyncLog.{SyncLog}
use Rattle.live_gate.specs.LiveRecord.{Database, LiveRecord, Told}
use Rattle.live_gate.specs.Legal.{IsLegal}
use Rattle.live_gate.specs.Step.{IsWriterStep}
use Rattle.live_gate.proofs.StepLemmas.{step_join}
use Rattle.replica_store.specs.declared.dated_names.Dated.{Dated}
use Rattle.replica_store.specs.declared.file_name.FileName.{FileName}
use Rattle.replica_store.specs.Faithful.{IsFaithful}
use Rattle.replica_store.specs.Listing.{path_of, IsValid}
use Rattle.replica_store.specs.PutFiles.{IsNextFile}
use Rattle.replica_store.specs.Putting.{KeepsOthers, Puts, HasPut}
use Rattle.replica_store.proofs.CarryLemmas.{carries_on_itself, none_new}
use Rattle.replica_store.proofs.FaithLemmas.{is_path, same_faithful}
use Rattle.replica_store.proofs.LogLemmas.{longer_same}
use Rattle.replica_store.proofs.NextFileLemmas.{next_file_carries_on, next_file_settles}
use Rattle.replica_store.proofs.PutCarryLemmas.{kept_carries_on, kept_settled, not_draft}
use Rattle.wal_follow.specs.declared.answer.Found.{Found}
use Rattle.wal_follow.specs.declared.answer.Next.{Next}
use Rattle.wal_follow.specs.declared.answer.Wanted.{Wanted}
use Rattle.wal_follow.specs.declared.answer.Wanted.TheVariants.{All, Listed}
use Rattle.wal_follow.specs.declared.following.Following.{Following}
use Rattle.wal_follow.specs.Answers.{Answers}
use Rattle.wal_follow.specs.Following.{Fits}
use Rattle.round_line.specs.declared.round.Synced.TheVariants.{Same}
use Rattle.replica_sync.specs.Faith.{IsPlaceOfNewest, IsFollowed, AddsLines, EndsSince, HasSynced, MayHaveSynced}
use Rattle.replica_sync.specs.LiveSide.{found_of}
use Rattle.replica_sync.specs.Newest.{next_moment, moment_behind}
use Rattle.replica_sync.specs.Storing.{IsNextName, synced_of, IsFileOfFound}
use Rattle.replica_sync.proofs.FaithNext as next
use Rattle.replica_sync.proofs.FaithNext.{still_faithful, still_settled}
use Rattle.replica_sync.proofs.FaithStores.{stores}

-- ---- nothing was stored

module _ (now : ℕ) (log : SyncLog) (old new : Database) (step : IsWriterStep old new) (before : List Event)
    (faithful : IsFaithful (files_after before) old.history log) where
  -- nothing was done
  pub unchanged : MayHaveSynced now log old new before before
  unchanged = record {
    later = log;
    lines = longer_same log;
    one = omega arith;
    read = still_faithful old new step (files_after before) log faithful;
    carries = λ cut low settled. carries_on_itself new.history cut before log
        (still_settled old new step before log settled);
    faithful = λ settled. (still_settled old new step before log settled).faithful;
  }

  -- nothing but a temporary file changed
  pub kept : (name : FileName) (current : List Event) → IsValid name → KeepsOthers (path_of name) before current
      → MayHaveSynced now log old new before current
  kept name current valid others = record {
    later = log;
    lines = longer_same log;
    one = omega arith;
    read = same_faithful (files_after before) (files_after current) new.history log
        (λ q path. others.files q (not_draft q (path_of name) path (is_path name valid)))
        (still_faithful old new step (files_after before) log faithful);
    carries = λ cut low settled. kept_carries_on new.history cut before current log
        (still_settled old new step before log settled) (path_of name) (is_path name valid) others;
    faithful = λ settled. (kept_settled new.history 0 before current log
        (still_settled old new step before log settled) (path_of name) (is_path name valid) others).faithful;
  }

  -- and there was nothing to store
  pub same : (f after : Following) → IsPlaceOfNewest (files_after before) log after.place
      → EndsSince old.history new.history log → HasSynced f after now Same log old new before before
  same f after newest ends = record {
    later = log;
    lines = refl;
    follows = newest;
    read = still_faithful old new step (files_after before) log faithful;
    carries = λ cut low settled. carries_on_itself new.history cut before log
        (still_settled old new step before log settled);
    settled = λ settled. still_settled old new step before log settled;
    retains = λ settled t above within. none_new log t above within;
    ends = ends;
    stores = tt;
  }

-- ---- a file was stored

module _ (f after : Following) (dated : List Dated) (now : ℕ) (log : SyncLog) (answer : Next) (found : Found)
    (name : FileName)
    (old mid new : LiveRecord) (live_mid live_new : Told) (told_mid : live_mid ≡ Some mid)
    (told_new : live_new ≡ Some new)
    (before current : List Event) (followed : IsFollowed old.database.history before log f.place dated)
    (first : IsWriterStep old.database mid.database) (second : IsWriterStep mid.database new.database)
    (awake : mid.database.stopped ≡ false) (fits : Fits f old.database) (legal : IsLegal old.database)
    (calm : new.database.chances ≡ 0) (is : found_of answer ≡ Some found)
    (answers : Answers f (Ok answer) old.database mid.database) (valid : IsValid name)
    (is_next : IsNextName dated found.wanted name)
    (file : IsFileOfFound found name (next_moment dated now) live_mid live_new) where
  step : IsWriterStep old.database new.database
  step = step_join old.database mid.database new.database first second

  abbrev line : Line
  line = record { place = found.place; moment = next_moment dated now }

  abbrev later : SyncLog
  later = log ++ line ∷ []

  is_file : IsNextFile new.database.history log line name file.bytes
  is_file = next.next_file f dated now log answer found name old mid new live_mid live_new told_mid told_new before
      followed
      first second awake fits legal calm is answers valid is_next file

  read : Puts (path_of name) file.bytes before current → IsFaithful (files_after current) new.database.history later
  read = next.read_now f dated now log answer found name old mid new live_mid live_new told_mid told_new before followed
      first second awake fits legal calm is answers valid is_next file current

  newest : name.max ≡ length later
  newest = next.newest f dated now log answer found name old mid new live_mid live_new told_mid told_new before followed
      first second awake fits legal calm is answers valid is_next file

  young : (cut : ℕ) → cut ≤ now → cut ≤ next_moment dated now
  young cut low = omega (arith, low)

  pub may_be_stored : Puts (path_of name) file.bytes before current
      → MayHaveSynced now log old.database new.database before current
  may_be_stored puts = record {
    later = later;
    lines = record { more = line ∷ []; is = refl };
    one = omega (arith, length-append log (line ∷ []));
    read = read puts;
    carries = λ cut low settled. (next_file_carries_on new.database.history cut before current log line name file.bytes
        (still_settled old.database new.database step before log settled) is_file (young cut low) puts).0;
    faithful = λ settled. (next_file_carries_on new.database.history 0 before current log line name file.bytes
        (still_settled old.database new.database step before log settled) is_file (omega arith) puts).1;
  }

  adds : (w : Wanted) → AddsLines (moment_behind log now) (synced_of w name) log later
  adds All = record {
    line = line;
    is = refl;
    dated = next.moment_is f dated now log answer found name old mid new live_mid live_new told_mid told_new before
        followed
        first second awake fits legal calm is answers valid is_next file;
    last = newest;
  }
  adds (Listed numbers) = record {
    line = line;
    is = refl;
    dated = next.moment_is f dated now log answer found name old mid new live_mid live_new told_mid told_new before
        followed
        first second awake fits legal calm is answers valid is_next file;
    last = newest;
  }

  pub stored : after.place ≡ Some found.place → HasPut (path_of name) file.bytes before current
      → HasSynced f after now (synced_of found.wanted name) log old.database new.database before current
  stored place put = record {
    later = later;
    lines = adds found.wanted;
    follows = subst (λ (p : Option Place). IsPlaceOfNewest (files_after current) later p) (sym place)
        (next.newest_now f dated now log answer found name old mid new live_mid live_new told_mid told_new before
        followed
        first second awake fits legal calm is answers valid is_next file current put.puts);
    read = read put.puts;
    carries = λ cut low settled. (next_file_carries_on new.database.history cut before current log line name file.bytes
        (still_settled old.database new.database step before log settled) is_file (young cut low) put.puts).0;
    settled = λ settled. (next_file_settles new.database.history before current log line name file.bytes
        (still_settled old.database new.database step before log settled) is_file put).0;
    retains = λ settled. (next_file_settles new.database.history before current log line name file.bytes
        (still_settled old.database new.database step before log settled) is_file put).1
        (next.follows_retained f dated now log answer found name old mid new live_mid live_new told_mid told_new before
        followed first second awake fits legal calm is answers valid is_next file);
    ends = next.ends f dated now log answer found name old mid new live_mid live_new told_mid told_new before followed
        first second awake fits legal calm is answers valid is_next file;
    stores = stores f dated now log answer found name old mid new live_mid live_new told_mid told_new before followed
        first second awake fits legal calm is answers valid is_next file current put.puts.file;
  }
