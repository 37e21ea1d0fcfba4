-- A refused round is the last part of a replication.
use Rattle.std.proofs.Common.{◌≡◌, ℕ, ◌≤◌, List, [], length, Option, Some, Err, refl, sym}
use Rattle.std.proofs.Common.{ap, subst, ◌∙◌, inl, inr, Bool, arith}
use Rattle.std.specs.Prelude.{◌⊎◌}
use Rattle.crash_disk.specs.declared.event.Event.{Event}
use Rattle.crash_disk.specs.GoesOn as disk
use Rattle.crash_disk.specs.GoesOn.{IsGrown}
use Rattle.crash_disk.specs.Output.{gains_text}
use Rattle.crash_disk.specs.Files.{files_after}
use Rattle.crash_disk.proofs.GoesOnLemmas.{grown_same}
use Rattle.ls_base.specs.declared.place.Place.{Place}
use Rattle.ls_base.specs.SyncLog.{SyncLog}
use Rattle.ls_base.specs.History.{History}
use Rattle.live_gate.specs.LiveRecord.{LiveRecord, GoesOn, IfTold}
use Rattle.live_gate.specs.Legal.{IsLegal}
use Rattle.replica_store.specs.CrashFaithful.{IsSettled}
use Rattle.replica_store.specs.Faithful.{IsFaithful}
use Rattle.replica_store.specs.declared.error.Damage.{Damage}
use Rattle.replica_store.specs.declared.file_name.FileName.{FileName}
use Rattle.round_line.specs.declared.round.Round.{Round}
use Rattle.wal_follow.specs.declared.fault.Broken.{Broken}
use Rattle.wal_follow.specs.declared.fault.Broken.TheVariants.{Salts, Short}
use Rattle.wal_follow.specs.declared.fault.FollowFault.TheVariants as follow
use Rattle.wal_follow.specs.declared.following.Following.{Following}
use Rattle.replica_runs.specs.Rounds.{rounds_text}
use Rattle.replica_sync.specs.Faith.{IfBothTell}
use Rattle.replica_sync.proofs.FaithLog.{newest_is}
use Rattle.replica_sync.specs.Reading.{IsBrokenBy}
use Rattle.replica_round.specs.declared.stop.RoundStop.{RoundStop}
use Rattle.replica_round.specs.declared.stop.RoundStop.TheVariants as stop
use Rattle.replica_round.specs.Causes.{HasCauses}
use Rattle.replica_round.specs.Stop as unblamed
use Rattle.replica_round.specs.Faith.{RoundKeepsFaith}
use Rattle.replica_round.specs.LiveSide.{Rounds}
use Rattle.replica_round.specs.StoreSide.{StoresRound, StopsUpkeep}
use Rattle.replica_upkeep.specs.declared.answer.UpkeepStop.{UpkeepStop}
use Rattle.replica_upkeep.specs.declared.answer.UpkeepStop.TheVariants as upkeep
use Rattle.replicate_command.specs.Answers.{Explains, HasBadHeader, HadBadRun, ShowsBroken}
use Rattle.replicate_command.specs.Asked.{cut_of}
use Rattle.replicate_command.specs.Exact.{BlamesNoFile}
use Rattle.replicate_command.specs.Promise.{Ending, Prints, AreEnough, Whole, ending_of}
use Rattle.replicate_command.specs.Seen.{Seen}
use Rattle.replicate_command.specs.Stage.{Premise, IsAt, RunsOn, GoesSo, HasStopped}
use Rattle.replicate_command.specs.Stop.{stop_of_round, why_of_stop, broken_of}
use Rattle.replicate_command.proofs.LaterLemmas.{told_before}
use Rattle.replicate_command.proofs.RoundLemmas.{round_goes_on, grown_to, stored_to, shown_to, found_in_round}
use Rattle.replicate_command.proofs.RunLemmas.{gains_none, run_begins, run_outlasts}
use Rattle.replicate_command.proofs.StandingLemmas.{round_stands}

shows_broken : (place : Place) (broken : Broken) (r : LiveRecord) → IsBrokenBy place broken r
    → ShowsBroken (broken_of broken) r
shows_broken place (Salts was now) r is = (place, is)
shows_broken place (Short at) r is = is

-- ---- no round ended

abbrev stop_ending : RoundStop → Ending
stop_ending stop = ending_of (why_of_stop (stop_of_round stop))

enough_none : (stop : RoundStop) → AreEnough (stop_ending stop) 1 []
enough_none stop.TxidSpent = omega arith
enough_none (stop.Store cause) = omega arith
enough_none (stop.Damaged name damage) = omega arith
enough_none (stop.PageMissing name page) = omega arith
enough_none stop.Memory = omega arith
enough_none (stop.Follow (follow.Header cause)) = omega arith
enough_none (stop.Follow (follow.SizesDiffer db wal)) = omega arith
enough_none (stop.Follow (follow.WalTooLong n)) = omega arith
enough_none (stop.Follow (follow.TooLarge n)) = omega arith
enough_none (stop.Follow (follow.GateBroken broken)) = omega arith
enough_none (stop.Follow (follow.Live cause)) = omega arith
enough_none (stop.Follow follow.Memory) = omega arith

prints_none : (stop : RoundStop) (number : ℕ) (text after : Option (List ℕ))
    → after ≡ gains_text text (rounds_text number []) → Prints (stop_ending stop) number text after []
prints_none stop.TxidSpent number text after is = is
prints_none (stop.Store cause) number text after is = is
prints_none (stop.Damaged name damage) number text after is = is
prints_none (stop.PageMissing name page) number text after is = is
prints_none stop.Memory number text after is = is
prints_none (stop.Follow (follow.Header cause)) number text after is = is
prints_none (stop.Follow (follow.SizesDiffer db wal)) number text after is = is
prints_none (stop.Follow (follow.WalTooLong n)) number text after is = is
prints_none (stop.Follow (follow.TooLarge n)) number text after is = is
prints_none (stop.Follow (follow.GateBroken broken)) number text after is = is
prints_none (stop.Follow (follow.Live cause)) number text after is = is
prints_none (stop.Follow follow.Memory) number text after is = is

-- where no number is left, the last transaction is recorded
goes_none : (stop : RoundStop) (to : Premise) (old new : History) (cut : ℕ) (settled now : List Event) (log : SyncLog)
    (keep moment : ℕ) (stopped : HasStopped new cut settled now [] log) → stopped.ended ≡ log
    → StoresRound keep moment (Err stop) settled now → IsFaithful (files_after settled) old log
    → GoesSo (stop_ending stop) to old new cut settled now [] log
goes_none stop.TxidSpent to old new cut settled now log keep moment stopped is stores faithful = record {
  stopped = stopped;
  last = ap (λ (l : SyncLog). length l) is
      ∙ sym (newest_is (files_after settled) old log faithful stores.dated stores.files.listed stores.files.moments)
      ∙ stores.named;
}
goes_none (stop.Store cause) to old new cut settled now log keep moment stopped is stores faithful = stopped
goes_none (stop.Damaged name damage) to old new cut settled now log keep moment stopped is stores faithful = stopped
goes_none (stop.PageMissing name page) to old new cut settled now log keep moment stopped is stores faithful = stopped
goes_none stop.Memory to old new cut settled now log keep moment stopped is stores faithful = stopped
goes_none (stop.Follow (follow.Header cause)) to old new cut settled now log keep moment stopped is stores faithful =
    stopped
goes_none (stop.Follow (follow.SizesDiffer db wal)) to old new cut settled now log keep moment stopped is stores
    faithful =
    stopped
goes_none (stop.Follow (follow.WalTooLong n)) to old new cut settled now log keep moment stopped is stores faithful =
    stopped
goes_none (stop.Follow (follow.TooLarge n)) to old new cut settled now log keep moment stopped is stores faithful =
    stopped
goes_none (stop.Follow (follow.GateBroken broken)) to old new cut settled now log keep moment stopped is stores
    faithful =
    stopped
goes_none (stop.Follow (follow.Live cause)) to old new cut settled now log keep moment stopped is stores faithful =
    stopped
goes_none (stop.Follow follow.Memory) to old new cut settled now log keep moment stopped is stores faithful = stopped

-- ---- a round that was refused

module _ (seen : Seen) (at_rest : Bool) (f after : Following) (stop : RoundStop)
    (legal : IfTold seen.live (λ r. IsLegal r.database))
    (live : GoesOn seen.live seen.live_after (Rounds at_rest f after (Err stop)))
    (store : disk.GoesOn seen.store seen.store_after (StoresRound seen.asked.keep seen.asked.now (Err stop)))
    (faith : IfBothTell seen.live seen.live_after seen.store seen.store_after
    (RoundKeepsFaith f after seen.asked.keep seen.asked.now (Err stop)))
    (causes : HasCauses {T = Round} seen.live_faults seen.live_faults_after seen.store_faults seen.store_faults_after
    (Err stop)) where
  abbrev stopped_there : (old new : LiveRecord) (settled now : List Event) → seen.live ≡ Some old
      → seen.live_after ≡ Some new → seen.store ≡ Some settled → seen.store_after ≡ Some now → (log : SyncLog)
      → new.database.chances ≡ 0 → IsSettled settled old.database.history log
      → IsAt f.place log settled → HasStopped new.database.history (cut_of seen.asked) settled now [] log
  stopped_there old new settled now is_old is_new is_settled is_now log calm is fits =
      let rounds = shown_to seen at_rest f after (Err stop) legal live store faith old new is_old is_new in
      let later = rounds.later in
      let kept = faith old new settled now is_old is_new is_settled is_now log calm
      (record { faithful = is.faithful.files; newest = fits }) in
      record {
        mid = settled;
        up = grown_same settled;
        on = grown_to seen at_rest f after (Err stop) legal live store faith settled now is_settled is_now;
        ended = log;
        run = run_outlasts old.database.history new.database.history (cut_of seen.asked) settled settled [] log log
            later.history (run_begins old.database.history (cut_of seen.asked) settled log is);
        later = kept.later;
        one = kept.one;
        carries = kept.carries is;
        faithful = kept.faithful is;
      }

-- a run that was due was bad
bad_run : (keep now : ℕ) (refusal : UpkeepStop) (before after : List Event) → StopsUpkeep keep now refusal before after
    → HadBadRun now refusal before after
bad_run keep now refusal before after is = record {
  at = is.stored;
  from = is.grown;
  to = is.up;
  dated = is.longer;
  are = is.files;
  explained = is.explained;
}

explains_damaged : (keep now : ℕ) (name : FileName) (damage : Damage) (before after : List Event)
    → StoresRound keep now (Err (stop.Damaged name damage)) before after
    → HasBadHeader (files_after after) name damage ⊎ HadBadRun now (upkeep.Damaged name damage) before after
explains_damaged keep now name damage before after (inl listed) =
    inl (subst (λ (es : List Event). HasBadHeader (files_after es) name damage) (sym listed.0) (inr listed.1))
explains_damaged keep now name damage before after (inr run) =
    inr (bad_run keep now (upkeep.Damaged name damage) before after run)

-- what explains the refusal
explains_round : (seen : Seen) (at_rest : Bool) (f after : Following) (stop : RoundStop)
    → IfTold seen.live (λ r. IsLegal r.database)
    → GoesOn seen.live seen.live_after (Rounds at_rest f after (Err stop))
    → disk.GoesOn seen.store seen.store_after (StoresRound seen.asked.keep seen.asked.now (Err stop))
    → IfBothTell seen.live seen.live_after seen.store seen.store_after
    (RoundKeepsFaith f after seen.asked.keep seen.asked.now (Err stop))
    → HasCauses {T = Round} seen.live_faults seen.live_faults_after seen.store_faults seen.store_faults_after (Err stop)
    → Explains seen (why_of_stop (stop_of_round stop))
explains_round seen at_rest f after (stop.Damaged name damage) legal live store faith causes = λ before now is_before
    is_now.
    explains_damaged seen.asked.keep seen.asked.now name damage before now
    (stored_to seen at_rest f after (Err (stop.Damaged name damage)) legal live store faith before now is_before is_now)
explains_round seen at_rest f after (stop.PageMissing name page) legal live store faith causes = λ before now is_before
    is_now.
    bad_run seen.asked.keep seen.asked.now (upkeep.PageMissing name page) before now
    (stored_to seen at_rest f after (Err (stop.PageMissing name page)) legal live store faith before now is_before
    is_now)
explains_round seen at_rest f after stop.TxidSpent legal live store faith causes = λ before now is_before is_now.
    let stored = stored_to seen at_rest f after (Err stop.TxidSpent) legal live store faith before now is_before is_now
    in
    record {
      at = before;
      from = grown_same before;
      to = grown_to seen at_rest f after (Err stop.TxidSpent) legal live store faith before now is_before is_now;
      dated = stored.dated;
      are = stored.files;
      last = stored.named;
    }
explains_round seen at_rest f after (stop.Store cause) legal live store faith causes = causes.store_rose cause refl
explains_round seen at_rest f after stop.Memory legal live store faith causes = tt
explains_round seen at_rest f after (stop.Follow (follow.Header cause)) legal live store faith causes = λ r is_r.
    let was = told_before _ _ _ live r is_r in was.2.shows.shows.order.header
explains_round seen at_rest f after (stop.Follow (follow.SizesDiffer db wal)) legal live store faith causes = (
  λ r is_r. let was = told_before _ _ _ live r is_r in was.2.shows.shows.order.header,
  found_in_round seen at_rest f after _ legal live store faith _
      (λ old new is_legal calm rounds. rounds.shows.shows.answers is_legal calm),
)
explains_round seen at_rest f after (stop.Follow (follow.WalTooLong n)) legal live store faith causes = λ r is_r.
    let was = told_before _ _ _ live r is_r in was.2.shows.shows.order.length
explains_round seen at_rest f after (stop.Follow (follow.TooLarge n)) legal live store faith causes =
    found_in_round seen at_rest f after _ legal live store faith _
    (λ old new is_legal calm rounds. rounds.shows.shows.answers is_legal calm)
explains_round seen at_rest f after (stop.Follow (follow.GateBroken broken)) legal live store faith causes = λ r is_r.
    let was = told_before _ _ _ live r is_r in
    let shows = was.2.shows.shows in
    (shows_broken shows.place broken r shows.is, shows.never (legal was.0 was.1))
explains_round seen at_rest f after (stop.Follow (follow.Live cause)) legal live store faith causes =
    causes.live_rose cause refl
explains_round seen at_rest f after (stop.Follow follow.Memory) legal live store faith causes = tt

-- ---- a refusal is no whole, and blames no file that tells the truth

tells_none : (stop : RoundStop) (P : Type 0) → Whole (stop_ending stop) P
tells_none stop.TxidSpent P = tt
tells_none (stop.Store cause) P = tt
tells_none (stop.Damaged name damage) P = tt
tells_none (stop.PageMissing name page) P = tt
tells_none stop.Memory P = tt
tells_none (stop.Follow (follow.Header cause)) P = tt
tells_none (stop.Follow (follow.SizesDiffer db wal)) P = tt
tells_none (stop.Follow (follow.WalTooLong n)) P = tt
tells_none (stop.Follow (follow.TooLarge n)) P = tt
tells_none (stop.Follow (follow.GateBroken broken)) P = tt
tells_none (stop.Follow (follow.Live cause)) P = tt
tells_none (stop.Follow follow.Memory) P = tt

blames_none : (stop : RoundStop) → unblamed.BlamesNoFile stop → BlamesNoFile (why_of_stop (stop_of_round stop))
blames_none stop.TxidSpent is = record { damaged = λ n d e. cc; lacking = λ n p e. cc }
blames_none (stop.Store cause) is = record { damaged = λ n d e. cc; lacking = λ n p e. cc }
blames_none (stop.Damaged name damage) is = absurd is
blames_none (stop.PageMissing name page) is = absurd is
blames_none stop.Memory is = record { damaged = λ n d e. cc; lacking = λ n p e. cc }
blames_none (stop.Follow (follow.Header cause)) is = record { damaged = λ n d e. cc; lacking = λ n p e. cc }
blames_none (stop.Follow (follow.SizesDiffer db wal)) is = record { damaged = λ n d e. cc; lacking = λ n p e. cc }
blames_none (stop.Follow (follow.WalTooLong n)) is = record { damaged = λ n d e. cc; lacking = λ n p e. cc }
blames_none (stop.Follow (follow.TooLarge n)) is = record { damaged = λ n d e. cc; lacking = λ n p e. cc }
blames_none (stop.Follow (follow.GateBroken broken)) is = record { damaged = λ n d e. cc; lacking = λ n p e. cc }
blames_none (stop.Follow (follow.Live cause)) is = record { damaged = λ n d e. cc; lacking = λ n p e. cc }
blames_none (stop.Follow follow.Memory) is = record { damaged = λ n d e. cc; lacking = λ n p e. cc }

-- A refused round stops a replication: no round more ended, and its file may be there.
pub round_refused : (seen : Seen) (at_rest : Bool) (f after : Following) (stop : RoundStop) (number : ℕ) (to : Premise)
    → IfTold seen.live (λ r. IsLegal r.database)
    → GoesOn seen.live seen.live_after (Rounds at_rest f after (Err stop))
    → disk.GoesOn seen.store seen.store_after (StoresRound seen.asked.keep seen.asked.now (Err stop))
    → IfBothTell seen.live seen.live_after seen.store seen.store_after
    (RoundKeepsFaith f after seen.asked.keep seen.asked.now (Err stop))
    → HasCauses {T = Round} seen.live_faults seen.live_faults_after seen.store_faults seen.store_faults_after (Err stop)
    → seen.text_after ≡ seen.text → seen.sink_faults ≤ seen.sink_faults_after
    → RunsOn number 1 (IsAt f.place) to seen (why_of_stop (stop_of_round stop))
round_refused seen at_rest f after stop number to legal live store faith causes silent sink = record {
  explained = explains_round seen at_rest f after stop legal live store faith causes;
  goes_on = round_goes_on seen at_rest f after (Err stop) legal live store faith;
  faults = record { live = causes.live_later; store = causes.store_later; sink = sink };
  rounds = [];
  enough = enough_none stop;
  prints = prints_none stop number seen.text seen.text_after (silent ∙ gains_none seen.text);
  tells = tells_none stop _;
  keeps = λ before now is_before is_now. round_stands seen.asked.keep seen.asked.now before now (Err stop)
      (stored_to seen at_rest f after (Err stop) legal live store faith before now is_before is_now);
  sound = λ old new settled now is_old is_new is_settled is_now log calm is fits.
      blames_none stop (faith old new settled now is_old is_new is_settled is_now log calm
      (record { faithful = is.faithful.files; newest = fits })).sound;
  faith = λ old new settled now is_old is_new is_settled is_now log calm is fits.
      goes_none stop to old.database.history new.database.history (cut_of seen.asked) settled now log seen.asked.keep
      seen.asked.now
      (stopped_there seen at_rest f after stop legal live store faith causes old new settled now is_old is_new
      is_settled is_now log calm is fits) refl
      (stored_to seen at_rest f after (Err stop) legal live store faith settled now is_settled is_now)
      is.faithful.files;
}
