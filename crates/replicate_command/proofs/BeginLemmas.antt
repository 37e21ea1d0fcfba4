-- How a replication begins under the gate.
use Rattle.std.proofs.Common.{◌≡◌, ℕ, List, [], Option, Some, None, Err, refl, sym, ap, subst, ◌∙◌, inl, arith}
use Rattle.std.specs.Prelude.{option_map}
use Rattle.crash_disk.specs.declared.event.Event.{Event}
use Rattle.crash_disk.specs.Files.{Files, files_after}
use Rattle.crash_disk.specs.Told.{Told}
use Rattle.crash_disk.proofs.GoesOnLemmas.{goes_on-same, grown_same}
use Rattle.ls_base.specs.declared.line.Line.{Line}
use Rattle.ls_base.specs.declared.place.Place.{Place}
use Rattle.ls_base.specs.History.{History}
use Rattle.ls_base.specs.SyncLog.{SyncLog}
use Rattle.live_gate.specs.LiveRecord.{Asked as Asks, Database, LiveRecord, GoesOn}
use Rattle.replica_store.specs.declared.error.StoreError.{StoreError}
use Rattle.replica_store.specs.declared.error.StoreError.TheVariants as error
use Rattle.replica_store.specs.StoreError.{StoreHasCause}
use Rattle.replica_store.specs.CrashFaithful.{IsSettled}
use Rattle.replica_store.proofs.CarryLemmas.{carries_on_itself}
use Rattle.replica_runs.specs.Newest.{IsNewestLine, ExplainsNewest}
use Rattle.replica_runs.specs.NewestLaws.{IsLineOfLog}
use Rattle.replica_runs.proofs.NewestLemmas.{newest_is_recorded}
use Rattle.replica_sync.specs.Faith.{IsPlaceOfNewest}
use Rattle.ls_answers.specs.declared.outcome.Why.TheVariants.{Done}
use Rattle.replicate_command.specs.Answers.{Explains, IfStoreTells}
use Rattle.replicate_command.specs.Asked.{cut_of}
use Rattle.replicate_command.specs.Exact.{BlamesNoFile}
use Rattle.replicate_command.specs.Names.{MaintainsNames}
use Rattle.replica_round.specs.Later.{IsLater}
use Rattle.replicate_command.specs.Later.{ObjectsGoOn}
use Rattle.replicate_command.specs.Promise.{Ending, Prints, AreEnough, Whole, TellsRounds, ending_of}
use Rattle.replicate_command.specs.Promise.Ending.{Finished, Unprinted, Spent, Refused}
use Rattle.replicate_command.specs.Seen.{Seen, FaultsStay}
use Rattle.replicate_command.specs.Stage.{Premise, IsAt, RunsOn, GoesSo, HasGoneOn, HasStopped}
use Rattle.replicate_command.specs.Standing.{KeepsStanding}
use Rattle.replicate_command.specs.Stop.{stop_of_store, why_of_stop}
use Rattle.replicate_command.specs.declared.stop.ReplicateStop.{ReplicateStop}
use Rattle.replicate_command.proofs.LaterLemmas.{live_weaker, same_told}
use Rattle.replicate_command.proofs.NamesLemmas.{no_names, no_passes}
use Rattle.replicate_command.proofs.RunLemmas.{gains_none, run_begins, run_outlasts}
use Rattle.replicate_command.proofs.StandingLemmas.{unchanged_stands}
use Rattle.replicate_command.proofs.TruthLemmas.{newest_good}

-- nothing but the live database's moves took place
pub record IsQuiet (seen : Seen) : Type 0 where
  pub live : GoesOn seen.live seen.live_after
      (λ old new. IsLater old.database new.database × (new.asked ≡ old.asked))
  pub store : seen.store_after ≡ seen.store
  pub text : seen.text_after ≡ seen.text
  pub faults : FaultsStay seen

quiet_goes_on : (seen : Seen) → IsQuiet seen → ObjectsGoOn seen
quiet_goes_on seen quiet = record {
  live = live_weaker _ _ _ _ quiet.live (λ x y both. both.0);
  store = goes_on-same seen.store seen.store_after (λ old new. Unit {0}) quiet.store (λ events. tt);
}

later_now : (seen : Seen) → IsQuiet seen → (old new : LiveRecord) → seen.live ≡ Some old → seen.live_after ≡ Some new
    → IsLater old.database new.database
later_now seen quiet old new is_old is_new =
    let next = quiet.live.told old is_old in
    subst (λ (r : LiveRecord). IsLater old.database r.database) (same_told next.0 new (sym next.1 ∙ is_new)) next.2.0

asked_now : (seen : Seen) → IsQuiet seen → (old new : LiveRecord) → seen.live ≡ Some old → seen.live_after ≡ Some new
    → new.asked ≡ old.asked
asked_now seen quiet old new is_old is_new =
    let next = quiet.live.told old is_old in
    subst (λ (r : LiveRecord). r.asked ≡ old.asked) (same_told next.0 new (sym next.1 ∙ is_new)) next.2.1

same_events : (seen : Seen) → IsQuiet seen → (before now : List Event) → seen.store ≡ Some before
    → seen.store_after ≡ Some now → now ≡ before
same_events seen quiet before now is_before is_now = same_told now before (sym is_now ∙ quiet.store ∙ is_before)

quiet_keeps : (seen : Seen) → IsQuiet seen → IfStoreTells seen (KeepsStanding (cut_of seen.asked))
quiet_keeps seen quiet before now is_before is_now =
    unchanged_stands (cut_of seen.asked) before now (same_events seen quiet before now is_before is_now)

-- the first rounds of none
none_begins : (old new : Database) (cut : ℕ) (settled : List Event) (log : SyncLog) → IsLater old new
    → IsSettled settled old.history log → (to : Premise) → to log settled
    → HasGoneOn to old.history new.history cut settled settled [] log
none_begins old new cut settled log later is to fits = record {
  ended = log;
  run = run_outlasts old.history new.history cut settled settled [] log log later.history
      (run_begins old.history cut settled log is);
  fits = fits;
  newest = λ some. absurd (some refl);
}

none_stops : (old new : Database) (cut : ℕ) (settled : List Event) (log : SyncLog) → IsLater old new
    → IsSettled settled old.history log → HasStopped new.history cut settled settled [] log
none_stops old new cut settled log later is =
    let run = run_outlasts old.history new.history cut settled settled [] log log later.history
    (run_begins old.history cut settled log is) in
    record {
      mid = settled;
      up = grown_same settled;
      on = grown_same settled;
      ended = log;
      run = run;
      later = log;
      one = omega arith;
      carries = carries_on_itself new.history cut settled log run.settles;
      faithful = run.settles.faithful;
    }

-- no round is done yet
pub not_yet : (number : ℕ) (from to : Premise) (seen : Seen) → IsQuiet seen
    → ((history : History) (log : SyncLog) (settled : List Event) → IsSettled settled history log
    → seen.store ≡ Some settled → from log settled → to log settled)
    → RunsOn number 0 from to seen Done
not_yet number from to seen quiet there = record {
  explained = tt;
  goes_on = quiet_goes_on seen quiet;
  faults = quiet.faults;
  rounds = [];
  enough = refl;
  prints = quiet.text ∙ gains_none seen.text;
  tells = record {
    names = λ before now is_before is_now. subst (λ (es : List Event). MaintainsNames seen.asked [] before es)
        (sym (same_events seen quiet before now is_before is_now)) (no_names seen.asked before);
    passes = λ old new is_old is_new. no_passes seen.attached_after old new
        (ap (λ (a : Asks). a.passes_done) (asked_now seen quiet old new is_old is_new));
  };
  keeps = quiet_keeps seen quiet;
  sound = λ old new settled now is_old is_new is_settled is_now log calm is fits. record {
    damaged = λ n d e. cc;
    lacking = λ n p e. cc;
  };
  faith = λ old new settled now is_old is_new is_settled is_now log calm is fits.
      subst (λ (es : List Event). HasGoneOn to old.database.history new.database.history (cut_of seen.asked) settled es
      [] log)
      (sym (same_events seen quiet settled now is_settled is_now))
      (none_begins old.database new.database (cut_of seen.asked) settled log
      (later_now seen quiet old new is_old is_new) is to (there old.database.history log settled is is_settled fits));
}

none_refused : (ending : Ending) → ending ≡ Refused → AreEnough ending 0 []
none_refused Finished is = refl
none_refused Unprinted is = omega arith
none_refused Spent is = absurd cc
none_refused Refused is = omega arith

-- and the gate or the newest line refuses it
pub refused_yet : (number : ℕ) (from to : Premise) (seen : Seen) (stop : ReplicateStop)
    → ending_of (why_of_stop stop) ≡ Refused → IsQuiet seen → Explains seen (why_of_stop stop)
    → ((history : History) (log : SyncLog) (settled : List Event) → IsSettled settled history log
    → seen.store ≡ Some settled → BlamesNoFile (why_of_stop stop))
    → RunsOn number 0 from to seen (why_of_stop stop)
refused_yet number from to seen stop is_refused quiet explained unblamed =
    let ending = ending_of (why_of_stop stop) in
    record {
      explained = explained;
      goes_on = quiet_goes_on seen quiet;
      faults = quiet.faults;
      rounds = [];
      enough = none_refused ending is_refused;
      prints = subst (λ (e : Ending). Prints e number seen.text seen.text_after []) (sym is_refused)
          (quiet.text ∙ gains_none seen.text);
      tells = subst (λ (e : Ending). Whole e (TellsRounds seen [])) (sym is_refused) tt;
      keeps = quiet_keeps seen quiet;
      sound = λ old new settled now is_old is_new is_settled is_now log calm is fits.
          unblamed old.database.history log settled is is_settled;
      faith = λ old new settled now is_old is_new is_settled is_now log calm is fits.
          subst (λ (e : Ending). GoesSo e to old.database.history new.database.history (cut_of seen.asked) settled now
          [] log) (sym is_refused)
          (subst (λ (es : List Event). HasStopped new.database.history (cut_of seen.asked) settled es [] log)
          (sym (same_events seen quiet settled now is_settled is_now))
          (none_stops old.database new.database (cut_of seen.asked) settled log
          (later_now seen quiet old new is_old is_new) is));
    }

-- ---- the newest line

pub place_of_newest : (files : Files) (log : SyncLog) (line : Option Line) → IsLineOfLog files log line
    → IsPlaceOfNewest files log (option_map (λ (l : Line). l.place) line)
place_of_newest files log None is = is
place_of_newest files log (Some line) is = (is.0, (line, is.1, refl))

-- the follower of the newest line is at its place
pub at_newest : (history : History) (log : SyncLog) (settled : List Event) (line : Option Line) (place : Option Place)
    → IsSettled settled history log → IsNewestLine (files_after settled) line
    → place ≡ option_map (λ (l : Line). l.place) line → IsAt place log settled
at_newest history log settled line place is newest at =
    subst (λ (p : Option Place). IsAt p log settled) (sym at)
    (place_of_newest (files_after settled) log line
    (newest_is_recorded (files_after settled) history log line is.faithful.files newest))

-- what explains that the newest line wasn't read
pub explains_newest : (seen : Seen) (fault : StoreError) → ExplainsNewest seen.store fault
    → seen.store_after ≡ seen.store
    → StoreHasCause {T = Option Line} seen.store_faults seen.store_faults_after (Err fault)
    → Explains seen (why_of_stop (stop_of_store fault))
explains_newest seen (error.Store fault) explains same cause = cause.rose fault refl
explains_newest seen (error.Damaged name damage) explains same cause = λ before now is_before is_now.
    inl (inl (explains now (sym same ∙ is_now)))
explains_newest seen error.Memory explains same cause = tt

pub refusal_of_store : (fault : StoreError) → ending_of (why_of_stop (stop_of_store fault)) ≡ Refused
refusal_of_store (error.Store fault) = refl
refusal_of_store (error.Damaged name damage) = refl
refusal_of_store error.Memory = refl

-- of files that tell the truth the newest one isn't blamed
pub newest_unblamed : (fault : StoreError) (store : Told) → ExplainsNewest store fault → (history : History)
    (log : SyncLog) (settled : List Event) → IsSettled settled history log → store ≡ Some settled
    → BlamesNoFile (why_of_stop (stop_of_store fault))
newest_unblamed (error.Store fault) store explains history log settled is told =
    record { damaged = λ n d e. cc; lacking = λ n p e. cc }
newest_unblamed error.Memory store explains history log settled is told =
    record { damaged = λ n d e. cc; lacking = λ n p e. cc }
newest_unblamed (error.Damaged name damage) store explains history log settled is told =
    let bad = explains settled told in
    absurd (newest_good (files_after settled) history log is.faithful.files name damage bad.0 bad.1)
