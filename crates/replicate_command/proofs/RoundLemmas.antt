-- A round and its line are a part of a replication.
use Rattle.std.proofs.Common.{◌≡◌, ℕ, ◌+◌, List, [], ◌∷◌, Option, Some, Result, Ok, refl, sym}
use Rattle.std.proofs.Common.{ap, subst, ◌∙◌, append-nil, Bool, arith}
use Rattle.crash_disk.specs.declared.event.Event.{Event}
use Rattle.crash_disk.specs.GoesOn as disk
use Rattle.crash_disk.specs.GoesOn.{IsGrown}
use Rattle.crash_disk.specs.Output.{gains_text, GainsFront}
use Rattle.crash_disk.proofs.GoesOnLemmas.{grown_same, goes_on-weaker}
use Rattle.ls_base.specs.Fault.{Rose}
use Rattle.ls_base.specs.SyncLog.{SyncLog}
use Rattle.live_gate.specs.LiveRecord.{Database, LiveRecord, GoesOn, IfTold, is_at_rest}
use Rattle.live_gate.specs.Legal.{IsLegal}
use Rattle.replica_store.specs.CrashFaithful.{IsSettled}
use Rattle.replica_store.proofs.CarryLemmas.{carries_on_itself}
use Rattle.round_line.specs.declared.round.Round.{Round}
use Rattle.round_line.specs.declared.round.Synced.{Synced}
use Rattle.round_line.specs.declared.round.Synced.TheVariants as synced
use Rattle.round_line.specs.RoundText.{round_text, name_in}
use Rattle.wal_follow.specs.declared.following.Following.{Following}
use Rattle.replica_runs.specs.Rounds.{AddsLineOf}
use Rattle.replica_runs.proofs.RoundLemmas.{one_more_round}
use Rattle.replica_sync.specs.Faith.{IfBothTell, AddsLines}
use Rattle.replica_sync.specs.Newest.{moment_behind}
use Rattle.replica_round.specs.declared.stop.RoundStop.{RoundStop}
use Rattle.replica_round.specs.Faith.{RoundKeepsFaith}
use Rattle.replica_round.specs.LiveSide.{Rounds}
use Rattle.replica_round.specs.StoreSide.{StoresRound}
use Rattle.ls_answers.specs.declared.outcome.Why.TheVariants.{Done, SinkFault}
use Rattle.replicate_command.specs.Answers.{IfCalm}
use Rattle.replicate_command.specs.Asked.{cut_of}
use Rattle.replicate_command.specs.Later.{ObjectsGoOn}
use Rattle.replicate_command.specs.Seen.{Seen, FaultsStay}
use Rattle.replicate_command.specs.Stage.{Premise, IsAt, RunsOn, HasGoneOn}
use Rattle.replicate_command.proofs.LaterLemmas.{later_itself, live_weaker, same_told}
use Rattle.replicate_command.proofs.NamesLemmas.{names_of_round, passes_of_round}
use Rattle.replicate_command.proofs.RunLemmas.{gains_none, run_begins, run_outlasts}
use Rattle.replicate_command.proofs.StandingLemmas.{round_stands}

-- the words of the line that a sync adds
adds_line : (moment : ℕ) (sync : Synced) (log later : SyncLog) → AddsLines moment sync log later
    → AddsLineOf (name_in sync) log later
adds_line moment synced.Same log later is = is
adds_line moment (synced.Piece name) log later is = (is.line, is.is, is.last)
adds_line moment (synced.Whole name) log later is = (is.line, is.is, is.last)

-- ---- the objects

module _ (seen : Seen) (at_rest : Bool) (f after : Following) (result : Result Round RoundStop)
    (legal : IfTold seen.live (λ r. IsLegal r.database))
    (live : GoesOn seen.live seen.live_after (Rounds at_rest f after result))
    (store : disk.GoesOn seen.store seen.store_after (StoresRound seen.asked.keep seen.asked.now result))
    (faith : IfBothTell seen.live seen.live_after seen.store seen.store_after
    (RoundKeepsFaith f after seen.asked.keep seen.asked.now result)) where
  pub round_goes_on : ObjectsGoOn seen
  round_goes_on = record {
    live = live_weaker _ _ _ _ live (λ x y rounds. rounds.later);
    store = goes_on-weaker _ _ _ _ store (λ x y stores. tt);
  }

  -- both tell at the end of the round
  abbrev pub grown_to : (before now : List Event) → seen.store ≡ Some before → seen.store_after ≡ Some now
      → IsGrown before now
  grown_to before now is_before is_now =
      let next = store.told before is_before in
      subst (λ (es : List Event). IsGrown before es) (same_told next.0 now (sym next.1 ∙ is_now)) next.3

  abbrev pub stored_to : (before now : List Event) → seen.store ≡ Some before → seen.store_after ≡ Some now
      → StoresRound seen.asked.keep seen.asked.now result before now
  stored_to before now is_before is_now =
      let next = store.told before is_before in
      subst (λ (es : List Event). StoresRound seen.asked.keep seen.asked.now result before es)
      (same_told next.0 now (sym next.1 ∙ is_now)) next.2

  abbrev pub shown_to : (old new : LiveRecord) → seen.live ≡ Some old → seen.live_after ≡ Some new
      → Rounds at_rest f after result old new
  shown_to old new is_old is_new =
      let next = live.told old is_old in
      subst (λ (r : LiveRecord). Rounds at_rest f after result old r) (same_told next.0 new (sym next.1 ∙ is_new))
      next.2

  pub found_in_round : (found : Database → Database → Type 0)
      → ((old new : LiveRecord) → IsLegal old.database → new.database.chances ≡ 0
      → Rounds at_rest f after result old new → found old.database new.database) → IfCalm seen found
  found_in_round found finds old new is_old is_new calm =
      let rounds = shown_to old new is_old is_new in
      record {
        first = old.database;
        second = new.database;
        before = later_itself old.database;
        between = rounds.later;
        after = later_itself new.database;
        is = finds old new (legal old is_old) calm rounds;
      }

-- ---- a round that ended

module _ (seen : Seen) (at_rest : Bool) (f after : Following) (round : Round)
    (legal : IfTold seen.live (λ r. IsLegal r.database))
    (live : GoesOn seen.live seen.live_after (Rounds at_rest f after (Ok round)))
    (store : disk.GoesOn seen.store seen.store_after (StoresRound seen.asked.keep seen.asked.now (Ok round)))
    (faith : IfBothTell seen.live seen.live_after seen.store seen.store_after
    (RoundKeepsFaith f after seen.asked.keep seen.asked.now (Ok round))) where
  ended_there : (old new : LiveRecord) (settled now : List Event) → seen.live ≡ Some old
      → seen.live_after ≡ Some new → seen.store ≡ Some settled → seen.store_after ≡ Some now → (log : SyncLog)
      → new.database.chances ≡ 0 → IsSettled settled old.database.history log
      → IsAt f.place log settled
      → HasGoneOn (IsAt after.place) old.database.history new.database.history (cut_of seen.asked) settled now
      (round ∷ []) log
  ended_there old new settled now is_old is_new is_settled is_now log calm is fits =
      let rounds = shown_to seen at_rest f after (Ok round) legal live store faith old new is_old is_new in
      let later = rounds.later in
      let kept = faith old new settled now is_old is_new is_settled is_now log calm
      (record { faithful = is.faithful.files; newest = fits }) in
      let adds = adds_line (moment_behind log seen.asked.now) round.sync log kept.later kept.lines in
      record {
        ended = kept.later;
        run = one_more_round new.database.history (cut_of seen.asked) settled settled now [] round log log kept.later
            (grown_same settled)
            (grown_to seen at_rest f after (Ok round) legal live store faith settled now is_settled is_now)
            (run_outlasts old.database.history new.database.history (cut_of seen.asked) settled settled [] log log
            later.history (run_begins old.database.history (cut_of seen.asked) settled log is))
            adds (kept.carries is) (kept.settled is) (kept.retains is);
        fits = kept.follows;
        newest = λ some. kept.ends;
      }

-- ---- and its line

-- the line was printed
pub round_done : (seen : Seen) (at_rest : Bool) (f after : Following) (round : Round) (number : ℕ)
    → IfTold seen.live (λ r. IsLegal r.database)
    → GoesOn seen.live seen.live_after (Rounds at_rest f after (Ok round))
    → disk.GoesOn seen.store seen.store_after (StoresRound seen.asked.keep seen.asked.now (Ok round))
    → IfBothTell seen.live seen.live_after seen.store seen.store_after
    (RoundKeepsFaith f after seen.asked.keep seen.asked.now (Ok round))
    → FaultsStay seen → seen.text_after ≡ gains_text seen.text (round_text number round)
    → at_rest ≡ is_at_rest seen.attached_after → RunsOn number 1 (IsAt f.place) (IsAt after.place) seen Done
round_done seen at_rest f after round number legal live store faith faults printed alike = record {
  explained = tt;
  goes_on = round_goes_on seen at_rest f after (Ok round) legal live store faith;
  faults = faults;
  rounds = round ∷ [];
  enough = refl;
  prints = printed ∙ ap (gains_text seen.text) (sym (append-nil (round_text number round)));
  tells = record {
    names = λ before now is_before is_now. names_of_round seen.asked round before now
        (stored_to seen at_rest f after (Ok round) legal live store faith before now is_before is_now);
    passes = λ old new is_old is_new. passes_of_round f after at_rest seen.attached_after round old new alike
        (shown_to seen at_rest f after (Ok round) legal live store faith old new is_old is_new).shows;
  };
  keeps = λ before now is_before is_now. round_stands seen.asked.keep seen.asked.now before now (Ok round)
      (stored_to seen at_rest f after (Ok round) legal live store faith before now is_before is_now);
  sound = λ old new settled now is_old is_new is_settled is_now log calm is fits. record {
    damaged = λ n d e. cc;
    lacking = λ n p e. cc;
  };
  faith = λ old new settled now is_old is_new is_settled is_now log calm is fits.
      ended_there seen at_rest f after round legal live store faith old new settled now is_old is_new is_settled is_now
      log calm is fits;
}

-- or it wasn't
pub round_unprinted : (seen : Seen) (at_rest : Bool) (f after : Following) (round : Round) (number : ℕ) (to : Premise)
    → IfTold seen.live (λ r. IsLegal r.database)
    → GoesOn seen.live seen.live_after (Rounds at_rest f after (Ok round))
    → disk.GoesOn seen.store seen.store_after (StoresRound seen.asked.keep seen.asked.now (Ok round))
    → IfBothTell seen.live seen.live_after seen.store seen.store_after
    (RoundKeepsFaith f after seen.asked.keep seen.asked.now (Ok round))
    → FaultsStay seen → GainsFront seen.text seen.text_after (round_text number round)
    → Rose seen.sink_faults seen.sink_faults_after → RunsOn number 1 (IsAt f.place) to seen SinkFault
round_unprinted seen at_rest f after round number to legal live store faith faults front rose =
    let first : number ≡ number + 0 = omega arith in
    record {
      explained = rose;
      goes_on = round_goes_on seen at_rest f after (Ok round) legal live store faith;
      faults = faults;
      rounds = round ∷ [];
      enough = omega arith;
      prints = record {
        earlier = [];
        last = round;
        split = refl;
        front = subst (λ (t : Option (List ℕ)). GainsFront t seen.text_after (round_text (number + 0) round))
            (gains_none seen.text)
            (subst (λ (n : ℕ). GainsFront seen.text seen.text_after (round_text n round)) first front);
      };
      tells = tt;
      keeps = λ before now is_before is_now. round_stands seen.asked.keep seen.asked.now before now (Ok round)
          (stored_to seen at_rest f after (Ok round) legal live store faith before now is_before is_now);
      sound = λ old new settled now is_old is_new is_settled is_now log calm is fits. record {
        damaged = λ n d e. cc;
        lacking = λ n p e. cc;
      };
      faith = λ old new settled now is_old is_new is_settled is_now log calm is fits.
          let gone = ended_there seen at_rest f after round legal live store faith old new settled now is_old is_new
          is_settled is_now log calm is fits in
          record {
            stopped = record {
              mid = now;
              up = grown_to seen at_rest f after (Ok round) legal live store faith settled now is_settled is_now;
              on = grown_same now;
              ended = gone.ended;
              run = gone.run;
              later = gone.ended;
              one = omega arith;
              carries = carries_on_itself new.database.history (cut_of seen.asked) now gone.ended gone.run.settles;
              faithful = gone.run.settles.faithful;
            };
            same = refl;
          };
    }
