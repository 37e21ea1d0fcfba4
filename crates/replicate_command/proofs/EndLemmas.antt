-- How a replication ends.
use Rattle.std.proofs.Common.{◌≡◌, ◌≢◌, ℕ, List, [], length, false, Option, Some, refl, sym, ap, subst, ◌∙◌, arith}
use Rattle.crash_disk.specs.declared.event.Event.{Event}
use Rattle.crash_disk.specs.Files.{files_after}
use Rattle.crash_disk.specs.GoesOn as disk
use Rattle.crash_disk.specs.GoesOn.{IsGrown}
use Rattle.crash_disk.proofs.GoesOnLemmas.{goes_on-same, goes_on-weaker}
use Rattle.ls_base.specs.History.{History}
use Rattle.ls_base.specs.SyncLog.{SyncLog}
use Rattle.live_gate.specs.LiveRecord.{Asked as Asks, Attachment, Database, LiveRecord, GoesOn, IfTold, IsPrefix}
use Rattle.live_gate.proofs.StepLemmas.{prefix_join}
use Rattle.replica_store.specs.CarriesOn.{CarriesOn}
use Rattle.replica_store.specs.CrashFaithful.{IsCrashFaithful, IsSettled}
use Rattle.replica_store.specs.declared.dated_names.Dated.{Dated}
use Rattle.replica_store.specs.Putting.{HasSyncedNames}
use Rattle.replica_upkeep.specs.Kept.{AreFiles}
use Rattle.replica_store.proofs.CarryLemmas.{carries_on_then}
use Rattle.replica_store.proofs.GrowthLemmas.{longer_history_keeps}
use Rattle.round_line.specs.declared.round.Round.{Round}
use Rattle.replica_runs.specs.Keeping.{KeepsReplica}
use Rattle.replica_runs.specs.Rounds.{HasRun, HasReplicated, WasRefused}
use Rattle.replica_runs.proofs.RoundLemmas.{runs_are_refused_at_once}
use Rattle.replica_runs.proofs.RunLemmas.{carried_on_extends, carried_on_keeps, new_ones_stay, synced_names_begin}
use Rattle.replica_sync.specs.Faith.{EndsSince}
use Rattle.ls_answers.specs.declared.outcome.Why.{Why}
use Rattle.ls_answers.specs.declared.outcome.Why.TheVariants.{Done, NoDatabase}
use Rattle.replicate_command.specs.Answers.{Explains, IfStoreTells}
use Rattle.replicate_command.specs.Asked.{Asked, cut_of}
use Rattle.replicate_command.specs.Ends.{ReplicateEnds}
use Rattle.replicate_command.specs.Names.{MaintainedRounds, CountsPasses, count_behind}
use Rattle.replicate_command.specs.Exact.{IsCalm, Answers, BlamesNoFile}
use Rattle.replica_round.specs.Later.{IsLater}
use Rattle.replicate_command.specs.Later.{ObjectsGoOn}
use Rattle.replicate_command.specs.Promise.{Ending, Prints, AreEnough, EndsSo, KeepsFaith, LetsGo, Whole, TellsRounds}
use Rattle.replicate_command.specs.Promise.{ending_of}
use Rattle.replicate_command.specs.Promise.Ending.{Finished, Unprinted, Spent, Refused}
use Rattle.replicate_command.specs.Seen.{Seen, FaultsStay, AreAttached}
use Rattle.replicate_command.specs.Standing.{KeepsStanding}
use Rattle.replicate_command.specs.Stage.{Anything, RunsOn, GoesSo, HasStopped}
use Rattle.replicate_command.proofs.ExplainLemmas.{joined, Meets, Closes, faults_then, objects_then, explains_since}
use Rattle.replicate_command.proofs.ExplainLemmas.{explains_until, closes_on}
use Rattle.replicate_command.proofs.LaterLemmas.{live_weaker, same_told}
use Rattle.replicate_command.proofs.RunLemmas.{gains_none, run_outlasts, ends_longer, ends_earlier}
use Rattle.replicate_command.proofs.ExactLemmas.{done_then}
use Rattle.replicate_command.proofs.NamesLemmas.{files_kept}
use Rattle.replicate_command.proofs.StandingLemmas.{stands_same, stands_then, unchanged_stands}

-- ---- what becomes of the replica

module _ (cut : ℕ) (rounds : List Round) (log : SyncLog) (old first second new : Database)
    (before settled now : List Event) (one : IsLater old first) (two : IsLater first second)
    (three : IsLater second new)
    (up : IsGrown before settled) (on : IsGrown settled now) (synced : HasSyncedNames before settled) where
  abbrev whole : IsPrefix old.history new.history
  whole = prefix_join old.history first.history new.history one.history
      (prefix_join first.history second.history new.history two.history three.history)

  still_carries : (mid end : List Event) (ended later : SyncLog) → CarriesOn second.history cut mid end ended later
      → CarriesOn new.history cut mid end ended later
  still_carries mid end ended later is =
      subst (λ (h : History). CarriesOn h cut mid end ended later) (sym three.history.is)
      ((longer_history_keeps second.history three.history.rest cut mid end ended later).2 is)

  still_faithful : (later : SyncLog) → IsCrashFaithful now second.history later → IsCrashFaithful now new.history later
  still_faithful later is =
      subst (λ (h : History). IsCrashFaithful now h later) (sym three.history.is)
      ((longer_history_keeps second.history three.history.rest cut now now later later).0 is)

  keeps_all : (later : SyncLog) → CarriesOn new.history cut settled now log later
      → KeepsReplica old.history new.history cut before now log later
  keeps_all later is =
      subst (λ (h : History). KeepsReplica old.history h cut before now log later) (sym whole.is)
      (carried_on_keeps old.history whole.rest cut before settled now log later up on synced
      (subst (λ (h : History). CarriesOn h cut settled now log later) whole.is is))

  replicated : (ended : SyncLog) → HasRun second.history cut settled now rounds log ended
      → (is : HasReplicated old.history new.history cut before now rounds log) × (is.later ≡ ended)
  replicated ended goes =
      let run = run_outlasts second.history new.history cut settled now rounds log ended three.history goes in (
        record {
          later = ended;
          records = run.records;
          keeps = keeps_all ended run.carries;
          settles = run.settles;
          extends = carried_on_extends new.history cut settled now log ended run.carries run.settles.faithful.files;
          retains = run.retains;
        },
        refl,
      )

  refused : (stop : HasStopped second.history cut settled now rounds log)
      → (is : WasRefused old.history new.history cut before now rounds log) × (is.later ≡ stop.later)
      × (is.ended ≡ stop.ended)
  refused stop =
      let run = run_outlasts second.history new.history cut settled stop.mid rounds log stop.ended
      three.history stop.run in
      let carries = still_carries stop.mid now stop.ended stop.later stop.carries in
      let all = carries_on_then new.history cut settled stop.mid now log stop.ended stop.later stop.up stop.on
      run.carries carries in
      let faithful = still_faithful stop.later stop.faithful in (
        record {
          ended = stop.ended;
          records = run.records;
          later = stop.later;
          more = carries.lines;
          one = stop.one;
          keeps = keeps_all stop.later all;
          faithful = faithful;
          extends = carried_on_extends new.history cut settled now log stop.later all faithful.files;
          retains = new_ones_stay new.history cut settled stop.mid now log stop.ended stop.later stop.on run.carries
              run.retains carries;
        },
        refl,
        refl,
      )

  newest_all : (ended : SyncLog) → EndsSince first.history second.history ended
      → EndsSince old.history new.history ended
  newest_all ended is =
      ends_earlier old.history first.history new.history ended one.history
      (ends_longer first.history second.history new.history ended three.history is)

  ends_so : (ending : Ending) → GoesSo ending Anything first.history second.history cut settled now rounds log
      → EndsSo ending cut rounds log old new before now
  ends_so Finished goes =
      let is = replicated goes.ended goes.run in
      record {
        ends = is.0;
        newest = λ some. subst (λ (l : SyncLog). EndsSince old.history new.history l) (sym is.1)
            (newest_all goes.ended (goes.newest some));
      }
  ends_so Unprinted goes =
      let is = refused goes.stopped in record { refused = is.0; same = is.1 ∙ goes.same ∙ sym is.2 }
  ends_so Spent goes =
      let is = refused goes.stopped in
      record { refused = is.0; last = ap (λ (l : SyncLog). length l) is.2 ∙ goes.last }
  ends_so Refused goes = (refused goes).0

-- ---- the whole

module _ (opening stage closing : Seen) (why : Why) (begins : Meets opening stage)
    (ends : Meets (joined opening stage) closing)
    (live : GoesOn opening.live opening.live_after
    (λ old new. IsLater old.database new.database × (new.asked ≡ old.asked)))
    (store : disk.GoesOn opening.store opening.store_after HasSyncedNames)
    (text : opening.text_after ≡ opening.text) (faults : FaultsStay opening)
    (there : IfTold opening.live (λ r. opening.is_there ≢ false))
    (runs : RunsOn 1 opening.asked.rounds Anything Anything stage why) (closes : Closes closing) where
  abbrev all : Seen
  all = joined (joined opening stage) closing

  opens : ObjectsGoOn opening
  opens = record {
    live = live_weaker _ _ _ _ live (λ x y both. both.0);
    store = goes_on-weaker _ _ _ _ store (λ x y is. tt);
  }

  all_explained : Explains all why
  all_explained =
      explains_until (joined opening stage) closing ends closes why
      (explains_since opening stage begins opens faults why runs.explained)

  all_prints : Prints (ending_of why) 1 all.text all.text_after runs.rounds
  all_prints =
      subst (λ (t : Option (List ℕ)). Prints (ending_of why) 1 t all.text_after runs.rounds) (begins.text ∙ text)
      (subst (λ (t : Option (List ℕ)). Prints (ending_of why) 1 stage.text t runs.rounds)
      (sym (closes.text ∙ ends.text)) runs.prints)

  -- what the rounds tell of the names and of the passes
  all_tells : (ending : Ending) → Whole ending (TellsRounds stage runs.rounds)
      → Whole ending (TellsRounds all runs.rounds)
  all_tells Unprinted told = tt
  all_tells Spent told = tt
  all_tells Refused told = tt
  all_tells Finished told = record {
    names = λ before now is_before is_now.
        let settled = store.told before is_before in
        let of_stage = told.names settled.0 now (begins.store ∙ settled.1) (sym (closes.store ∙ ends.store) ∙ is_now)
        in
        λ dated are.
        subst (λ (a : Asked). (later : List Dated) × MaintainedRounds a.keep a.now dated runs.rounds later
        × AreFiles (files_after now) later) begins.asked
        (of_stage dated (files_kept (files_after before) (files_after settled.0) dated settled.2.files are));
    passes = λ old new is_old is_new.
        let one = live.told old is_old in
        let two = runs.goes_on.live.told one.0 (begins.live ∙ one.1) in
        let three = closes.live.told two.0 (ends.live ∙ two.1) in
        let at_new : three.0 ≡ new = same_told three.0 new (sym three.1 ∙ is_new) in
        let last : new.asked ≡ two.0.asked = subst (λ (r : LiveRecord). r.asked ≡ two.0.asked) at_new three.2.1 in
        let of_stage = told.passes one.0 two.0 (begins.live ∙ one.1) two.1 in
        subst (λ (at : Option Attachment). CountsPasses at runs.rounds old new) (sym ends.attached)
        (record {
          count = ap (λ (a : Asks). a.passes_done) last ∙ of_stage.count
              ∙ ap (λ (a : Asks). count_behind runs.rounds a.passes_done) one.2.1;
          alone = of_stage.alone;
        });
  }

  all_keeps : IfStoreTells all (KeepsStanding (cut_of all.asked))
  all_keeps before now is_before is_now =
      let cut = cut_of opening.asked in
      let settled = store.told before is_before in
      let of_stage = runs.keeps settled.0 now (begins.store ∙ settled.1) (sym (closes.store ∙ ends.store) ∙ is_now) in
      stands_then cut settled.0 now
      (subst (λ (a : Asked). KeepsStanding (cut_of a) settled.0 now) begins.asked of_stage) before
      (stands_same cut before settled.0 settled.2.files)

  in_rounds : (old new : LiveRecord) (before now : List Event) → all.live ≡ Some old → all.live_after ≡ Some new
      → all.store ≡ Some before → all.store_after ≡ Some now → (log : SyncLog) → new.database.chances ≡ 0
      → IsCrashFaithful before old.database.history log
      → EndsSo (ending_of why) (cut_of all.asked) runs.rounds log old.database new.database before now
      × BlamesNoFile why
  in_rounds old new before now is_old is_new is_before is_now log calm faithful =
      let cut = cut_of opening.asked in
      let one = live.told old is_old in
      let settled = store.told before is_before in
      let two = runs.goes_on.live.told one.0 (begins.live ∙ one.1) in
      let end = runs.goes_on.store.told settled.0 (begins.store ∙ settled.1) in
      let three = closes.live.told two.0 (ends.live ∙ two.1) in
      let at_new : three.0 ≡ new = same_told three.0 new (sym three.1 ∙ is_new) in
      let at_now : end.0 ≡ now = same_told end.0 now (sym (closes.store ∙ ends.store ∙ end.1) ∙ is_now) in
      let last = subst (λ (r : LiveRecord). IsLater two.0.database r.database) at_new three.2.0 in
      let zero : two.0.database.chances ≡ 0 = omega (arith, calm, last.chances) in
      let begun = (synced_names_begin old.database.history cut before settled.0 log faithful settled.3 settled.2).0 in
      let is_settled : IsSettled settled.0 one.0.database.history log =
      subst (λ (h : History). IsSettled settled.0 h log) (sym one.2.0.history.is)
      ((longer_history_keeps old.database.history one.2.0.history.rest cut settled.0 settled.0 log log).1 begun) in
      let goes = subst (λ (a : Asked). GoesSo (ending_of why) Anything one.0.database.history two.0.database.history
      (cut_of a) settled.0 end.0 runs.rounds log) begins.asked
      (runs.faith one.0 two.0 settled.0 end.0 (begins.live ∙ one.1) two.1 (begins.store ∙ settled.1) end.1 log zero
      is_settled tt) in (
        subst (λ (es : List Event). EndsSo (ending_of why) cut runs.rounds log old.database new.database before es)
            at_now
            (ends_so cut runs.rounds log old.database one.0.database two.0.database new.database before settled.0 end.0
            one.2.0 two.2 last settled.3 end.3 settled.2 (ending_of why) goes),
        runs.sound one.0 two.0 settled.0 end.0 (begins.live ∙ one.1) two.1 (begins.store ∙ settled.1) end.1 log zero
            is_settled tt,
      )

  all_faith : KeepsFaith all (ending_of why) runs.rounds
  all_faith old new before now is_old is_new is_before is_now log calm faithful =
      (in_rounds old new before now is_old is_new is_before is_now log calm faithful).0

  -- A replication that went to its rounds ends as it is to end.
  pub whole_ends : LetsGo all why → (why ≡ Done → AreAttached all) → ReplicateEnds all why
  whole_ends lets_go attached = record {
    explained = all_explained;
    exact = record {
      no_database = λ r told none calm. absurd (there r told none);
      truthful = λ old new before now is_old is_new is_before is_now log calm faithful.
          (in_rounds old new before now is_old is_new is_before is_now log calm faithful).1;
      done = λ old new before now is_old is_new is_before is_now log calm faithful there quiet may.
          done_then all runs.rounds old new before now is_old is_new is_before is_now log calm faithful there quiet
          may why all_explained runs.enough all_faith
          (in_rounds old new before now is_old is_new is_before is_now log calm faithful).1;
    };
    promise = record {
      ended = runs.rounds;
      enough = runs.enough;
      prints = all_prints;
      tells = all_tells (ending_of why) runs.tells;
      faith = all_faith;
      lets_go = lets_go;
    };
    keeps = all_keeps;
    attached = attached;
    goes_on = objects_then (joined opening stage) closing ends (objects_then opening stage begins opens runs.goes_on)
        (closes_on closing closes);
    faults = faults_then (joined opening stage) closing ends (faults_then opening stage begins faults runs.faults)
        closes.faults;
  }

-- ---- a refusal before the names were synced

none_asked : (ending : Ending) (asked : ℕ) → ending ≡ Refused → AreEnough ending asked []
none_asked Finished asked is = absurd cc
none_asked Unprinted asked is = omega arith
none_asked Spent asked is = absurd cc
none_asked Refused asked is = omega arith

pub refused_first : (seen : Seen) (why : Why) → ending_of why ≡ Refused → Explains seen why
    → GoesOn seen.live seen.live_after (λ old new. IsLater old.database new.database)
    → seen.store_after ≡ seen.store → seen.text_after ≡ seen.text → FaultsStay seen
    → ((r : LiveRecord) → seen.live ≡ Some r → seen.is_there ≡ false
    → IsCalm seen.live_faults seen.live_faults_after → Answers why NoDatabase)
    → LetsGo seen why → (why ≡ Done → ⊥) → BlamesNoFile why → ReplicateEnds seen why
refused_first seen why is_refused explained live store text faults exact lets_go never unblamed =
    let faith : KeepsFaith seen (ending_of why) [] = λ old new before now is_old is_new is_before
    is_now log calm faithful.
    let next = live.told old is_old in
    let later = subst (λ (r : LiveRecord). IsLater old.database r.database)
    (same_told next.0 new (sym next.1 ∙ is_new)) next.2 in
    let same : now ≡ before = same_told now before (sym is_now ∙ store ∙ is_before) in
    subst (λ (e : Ending). EndsSo e (cut_of seen.asked) [] log old.database new.database before now) (sym is_refused)
    (subst (λ (es : List Event). WasRefused old.database.history new.database.history (cut_of seen.asked) before es []
    log) (sym same)
    (subst (λ (h : History). WasRefused old.database.history h (cut_of seen.asked) before before [] log)
    (sym later.history.is)
    (runs_are_refused_at_once old.database.history later.history.rest (cut_of seen.asked) before log faithful))) in
    record {
      explained = explained;
      exact = record {
        no_database = exact;
        truthful = λ old new before now is_old is_new is_before is_now log calm faithful. unblamed;
        done = λ old new before now is_old is_new is_before is_now log calm faithful there quiet may.
            done_then seen [] old new before now is_old is_new is_before is_now log calm faithful there quiet may why
            explained (none_asked (ending_of why) seen.asked.rounds is_refused) faith unblamed;
      };
      promise = record {
        ended = [];
        enough = none_asked (ending_of why) seen.asked.rounds is_refused;
        prints = subst (λ (e : Ending). Prints e 1 seen.text seen.text_after []) (sym is_refused)
            (text ∙ gains_none seen.text);
        tells = subst (λ (e : Ending). Whole e (TellsRounds seen [])) (sym is_refused) tt;
        faith = faith;
        lets_go = lets_go;
      };
      keeps = λ before now is_before is_now. unchanged_stands (cut_of seen.asked) before now
          (same_told now before (sym is_now ∙ store ∙ is_before));
      attached = λ done. absurd (never done);
      goes_on = record {
        live = live;
        store = goes_on-same seen.store seen.store_after (λ old new. Unit {0}) store (λ events. tt);
      };
      faults = faults;
    }
