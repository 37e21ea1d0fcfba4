use Rattle.std.proofs.Common.{Result, Ok, Err, refl, sym, subst, arith}
use Rattle.wal_follow.specs.declared.following.Following.{Following}
use Rattle.replica_round.proofs.ResultLemmas.{err_of}
use Rattle.replicate_command.specs.Stage.{RunsOn, Anything, IsAtResult, silent_stage_of}
use Rattle.replicate_command.specs.Stop.{stop_of_store, why_of}
use Rattle.replicate_command.specs.declared.stop.ReplicateStop.{ReplicateStop}
use Rattle.replicate_command.specs.declared.stop.ReplicateStop.TheVariants.{Live}
use Rattle.replicate_command.proofs.BeginLemmas.{not_yet, refused_yet, at_newest, explains_newest, newest_unblamed}
use Rattle.replicate_command.proofs.BeginLemmas.{refusal_of_store}
use Rattle.replicate_command.proofs.LaterLemmas.{later_hold, live_weaker, told_before}
use Rattle.replicate_command.proofs.rounds.begin.Goals as goal

pub returns-in_err-enter-clause-runs : goal.returns-in_err-enter-clause-runs
returns-in_err-enter-clause-runs g c = λ asked text sink_faults.
    let seen = silent_stage_of g.L.Live g.S.Disk asked c.args.live.now c.enter.new.self c.args.store.now
    c.args.store.now text sink_faults in
    subst (λ (result : Result Following ReplicateStop). RunsOn 1 0 Anything (IsAtResult result) seen (why_of result))
    (sym (err_of _ _ c.from_residual.ensures.1))
    (refused_yet 1 Anything (IsAtResult (Err Live)) seen Live refl
    (record {
      live = live_weaker _ _ _ _ c.in_err-enter.ensures.told
          (λ x y enters. (later_hold x.database y.database enters.step, enters.asked));
      store = refl;
      text = refl;
      faults = record { live = c.in_err-enter.ensures.cause.later; store = omega arith; sink = omega arith };
    })
    (c.in_err-enter.ensures.cause.rose refl) (λ history log settled is told. record {
      damaged = λ n d e. cc;
      lacking = λ n p e. cc;
    }))

pub returns-in_err-line-clause-runs : goal.returns-in_err-line-clause-runs
returns-in_err-line-clause-runs g c = λ asked text sink_faults.
    let seen = silent_stage_of g.L.Live g.S.Disk asked c.args.live.now c.enter.new.self c.args.store.now
    c.newest_line.new.store text sink_faults in
    let fault = c.in_err-line.field-0.0 in
    let stop = stop_of_store fault in
    subst (λ (result : Result Following ReplicateStop). RunsOn 1 0 Anything (IsAtResult result) seen (why_of result))
    (sym (err_of _ _ c.from_residual-in_err-line.ensures.1))
    (refused_yet 1 Anything (IsAtResult (Err stop)) seen stop (refusal_of_store fault)
    (record {
      live = live_weaker _ _ _ _ c.in_ok-enter.ensures.told
          (λ x y enters. (later_hold x.database y.database enters.step, enters.asked));
      store = c.in_err-line.ensures.unchanged;
      text = refl;
      faults = record {
        live = c.in_ok-enter.ensures.cause.later;
        store = c.in_err-line.ensures.cause.later;
        sink = omega arith;
      };
    })
    (explains_newest seen fault c.in_err-line.ensures.explained c.in_err-line.ensures.unchanged
    c.in_err-line.ensures.cause)
    (λ history log settled is told. newest_unblamed fault (g.S.Disk.told c.args.store.now)
    c.in_err-line.ensures.explained history log settled is told))

pub returns-clause-runs : goal.returns-clause-runs
returns-clause-runs g c = λ asked text sink_faults.
    let seen = silent_stage_of g.L.Live g.S.Disk asked c.args.live.now c.enter.new.self c.args.store.now
    c.newest_line.new.store text sink_faults in
    not_yet 1 Anything (IsAtResult (Ok c.start.result)) seen
    (record {
      live = live_weaker _ _ _ _ c.in_ok-enter.ensures.told
          (λ x y enters. (later_hold x.database y.database enters.step, enters.asked));
      store = c.in_ok-line.ensures.unchanged;
      text = refl;
      faults = record {
        live = c.in_ok-enter.ensures.cause.later;
        store = c.in_ok-line.ensures.cause.later;
        sink = omega arith;
      };
    })
    (λ history log settled is told any.
    at_newest history log settled c.in_ok-line.line c.start.result.place is (c.in_ok-line.ensures.value settled told)
    c.start.ensures.place)

pub returns-clause-fits : goal.returns-clause-fits
returns-clause-fits g c = λ r told.
    let was = told_before _ _ _ c.in_ok-enter.ensures.told r told in
    c.start.ensures.fits r.database (r.database.copied, was.2.ok)
