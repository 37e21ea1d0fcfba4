use Rattle.std.proofs.Common.{◌≡◌, ℕ, ◌+◌, ◌≤◌, List, Bool, Result, Err, refl, sym, ap, subst, arith}
use Rattle.replica_round.proofs.ResultLemmas.{err_of}
use Rattle.ls_answers.specs.declared.outcome.Why.TheVariants.{Done}
use Rattle.replicate_command.specs.Asked.{asked_by}
use Rattle.replicate_command.specs.Stage.{RunsOn, stage_of, Anything, IsAt, IsAtResult}
use Rattle.replicate_command.specs.Stop.{why_of}
use Rattle.replicate_command.specs.declared.stop.ReplicateStop.{ReplicateStop}
use Rattle.replicate_command.proofs.ExplainLemmas.{Meets}
use Rattle.replicate_command.proofs.JoinLemmas.{runs_on_then, refused_alike, anywhere_result, legal_behind}
use Rattle.replicate_command.proofs.rounds.under_gate.Goals as goal

pub returns-in_err-follower-clause-runs : goal.returns-in_err-follower-clause-runs
returns-in_err-follower-clause-runs g c =
    let asked = asked_by c.args.request.now c.args.now in
    let seen = stage_of g.L.Live g.S.Disk g.O.Out asked c.args.live.now c.begin.new.live c.args.store.now
    c.begin.new.store c.args.out.now c.args.out.now in
    let stop = c.in_err-follower.field-0.0 in
    let below : 0 ≤ c.args.request.now.rounds = omega arith in
    subst (λ (result : Result (Unit {0}) ReplicateStop). RunsOn 1 c.args.request.now.rounds Anything Anything seen
    (why_of result)) (sym (err_of _ _ c.from_residual.ensures.1))
    (refused_alike 1 0 c.args.request.now.rounds below Anything (IsAtResult (Err stop)) Anything seen stop
    (c.in_err-follower.ensures.runs asked (g.O.Out.text c.args.out.now) (g.O.Out.fault_count c.args.out.now)))

pub rounds-requires-clause-legal : goal.rounds-requires-clause-legal
rounds-requires-clause-legal g c =
    let asked = asked_by c.args.request.now c.args.now in
    let seen = stage_of g.L.Live g.S.Disk g.O.Out asked c.args.live.now c.begin.new.live c.args.store.now
    c.begin.new.store c.args.out.now c.args.out.now in
    legal_behind 1 0 Anything (IsAt c.in_ok-follower.follower.place) seen Done
    (c.in_ok-follower.ensures.runs asked (g.O.Out.text c.args.out.now) (g.O.Out.fault_count c.args.out.now))
    c.requires.legal

pub returns-clause-runs : goal.returns-clause-runs
returns-clause-runs g c =
    let asked = asked_by c.args.request.now c.args.now in
    let first = stage_of g.L.Live g.S.Disk g.O.Out asked c.args.live.now c.begin.new.live c.args.store.now
    c.begin.new.store c.args.out.now c.args.out.now in
    let second = stage_of g.L.Live g.S.Disk g.O.Out asked c.begin.new.live c.rounds.new.live c.begin.new.store
    c.rounds.new.store c.args.out.now c.rounds.new.out in
    let seen = stage_of g.L.Live g.S.Disk g.O.Out asked c.args.live.now c.rounds.new.live c.args.store.now
    c.rounds.new.store c.args.out.now c.rounds.new.out in
    let here = IsAt c.in_ok-follower.follower.place in
    let there = IsAt c.rounds.new.follower.place in
    let meets : Meets first second = record {
      asked = refl;
      live = refl;
      there = ap (λ (is_there : List ℕ → Bool). is_there asked.db) c.in_ok-follower.ensures.keeps.there;
      attached = c.rounds.ensures.keeps.attached;
      store = refl;
      text = refl;
      live_faults = refl;
      store_faults = refl;
      sink_faults = refl;
    } in
    let none : 0 + c.args.request.now.rounds ≡ c.args.request.now.rounds = omega arith in
    anywhere_result 1 c.args.request.now.rounds Anything there seen c.rounds.result
    (subst (λ (n : ℕ). RunsOn 1 n Anything there seen (why_of c.rounds.result)) none
    (runs_on_then 1 0 c.args.request.now.rounds Anything here there first second (why_of c.rounds.result) meets
    (c.in_ok-follower.ensures.runs asked (g.O.Out.text c.args.out.now) (g.O.Out.fault_count c.args.out.now))
    c.rounds.ensures.runs))
