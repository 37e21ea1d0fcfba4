use Rattle.std.proofs.Common.{◌≡◌, ℕ, ◌+◌, ◌≤◌, List, Bool, Result, refl, sym, ap, subst, ◌∙◌, arith}
use Rattle.replica_round.proofs.ResultLemmas.{err_of}
use Rattle.ls_answers.specs.declared.outcome.Why.TheVariants.{Done}
use Rattle.replicate_command.specs.Asked.{asked_by}
use Rattle.replicate_command.specs.Stage.{RunsOn, stage_of, IsAt}
use Rattle.replicate_command.specs.Stop.{why_of, why_of_stop}
use Rattle.replicate_command.specs.declared.stop.ReplicateStop.{ReplicateStop}
use Rattle.replicate_command.proofs.BeginLemmas.{not_yet}
use Rattle.replicate_command.proofs.ExplainLemmas.{Meets}
use Rattle.replicate_command.proofs.JoinLemmas.{runs_on_then, refused_alike, legal_behind}
use Rattle.replicate_command.proofs.LaterLemmas.{later_itself, live_itself}
use Rattle.replicate_command.proofs.rounds.rounds.Goals as goal

pub loop-before-init : goal.loop-before-init
loop-before-init g c =
    let asked = asked_by c.args.request.now c.args.now in
    let seen = stage_of g.L.Live g.S.Disk g.O.Out asked c.args.live.now c.args.live.now c.args.store.now
    c.args.store.now c.args.out.now c.args.out.now in
    record {
      runs = not_yet 1 (IsAt c.args.follower.now.place) (IsAt c.args.follower.now.place) seen
          (record {
            live = live_itself seen.live _ (λ r. (later_itself r.database, refl));
            store = refl;
            text = refl;
            faults = record { live = omega arith; store = omega arith; sink = omega arith };
          })
          (λ history log settled is told there. there);
      legal = c.requires.legal;
      fits = c.requires.fits;
      keeps = record { attached = refl; there = refl };
      same_folder = refl;
    }

pub loop-before-preserved : goal.loop-before-preserved
loop-before-preserved g c =
    let asked = asked_by c.args.request.now c.args.now in
    let before = c.loop-before.before in
    let here = IsAt c.loop-before.follower.place in
    let there = IsAt c.one_round.new.follower.place in
    let so_far = c.loop-before.invariant in
    let first = stage_of g.L.Live g.S.Disk g.O.Out asked c.args.live.now c.loop-before.live c.args.store.now
    c.loop-before.store c.args.out.now c.loop-before.out in
    let second = stage_of g.L.Live g.S.Disk g.O.Out asked c.loop-before.live c.one_round.new.live c.loop-before.store
    c.one_round.new.store c.loop-before.out c.one_round.new.out in
    let next = c.in_ok-one_round.ensures in
    let number : before + 1 ≡ 1 + before = omega arith in
    let meets : Meets first second = record {
      asked = refl;
      live = refl;
      there = ap (λ (is_there : List ℕ → Bool). is_there asked.db) so_far.keeps.there;
      attached = next.keeps.attached;
      store = refl;
      text = refl;
      live_faults = refl;
      store_faults = refl;
      sink_faults = refl;
    } in
    record {
      runs = runs_on_then 1 before 1 (IsAt c.args.follower.now.place) here there first second Done meets so_far.runs
          (subst (λ (n : ℕ). RunsOn n 1 here there second Done) number next.runs);
      legal = legal_behind (before + 1) 1 here there second Done next.runs so_far.legal;
      fits = next.fits;
      keeps = record {
        attached = next.keeps.attached ∙ so_far.keeps.attached;
        there = next.keeps.there ∙ so_far.keeps.there;
      };
      same_folder = next.same_folder ∙ so_far.same_folder;
    }

pub returns-in_err-one_round-clause-runs : goal.returns-in_err-one_round-clause-runs
returns-in_err-one_round-clause-runs g c =
    let asked = asked_by c.args.request.now c.args.now in
    let before = c.loop-before.before in
    let start = IsAt c.args.follower.now.place in
    let here = IsAt c.loop-before.follower.place in
    let there = IsAt c.one_round.new.follower.place in
    let so_far = c.loop-before.invariant in
    let first = stage_of g.L.Live g.S.Disk g.O.Out asked c.args.live.now c.loop-before.live c.args.store.now
    c.loop-before.store c.args.out.now c.loop-before.out in
    let second = stage_of g.L.Live g.S.Disk g.O.Out asked c.loop-before.live c.one_round.new.live c.loop-before.store
    c.one_round.new.store c.loop-before.out c.one_round.new.out in
    let seen = stage_of g.L.Live g.S.Disk g.O.Out asked c.args.live.now c.one_round.new.live c.args.store.now
    c.one_round.new.store c.args.out.now c.one_round.new.out in
    let stop = c.in_err-one_round.field-0.0 in
    let number : before + 1 ≡ 1 + before = omega arith in
    let below : before + 1 ≤ c.args.request.now.rounds = omega (arith, c.loop-before-test.true) in
    let meets : Meets first second = record {
      asked = refl;
      live = refl;
      there = ap (λ (is_there : List ℕ → Bool). is_there asked.db) so_far.keeps.there;
      attached = c.in_err-one_round.ensures.keeps.attached;
      store = refl;
      text = refl;
      live_faults = refl;
      store_faults = refl;
      sink_faults = refl;
    } in
    subst (λ (result : Result (Unit {0}) ReplicateStop). RunsOn 1 c.args.request.now.rounds start there seen
    (why_of result)) (sym (err_of _ _ c.from_residual.ensures.1))
    (refused_alike 1 (before + 1) c.args.request.now.rounds below start there there seen stop
    (runs_on_then 1 before 1 start here there first second (why_of_stop stop) meets so_far.runs
    (subst (λ (n : ℕ). RunsOn n 1 here there second (why_of_stop stop)) number c.in_err-one_round.ensures.runs)))

pub returns-clause-runs : goal.returns-clause-runs
returns-clause-runs g c =
    let all : c.loop-before.before ≡ c.args.request.now.rounds
    = omega (arith, c.loop-before-test.false, c.loop-before.auto.before-end) in
    subst (λ (n : ℕ). RunsOn 1 n (IsAt c.args.follower.now.place) (IsAt c.loop-before.follower.place)
    (stage_of g.L.Live g.S.Disk g.O.Out (asked_by c.args.request.now c.args.now) c.args.live.now c.loop-before.live
    c.args.store.now c.loop-before.store c.args.out.now c.loop-before.out) Done) all c.loop-before.invariant.runs
