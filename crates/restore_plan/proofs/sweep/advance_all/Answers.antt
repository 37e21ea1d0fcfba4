use Rattle.std.proofs.Common.{arith}
use Rattle.restore_plan.proofs.RunLemmas.{more_taken_in, all_matched}
use Rattle.restore_plan.proofs.sweep.advance_all.Goals as goal

pub loop-run-preserved : goal.loop-run-preserved
loop-run-preserved c =
    let kept = c.loop-run.invariant in
    more_taken_in c.args.names.now c.args.t c.args.after c.loop-run.runs c.loop-run.run-index c.run-item.result
    c.advance.new.self c.loop-run.best c.better-best.result kept.0 kept.1 kept.2
    (omega (arith, kept.0.count, c.loop-run-test.true)) c.advance.ensures.level c.advance.ensures.run
    c.advance.ensures.taken_in c.better-best.ensures.one c.better-best.ensures.first c.better-best.ensures.second

pub returns-clause-best : goal.returns-clause-best
returns-clause-best c =
    let kept = c.loop-run.invariant in
    all_matched c.args.names.now c.args.t c.args.after c.loop-run.runs c.loop-run.best kept.0
    (λ k d low. kept.1 k d (omega (arith, low, kept.0.count, c.loop-run-test.false)))
