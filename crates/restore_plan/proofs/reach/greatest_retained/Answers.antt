use Rattle.std.proofs.Common.{◌+◌, sym, subst}
use Rattle.restore_plan.specs.Retained.{IsGreatestRetainedBelow}
use Rattle.restore_plan.proofs.ChainLemmas.{go_on, come_to_end}
use Rattle.restore_plan.proofs.reach.greatest_retained.Goals as goal

pub loop-preserved : goal.loop-preserved
loop-preserved c = (go_on c.args.names.now c.args.t c.loop.sweep c.step.new.self c.in-Some.field-0 c.loop.invariant
    c.in-Some.ensures.best c.in-Some.ensures.goes_on).0

pub returns : goal.returns
returns c =
    subst (λ n. IsGreatestRetainedBelow c.args.names.now (c.args.t + 1) n) (sym c.after.ensures)
    (come_to_end c.args.names.now c.args.t c.loop.sweep c.step.new.self c.step.result c.loop.invariant
    c.step.ensures.end c.step.ensures.goes_on c.in_default.not-Some).1
