use Rattle.std.proofs.Common.{sym, subst}
use Rattle.std.proofs.lemmas.Result.{IfOk-weaker}
use Rattle.retention.specs.Young.{AreYoung, AreGoals}
use Rattle.retention.specs.Stretch.{AreBetween, AreStretches, AreOrdered}
use Rattle.retention.proofs.BuiltLemmas.{are_stretches, are_ordered}
use Rattle.retention.proofs.decision.stretches_of.Goals as goal

pub returns-clause-are : goal.returns-clause-are
returns-clause-are c =
    let dated = c.args.dated.now in
    let ts = c.args.ts.now in
    let young = c.as_slice.result.now in
    let goals = c.as_slice-2.result.now in
    let are_young = subst (λ ys. AreYoung dated c.args.cut ts ys) (sym c.as_slice.ensures.value) c.in_ok-young.ensures
    in
    let are_goals = subst (λ gs. AreGoals ts young gs) (sym c.as_slice-2.ensures.value) c.in_ok-goals.ensures in
    IfOk-weaker c.stretches.result (λ s. AreBetween ts goals s.items) (λ s. AreStretches dated c.args.cut s.items)
    (λ s between. are_stretches dated c.args.cut ts young goals s.items c.requires are_young are_goals between)
    c.stretches.ensures

pub returns-clause-ordered : goal.returns-clause-ordered
returns-clause-ordered c = IfOk-weaker c.stretches.result (λ s. AreStretches c.args.dated.now c.args.cut s.items)
    (λ s. AreOrdered s.items) (λ s are. are_ordered c.args.dated.now c.args.cut s.items are) (returns-clause-are c)
