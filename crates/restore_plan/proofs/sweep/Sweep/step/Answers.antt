use Rattle.std.proofs.Common.{None, Some, subst, arith}
use Rattle.replica_store.specs.declared.file_name.FileName.{FileName}
use Rattle.restore_plan.specs.ChosenChain.{MayLead, IsBestNext}
use Rattle.restore_plan.specs.Progress.{Progress}
use Rattle.restore_plan.proofs.RunLemmas.{none_then, step_best, step_end}
use Rattle.restore_plan.proofs.sweep.Sweep.step.Goals as goal

abbrev IsEnd : Progress → Type 0
IsEnd progress = (name : FileName) → MayLead progress.names progress.t progress.after name → ⊥

pub returns-in_err-name-clause-end : goal.returns-in_err-name-clause-end
returns-in_err-name-clause-end c =
    let inside = c.self.inside in
    none_then c.from_residual.result _
    (subst IsEnd c.self.view_is (step_end inside.names.now inside.t inside.after None c.in_err-name.ensures.best
    tt))

pub returns-then-number-self-clause-end : goal.returns-then-number-self-clause-end
returns-then-number-self-clause-end c =
    let inside = c.self.inside in
    subst IsEnd c.self.view_is (step_end inside.names.now inside.t inside.after (Some c.in_ok-name.name)
    c.in_ok-name.ensures.best (omega (arith, c.if-number-self.true, c.number.ensures.value)))

pub returns-clause-best : goal.returns-clause-best
returns-clause-best c =
    let inside = c.self.inside in
    subst (λ (progress : Progress). IsBestNext progress.names progress.t progress.after c.in_ok-name.name)
    c.self.view_is
    (step_best inside.names.now inside.t inside.after c.in_ok-name.name c.in_ok-name.ensures.within
    c.in_ok-name.ensures.best (omega (arith, c.if-number-self.false, c.number.ensures.value)))
