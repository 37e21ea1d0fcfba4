use Rattle.std.proofs.Common.{◌≡◌, ◌∙◌, sym, ap, subst}
use Rattle.replica_store.specs.Chain.{names_of}
use Rattle.restore_plan.specs.ChosenChain.{IsBestNext}
use Rattle.restore_plan.specs.Progress.{Progress}
use Rattle.restore_plan.proofs.ChainLemmas.{HasBegunWith, begin, begun, begun_more, best_of, come_to_end}
use Rattle.restore_plan.proofs.ChainLemmas.{go_on, not_missing, none_leads}
use Rattle.restore_plan.proofs.RunLemmas.{none_then}
use Rattle.restore_plan.proofs.beginning.first_of_plan.Goals as goal

pub returns-in_err-first-clause-none : goal.returns-in_err-first-clause-none
returns-in_err-first-clause-none c =
    let names = names_of c.args.dated.now in
    let is : c.new-sweep.result ≡ record { names = names; t = c.args.t; after = 0 } = cc in
    let way = begin names c.args.t c.new-sweep.result is in
    none_then c.from_residual.result _
    (none_leads names c.args.t c.new-sweep.result way (ap (λ (p : Progress). p.after) is) c.in_err-first.ensures.end)

pub loop-init : goal.loop-init
loop-init c =
    let names = names_of c.args.dated.now in
    let first = c.in_ok-first.first in
    let is : c.new-sweep.result ≡ record { names = names; t = c.args.t; after = 0 } = cc in
    let way = begin names c.args.t c.new-sweep.result is in
    let best = best_of names c.args.t c.new-sweep.result first way c.in_ok-first.ensures.best in
    let none = ap (λ (p : Progress). p.after) is in
    let from = subst (λ n. IsBestNext names c.args.t n first) none best in
    let reached = ap (λ (p : Progress). p.after) c.in_ok-first.ensures.goes_on in (
      (go_on names c.args.t c.new-sweep.result c.step.new.self first way c.in_ok-first.ensures.best
          c.in_ok-first.ensures.goes_on).0,
      subst (λ n. HasBegunWith names c.args.t first n) (sym reached) (begun names c.args.t first from),
    )

pub loop-preserved : goal.loop-preserved
loop-preserved c =
    let names = names_of c.args.dated.now in
    let t = c.args.t in
    let name = c.in-Some.field-0 in
    let way = c.loop.invariant.0 in
    let best = best_of names t c.loop.sweep name way c.in-Some.ensures.best in (
      (go_on names t c.loop.sweep c.step-in-loop.new.self name way c.in-Some.ensures.best c.in-Some.ensures.goes_on).0,
      subst (λ n. HasBegunWith names t c.in_ok-first.first n)
          (sym (ap (λ (p : Progress). p.after) c.in-Some.ensures.goes_on))
          (begun_more names t c.in_ok-first.first c.loop.sweep.after name c.loop.invariant.1 best),
    )

pub returns-then-after-number-clause-none : goal.returns-then-after-number-clause-none
returns-then-after-number-clause-none c =
    let names = names_of c.args.dated.now in
    let t = c.args.t in
    let end = come_to_end names t c.loop.sweep c.step-in-loop.new.self c.step-in-loop.result c.loop.invariant.0
    c.step-in-loop.ensures.end c.step-in-loop.ensures.goes_on c.in_default.not-Some in
    not_missing names t c.step-in-loop.new.self.after end.1
    (λ e. c.if-after-number.true (c.after.ensures ∙ e ∙ sym c.number-2.ensures.value))
