use Rattle.std.proofs.Common.{arith, ◌≡◌, ◌++◌, ◌∷◌, [], ◌∙◌, sym, ap, subst}
use Rattle.replica_store.specs.Chain.{LeadsTo}
use Rattle.restore_plan.specs.Retained.{IsGreatestRetainedBelow}
use Rattle.restore_plan.specs.ChosenChain.{IsChosenBetween}
use Rattle.restore_plan.specs.Progress.{Progress}
use Rattle.restore_plan.proofs.ChainLemmas.{go_on, best_of, chosen_more, chosen_leads, come_to_end, below_missing}
use Rattle.restore_plan.proofs.ChainLemmas.{not_missing, begins_once, fewest}
use Rattle.restore_plan.proofs.chain.plan.Goals as goal

pub loop-name-preserved : goal.loop-name-preserved
loop-name-preserved c =
    let names = c.args.names.now in
    let t = c.args.t in
    let name = c.in-Some.name in
    let way = c.loop-name.invariant.0 in
    let best = best_of names t c.loop-name.sweep name way c.in-Some.ensures.best in
    let longer = chosen_more names t 0 c.loop-name.chain c.loop-name.sweep.after name c.loop-name.invariant.1 best in (
      (go_on names t c.loop-name.sweep c.step.new.self name way c.in-Some.ensures.best c.in-Some.ensures.goes_on).0,
      subst (λ chain. IsChosenBetween names t 0 chain c.step.new.self.after) (sym c.in_ok-push.ensures.ok)
          (subst (λ n. IsChosenBetween names t 0 (c.loop-name.chain ++ name ∷ []) n)
          (sym (ap (λ (p : Progress). p.after) c.in-Some.ensures.goes_on)) longer),
    )

pub returns-then-after-number-clause-missing : goal.returns-then-after-number-clause-missing
returns-then-after-number-clause-missing c =
    let names = c.args.names.now in
    let t = c.args.t in
    let end = come_to_end names t c.loop-name.sweep c.step.new.self c.step.result c.loop-name.invariant.0
    c.step.ensures.end c.step.ensures.goes_on c.in_default.not-Some in
    λ after is kept. not_missing names t c.step.new.self.after end.1
    (λ e. c.if-after-number.true (c.after-after.ensures ∙ e ∙ sym c.number-2.ensures.value)) kept

pub returns-then-after-number-clause-after : goal.returns-then-after-number-clause-after
returns-then-after-number-clause-after c =
    let names = c.args.names.now in
    let t = c.args.t in
    let end = come_to_end names t c.loop-name.sweep c.step.new.self c.step.result c.loop-name.invariant.0
    c.step.ensures.end c.step.ensures.goes_on c.in_default.not-Some in
    λ after is.
    let e : c.after-after.result ≡ after = cc in
    subst (λ n. IsGreatestRetainedBelow names t n) (sym c.after-after.ensures ∙ e)
    (below_missing names t c.step.new.self.after end.1
    (λ e. c.if-after-number.true (c.after-after.ensures ∙ e ∙ sym c.number-2.ensures.value)))

pub returns-clause-once : goal.returns-clause-once
returns-clause-once c =
    let names = c.args.names.now in
    let t = c.args.t in
    let end = come_to_end names t c.loop-name.sweep c.step.new.self c.step.result c.loop-name.invariant.0
    c.step.ensures.end c.step.ensures.goes_on c.in_default.not-Some in
    begins_once names t c.loop-name.chain (subst (λ n. IsChosenBetween names t 0 c.loop-name.chain n)
    (sym end.0 ∙ sym c.after-after.ensures ∙ c.if-after-number.false ∙ c.number-2.ensures.value)
    c.loop-name.invariant.1)

pub returns-clause-fewest : goal.returns-clause-fewest
returns-clause-fewest c =
    let names = c.args.names.now in
    let t = c.args.t in
    let end = come_to_end names t c.loop-name.sweep c.step.new.self c.step.result c.loop-name.invariant.0
    c.step.ensures.end c.step.ensures.goes_on c.in_default.not-Some in
    λ other leads. fewest names t 0 c.loop-name.chain (subst (λ n. IsChosenBetween names t 0 c.loop-name.chain n)
    (sym end.0 ∙ sym c.after-after.ensures ∙ c.if-after-number.false ∙ c.number-2.ensures.value)
    c.loop-name.invariant.1) 0 other (omega arith) leads

pub returns-clause-chain : goal.returns-clause-chain
returns-clause-chain c =
    let names = c.args.names.now in
    let t = c.args.t in
    let end = come_to_end names t c.loop-name.sweep c.step.new.self c.step.result c.loop-name.invariant.0
    c.step.ensures.end c.step.ensures.goes_on c.in_default.not-Some in
    subst (λ n. LeadsTo names 0 c.loop-name.chain n)
    (sym end.0 ∙ sym c.after-after.ensures ∙ c.if-after-number.false ∙ c.number-2.ensures.value)
    (chosen_leads names t 0 c.loop-name.chain c.loop-name.sweep.after c.loop-name.invariant.1)
