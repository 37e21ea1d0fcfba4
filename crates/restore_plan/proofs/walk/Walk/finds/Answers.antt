use Rattle.std.proofs.Common.{ℕ, ◌-◌, eq-eqb, sym, ◌∙◌, subst, arith}
use Rattle.std.proofs.lemmas.Bool.{eqb-true, false≢true}
use Rattle.restore_plan.specs.Walk.{IsWalk, StandsAt}
use Rattle.restore_plan.proofs.WalkLemmas.{stands_first, ends_later}
use Rattle.restore_plan.proofs.walk.Walk.finds.Goals as goal

pub returns-clause-found : goal.returns-clause-found
returns-clause-found c =
    let walk = c.first_beyond.new.self in
    let name = c.in-Some.name in
    λ same. stands_first c.args.names.now c.args.t walk name (omega (arith, c.number.ensures.positive))
    (subst (λ (n : ℕ). IsWalk c.args.names.now (n - 1) walk) c.number.ensures.value c.in-Some.ensures.walk)
    (subst (λ (n : ℕ). StandsAt c.args.names.now (n - 1) walk name) c.number.ensures.value c.in-Some.ensures.found)
    (omega (arith, eqb-true _ _ same))

pub returns-clause-none : goal.returns-clause-none
returns-clause-none c =
    let walk = c.first_beyond.new.self in
    let name = c.in-Some.name in
    λ differs other there level. ends_later c.args.names.now c.args.t walk name
    (omega (arith, c.number.ensures.positive)) c.requires.in_order c.requires.rising
    (subst (λ (n : ℕ). IsWalk c.args.names.now (n - 1) walk) c.number.ensures.value c.in-Some.ensures.walk)
    (subst (λ (n : ℕ). StandsAt c.args.names.now (n - 1) walk name) c.number.ensures.value c.in-Some.ensures.found)
    (λ ends. false≢true (sym differs ∙ eq-eqb _ _ (omega (arith, ends)))) other there
    (level ∙ sym c.first_beyond.ensures.level)
