use Rattle.std.proofs.Common.{ℕ, ◌≡◌, ◌-◌, ◌+◌, ◌<◌, ◌≤◌, inl, inr, get_or, refl, sym, ap, ◌∙◌, arith}
use Rattle.std.proofs.lemmas.Bool.{cases_lt}
use Rattle.restore_plan.specs.Run.{levels}
use Rattle.restore_plan.specs.declared.walk.Walk.{Walk}
use Rattle.restore_plan.proofs.WalkLemmas.{walks_set, moment_first, same_length, first_of_all, none_of_all}
use Rattle.restore_plan.proofs.rising.moment_at.Goals as goal

abbrev blank : Walk
blank = record { level = 0; at = 0 }

k_is : (k i : ℕ) → k < i + 1 → i ≤ k → k ≡ i
k_is k i below here = omega (arith, below, here)

pub returns-then-finds-clause-moment : goal.returns-then-finds-clause-moment
returns-then-finds-clause-moment c =
    let kept = c.loop-walk.invariant in
    let i = c.loop-walk.walk-index in
    let level = c.finds.ensures.level ∙ kept.walks.each i blank c.loop-walk-test.true in
    let stands = c.if-finds.ensures.found refl in
    let first = first_of_all c.args.names.now c.args.dated.now c.args.t i c.finds.new.self c.index-dated-walk.result
    c.requires.same c.requires.in_order c.loop-walk-test.true level stands kept.none in
    sym (moment_first c.args.dated.now c.args.t c.finds.new.self.at c.index-dated-walk.result
    (omega (arith, stands.within, same_length c.args.names.now c.args.dated.now c.requires.same)) first.0 first.1)

pub loop-walk-preserved : goal.loop-walk-preserved
loop-walk-preserved c =
    let kept = c.loop-walk.invariant in
    let i = c.loop-walk.walk-index in
    let low = c.loop-walk-test.true in
    record {
      walks = walks_set c.args.names.now (c.args.t - 1) c.loop-walk.walks i c.finds.new.self blank kept.walks low
          c.finds.ensures.level c.finds.ensures.walk;
      none = λ k name below there level. elim (cases_lt k i) [
        | inl before ↦ kept.none k name before there level
        | inr here ↦ c.finds.ensures.none c.if-finds.false name there
            (level ∙ ap (λ j. get_or levels j 0) (k_is k i below here) ∙ sym (kept.walks.each i blank low))
      ];
    }

pub returns-clause-moment : goal.returns-clause-moment
returns-clause-moment c = sym (none_of_all c.args.names.now c.args.dated.now c.args.t c.requires.same
    (λ k name below. c.loop-walk.invariant.none k name (omega (arith, below, c.loop-walk-test.false))))
