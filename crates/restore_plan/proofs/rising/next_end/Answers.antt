use Rattle.std.proofs.Common.{ℕ, ◌≡◌, ◌+◌, ◌<◌, ◌≤◌, inl, inr, get_or, sym, ap, ◌∙◌, arith}
use Rattle.std.proofs.lemmas.Bool.{cases_lt}
use Rattle.restore_plan.specs.Run.{levels}
use Rattle.restore_plan.specs.Walk.{IsEndOfNext}
use Rattle.restore_plan.specs.declared.walk.Walk.{Walk}
use Rattle.restore_plan.proofs.RunLemmas.{chosen_within, place_of}
use Rattle.restore_plan.proofs.WalkLemmas.{walks_set, no_later_further}
use Rattle.restore_plan.proofs.rising.next_end.Goals as goal

abbrev blank : Walk
blank = record { level = 0; at = 0 }

k_is : (k i : ℕ) → k < i + 1 → i ≤ k → k ≡ i
k_is k i below here = omega (arith, below, here)

pub loop-walk-preserved : goal.loop-walk-preserved
loop-walk-preserved c =
    let kept = c.loop-walk.invariant in
    let i = c.loop-walk.walk-index in
    let low = c.loop-walk-test.true in
    let names = c.args.names.now in
    let after = c.args.after in
    record {
      walks = walks_set names after c.loop-walk.walks i c.next_end-end.new.self blank kept.walks low
          c.next_end-end.ensures.level c.next_end-end.ensures.walk;
      end = chosen_within (IsEndOfNext names after) c.loop-walk.least c.next_end-end.result c.earlier-least.result
          c.earlier-least.ensures.one kept.end c.next_end-end.ensures.end;
      least = λ k name below there level next. elim (cases_lt k i) [
        | inl before ↦ no_later_further c.loop-walk.least c.earlier-least.result name.max
            c.earlier-least.ensures.first (kept.least k name before there level next)
        | inr here ↦ no_later_further c.next_end-end.result c.earlier-least.result name.max
            c.earlier-least.ensures.second (c.next_end-end.ensures.least name there
            (level ∙ ap (λ j. get_or levels j 0) (k_is k i below here) ∙ sym (kept.walks.each i blank low)) next)
      ];
    }

pub returns-clause-least : goal.returns-clause-least
returns-clause-least c =
    λ name there next.
    let place = place_of name.level name.on_level in
    c.loop-walk.invariant.least place.place name (omega (arith, place.below, c.loop-walk-test.false)) there
    (sym place.is) next
