use Rattle.std.proofs.Common.{◌+◌, ◌∙◌, refl, sym, subst, arith}
use Rattle.std.proofs.lemmas.Bool.{false≢true}
use Rattle.replica_store.specs.Chain.{names_of}
use Rattle.restore_plan.specs.Retained.{IsGreatestRetainedBelow}
use Rattle.restore_plan.proofs.ChainLemmas.{is_retained}
use Rattle.restore_plan.proofs.RunLemmas.{none_then}
use Rattle.restore_plan.proofs.MomentLemmas.{lower_bound, none_at, next_bound}
use Rattle.restore_plan.proofs.moment.last_of_any.Goals as goal
use Rattle.restore_plan.proofs.moment.last_of_any.Goals.{else-greatest-number-via-then-greatest-number+else-is_early}
use Rattle.restore_plan.proofs.moment.last_of_any.Goals.{else-greatest-number-via-else-greatest-number}

pub returns-in_err-t-clause-none : goal.returns-in_err-t-clause-none
returns-in_err-t-clause-none c =
    let dated = c.args.dated.now in
    let found = c.greatest_end.result in
    none_then c.from_residual.result _
    (none_at dated c.args.moment found
    (lower_bound dated c.args.moment c.loop-t.bound found c.loop-t.invariant c.greatest_end.ensures.fits
    c.greatest_end.ensures.greatest) c.in_err-t.ensures)

pub returns-then-is_early-clause-found : goal.returns-then-is_early-clause-found
returns-then-is_early-clause-found c =
    let dated = c.args.dated.now in
    let t = c.in_ok-t.t in
    let bounds = lower_bound dated c.args.moment c.loop-t.bound c.greatest_end.result c.loop-t.invariant
    c.greatest_end.ensures.fits c.greatest_end.ensures.greatest in
    let up_to : IsGreatestRetainedBelow (names_of dated) (t + 1) c.greatest_retained-greatest.result =
    subst (λ names. IsGreatestRetainedBelow names (t + 1) c.greatest_retained-greatest.result) c.requires.same
    (subst (λ n. IsGreatestRetainedBelow c.args.names.now (n + 1) c.greatest_retained-greatest.result)
    c.number.ensures.value c.greatest_retained-greatest.ensures)
    in
    record {
      is = record {
        retained = is_retained (names_of dated) t c.greatest_retained-greatest.result
            (omega (arith, c.in_ok-t.ensures)) up_to (c.if-greatest-number.true ∙ c.number-in-loop-t.ensures.value);
        early = c.if-is_early.ensures.0 refl;
      };
      greatest = λ other is. omega (arith, bounds other is, c.in_ok-t.ensures);
    }

pub loop-t-preserved : goal.loop-t-preserved
loop-t-preserved c =
    let dated = c.args.dated.now in
    let t = c.in_ok-t.t in
    let bounds = lower_bound dated c.args.moment c.loop-t.bound c.greatest_end.result c.loop-t.invariant
    c.greatest_end.ensures.fits c.greatest_end.ensures.greatest in
    let up_to : IsGreatestRetainedBelow (names_of dated) (t + 1) c.greatest_retained-greatest.result =
    subst (λ names. IsGreatestRetainedBelow names (t + 1) c.greatest_retained-greatest.result) c.requires.same
    (subst (λ n. IsGreatestRetainedBelow c.args.names.now (n + 1) c.greatest_retained-greatest.result)
    c.number.ensures.value c.greatest_retained-greatest.ensures)
    in
    λ other is fits. next_bound dated c.args.moment t c.greatest_retained-greatest.result c.min-bound.result
    (λ other is. omega (arith, bounds other is, c.in_ok-t.ensures)) up_to
    (λ at same. elim c.else-greatest-number.branch [
      | else-greatest-number-via-then-greatest-number+else-is_early w ↦ false≢true
          (sym w.if-is_early.false ∙ w.is_early.ensures.1 at.early)
      | else-greatest-number-via-else-greatest-number w ↦ w.if-greatest-number.false
          (same ∙ sym c.number-in-loop-t.ensures.value)
    ])
    (omega (arith, c.min-bound.ensures, c.number-in-loop-t-2.ensures.value)) other is
