use Rattle.std.proofs.Common.{rules, ◌≡◌, subst, arith}
use Rattle.snapshot_read.proofs.TellLemmas.{goes_then, goes_weaker, goes_nowhere, keeps_then, err_of}
use Rattle.snapshot_read.proofs.RestLemmas.{HasSummed, summed_none, summed_more, summed_all, summed_failed}
use Rattle.snapshot_read.proofs.rest.rest_place.Goals as goal

pub loop-before-init : goal.loop-before-init
loop-before-init g c = record {
  told = goes_nowhere _ _ (λ x. summed_none c.args.size x);
  keeps = search rules;
  later = omega arith;
}

pub loop-before-preserved : goal.loop-before-preserved
loop-before-preserved g c = record {
  told = goes_then _ _ _ _ _ _ c.loop-before.invariant.told c.in_ok-sum.ensures.told (λ x y z so_far adds.
      summed_more c.args.size c.loop-before.before c.loop-before.sum c.in_ok-sum.sum x y z so_far adds);
  keeps = keeps_then _ _ _ _ _ _ c.loop-before.invariant.keeps c.in_ok-sum.ensures.keeps;
  later = omega (arith, c.loop-before.invariant.later, c.in_ok-sum.ensures.cause.later);
}

pub returns-in_err-sum-clause-told : goal.returns-in_err-sum-clause-told
returns-in_err-sum-clause-told g c =
    goes_then _ _ _ _ _ _ c.loop-before.invariant.told c.in_err-sum.ensures.told (λ x y z so_far adds.
    summed_failed c.args.size c.args.pages c.loop-before.before c.loop-before.sum c.from_residual.result
    c.in_err-sum.field-0.0 x y z (err_of _ _ c.from_residual.ensures.1) so_far adds)

pub returns-clause-told : goal.returns-clause-told
returns-clause-told g c = goes_weaker _ _ _ _ c.loop-before.invariant.told (λ x y so_far.
    let all : c.loop-before.before ≡ c.args.pages = search rules in
    summed_all c.args.size c.args.pages c.loop-before.sum x y
    (subst (λ n. HasSummed c.args.size n c.loop-before.sum x y) all so_far))
