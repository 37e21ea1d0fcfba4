use Rattle.std.proofs.Common.{◌≡◌, ◌+◌, ◌-◌, ◌<◌, Some, length, slice_get, sym, subst, arith, ap}
use Rattle.retention.proofs.ListLemmas.{at_index}
use Rattle.retention.proofs.ClaimLemmas.{AreClaimsFrom, claims_none, claims_old, claims_young, claims_all}
use Rattle.retention.proofs.claim.claims.Goals as goal

pub loop-i-init : goal.loop-i-init
loop-i-init c =
    let count : length c.paint_young.new.skips ≡ length c.args.stretches.now = omega (
      arith,
      c.paint_young.auto.skips,
      ap length c.as_mut_slice-skips.ensures.value,
      c.in_ok-painting.ensures.count,
    ) in (
      omega arith,
      subst (λ claims. AreClaimsFrom c.args.dated.now c.args.cut c.args.stretches.now (length c.args.dated.now)
          c.paint_young.new.skips claims) (sym c.new-claims.ensures.items)
          (claims_none c.args.dated.now c.args.cut c.args.stretches.now (length c.args.dated.now)
          c.paint_young.new.skips (omega arith) c.paint_young.ensures.skips count c.paint_young.ensures.each
          c.paint_young.ensures.all),
    )

pub loop-i-preserved-in-Continue-branch-2 : goal.loop-i-preserved-in-Continue-branch-2
loop-i-preserved-in-Continue-branch-2 c =
    let dated = c.args.dated.now in
    let stretches = c.args.stretches.now in
    let i = c.loop-i.i - 1 in
    let one = c.index-dated-i.result in
    let low : i < length dated = omega (arith, c.loop-i.invariant.0) in
    let there : slice_get dated i ≡ Some one = at_index dated i one low c.index-dated-i.is in
    let next : c.loop-i.i ≡ i + 1 = omega arith in
    let before = subst (λ n. AreClaimsFrom dated c.args.cut stretches n c.loop-i.skips c.loop-i.claims.items) next
    c.loop-i.invariant.1 in (
      omega (arith, low),
      claims_old dated c.args.cut stretches i c.span_of.result.from c.span_of.result.to c.loop-i.skips
          c.claim_span.new.skips c.loop-i.claims.items c.claim_span.new.claims.items one there c.if-one-cut.true
          c.span_of.ensures c.in_ok-claim_span.ensures.skips c.in_ok-claim_span.ensures.painted
          c.in_ok-claim_span.ensures.claims before,
    )

pub loop-i-preserved : goal.loop-i-preserved
loop-i-preserved c =
    let dated = c.args.dated.now in
    let stretches = c.args.stretches.now in
    let i = c.loop-i.i - 1 in
    let one = c.index-dated-i.result in
    let low : i < length dated = omega (arith, c.loop-i.invariant.0) in
    let there : slice_get dated i ≡ Some one = at_index dated i one low c.index-dated-i.is in
    let next : c.loop-i.i ≡ i + 1 = omega arith in
    let before = subst (λ n. AreClaimsFrom dated c.args.cut stretches n c.loop-i.skips c.loop-i.claims.items) next
    c.loop-i.invariant.1 in (
      omega (arith, low),
      claims_young dated c.args.cut stretches i c.loop-i.skips c.loop-i.claims.items one there
          c.if-one-cut.false before,
    )

pub returns : goal.returns
returns c = claims_all c.args.dated.now c.args.cut c.args.stretches.now c.loop-i.skips c.loop-i.claims.items
    c.loop-i.i (omega arith) c.loop-i.invariant.1
