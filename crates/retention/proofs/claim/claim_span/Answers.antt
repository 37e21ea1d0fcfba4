use Rattle.std.proofs.Common.{◌≡◌, ◌+◌, ◌∷◌, [], ◌++◌, sym, subst}
use Rattle.retention.specs.declared.claim.Claim.{Claim}
use Rattle.retention.specs.Claims.{AreClaimed}
use Rattle.retention.proofs.PaintingLemmas.{paint_more}
use Rattle.retention.proofs.ClaimLemmas.{claim_more, claim_all, nothing_taken}
use Rattle.retention.proofs.claim.claim_span.Goals as goal

pub loop-stretch-preserved : goal.loop-stretch-preserved
loop-stretch-preserved c =
    let skips = c.args.skips.now in
    let start = c.args.span.from in
    let to = c.args.span.to in
    let from = c.loop-stretch.from in
    let k = c.in-Some.stretch in
    let painted = c.loop-stretch.invariant.0 in
    let one : Claim = record { name = c.args.name; stretch = k } in
    let items : c.loop-stretch.claims.items ++ one ∷ [] ≡ c.push.new.self.items = sym c.in_ok-push.ensures.items in (
      paint_more skips c.loop-stretch.skips c.take.new.skips start to from k painted c.take.ensures.skips
          c.in-Some.ensures.taken,
      subst (λ claims. AreClaimed start (k + 1) c.args.name skips c.args.claims.now.items claims) items
          (claim_more skips c.loop-stretch.skips c.take.new.skips start to from k c.args.name
          c.loop-stretch.claims.items c.args.claims.now.items painted c.in-Some.ensures.taken
          c.loop-stretch.invariant.1),
    )

pub returns-clause-claims : goal.returns-clause-claims
returns-clause-claims c =
    let took = nothing_taken c.loop-stretch.skips c.take.new.skips c.loop-stretch.from c.args.span.to c.take.result
    c.take.ensures.taken c.in_default.not-Some in
    claim_all c.args.skips.now c.loop-stretch.skips c.take.new.skips c.args.span.from c.args.span.to
    c.loop-stretch.from c.args.name c.loop-stretch.claims.items c.args.claims.now.items c.loop-stretch.invariant.0
    took c.loop-stretch.invariant.1
