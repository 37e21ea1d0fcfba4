use Rattle.std.proofs.Common.{sym, subst}
use Rattle.std.proofs.lemmas.Result.{IfOk-weaker}
use Rattle.retention.specs.Protected.{KeepsProtected}
use Rattle.retention.specs.Walk.{IsWalk, standing}
use Rattle.retention.specs.Drops.{IsLeast}
use Rattle.retention.specs.Stretch.{AreStretches}
use Rattle.retention.specs.Claims.{AreClaims}
use Rattle.retention.specs.Kept.{AreKept}
use Rattle.retention.proofs.WalkLemmas.{is_walk, kept_protects, kept_is_least}
use Rattle.retention.proofs.decision.decide.Goals as goal

pub returns-clause-walk : goal.returns-clause-walk
returns-clause-walk c =
    let dated = c.args.dated.now in
    let cut = c.args.cut in
    let stretches = c.as_slice-stretches.result.now in
    let claims = c.as_slice.result.now in
    let are = subst (λ s. AreStretches dated cut s) (sym c.as_slice-stretches.ensures.value)
    c.in_ok-between.ensures.are in
    let are_claims = subst (λ s. AreClaims dated cut stretches s) (sym c.as_slice.ensures.value)
    c.in_ok-claims.ensures in
    IfOk-weaker c.kept_names.result (λ kept. AreKept dated cut stretches claims kept.items)
    (λ kept. IsWalk dated cut kept.items)
    (λ kept is. is_walk dated cut stretches claims kept.items are are_claims is) c.kept_names.ensures

pub returns-clause-protected : goal.returns-clause-protected
returns-clause-protected c =
    let dated = c.args.dated.now in
    let cut = c.args.cut in
    let stretches = c.as_slice-stretches.result.now in
    let claims = c.as_slice.result.now in
    let are = subst (λ s. AreStretches dated cut s) (sym c.as_slice-stretches.ensures.value)
    c.in_ok-between.ensures.are in
    let are_claims = subst (λ s. AreClaims dated cut stretches s) (sym c.as_slice.ensures.value)
    c.in_ok-claims.ensures in
    IfOk-weaker c.kept_names.result (λ kept. AreKept dated cut stretches claims kept.items)
    (λ kept. KeepsProtected dated cut (standing kept.items dated))
    (λ kept is. kept_protects dated cut stretches claims kept.items are are_claims is) c.kept_names.ensures

pub returns-clause-least : goal.returns-clause-least
returns-clause-least c =
    let dated = c.args.dated.now in
    let cut = c.args.cut in
    let stretches = c.as_slice-stretches.result.now in
    let claims = c.as_slice.result.now in
    let are = subst (λ s. AreStretches dated cut s) (sym c.as_slice-stretches.ensures.value)
    c.in_ok-between.ensures.are in
    let are_claims = subst (λ s. AreClaims dated cut stretches s) (sym c.as_slice.ensures.value)
    c.in_ok-claims.ensures in
    IfOk-weaker c.kept_names.result (λ kept. AreKept dated cut stretches claims kept.items)
    (λ kept. IsLeast dated cut kept.items)
    (λ kept is. kept_is_least dated cut stretches claims kept.items are are_claims is) c.kept_names.ensures
