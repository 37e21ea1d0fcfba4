use Rattle.std.proofs.Common.{rules, ◌≡◌, ◌+◌, ◌-◌, ◌<◌, length, get_or, sym, subst, arith, ◌∙◌}
use Rattle.std.proofs.lemmas.Bool.{false≢true}
use Rattle.std.proofs.lemmas.Option.{slice_get-get_or, slice_get_within}
use Rattle.retention.proofs.ListLemmas.{at_index}
use Rattle.retention.proofs.KeptLemmas.{AreKeptFrom, kept_none, kept_passes, kept_takes}
use Rattle.retention.proofs.kept.kept_names.Goals as goal

pub loop-p-init : goal.loop-p-init
loop-p-init c = (
  omega arith,
  subst (λ skips. AreKeptFrom c.args.dated.now c.args.cut c.args.stretches.now c.args.claims.now
      (length c.args.claims.now) skips c.in_ok-kept.kept.items) (sym c.as_mut_slice-skips.ensures.value)
      (kept_none c.args.dated.now c.args.cut c.args.stretches.now c.args.claims.now (length c.args.claims.now)
      c.in_ok-painting.painting.items c.in_ok-kept.kept.items (omega arith)
      c.in_ok-painting.ensures.skips c.in_ok-painting.ensures.count c.in_ok-painting.ensures.none c.in_ok-kept.ensures),
)

pub index_mut-requires : goal.index_mut-requires
index_mut-requires c =
    let claims = c.args.claims.now in
    let p = c.loop-p.p - 1 in
    let claim = get_or claims p (record { name = 0; stretch = 0 }) in
    let there = slice_get-get_or claims p (record { name = 0; stretch = 0 }) (omega (arith, c.loop-p.invariant.0)) in
    let mine = (c.requires.claims.each p claim there).spans in
    omega (arith, slice_get_within c.args.dated.now claim.name mine.one mine.there, c.loop-p.invariant.1.count)

pub offset_bounds-dated-claim : goal.offset_bounds-dated-claim
offset_bounds-dated-claim c =
    let claims = c.args.claims.now in
    let p = c.loop-p.p - 1 in
    let claim = get_or claims p (record { name = 0; stretch = 0 }) in
    let there = slice_get-get_or claims p (record { name = 0; stretch = 0 }) (omega (arith, c.loop-p.invariant.0)) in
    let mine = (c.requires.claims.each p claim there).spans in
    let low = slice_get_within c.args.dated.now claim.name mine.one mine.there in
    search (arith, rules)

pub bounds-dated-claim : goal.bounds-dated-claim
bounds-dated-claim c =
    let claims = c.args.claims.now in
    let p = c.loop-p.p - 1 in
    let claim = get_or claims p (record { name = 0; stretch = 0 }) in
    let there = slice_get-get_or claims p (record { name = 0; stretch = 0 }) (omega (arith, c.loop-p.invariant.0)) in
    let mine = (c.requires.claims.each p claim there).spans in
    slice_get_within c.args.dated.now claim.name mine.one mine.there

pub loop-p-preserved-then-not-is_painted : goal.loop-p-preserved-then-not-is_painted
loop-p-preserved-then-not-is_painted c =
    let dated = c.args.dated.now in
    let stretches = c.args.stretches.now in
    let claims = c.args.claims.now in
    let p = c.loop-p.p - 1 in
    let claim = get_or claims p (record { name = 0; stretch = 0 }) in
    let within : p < length claims = omega (arith, c.loop-p.invariant.0) in
    let there = slice_get-get_or claims p (record { name = 0; stretch = 0 }) within in
    let mine = (c.requires.claims.each p claim there).spans in
    let low = slice_get_within dated claim.name mine.one mine.there in
    let one = c.index-dated-claim.result in
    let next : c.loop-p.p ≡ p + 1 = omega arith in
    let before = subst (λ n. AreKeptFrom dated c.args.cut stretches claims n c.loop-p.skips c.loop-p.kept.items) next
    c.loop-p.invariant.1 in (
      omega (arith, within),
      kept_takes dated c.args.cut stretches claims p c.span_of.result.from c.span_of.result.to c.loop-p.skips
          c.paint.new.skips c.loop-p.kept.items claim one c.requires.claims there
          (λ is. false≢true (sym c.if-not-is_painted.true ∙ c.is_painted.ensures.1 is))
          (at_index dated claim.name one low c.index-dated-claim.is) c.span_of.ensures c.paint.ensures.skips
          c.paint.ensures.painted before,
    )

pub loop-p-preserved : goal.loop-p-preserved
loop-p-preserved c =
    let dated = c.args.dated.now in
    let stretches = c.args.stretches.now in
    let claims = c.args.claims.now in
    let p = c.loop-p.p - 1 in
    let claim = get_or claims p (record { name = 0; stretch = 0 }) in
    let within : p < length claims = omega (arith, c.loop-p.invariant.0) in
    let there = slice_get-get_or claims p (record { name = 0; stretch = 0 }) within in
    let next : c.loop-p.p ≡ p + 1 = omega arith in
    let before = subst (λ n. AreKeptFrom dated c.args.cut stretches claims n c.loop-p.skips c.loop-p.kept.items) next
    c.loop-p.invariant.1 in (
      omega (arith, within),
      kept_passes dated c.args.cut stretches claims p c.loop-p.skips c.loop-p.kept.items claim
          c.requires.claims there (c.is_painted.ensures.0 c.if-not-is_painted.false) before,
    )
