use Rattle.std.proofs.Common.{◌≡◌, ◌+◌, ◌-◌, ◌<◌, length, refl, subst, arith}
use Rattle.retention.proofs.YoungLemmas.{AreYoungFrom, young_found, young_missed}
use Rattle.retention.proofs.young.young.Goals as goal

pub loop-i-preserved-in-Some : goal.loop-i-preserved-in-Some
loop-i-preserved-in-Some c =
    let dated = c.args.dated.now in
    let i = c.loop-i.i - 1 in
    let low : i < length dated = omega (arith, c.loop-i.invariant.0) in
    let next : c.loop-i.i ≡ i + 1 = omega arith in
    let before = subst (λ n. AreYoungFrom dated c.args.cut c.args.ts.now c.loop-i.young.items n) next
    c.loop-i.invariant.1 in (
      omega (arith, low),
      young_found dated c.args.cut c.args.ts.now c.loop-i.young.items i c.in-Some.k
          c.index-dated-i.result _ c.requires low c.index-dated-i.is c.in-Some.ensures.found refl before,
    )

pub loop-i-preserved : goal.loop-i-preserved
loop-i-preserved c =
    let dated = c.args.dated.now in
    let i = c.loop-i.i - 1 in
    let low : i < length dated = omega (arith, c.loop-i.invariant.0) in
    let next : c.loop-i.i ≡ i + 1 = omega arith in
    let before = subst (λ n. AreYoungFrom dated c.args.cut c.args.ts.now c.loop-i.young.items n) next
    c.loop-i.invariant.1 in (
      omega (arith, low),
      young_missed dated c.args.cut c.args.ts.now c.loop-i.young.items i c.index-dated-i.result low
          c.index-dated-i.is c.in_default.ensures.none before,
    )
