use Rattle.std.proofs.Common.{◌<◌, length, get_or, arith}
use Rattle.std.proofs.lemmas.List.{get_or_default}
use Rattle.retention.proofs.PaintingLemmas.{seek_on}
use Rattle.retention.proofs.painting.first_unpainted.Goals as goal

pub loop-at-preserved : goal.loop-at-preserved
loop-at-preserved c =
    let skips = c.loop-at.skips in
    let at = c.loop-at.at in
    let low : at < length skips = omega arith in
    let first = get_or skips at 0 in
    (seek_on c.args.skips.now skips c.args.from at first c.skip_from-next.result c.loop-at.invariant low
    (get_or_default skips at 0 first low) c.if-skips-at.true c.skip_from-next.ensures).0
