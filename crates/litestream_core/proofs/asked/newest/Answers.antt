use Rattle.std.proofs.Common.{arith, sym, ◌∙◌}
use Rattle.litestream_core.proofs.NewestLemmas.{first_found, one_more, is_newest, gt_true, gt_false}
use Rattle.litestream_core.proofs.asked.newest.Goals as goal
use Rattle.litestream_core.proofs.asked.newest.Goals.{then-gt, else-gt}

pub loop-name-init : goal.loop-name-init
loop-name-init c = record {
  found = first_found c.args.names.now c.index-names-0.result c.requires.some;
  greatest = λ k d none. absurd (omega (arith, none));
}

pub loop-name-preserved : goal.loop-name-preserved
loop-name-preserved c =
    let names = c.args.names.now in
    let at = c.loop-name.name-index in
    elim c.if-gt.branch [
      | then-gt w ↦
          let above = gt_true c.name-item.result.max c.loop-name.newest w.if-gt.ensures in
          record {
            found = (c.name-item.result, (at, c.loop-name-test.true, sym c.name-item.is), sym w.newest-is);
            greatest = one_more names at c.loop-name.newest c.if-gt.newest c.name-item.result c.loop-name-test.true
                c.name-item.is c.loop-name.invariant.greatest (omega (arith, above, w.newest-is))
                (omega (arith, w.newest-is));
          }
      | else-gt w ↦
          let within = gt_false c.name-item.result.max c.loop-name.newest w.if-gt.ensures in
          let found = c.loop-name.invariant.found in
          record {
            found = (found.0, found.1, found.2 ∙ sym w.newest-is);
            greatest = one_more names at c.loop-name.newest c.if-gt.newest c.name-item.result c.loop-name-test.true
                c.name-item.is c.loop-name.invariant.greatest (omega (arith, w.newest-is))
                (omega (arith, within, w.newest-is));
          }
    ]

pub returns : goal.returns
returns c = is_newest c.args.names.now c.loop-name.name-index c.loop-name.newest c.loop-name-test.false
    c.loop-name.invariant.found c.loop-name.invariant.greatest
