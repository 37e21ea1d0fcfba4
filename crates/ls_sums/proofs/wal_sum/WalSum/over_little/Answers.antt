use Rattle.std.proofs.Common.{◌+◌, ◌∙◌, ap, drop, arith}
use Rattle.std.specs.List.{concat}
use Rattle.ls_sums.specs.declared.order.Order.TheVariants.{Little}
use Rattle.ls_sums.specs.declared.wal_sum.WalSum.{WalSum}
use Rattle.ls_sums.specs.WalSum.{words, after_words}
use Rattle.ls_sums.proofs.PairLemmas.{sums_of_pair}
use Rattle.ls_sums.proofs.wal_sum.WalSum.over_little.Goals as goal

pub loop-pair-preserved : goal.loop-pair-preserved
loop-pair-preserved c =
    let i = c.loop-pair.pair-index in
    let pairs = c.args.pairs.now in
    ap (λ (sum : WalSum). after_words sum (words Little (concat (drop (i + 1) pairs)))) c.after_pair-sum.ensures
    ∙ sums_of_pair Little c.loop-pair.sum pairs i c.from_le_bytes-x.result c.from_le_bytes-y.result (omega arith)
    (c.told-pairs i (omega arith))
    (omega (arith, c.from_le_bytes-x.ensures)) (omega (arith, c.from_le_bytes-y.ensures))
    ∙ c.loop-pair.invariant
