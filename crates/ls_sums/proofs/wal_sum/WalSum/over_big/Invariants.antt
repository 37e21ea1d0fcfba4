use Rattle.std.proofs.Common.{◌≡◌, drop}
use Rattle.std.specs.List.{concat}
use Rattle.ls_sums.specs.declared.order.Order.TheVariants.{Big}
use Rattle.ls_sums.specs.WalSum.{words, after_words}
use Rattle.ls_sums.proofs.wal_sum.WalSum.over_big.Given as goal

abbrev pub invariant-loop-pair : goal.invariant-loop-pair
invariant-loop-pair l =
    after_words l.sum (words Big (concat (drop l.pair-index l.pairs))) ≡ after_words l.initial.sum
    (words Big (concat l.pairs))
