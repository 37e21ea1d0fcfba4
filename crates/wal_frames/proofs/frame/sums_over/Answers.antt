use Rattle.std.proofs.Common.{◌∙◌, ap, arith}
use Rattle.ls_sums.specs.declared.wal_sum.WalSum.{WalSum}
use Rattle.ls_sums.specs.WalSum.{words, after_words}
use Rattle.ls_sums.proofs.PairLemmas.{after_words-append}
use Rattle.wal_frames.specs.WalFrame.{sums_after}
use Rattle.wal_frames.proofs.frame.sums_over.Goals as goal

pub returns : goal.returns
unfolding sums_after
returns c =
    c.over-2.ensures ∙ ap (λ (sum : WalSum). after_words sum (words c.args.order c.args.page.now)) c.over.ensures
    ∙ after_words-append c.args.order c.args.sums c.args.front.now c.args.page.now (omega (arith, c.requires.front))
