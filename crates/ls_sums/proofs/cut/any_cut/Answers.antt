use Rattle.ls_sums.proofs.ByteLemmas.{after_bytes-append}
use Rattle.ls_sums.proofs.PairLemmas.{after_words-append}
use Rattle.ls_sums.proofs.cut.any_cut.Goals as goal

pub returns-clause-register : goal.returns-clause-register
returns-clause-register c = after_bytes-append

pub returns-clause-sums : goal.returns-clause-sums
returns-clause-sums c = after_words-append
