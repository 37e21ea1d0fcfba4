use Rattle.std.proofs.Common.{◌∙◌, arith}
use Rattle.std.specs.Int.Bits.{bit_xor}
use Rattle.std.proofs.lemmas.Nat.{xor_lt}
use Rattle.ls_sums.proofs.WordLemmas.{word_bits, after_word-is}
use Rattle.ls_sums.proofs.word.after_word.Goals as goal

pub returns : goal.returns
returns c =
    word_bits (bit_xor c.args.register c.args.word) (xor_lt 64 c.args.register c.args.word (omega arith) (omega arith))
    ∙ after_word-is c.args.register c.args.word
