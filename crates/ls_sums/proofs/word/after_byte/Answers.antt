use Rattle.std.proofs.Common.{ℕ, ◌∙◌, ap, arith}
use Rattle.std.specs.Int.Bits.{bit_xor}
use Rattle.std.proofs.lemmas.Nat.{xor_lt}
use Rattle.ls_sums.specs.Crc64.{after_bits}
use Rattle.ls_sums.proofs.WordLemmas.{byte_bits}
use Rattle.ls_sums.proofs.word.after_byte.Goals as goal

pub returns : goal.returns
returns c =
    byte_bits (bit_xor c.args.register c.from.result)
    (xor_lt 64 c.args.register c.from.result (omega arith) (omega arith))
    ∙ ap (λ (x : ℕ). after_bits 8 (bit_xor c.args.register x)) c.from.ensures
