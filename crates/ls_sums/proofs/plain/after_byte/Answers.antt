use Rattle.std.proofs.Common.{ℕ, suc, ◌≡◌, ◌-◌, ◌+◌, sym, ap, ◌∙◌, arith}
use Rattle.ls_sums.specs.Crc64 as spec
use Rattle.ls_sums.proofs.BitLemmas.{after_bits-suc, after_bits-zero}
use Rattle.ls_sums.proofs.plain.after_byte.Goals as goal

pub loop-preserved : goal.loop-preserved
loop-preserved c =
    let left = 8 - (c.loop.counter + 1) in
    let e : 8 - c.loop.counter ≡ suc left = omega arith in
    ap (spec.after_bits left) c.after_bit-after.ensures
    ∙ sym (ap (λ (n : ℕ). spec.after_bits n c.loop.after) e ∙ after_bits-suc left c.loop.after) ∙ c.loop.invariant

pub returns : goal.returns
returns c =
    let e : 8 - c.loop.counter ≡ 0 = omega arith in
    sym (ap (λ (n : ℕ). spec.after_bits n c.loop.after) e ∙ after_bits-zero c.loop.after) ∙ c.loop.invariant
