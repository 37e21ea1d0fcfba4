use Rattle.std.proofs.Common.{◌≡◌, ◌∙◌, length, take, sym, refl, arith}
use Rattle.std.proofs.Math.Seq.{take-length}
use Rattle.ltx_format.specs.LtxFormat.{header_bytes}
use Rattle.ltx_format.proofs.writing_header.write_header.Goals as goal

pub returns : goal.returns
unfolding header_bytes
returns c =
    let written = c.put-3.new.into in
    let len : length written ≡ 100 = omega arith in
    let all : take 100 written ≡ written = rw (← len) (take-length written) in
    sym all ∙ rw (
      c.put-3.ensures,
      c.put_sums.ensures,
      c.put-2.ensures,
      c.put_log.ensures,
      c.put.ensures,
      c.put_u64-3.ensures,
      c.put_u64-2.ensures,
      c.put_u64.ensures,
      c.put_u32-4.ensures,
      c.put_u32-3.ensures,
      c.put_u32-2.ensures,
      c.put_u32.ensures,
      c.flags_of.ensures,
      c.number.ensures.value,
      c.number-2.ensures.value,
      c.get.ensures.value,
    ) refl
