use Rattle.std.proofs.Common.{◌≡◌, ◌∙◌, ◌++◌, Bool, false, length, take, ap, sym, arith}
use Rattle.std.specs.Prelude.{replicate}
use Rattle.std.specs.FinMap.{keys}
use Rattle.std.proofs.Math.Seq.{take-length}
use Rattle.byteorder.specs.Endian.{big_bytes}
use Rattle.ltx_format.specs.LtxFormat.{index_part, header_bytes, page_blocks}
use Rattle.ltx_format.specs.Writing.{Written}
use Rattle.ltx_format.proofs.WrittenLemmas.{has_ended}
use Rattle.ltx_format.proofs.writer.LtxWriter.finish.Goals as goal

pub returns : goal.returns
returns c = record {
  file = λ pages has whole.
      let w = c.args.self in
      let end = c.put_u64.new.into in
      let index : w.header.index ≡ false =
      sym (ap (λ (w : Written). w.header.index) c.self.view_is) ∙ c.self.invariant in
      let check : c.self.inside.draft.check ≡ w.check = ap (λ (w : Written). w.check) c.self.view_is in
      let len : length end ≡ 22 = omega arith in
      let all : take 22 end ≡ end = rw (← len) (take-length end) in
      let before = header_bytes w.header ++ page_blocks pages in
      let no_index : replicate 6 0 ++ index_part w.header.index (keys pages) ++ replicate 8 0 ≡ replicate 14 0 =
      ap (λ (b : Bool). replicate 6 0 ++ index_part b (keys pages) ++ replicate 8 0) index in
      let is_end : replicate 14 0 ++ big_bytes 8 c.sum_before-sum.result ≡ end = sym c.put_u64.ensures ∙ all in
      let is_sum = ap (big_bytes 8) (c.sum_before-sum.ensures before (check ∙ has.check)) in
      rw (← is_end)
      (has_ended w pages has whole (replicate 14 0) (big_bytes 8 c.sum_before-sum.result) no_index is_sum);
}
