use Rattle.std.proofs.Common.{◌≡◌, ◌-◌, length}
use Rattle.std.specs.FinMap.{entries}
use Rattle.ltx_format.specs.Reading.{blocks_at}
use Rattle.ltx_format.proofs.BlockLoop.{with_front, AreUpTo}
use Rattle.ltx_format.proofs.block.pages_of.Given as goal

abbrev pub invariant-loop-count : goal.invariant-loop-count
invariant-loop-count l = record {
  so_far : with_front (entries l.pages) (blocks_at (l.header.commit - l.count) l.header.size l.header.commit l.last
      l.rest) ≡ blocks_at l.header.commit l.header.size l.header.commit 0 l.bytes;
  counted : l.count ≡ length (entries l.pages);
  up_to : AreUpTo l.last (entries l.pages);
}
