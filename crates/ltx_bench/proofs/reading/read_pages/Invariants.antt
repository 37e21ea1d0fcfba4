use Rattle.std.proofs.Common.{◌≡◌, length}
use Rattle.ltx_bench.proofs.reading.read_pages.Given as goal

abbrev pub invariant-loop : goal.invariant-loop
invariant-loop g l = length l.page ≡ l.reader.header.size
