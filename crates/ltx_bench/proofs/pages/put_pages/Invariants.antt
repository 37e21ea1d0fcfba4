use Rattle.std.proofs.Common.{◌≡◌}
use Rattle.ltx_bench.proofs.pages.put_pages.Given as goal

abbrev pub invariant-loop-page : goal.invariant-loop-page
invariant-loop-page l = (l.writer.header ≡ l.header) × (l.writer.last ≡ l.number)
