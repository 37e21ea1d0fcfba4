use Rattle.std.proofs.Common.{◌≡◌}
use Rattle.ltx_format.proofs.writer_tests.written.Given as goal

abbrev pub invariant-loop-number : goal.invariant-loop-number
invariant-loop-number l = (l.writer.header ≡ l.header) × (l.writer.last ≡ l.last)
