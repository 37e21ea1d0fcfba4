use Rattle.std.proofs.Common.{◌≡◌}
use Rattle.ltx_bench.proofs.writing.write_file.Given as goal

abbrev pub invariant-loop-turn : goal.invariant-loop-turn
invariant-loop-turn l = (l.writer.header ≡ l.header) × (l.writer.last ≡ l.last)
