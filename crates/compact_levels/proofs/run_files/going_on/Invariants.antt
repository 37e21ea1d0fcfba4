use Rattle.compact_levels.proofs.RunFileLemmas.{HaveGoneOn}
use Rattle.compact_levels.proofs.run_files.going_on.Given as goal

abbrev pub invariant-loop-at : goal.invariant-loop-at
invariant-loop-at l = HaveGoneOn l.level l.fn.end l.names l.at l.end
