use Rattle.std.proofs.Common.{◌≡◌, take}
use Rattle.sim_writer.proofs.history.copied_entry.Given as goal

abbrev pub invariant-loop-at : goal.invariant-loop-at
invariant-loop-at l = l.pages ≡ take l.at l.entry.pages
