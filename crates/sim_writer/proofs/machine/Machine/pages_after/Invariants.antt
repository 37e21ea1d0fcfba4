use Rattle.std.proofs.Common.{◌≡◌, map}
use Rattle.std.specs.List.{range_with_len}
use Rattle.wal_frames.specs.ValidPrefix.{valid_frames}
use Rattle.sim_writer.specs.Commits.{page_after}
use Rattle.sim_writer.proofs.machine.Machine.pages_after.Given as goal

abbrev pub invariant-loop-before : goal.invariant-loop-before
invariant-loop-before l =
    l.made ≡ map (page_after l.self.head l.self.file (valid_frames l.self.committed) l.pages) (range_with_len 1
    l.before)
