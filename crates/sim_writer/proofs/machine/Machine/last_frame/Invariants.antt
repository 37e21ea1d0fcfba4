use Rattle.std.proofs.Common.{◌≡◌, ◌+◌, ◌≤◌, length, drop, None}
use Rattle.wal_frames.specs.ValidPrefix.{valid_frames}
use Rattle.wal_frames.specs.View.{frames_page}
use Rattle.sim_writer.proofs.machine.Machine.last_frame.Given as goal

abbrev pub invariant-loop-left : goal.invariant-loop-left
invariant-loop-left l = record {
  length_is : l.length ≡ 24 + l.self.head.size;
  log_is : l.log ≡ l.self.committed;
  within : l.left ≤ length (valid_frames l.self.committed);
  none : frames_page l.number (drop l.left (valid_frames l.self.committed)) ≡ None;
}

abbrev pub decreases-loop-left : goal.decreases-loop-left
decreases-loop-left l = l.left
