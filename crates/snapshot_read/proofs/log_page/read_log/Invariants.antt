use Rattle.std.proofs.Common.{length, take, ◌-◌, ◌≤◌}
use Rattle.live_gate.specs.LiveRecord.{GoesOn}
use Rattle.live_gate.specs.LiveCalls.{Keeps}
use Rattle.snapshot_read.proofs.ReadLemmas.{IsReading}
use Rattle.snapshot_read.proofs.log_page.read_log.Given as goal

abbrev pub invariant-loop-filled : goal.invariant-loop-filled
invariant-loop-filled g l = record {
  fits : l.filled ≤ length l.into;
  told : GoesOn (g.L.Live.told l.fn.live) (g.L.Live.told l.live)
      (IsReading l.at (length l.fn.into) (take l.filled l.into));
  keeps : Keeps (g.L.Live.attached l.fn.live) (g.L.Live.attached l.live) (g.L.Live.is_there l.fn.live)
      (g.L.Live.is_there l.live);
  later : g.L.Live.fault_count l.fn.live ≤ g.L.Live.fault_count l.live;
}

abbrev pub decreases-loop-filled : goal.decreases-loop-filled
decreases-loop-filled g l = length l.initial.into - l.filled
