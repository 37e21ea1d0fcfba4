use Rattle.std.proofs.Common.{◌≤◌}
use Rattle.live_gate.specs.LiveRecord.{GoesOn}
use Rattle.live_gate.specs.LiveCalls.{Keeps}
use Rattle.snapshot_read.proofs.RestLemmas.{HasSummed}
use Rattle.snapshot_read.proofs.rest.rest_place.Given as goal

abbrev pub invariant-loop-before : goal.invariant-loop-before
invariant-loop-before g l = record {
  told : GoesOn (g.L.Live.told l.fn.live) (g.L.Live.told l.live) (HasSummed l.size l.before l.sum);
  keeps : Keeps (g.L.Live.attached l.fn.live) (g.L.Live.attached l.live) (g.L.Live.is_there l.fn.live)
      (g.L.Live.is_there l.live);
  later : g.L.Live.fault_count l.fn.live ≤ g.L.Live.fault_count l.live;
}
