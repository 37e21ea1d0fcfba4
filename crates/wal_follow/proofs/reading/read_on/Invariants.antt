use Rattle.std.proofs.Common.{◌≡◌, ◌≤◌, ◌<◌, ◌+◌, length}
use Rattle.live_gate.specs.LiveRecord.{GoesOn}
use Rattle.live_gate.specs.LiveCalls.{Keeps}
use Rattle.wal_follow.specs.Gathering.{KeepsBase}
use Rattle.wal_follow.proofs.ReadLemmas.{IsReadOn}
use Rattle.wal_follow.proofs.reading.read_on.Given as goal

abbrev pub invariant-loop-left : goal.invariant-loop-left
invariant-loop-left g l = record {
  told : GoesOn (g.L.Live.told l.fn.live) (g.L.Live.told l.live) (IsReadOn l.fn.left l.left l.fn.gathering l.gathering);
  few : l.left ≤ l.fn.left;
  taken : l.gathering.scan.taken + l.left ≡ l.fn.gathering.scan.taken + l.fn.left;
  base : KeepsBase l.fn.gathering l.gathering;
  room : 0 < length l.buffer;
  keeps : Keeps (g.L.Live.attached l.fn.live) (g.L.Live.attached l.live) (g.L.Live.is_there l.fn.live)
      (g.L.Live.is_there l.live);
  later : g.L.Live.fault_count l.fn.live ≤ g.L.Live.fault_count l.live;
}

abbrev pub decreases-loop-left : goal.decreases-loop-left
decreases-loop-left g l = l.left
