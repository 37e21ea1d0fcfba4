use Rattle.std.proofs.Common.{◌≡◌, ◌+◌, ◌-◌, ◌≤◌, length, take}
use Rattle.crash_disk.specs.Told.{IfTold}
use Rattle.wal_frames.specs.Scanned.{HasTaken}
use Rattle.checkpointer.specs.PairState.{bytes_at}
use Rattle.checkpointer.proofs.reading.scan_on.Given as goal

abbrev pub invariant-loop-at : goal.invariant-loop-at
invariant-loop-at g l = record {
  stands : l.scan.taken + 32 ≡ l.at;
  value : IfTold (g.D.Disk.told l.fn.disk)
      (λ events. l.from ≤ l.end → l.end ≤ length (bytes_at events l.wal)
      → HasTaken l.fn.scan (take l.from (bytes_at events l.wal))
      → (l.at ≤ l.end) × HasTaken l.scan (take l.at (bytes_at events l.wal)));
  head : l.scan.head ≡ l.fn.scan.head;
  unchanged : g.D.Disk.told l.disk ≡ g.D.Disk.told l.fn.disk;
  same_folder : g.D.Disk.folder l.disk ≡ g.D.Disk.folder l.fn.disk;
  later : g.D.Disk.fault_count l.fn.disk ≤ g.D.Disk.fault_count l.disk;
}

abbrev pub decreases-loop-at : goal.decreases-loop-at
decreases-loop-at g l = l.end - l.at
