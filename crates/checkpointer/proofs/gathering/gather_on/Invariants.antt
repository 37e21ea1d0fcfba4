use Rattle.std.proofs.Common.{◌≡◌, ◌+◌, ◌-◌, ◌≤◌, length, take}
use Rattle.crash_disk.specs.Told.{IfTold}
use Rattle.checkpointer.specs.PairState.{bytes_at}
use Rattle.checkpointer.specs.Gathering.{HasGathered}
use Rattle.checkpointer.proofs.gathering.gather_on.Given as goal

abbrev pub invariant-loop-at : goal.invariant-loop-at
invariant-loop-at g l = record {
  stands : l.scan.taken + 32 ≡ l.at;
  within : l.at ≤ l.end;
  value : IfTold (g.D.Disk.told l.fn.disk)
      (λ events. l.end ≤ length (bytes_at events l.wal) → HasGathered (take 32 (bytes_at events l.wal)) l.fn.scan
      l.fn.pages
      → HasGathered (take l.at (bytes_at events l.wal)) l.scan l.pages);
  head : l.scan.head ≡ l.fn.scan.head;
  unchanged : g.D.Disk.told l.disk ≡ g.D.Disk.told l.fn.disk;
  same_folder : g.D.Disk.folder l.disk ≡ g.D.Disk.folder l.fn.disk;
  later : g.D.Disk.fault_count l.fn.disk ≤ g.D.Disk.fault_count l.disk;
}

abbrev pub decreases-loop-at : goal.decreases-loop-at
decreases-loop-at g l = l.end - l.at
