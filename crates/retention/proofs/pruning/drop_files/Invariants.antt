use Rattle.std.proofs.Common.{◌≤◌}
use Rattle.crash_disk.specs.GoesOn.{GoesOn}
use Rattle.crash_disk.specs.Told.{Keeps}
use Rattle.retention.specs.Pruning.{HasDroppedTo}
use Rattle.retention.proofs.pruning.drop_files.Given as goal

abbrev pub invariant-loop-i : goal.invariant-loop-i
invariant-loop-i g l = record {
  dropped : GoesOn (g.S.Disk.told l.initial.store) (g.S.Disk.told l.store) (HasDroppedTo l.names l.i);
  keeps : Keeps
      (g.S.Disk.folder l.initial.store) (g.S.Disk.folder l.store)
      (g.S.Disk.given l.initial.store) (g.S.Disk.given l.store);
  later : g.S.Disk.fault_count l.initial.store ≤ g.S.Disk.fault_count l.store;
}
