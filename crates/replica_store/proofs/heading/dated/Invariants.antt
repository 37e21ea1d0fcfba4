use Rattle.std.proofs.Common.{◌≡◌, ◌*◌, ◌≤◌, take}
use Rattle.crash_disk.specs.Files.{files_after}
use Rattle.crash_disk.specs.Told.{IfTold}
use Rattle.replica_store.specs.Chain.{names_of}
use Rattle.replica_store.specs.Dating.{AreDatedTo}
use Rattle.replica_store.specs.Given.{GaveAtMost}
use Rattle.replica_store.proofs.heading.dated.Given as goal

abbrev pub invariant-loop-name : goal.invariant-loop-name
invariant-loop-name g l = record {
  unchanged : g.S.Disk.told l.store ≡ g.S.Disk.told l.initial.store;
  same_folder : g.S.Disk.folder l.store ≡ g.S.Disk.folder l.initial.store;
  gave : GaveAtMost (l.name-index * 100) (g.S.Disk.given l.initial.store) (g.S.Disk.given l.store);
  later : g.S.Disk.fault_count l.initial.store ≤ g.S.Disk.fault_count l.store;
  names : names_of l.list ≡ take l.name-index l.names;
  dated : IfTold (g.S.Disk.told l.initial.store)
      (λ events. AreDatedTo (files_after events) l.names l.name-index l.list);
}
