use Rattle.std.proofs.Common.{◌≡◌, ◌≤◌, length}
use Rattle.crash_disk.specs.GoesOn.{GoesOn}
use Rattle.checkpointer.proofs.WritesLemmas.{CopiesSome, AreRest}
use Rattle.checkpointer.proofs.copying.copy_pages.Given as goal

abbrev pub invariant-loop-number : goal.invariant-loop-number
invariant-loop-number g l = record {
  value : GoesOn (g.D.Disk.told l.fn.disk) (g.D.Disk.told l.disk)
      (CopiesSome l.db l.wal l.size l.commit l.pages l.number-iterator);
  rest : AreRest l.pages l.number-iterator;
  long : length l.page ≡ l.size;
  same_folder : g.D.Disk.folder l.disk ≡ g.D.Disk.folder l.fn.disk;
  later : g.D.Disk.fault_count l.fn.disk ≤ g.D.Disk.fault_count l.disk;
}
