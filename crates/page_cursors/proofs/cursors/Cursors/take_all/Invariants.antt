use Rattle.std.proofs.Common.{◌≡◌, ◌≤◌, length}
use Rattle.crash_disk.specs.Files.{files_after}
use Rattle.crash_disk.specs.Told.{IfTold}
use Rattle.page_cursors.specs.Costs.{AreCounted, Takes, left_of_all}
use Rattle.page_cursors.proofs.NextLemmas.{IsTakingAll}
use Rattle.page_cursors.proofs.cursors.Cursors.take_all.Given as goal

abbrev pub invariant-loop : goal.invariant-loop
invariant-loop g l = record {
  on : IsTakingAll (g.S.Disk.told l.fn.store) l.fn.self l.self l.number l.counter;
  count : length l.self.cursors.items ≡ l.end;
  costs : IfTold (g.S.Disk.told l.fn.store) (λ events. AreCounted (files_after events) l.fn.self.cursors.items
      → AreCounted (files_after events) l.self.cursors.items
      × Takes (left_of_all (files_after events) l.fn.self.cursors.items)
      (left_of_all (files_after events) l.self.cursors.items) l.fn.steps l.steps (g.S.Disk.given l.fn.store)
      (g.S.Disk.given l.store));
  unchanged : g.S.Disk.told l.store ≡ g.S.Disk.told l.fn.store;
  same_folder : g.S.Disk.folder l.store ≡ g.S.Disk.folder l.fn.store;
  later : g.S.Disk.fault_count l.fn.store ≤ g.S.Disk.fault_count l.store;
}
