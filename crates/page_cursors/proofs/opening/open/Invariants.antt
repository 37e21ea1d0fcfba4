use Rattle.std.proofs.Common.{◌≡◌, ◌≤◌, ◌*◌, length, take, drop}
use Rattle.ltx_reader.specs.ReaderGiven.{GivesAtMost}
use Rattle.page_cursors.specs.Costs.{AreCounted, Takes, both, left_of_all, plan_cost}
use Rattle.crash_disk.specs.Files.{files_after}
use Rattle.crash_disk.specs.Told.{IfTold}
use Rattle.page_cursors.specs.Opening.{names_of}
use Rattle.page_cursors.proofs.OpenLemmas.{AreOpenedTo, FitsSize}
use Rattle.page_cursors.proofs.opening.open.Given as goal

abbrev pub invariant-loop-name : goal.invariant-loop-name
invariant-loop-name g l = record {
  opened : IfTold (g.S.Disk.told l.fn.store) (λ events. AreOpenedTo (files_after events)
      (take l.name-index l.plan) l.size l.pages l.cursors.items);
  costs : IfTold (g.S.Disk.told l.fn.store) (λ events. AreCounted (files_after events) l.cursors.items
      × Takes (plan_cost (files_after events) l.plan) (both (left_of_all (files_after events) l.cursors.items)
      (plan_cost (files_after events) (drop l.name-index l.plan))) 0 0 (g.S.Disk.given l.fn.store)
      (g.S.Disk.given l.store));
  within : l.name-index ≤ length l.plan;
  gave : GivesAtMost (100 * l.name-index) (g.S.Disk.given l.fn.store) (g.S.Disk.given l.store);
  names : names_of l.cursors.items ≡ take l.name-index l.plan;
  sized : FitsSize l.size l.cursors.items;
  count : length l.cursors.items ≡ l.name-index;
  unchanged : g.S.Disk.told l.store ≡ g.S.Disk.told l.fn.store;
  same_folder : g.S.Disk.folder l.store ≡ g.S.Disk.folder l.fn.store;
  later : g.S.Disk.fault_count l.fn.store ≤ g.S.Disk.fault_count l.store;
}
