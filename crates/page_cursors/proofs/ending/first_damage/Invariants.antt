use Rattle.std.proofs.Common.{◌≡◌, ◌≤◌, length, drop}
use Rattle.page_cursors.specs.Costs.{AreCounted, Takes, left_of_all}
use Rattle.crash_disk.specs.Files.{files_after}
use Rattle.crash_disk.specs.Told.{IfTold}
use Rattle.page_cursors.specs.Cursor.{HaveSize}
use Rattle.page_cursors.proofs.DamageLemmas.{AreWholeTo}
use Rattle.page_cursors.proofs.ending.first_damage.Given as goal

abbrev pub invariant-loop-place : goal.invariant-loop-place
invariant-loop-place g l = record {
  whole : IfTold (g.S.Disk.told l.fn.store) (λ events. AreWholeTo (files_after events) l.place l.fn.cursors l.cursors);
  costs : IfTold (g.S.Disk.told l.fn.store) (λ events. AreCounted (files_after events) l.fn.cursors
      → AreCounted (files_after events) (drop l.place l.cursors)
      × Takes (left_of_all (files_after events) l.fn.cursors)
      (left_of_all (files_after events) (drop l.place l.cursors))
      l.fn.steps l.steps (g.S.Disk.given l.fn.store) (g.S.Disk.given l.store));
  sized : HaveSize (length l.fn.page) l.cursors;
  room : length l.page ≡ length l.fn.page;
  unchanged : g.S.Disk.told l.store ≡ g.S.Disk.told l.fn.store;
  same_folder : g.S.Disk.folder l.store ≡ g.S.Disk.folder l.fn.store;
  later : g.S.Disk.fault_count l.fn.store ≤ g.S.Disk.fault_count l.store;
}
