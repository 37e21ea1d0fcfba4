use Rattle.std.proofs.Common.{◌≡◌, ◌≤◌, ◌-◌, ◌^◌, List, ℕ}
use Rattle.crash_disk.specs.Files.{IsThere, files_after}
use Rattle.crash_disk.specs.GoesOn.{GoesOn}
use Rattle.crash_disk.specs.Told.{IfTold}
use Rattle.page_cursors.specs.Costs.{AreCounted, Takes, left_of_all}
use Rattle.page_cursors.specs.Cursors.{AreReady}
use Rattle.restore_apply.specs.Staging.{AppendsGathered}
use Rattle.restore_apply.proofs.PutLemmas.{ArePut}
use Rattle.restore_apply.proofs.pages.put_pages.Given as goal

abbrev pub invariant-loop-target : goal.invariant-loop-target
invariant-loop-target g l = record {
  put : List ℕ;
  puts : GoesOn (g.T.Disk.told l.fn.target) (g.T.Disk.told l.target) (AppendsGathered l.name l.fn.gathered put
      l.gathered);
  are : ArePut (g.S.Disk.told l.fn.store) l.fn.cursors l.cursors l.last put;
  costs : IfTold (g.S.Disk.told l.fn.store) (λ events. AreCounted (files_after events) l.fn.cursors.cursors.items
      → AreCounted (files_after events) l.cursors.cursors.items
      × Takes (left_of_all (files_after events) l.fn.cursors.cursors.items)
      (left_of_all (files_after events) l.cursors.cursors.items) l.fn.steps l.steps (g.S.Disk.given l.fn.store)
      (g.S.Disk.given l.store));
  ready : AreReady l.cursors;
  there : IfTold (g.T.Disk.told l.target) (λ events. IsThere events l.name);
  unchanged : g.S.Disk.told l.store ≡ g.S.Disk.told l.fn.store;
  same_folder : g.S.Disk.folder l.store ≡ g.S.Disk.folder l.fn.store;
  same_target_folder : g.T.Disk.folder l.target ≡ g.T.Disk.folder l.fn.target;
  store_later : g.S.Disk.fault_count l.fn.store ≤ g.S.Disk.fault_count l.store;
  target_later : g.T.Disk.fault_count l.fn.target ≤ g.T.Disk.fault_count l.target;
}

abbrev pub decreases-loop-target : goal.decreases-loop-target
decreases-loop-target g l = 2 ^ 32 - l.cursors.last
