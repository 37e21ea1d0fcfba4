use Rattle.std.proofs.Common.{◌≡◌, ℕ, ◌-◌, ◌^◌, ◌≤◌}
use Rattle.crash_disk.specs.Told.{Told}
use Rattle.page_cursors.specs.Cursors.{AreReady, SamePlan}
use Rattle.compact_levels.specs.Drafting.{BeginsCopying, IsBeingPut, IsCopyingSome, IsSameFile}
use Rattle.compact_levels.proofs.merging.copy_pages.Given as goal

abbrev pub invariant-loop-number : goal.invariant-loop-number
invariant-loop-number g l = record {
  ready : AreReady l.cursors;
  plan : SamePlan l.fn.cursors l.cursors;
  being_put : IsBeingPut l.draft.put (g.S.Disk.told l.store);
  rises : l.draft.writer.written.last ≤ l.cursors.last;
  same : IsSameFile l.fn.draft l.draft;
  copying : (begun : Told) → BeginsCopying begun (g.S.Disk.told l.fn.store) l.fn.cursors l.fn.draft
      → IsCopyingSome begun (g.S.Disk.told l.store) l.cursors l.draft;
  same_folder : g.S.Disk.folder l.store ≡ g.S.Disk.folder l.fn.store;
  later : g.S.Disk.fault_count l.fn.store ≤ g.S.Disk.fault_count l.store;
}

abbrev pub decreases-loop-number : goal.decreases-loop-number
decreases-loop-number g l = 2 ^ 32 - l.cursors.last
