use Rattle.std.proofs.Common.{◌≡◌, ◌≤◌, ◌+◌, length}
use Rattle.crash_disk.specs.Files.{files_after}
use Rattle.crash_disk.specs.Told.{IfTold}
use Rattle.page_cursors.specs.Costs.{AreCounted, Takes, left_of_all}
use Rattle.page_cursors.specs.Cursors.{HaveShape, SamePlan, EndWith}
use Rattle.page_cursors.specs.Opening.{HaveBegun}
use Rattle.page_cursors.specs.Queue.{AreFresh}
use Rattle.page_cursors.proofs.StartLemmas.{HaveStarted, AboveLast}
use Rattle.page_cursors.proofs.cursors.Cursors.start.Given as goal

abbrev pub invariant-loop-place : goal.invariant-loop-place
invariant-loop-place g l = record {
  shape : HaveShape l.self;
  end : length l.self.cursors.items ≡ l.place-end;
  room : length l.self.cursors.items ≤ l.self.waiting.room + l.place;
  above : AboveLast l.self;
  last : l.self.last ≡ 0;
  ends : EndWith l.fn.self → EndWith l.self;
  fresh : AreFresh l.place l.self.waiting.numbers;
  same : SamePlan l.fn.self l.self;
  started : IfTold (g.S.Disk.told l.fn.store) (λ events. HaveBegun
      (files_after events) l.fn.self.size 0 l.fn.self.cursors.items → HaveStarted (files_after events) l.place l.self);
  costs : IfTold (g.S.Disk.told l.fn.store) (λ events. AreCounted (files_after events) l.fn.self.cursors.items
      → AreCounted (files_after events) l.self.cursors.items
      × Takes (left_of_all (files_after events) l.fn.self.cursors.items)
      (left_of_all (files_after events) l.self.cursors.items) l.fn.steps l.steps (g.S.Disk.given l.fn.store)
      (g.S.Disk.given l.store));
  unchanged : g.S.Disk.told l.store ≡ g.S.Disk.told l.fn.store;
  same_folder : g.S.Disk.folder l.store ≡ g.S.Disk.folder l.fn.store;
  later : g.S.Disk.fault_count l.fn.store ≤ g.S.Disk.fault_count l.store;
}
