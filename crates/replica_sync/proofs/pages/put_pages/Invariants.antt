use Rattle.std.proofs.Common.{◌≡◌, ◌<◌, ◌≤◌, ℕ, false, length}
use Rattle.crash_disk.specs.Told.{Keeps as KeepsFolder}
use Rattle.live_gate.specs.LiveCalls.{Keeps}
use Rattle.live_gate.specs.LiveRecord.{GoesOn, IfTold}
use Rattle.wal_follow.specs.Following.{Fits}
use Rattle.replica_sync.specs.Pages.{number_at, count_of}
use Rattle.replica_sync.specs.PageFile.{PutsPages}
use Rattle.replica_sync.specs.Reading.{MovesOn}
use Rattle.replica_sync.proofs.pages.put_pages.Given as goal

abbrev pub invariant-loop-at : goal.invariant-loop-at
invariant-loop-at g l = record {
  path : l.file.put ≡ l.fn.file.put;
  header : l.file.writer.header ≡ l.fn.file.writer.header;
  sized : length l.page ≡ l.found.size;
  below : (k : ℕ) → l.at ≤ k → k < count_of l.found → l.file.writer.last < number_at l.found k;
  moves : GoesOn (g.L.Live.told l.fn.live) (g.L.Live.told l.live) MovesOn;
  fits : IfTold (g.L.Live.told l.live) (λ r. Fits l.follower r.database);
  awake : IfTold (g.L.Live.told l.live) (λ r. r.database.stopped ≡ false);
  puts : PutsPages l.found l.at l.fn.file l.file (g.S.Disk.told l.fn.store) (g.S.Disk.told l.store)
      (g.L.Live.told l.fn.live) (g.L.Live.told l.live);
  keeps : Keeps (g.L.Live.attached l.fn.live) (g.L.Live.attached l.live) (g.L.Live.is_there l.fn.live)
      (g.L.Live.is_there l.live);
  folder : KeepsFolder (g.S.Disk.folder l.fn.store) (g.S.Disk.folder l.store) (g.S.Disk.given l.fn.store)
      (g.S.Disk.given l.store);
  live_later : g.L.Live.fault_count l.fn.live ≤ g.L.Live.fault_count l.live;
  store_later : g.S.Disk.fault_count l.fn.store ≤ g.S.Disk.fault_count l.store;
}
