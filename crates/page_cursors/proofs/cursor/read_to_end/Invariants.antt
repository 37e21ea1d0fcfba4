use Rattle.std.proofs.Common.{◌≡◌, ◌≤◌, length}
use Rattle.crash_disk.specs.Files.{files_after}
use Rattle.crash_disk.specs.Told.{IfTold}
use Rattle.replica_store.specs.declared.file_name.FileName.{FileName}
use Rattle.page_cursors.specs.Cursor.{ReadsFile, bytes_of}
use Rattle.page_cursors.specs.Costs.{IsCounted, Takes, cost_left}
use Rattle.page_cursors.proofs.EndLemmas.{ReadsOn}
use Rattle.page_cursors.proofs.cursor.read_to_end.Given as goal

abbrev pub invariant-loop : goal.invariant-loop
invariant-loop g l = record {
  on : IfTold (g.S.Disk.told l.fn.store) (λ events. (name : FileName)
      → ReadsFile (files_after events) name l.fn.reader
      → ReadsOn (bytes_of (files_after events) name) l.counter l.reader);
  costs : IfTold (g.S.Disk.told l.fn.store) (λ events. (name : FileName)
      → IsCounted (files_after events) name l.fn.reader → IsCounted (files_after events) name l.reader
      × Takes (cost_left (bytes_of (files_after events) name) l.fn.reader)
      (cost_left (bytes_of (files_after events) name) l.reader) l.fn.steps l.steps
      (g.S.Disk.given l.fn.store) (g.S.Disk.given l.store));
  name : l.reader.name ≡ l.fn.reader.name;
  header : l.reader.header ≡ l.fn.reader.header;
  sized : length l.page ≡ l.fn.reader.header.size;
  unchanged : g.S.Disk.told l.store ≡ g.S.Disk.told l.fn.store;
  same_folder : g.S.Disk.folder l.store ≡ g.S.Disk.folder l.fn.store;
  later : g.S.Disk.fault_count l.fn.store ≤ g.S.Disk.fault_count l.store;
}
