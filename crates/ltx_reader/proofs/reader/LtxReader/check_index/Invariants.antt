use Rattle.std.proofs.Common.{◌≡◌, ◌*◌, ◌≤◌}
use Rattle.ltx_format.specs.LtxFormat.{HasHeader}
use Rattle.ltx_reader.specs.Reader.{OfBytes, IsSummed}
use Rattle.ltx_reader.specs.ReaderGiven.{GivesAtMost}
use Rattle.ltx_reader.proofs.ReaderIndexLemmas.{IndexUpTo}
use Rattle.ltx_reader.proofs.reader.LtxReader.check_index.Given as goal

abbrev pub invariant-loop-place : goal.invariant-loop-place
invariant-loop-place g l = record {
  unchanged : g.D.Disk.told l.disk ≡ g.D.Disk.told l.initial.disk;
  same_folder : g.D.Disk.folder l.disk ≡ g.D.Disk.folder l.initial.disk;
  later : g.D.Disk.fault_count l.initial.disk ≤ g.D.Disk.fault_count l.disk;
  gave : GivesAtMost (8 * l.place) (g.D.Disk.given l.initial.disk) (g.D.Disk.given l.disk);
  up_to : OfBytes (g.D.Disk.told l.initial.disk) l.self.name (λ bytes. HasHeader bytes l.self.header
      → IsSummed bytes l.at l.initial.sum → IndexUpTo bytes l.self.count l.at l.place l.sum);
}
