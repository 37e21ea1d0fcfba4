use Rattle.std.proofs.Common.{◌≡◌, ◌*◌, ◌≤◌}
use Rattle.ltx_reader.specs.Reader.{OfBytes}
use Rattle.ltx_reader.specs.ReaderGiven.{GivesAtMost}
use Rattle.ltx_reader.proofs.ReaderNumbersLemmas.{ListedTo, NumbersTo}
use Rattle.ltx_reader.proofs.index.numbers_of.Given as goal

abbrev pub invariant-loop-place : goal.invariant-loop-place
invariant-loop-place g l = record {
  unchanged : g.D.Disk.told l.disk ≡ g.D.Disk.told l.initial.disk;
  same_folder : g.D.Disk.folder l.disk ≡ g.D.Disk.folder l.initial.disk;
  later : g.D.Disk.fault_count l.initial.disk ≤ g.D.Disk.fault_count l.disk;
  gave : GivesAtMost (4 * l.place) (g.D.Disk.given l.initial.disk) (g.D.Disk.given l.disk);
  listed : ListedTo l.header l.last l.numbers;
  numbers : OfBytes (g.D.Disk.told l.initial.disk) l.name
      (λ bytes. NumbersTo bytes l.header l.count l.start l.place l.last l.numbers);
}
