use Rattle.std.proofs.Common.{◌≡◌, ◌-◌, ◌≤◌, length, take, drop}
use Rattle.ltx_reader.specs.Reader.{OfBytes, AreBytes}
use Rattle.ltx_reader.specs.ReaderGiven.{GivesAtMost}
use Rattle.ltx_reader.proofs.filling.fill.Given as goal

abbrev pub invariant-loop-done : goal.invariant-loop-done
invariant-loop-done g l = record {
  are_bytes : AreBytes l.into;
  within : l.done ≤ length l.into;
  unchanged : g.D.Disk.told l.disk ≡ g.D.Disk.told l.initial.disk;
  same_folder : g.D.Disk.folder l.disk ≡ g.D.Disk.folder l.initial.disk;
  later : g.D.Disk.fault_count l.initial.disk ≤ g.D.Disk.fault_count l.disk;
  gave : GivesAtMost l.done (g.D.Disk.given l.initial.disk) (g.D.Disk.given l.disk);
  there : OfBytes (g.D.Disk.told l.initial.disk) l.name (λ bytes. l.done ≤ length bytes - l.at);
  filled : OfBytes (g.D.Disk.told l.initial.disk) l.name (λ bytes. take l.done l.into ≡ take l.done (drop l.at bytes));
}

abbrev pub decreases-loop-done : goal.decreases-loop-done
decreases-loop-done g l = length l.initial.into - l.done
