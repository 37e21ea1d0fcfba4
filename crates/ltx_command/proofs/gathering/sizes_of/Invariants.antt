use Rattle.std.proofs.Common.{◌≡◌, ◌≤◌, length}
use Rattle.crash_disk.specs.Files.{files_after}
use Rattle.crash_disk.specs.Told.{IfTold}
use Rattle.ltx_command.proofs.SizeLemmas.{sizes_to}
use Rattle.ltx_command.proofs.gathering.sizes_of.Given as goal

abbrev pub invariant-loop-one : goal.invariant-loop-one
invariant-loop-one g l = record {
  unchanged : g.S.Disk.told l.store ≡ g.S.Disk.told l.initial.store;
  same_folder : g.S.Disk.folder l.store ≡ g.S.Disk.folder l.initial.store;
  later : g.S.Disk.fault_count l.initial.store ≤ g.S.Disk.fault_count l.store;
  each : length l.sizes.items ≡ l.one-index;
  sizes : IfTold (g.S.Disk.told l.initial.store)
      (λ events. l.sizes.items ≡ sizes_to (files_after events) l.dated l.one-index);
}
