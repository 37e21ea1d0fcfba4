use Rattle.crash_disk.proofs.FileLaws.{IsThere-Placed}
use Rattle.disk_tests.proofs.faults.passes.Goals as goal

pub make-requires : goal.make-requires
make-requires c = record { there = rw c.in_ok-put_file.ensures.ok (IsThere-Placed _ _ _) }
