use Rattle.crash_disk.proofs.FileLaws.{IsThere-Placed, IsThere-Appended}
use Rattle.disk_tests.proofs.crashes.left_of_appended.Goals as goal

pub append-requires : goal.append-requires
append-requires c = record { there = rw c.in_ok-put_file.ensures.ok (IsThere-Placed _ _ _) }

pub append-requires-2 : goal.append-requires-2
append-requires-2 c = record {
  there = rw (c.in_ok-append.ensures.ok, c.in_ok-put_file.ensures.ok)
      (IsThere-Appended _ _ _ (IsThere-Placed _ _ _));
}
