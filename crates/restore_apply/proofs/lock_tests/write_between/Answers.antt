use Rattle.crash_disk.proofs.GoesOnLemmas.{goes_on-weaker}
use Rattle.restore_apply.specs.Staging.{OnlyAppends}
use Rattle.restore_apply.proofs.StagingLemmas.{only_appends, still_there, there_once_created}
use Rattle.restore_apply.proofs.lock_tests.write_between.Goals as goal

pub put_lock_page-requires : goal.put_lock_page-requires
put_lock_page-requires g c = record {
  there = there_once_created (g.D.Disk.told c.args.disk.now) (g.D.Disk.told c.create.new.self) c.args.name.now
      c.in_ok-create.ensures.ok;
}

pub flush-requires : goal.flush-requires
flush-requires g c =
    let made = g.D.Disk.told c.create.new.self in
    let put = g.D.Disk.told c.put_lock_page.new.disk in
    let name = c.args.name.now in
    record {
      there = still_there made put name
          (goes_on-weaker made put _ (OnlyAppends name) c.in_ok-put_lock_page.ensures.ok (only_appends name _ _ _))
          (there_once_created (g.D.Disk.told c.args.disk.now) made name c.in_ok-create.ensures.ok);
    }
