use Rattle.std.proofs.Common.{◌-◌, refl}
use Rattle.crash_disk.proofs.GoesOnLemmas.{goes_on-same}
use Rattle.replica_upkeep.specs.Faith.{KeepsFaith}
use Rattle.replica_upkeep.proofs.FaithLemmas.{same_adds}
use Rattle.replica_round.proofs.keeping.keep_up.Goals as goal

-- nothing was done where there was no memory for the list
pub returns-in_err-dated-clause-faith : goal.returns-in_err-dated-clause-faith
returns-in_err-dated-clause-faith g c =
    let cut = c.args.now - c.args.keep in
    goes_on-same (g.S.Disk.told c.args.store.now) (g.S.Disk.told c.args.store.now) (KeepsFaith cut) refl
    (λ events. (same_adds events).faith cut)

pub maintain-requires-clause-files : goal.maintain-requires-clause-files
maintain-requires-clause-files g c = λ events told.
    c.requires.files events told c.in_ok-dated.dated c.in_ok-dated.ensures.joins
