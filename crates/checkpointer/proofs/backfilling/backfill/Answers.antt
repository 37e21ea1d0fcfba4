use Rattle.std.proofs.Common.{◌≡◌, ◌∙◌, Ok, Err, ap, subst}
use Rattle.checkpointer.specs.declared.fault.BackfillFault.{BackfillFault}
use Rattle.checkpointer.specs.declared.fault.BackfillFault.TheVariants.{Disk}
use Rattle.crash_disk.specs.Told.{Told}
use Rattle.crash_disk.specs.GoesOn.{GoesOn}
use Rattle.checkpointer.specs.Copying.{CopiesFound, MayCopyFound}
use Rattle.checkpointer.proofs.ExitLemmas.{unsynced, there_synced, not_found, not_copied, all_copied}
use Rattle.checkpointer.proofs.NextLemmas.{named_after, restart_may_follow}
use Rattle.checkpointer.proofs.backfilling.backfill.Goals as goal

pub returns-in-Err-clause-value : goal.returns-in-Err-clause-value
returns-in-Err-clause-value g c =
    unsynced c.args.db.now c.args.wal.now c.requires.apart c.args.upto (g.D.Disk.told c.args.disk.now)
    c.requires.named (g.D.Disk.told c.sync.new.self) c.in-Err.fault c.in-Err.ensures.err

pub returns-in-Err-find-clause-value : goal.returns-in-Err-find-clause-value
returns-in-Err-find-clause-value g c =
    not_found c.args.db.now c.args.wal.now c.requires.apart c.args.upto (g.D.Disk.told c.args.disk.now)
    c.requires.named (g.D.Disk.told c.sync.new.self) c.in-Ok.ensures.ok (g.D.Disk.told c.find.new.disk)
    c.in-Err-find.fault
    c.in-Err-find.ensures.unchanged
    (λ x told is. c.in-Err-find.ensures.not_mark x told (ap (λ (e : BackfillFault). Err e) is))

pub copy_found-requires-clause-there : goal.copy_found-requires-clause-there
copy_found-requires-clause-there g c =
    let same : g.D.Disk.told c.find.new.disk ≡ g.D.Disk.told c.sync.new.self = c.in-Ok-find.ensures.unchanged in
    rw same (there_synced c.args.db.now c.args.wal.now c.requires.apart c.args.upto (g.D.Disk.told c.args.disk.now)
    c.requires.named (g.D.Disk.told c.sync.new.self) c.in-Ok.ensures.ok)

pub returns-in-Err-copy_found-clause-value : goal.returns-in-Err-copy_found-clause-value
returns-in-Err-copy_found-clause-value g c =
    let found = c.in-Ok-find.found in
    let same : g.D.Disk.told c.find.new.disk ≡ g.D.Disk.told c.sync.new.self = c.in-Ok-find.ensures.unchanged in
    not_copied c.args.db.now c.args.wal.now c.requires.apart c.args.upto (g.D.Disk.told c.args.disk.now)
    c.requires.named (g.D.Disk.told c.sync.new.self) c.in-Ok.ensures.ok found.scan.head found.pages found.mark
    found.is_last
    c.in-Ok-find.ensures.found found.size c.in-Ok-find.ensures.size (g.D.Disk.told c.copy_found.new.disk)
    c.in-Err-copy_found.fault
    (subst (λ (t : Told). GoesOn t (g.D.Disk.told c.copy_found.new.disk)
    (MayCopyFound c.args.db.now c.args.wal.now found.size found.mark.commit found.pages found.is_last)) same
    c.in-Err-copy_found.ensures.err)
    (λ x told. c.in-Err-copy_found.ensures.whole x (same ∙ told)) c.in-Err-copy_found.ensures.memory

pub returns-in-Ok-copy_found-clause-value : goal.returns-in-Ok-copy_found-clause-value
returns-in-Ok-copy_found-clause-value g c =
    let found = c.in-Ok-find.found in
    let same : g.D.Disk.told c.find.new.disk ≡ g.D.Disk.told c.sync.new.self = c.in-Ok-find.ensures.unchanged in
    all_copied c.args.db.now c.args.wal.now c.requires.apart c.args.upto (g.D.Disk.told c.args.disk.now)
    c.requires.named (g.D.Disk.told c.sync.new.self) c.in-Ok.ensures.ok found.scan.head found.pages found.mark
    found.is_last
    c.in-Ok-find.ensures.found found.size c.in-Ok-find.ensures.size (g.D.Disk.told c.copy_found.new.disk)
    c.in-Ok-copy_found.copied c.in-Ok-copy_found.ensures.copied.0 c.in-Ok-copy_found.ensures.copied.1
    (subst (λ (t : Told). GoesOn t (g.D.Disk.told c.copy_found.new.disk)
    (CopiesFound c.args.db.now c.args.wal.now found.size found.mark.commit found.pages found.is_last)) same
    c.in-Ok-copy_found.ensures.ok)

pub returns-in-Err-clause-still_named : goal.returns-in-Err-clause-still_named
returns-in-Err-clause-still_named g c =
    named_after c.args.db.now c.args.wal.now c.requires.apart c.args.upto (g.D.Disk.told c.args.disk.now)
    (g.D.Disk.told c.sync.new.self) c.requires.named (Err (Disk c.in-Err.fault)) (returns-in-Err-clause-value g c)

pub returns-in-Err-find-clause-still_named : goal.returns-in-Err-find-clause-still_named
returns-in-Err-find-clause-still_named g c =
    named_after c.args.db.now c.args.wal.now c.requires.apart c.args.upto (g.D.Disk.told c.args.disk.now)
    (g.D.Disk.told c.find.new.disk) c.requires.named (Err c.in-Err-find.fault)
    (returns-in-Err-find-clause-value g c)

pub returns-in-Err-copy_found-clause-still_named : goal.returns-in-Err-copy_found-clause-still_named
returns-in-Err-copy_found-clause-still_named g c =
    named_after c.args.db.now c.args.wal.now c.requires.apart c.args.upto (g.D.Disk.told c.args.disk.now)
    (g.D.Disk.told c.copy_found.new.disk) c.requires.named (Err c.in-Err-copy_found.fault)
    (returns-in-Err-copy_found-clause-value g c)

pub returns-in-Ok-copy_found-clause-still_named : goal.returns-in-Ok-copy_found-clause-still_named
returns-in-Ok-copy_found-clause-still_named g c =
    named_after c.args.db.now c.args.wal.now c.requires.apart c.args.upto (g.D.Disk.told c.args.disk.now)
    (g.D.Disk.told c.copy_found.new.disk) c.requires.named (Ok c.in-Ok-copy_found.copied)
    (returns-in-Ok-copy_found-clause-value g c)

pub returns-in-Ok-copy_found-clause-may_restart : goal.returns-in-Ok-copy_found-clause-may_restart
returns-in-Ok-copy_found-clause-may_restart g c =
    restart_may_follow c.args.db.now c.args.wal.now c.requires.apart c.args.upto (g.D.Disk.told c.args.disk.now)
    (g.D.Disk.told c.copy_found.new.disk) c.requires.named c.in-Ok-copy_found.copied
    (returns-in-Ok-copy_found-clause-value g c)
