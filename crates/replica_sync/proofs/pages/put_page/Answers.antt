use Rattle.std.proofs.Common.{Ok, sym, subst, ◌∙◌, arith}
use Rattle.snapshot_read.proofs.TellLemmas.{err_of}
use Rattle.wal_follow.proofs.GoesOnLemmas.{goes_from}
use Rattle.replica_store.proofs.PutLemmas.{err_leaves}
use Rattle.replica_sync.specs.Reading.{ReadsPage, IsReadFault}
use Rattle.replica_sync.proofs.PageFileLemmas.{pages_keep}
use Rattle.replica_sync.proofs.ReadingLemmas.{page_failed, page_read, unlocked, fault_answer, live_failed, store_failed}
use Rattle.replica_sync.proofs.ReadingLemmas.{none_failed, not_store, not_ok}
use Rattle.replica_sync.proofs.pages.put_page.Goals as goal

pub page-requires-clause-upto : goal.page-requires-clause-upto
page-requires-clause-upto g c = let most = c.requires.stored.at_most in omega (arith, most, c.requires.commit)

pub returns-in_err-page-clause-reads : goal.returns-in_err-page-clause-reads
returns-in_err-page-clause-reads g c =
    goes_from _ _ _ _ c.in_err-page.ensures.told (λ r after told gives.
    subst (λ result. ReadsPage c.args.follower.now c.args.found.now c.args.number result c.page.new.into r after)
    (sym (err_of _ _ c.from_residual.ensures.1))
    (page_failed c.args.follower.now c.args.found.now c.args.number c.page.new.into r after c.in_err-page.field-0.0
    c.in_err-page.ensures.answer gives))

pub returns-in_err-page-clause-err : goal.returns-in_err-page-clause-err
returns-in_err-page-clause-err g c =
    err_leaves c.from_residual.result _
    (λ begun pages has. pages_keep c.args.file.now begun (g.S.Disk.told c.args.store.now) pages has)

pub returns-in_err-page-clause-answer : goal.returns-in_err-page-clause-answer
returns-in_err-page-clause-answer g c =
    subst IsReadFault (sym (err_of _ _ c.from_residual.ensures.1))
    (fault_answer c.in_err-page.field-0.0 c.in_err-page.ensures.answer)

pub returns-in_err-page-clause-causes : goal.returns-in_err-page-clause-causes
returns-in_err-page-clause-causes g c =
    live_failed c.from_residual.result c.page.result c.in_err-page.field-0.0 (g.L.Live.fault_count c.args.live.now)
    (g.L.Live.fault_count c.args.live.now) (g.L.Live.fault_count c.page.new.live)
    (g.S.Disk.fault_count c.args.store.now) (g.S.Disk.fault_count c.args.store.now)
    (err_of _ _ c.from_residual.ensures.1) c.in_err-page.was (omega arith) (omega arith) c.page.ensures.cause

pub returns-in_err-page-2-clause-reads : goal.returns-in_err-page-2-clause-reads
returns-in_err-page-2-clause-reads g c =
    let failed = err_of _ _ c.from_residual-in_err-page-2.ensures.1 in
    goes_from _ _ _ _ c.in_ok-page.ensures.told (λ r after told gives.
    page_read c.args.follower.now c.args.found.now c.args.number c.page.new.into r after
    c.from_residual-in_err-page-2.result
    (unlocked c.args.number c.args.file.now.writer.header c.args.found.now.size c.requires.stored c.requires.size)
    (λ fault is. not_store c.in_err-page-2.field-0.0 fault (sym failed ∙ is)) gives)

pub returns-in_err-page-2-clause-err : goal.returns-in_err-page-2-clause-err
returns-in_err-page-2-clause-err g c =
    err_leaves c.from_residual-in_err-page-2.result _ c.in_err-page-2.ensures.err

pub returns-in_err-page-2-clause-answer : goal.returns-in_err-page-2-clause-answer
returns-in_err-page-2-clause-answer g c =
    subst IsReadFault (sym (err_of _ _ c.from_residual-in_err-page-2.ensures.1)) tt

pub returns-in_err-page-2-clause-causes : goal.returns-in_err-page-2-clause-causes
returns-in_err-page-2-clause-causes g c =
    store_failed c.from_residual-in_err-page-2.result c.page-2.result c.in_err-page-2.field-0.0
    (g.L.Live.fault_count c.args.live.now) (g.L.Live.fault_count c.page.new.live)
    (g.S.Disk.fault_count c.args.store.now) (g.S.Disk.fault_count c.args.store.now)
    (g.S.Disk.fault_count c.page-2.new.store) (err_of _ _ c.from_residual-in_err-page-2.ensures.1)
    c.in_err-page-2.was c.page.ensures.cause.later (omega arith) c.page-2.ensures.cause

pub returns-clause-reads : goal.returns-clause-reads
returns-clause-reads g c =
    goes_from _ _ _ _ c.in_ok-page.ensures.told (λ r after told gives.
    page_read c.args.follower.now c.args.found.now c.args.number c.page.new.into r after (Ok tt)
    (unlocked c.args.number c.args.file.now.writer.header c.args.found.now.size c.requires.stored c.requires.size)
    not_ok gives)

pub returns-clause-ok : goal.returns-clause-ok
returns-clause-ok g c = c.in_ok-page-2.ensures.ok

pub returns-clause-causes : goal.returns-clause-causes
returns-clause-causes g c =
    none_failed (g.L.Live.fault_count c.args.live.now) (g.L.Live.fault_count c.page.new.live)
    (g.S.Disk.fault_count c.args.store.now) (g.S.Disk.fault_count c.page-2.new.store) c.page.ensures.cause.later
    c.page-2.ensures.cause.later
