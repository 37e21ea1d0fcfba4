use Rattle.std.proofs.Common.{List, ℕ, Err, sym, subst, ◌∙◌, arith}
use Rattle.snapshot_read.proofs.TellLemmas.{err_of}
use Rattle.wal_follow.proofs.GoesOnLemmas.{goes_map}
use Rattle.replica_store.specs.Putting.{StillKeepsOthers}
use Rattle.replica_store.proofs.PutLemmas.{err_leaves}
use Rattle.replica_sync.specs.Reading.{IsReadFault}
use Rattle.replica_sync.proofs.ReadingLemmas.{read_but, more_faults, store_failed, none_failed, not_store}
use Rattle.replica_sync.proofs.StoringLemmas.{written, may_be_written, given_up}
use Rattle.replica_sync.proofs.storing.write_file.Goals as goal

pub put_found-requires : goal.put_found-requires
put_found-requires g c = record {
  found = c.requires.found;
  storable = c.requires.storable;
  sized = c.requires.sized;
  fits = c.requires.fits;
  awake = c.requires.awake;
  begun = c.requires.begun;
}

pub finish-requires : goal.finish-requires
finish-requires g c =
    let put = c.in-Ok.ensures.ok c.requires.begun.begun c.requires.begun.has in
    record { writing = record { begun = c.requires.begun.begun; pages = put.pages; has = put.has } }

pub returns-in_err-finish-in-Ok-clause-reads : goal.returns-in_err-finish-in-Ok-clause-reads
returns-in_err-finish-in-Ok-clause-reads g c =
    let failed = err_of _ _ c.from_residual.ensures.1 in
    goes_map _ _ _ _ c.in-Ok.ensures.reads (λ r after reads.
    read_but c.args.follower.now c.args.found.now.place c.from_residual.result r after
    (λ fault is. not_store c.in_err-finish-in-Ok.field-0.0 fault (sym failed ∙ is)) reads)

pub returns-in_err-finish-in-Ok-clause-err : goal.returns-in_err-finish-in-Ok-clause-err
returns-in_err-finish-in-Ok-clause-err g c =
    err_leaves c.from_residual.result _
    (may_be_written c.args.file c.put_found.new.file c.args.found.now c.requires.storable
    (g.S.Disk.told c.args.store.now) (g.S.Disk.told c.put_found.new.store) (g.S.Disk.told c.finish.new.store)
    (g.L.Live.told c.args.live.now) (g.L.Live.told c.put_found.new.live) c.put_found.ensures.path
    c.put_found.ensures.header c.in-Ok.ensures.ok c.in_err-finish-in-Ok.ensures.err)

pub returns-in_err-finish-in-Ok-clause-answer : goal.returns-in_err-finish-in-Ok-clause-answer
returns-in_err-finish-in-Ok-clause-answer g c =
    subst IsReadFault (sym (err_of _ _ c.from_residual.ensures.1)) tt

pub returns-in_err-finish-in-Ok-clause-causes : goal.returns-in_err-finish-in-Ok-clause-causes
returns-in_err-finish-in-Ok-clause-causes g c =
    store_failed c.from_residual.result c.finish.result c.in_err-finish-in-Ok.field-0.0
    (g.L.Live.fault_count c.args.live.now) (g.L.Live.fault_count c.put_found.new.live)
    (g.S.Disk.fault_count c.args.store.now) (g.S.Disk.fault_count c.put_found.new.store)
    (g.S.Disk.fault_count c.finish.new.store) (err_of _ _ c.from_residual.ensures.1) c.in_err-finish-in-Ok.was
    c.put_found.ensures.causes.live_later c.put_found.ensures.causes.store_later c.finish.ensures.cause

pub returns-in_ok-finish-in-Ok-clause-reads : goal.returns-in_ok-finish-in-Ok-clause-reads
returns-in_ok-finish-in-Ok-clause-reads g c = c.in-Ok.ensures.reads

pub returns-in_ok-finish-in-Ok-clause-ok : goal.returns-in_ok-finish-in-Ok-clause-ok
returns-in_ok-finish-in-Ok-clause-ok g c =
    written c.args.file c.put_found.new.file c.args.found.now c.requires.storable
    (g.S.Disk.told c.args.store.now) (g.S.Disk.told c.put_found.new.store) (g.S.Disk.told c.finish.new.store)
    (g.L.Live.told c.args.live.now) (g.L.Live.told c.put_found.new.live) c.put_found.ensures.path
    c.put_found.ensures.header c.in-Ok.ensures.ok c.in_ok-finish-in-Ok.ensures.ok

pub returns-in_ok-finish-in-Ok-clause-causes : goal.returns-in_ok-finish-in-Ok-clause-causes
returns-in_ok-finish-in-Ok-clause-causes g c =
    none_failed (g.L.Live.fault_count c.args.live.now) (g.L.Live.fault_count c.put_found.new.live)
    (g.S.Disk.fault_count c.args.store.now) (g.S.Disk.fault_count c.finish.new.store)
    c.put_found.ensures.causes.live_later
    (omega (arith, c.put_found.ensures.causes.store_later, c.finish.ensures.cause.later))

pub returns-in-Err-clause-reads : goal.returns-in-Err-clause-reads
returns-in-Err-clause-reads g c = c.in-Err.ensures.reads

pub returns-in-Err-clause-err : goal.returns-in-Err-clause-err
returns-in-Err-clause-err g c =
    given_up c.args.file c.args.found.now (g.S.Disk.told c.args.store.now) (g.S.Disk.told c.put_found.new.store)
    (g.S.Disk.told c.abandon.new.store) (g.L.Live.told c.args.live.now) (g.L.Live.told c.put_found.new.live)
    c.in-Err.ensures.err
    (subst (λ (p : List ℕ). StillKeepsOthers p (g.S.Disk.told c.put_found.new.store)
    (g.S.Disk.told c.abandon.new.store)) c.put_found.ensures.path c.abandon.ensures.kept)

pub returns-in-Err-clause-answer : goal.returns-in-Err-clause-answer
returns-in-Err-clause-answer g c = c.in-Err.ensures.answer

pub returns-in-Err-clause-causes : goal.returns-in-Err-clause-causes
returns-in-Err-clause-causes g c =
    more_faults (Err c.in-Err.fault) (g.L.Live.fault_count c.args.live.now) (g.L.Live.fault_count c.put_found.new.live)
    (g.S.Disk.fault_count c.args.store.now) (g.S.Disk.fault_count c.put_found.new.store)
    (g.S.Disk.fault_count c.abandon.new.store) c.abandon.ensures.later c.in-Err.ensures.causes
