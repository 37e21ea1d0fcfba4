use Rattle.std.proofs.Common.{◌≡◌, false, refl, sym, subst}
use Rattle.std.proofs.lemmas.Result.{on_ok_weaker}
use Rattle.snapshot_read.proofs.TellLemmas.{err_of}
use Rattle.crash_disk.specs.GoesOn as disk
use Rattle.wal_follow.specs.Following.{Fits}
use Rattle.wal_follow.proofs.GoesOnLemmas.{goes_map, goes_join}
use Rattle.replica_store.specs.Putting.{KeepsOthers}
use Rattle.replica_store.proofs.PutLemmas.{err_leaves}
use Rattle.replica_sync.specs.Answers.{HasCauses}
use Rattle.replica_sync.specs.Reading.{ReadsFound, IsReadFault}
use Rattle.replica_sync.proofs.PageFileLemmas.{pages_keep}
use Rattle.replica_sync.proofs.PagesLemmas.{puts_later}
use Rattle.replica_sync.proofs.ReadingLemmas.{reads_join, live_now, later_causes, confirms_later}
use Rattle.replica_sync.proofs.ResultLemmas.{on_ok_any, on_err_any}
use Rattle.replica_sync.proofs.pages.put_found.Goals as goal

pub returns-in_err-put_pages-clause-reads : goal.returns-in_err-put_pages-clause-reads
returns-in_err-put_pages-clause-reads g c =
    goes_map _ _ _ _ c.in_err-put_pages.ensures.reads (λ r after reads.
    subst (λ result. ReadsFound c.args.follower.now c.args.found.now.place result r after)
    (sym (err_of _ _ c.from_residual.ensures.1)) reads)

pub returns-in_err-put_pages-clause-err : goal.returns-in_err-put_pages-clause-err
returns-in_err-put_pages-clause-err g c = err_leaves c.from_residual.result _ c.in_err-put_pages.ensures.err

pub returns-in_err-put_pages-clause-answer : goal.returns-in_err-put_pages-clause-answer
returns-in_err-put_pages-clause-answer g c =
    subst IsReadFault (sym (err_of _ _ c.from_residual.ensures.1)) c.in_err-put_pages.ensures.answer

pub returns-in_err-put_pages-clause-causes : goal.returns-in_err-put_pages-clause-causes
returns-in_err-put_pages-clause-causes g c =
    subst (λ result. HasCauses (g.L.Live.fault_count c.args.live.now) (g.L.Live.fault_count c.put_pages.new.live)
    (g.S.Disk.fault_count c.args.store.now) (g.S.Disk.fault_count c.put_pages.new.store) result)
    (sym (err_of _ _ c.from_residual.ensures.1)) c.in_err-put_pages.ensures.causes

pub confirm-requires : goal.confirm-requires
confirm-requires g c = record {
  found = c.requires.found;
  fits = live_now (g.L.Live.told c.args.live.now) (g.L.Live.told c.put_pages.new.live) _
      (λ r. r.database.stopped ≡ false) (λ r. Fits c.args.follower.now r.database) c.in_ok-put_pages.ensures.reads
      c.requires.awake (λ x y awake reads. reads.fits (reads.awake refl awake));
}

pub returns-clause-reads : goal.returns-clause-reads
returns-clause-reads g c =
    goes_join _ _ _ _ _ _ c.in_ok-put_pages.ensures.reads c.confirm.ensures.reads
    (λ r mid after first second.
    reads_join c.args.follower.now c.args.found.now.place c.confirm.result r mid after first second)

pub returns-clause-ok : goal.returns-clause-ok
returns-clause-ok g c =
    on_ok_any c.confirm.result
    (puts_later c.args.found.now _ c.args.file.now c.put_pages.new.file (g.S.Disk.told c.args.store.now)
    (g.S.Disk.told c.put_pages.new.store) (g.L.Live.told c.args.live.now) (g.L.Live.told c.put_pages.new.live)
    (g.L.Live.told c.confirm.new.live) _ _ c.in_ok-put_pages.ensures.reads c.confirm.ensures.reads
    (λ r next reads. reads.step) c.in_ok-put_pages.ensures.ok)

pub returns-clause-err : goal.returns-clause-err
returns-clause-err g c =
    on_err_any c.confirm.result
    (λ begun has.
    let put = c.in_ok-put_pages.ensures.ok begun has in
    subst (λ path. disk.GoesOn begun (g.S.Disk.told c.put_pages.new.store) (KeepsOthers path))
    c.put_pages.ensures.path
    (pages_keep c.put_pages.new.file begun (g.S.Disk.told c.put_pages.new.store) put.pages put.has))

pub returns-clause-causes : goal.returns-clause-causes
returns-clause-causes g c =
    later_causes c.confirm.result (g.L.Live.fault_count c.args.live.now) (g.L.Live.fault_count c.put_pages.new.live)
    (g.L.Live.fault_count c.confirm.new.live) (g.S.Disk.fault_count c.args.store.now)
    (g.S.Disk.fault_count c.put_pages.new.store) (g.S.Disk.fault_count c.put_pages.new.store)
    c.put_pages.ensures.causes.live_later c.put_pages.ensures.causes.store_later
    (c.confirm.ensures.causes (g.S.Disk.fault_count c.put_pages.new.store))

pub returns-clause-confirmed : goal.returns-clause-confirmed
returns-clause-confirmed g c =
    on_ok_weaker c.confirm.result
    (λ goes. goes_join _ _ _ _ _ _ c.in_ok-put_pages.ensures.reads goes (λ r mid after reads confirms.
    confirms_later c.args.follower.now c.args.found.now mid after r reads.step confirms)) c.confirm.ensures.confirmed
