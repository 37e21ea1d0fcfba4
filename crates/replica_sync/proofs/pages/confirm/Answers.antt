use Rattle.std.proofs.Common.{Some, sym, ap, subst, arith}
use Rattle.snapshot_read.proofs.TellLemmas.{err_of}
use Rattle.ls_base.specs.declared.place.Place.{Place}
use Rattle.wal_follow.specs.Following.{is_in_log}
use Rattle.wal_follow.proofs.GoesOnLemmas.{goes_map, goes_from}
use Rattle.replica_sync.specs.Reading.{ReadsFound, IsReadFault}
use Rattle.replica_sync.proofs.ReadingLemmas.{confirmed, unconfirmed, nothing_read, confirm_answer, live_failed}
use Rattle.replica_sync.proofs.ReadingLemmas.{none_failed, confirms_log, confirms_nothing}
use Rattle.replica_sync.proofs.pages.confirm.Goals as goal

pub returns-in-Rest-clause-reads : goal.returns-in-Rest-clause-reads
returns-in-Rest-clause-reads g c = record {
  told = λ r told. (r, told, nothing_read c.args.follower.now c.args.found.now.place r (c.requires.fits r told));
  silent = λ none. none;
}

pub returns-in-Rest-clause-causes : goal.returns-in-Rest-clause-causes
returns-in-Rest-clause-causes g c = λ store.
    none_failed (g.L.Live.fault_count c.args.live.now) (g.L.Live.fault_count c.args.live.now) store store (omega arith)
    (omega arith)

pub returns-in_err-confirm-in-Wal-clause-reads : goal.returns-in_err-confirm-in-Wal-clause-reads
returns-in_err-confirm-in-Wal-clause-reads g c =
    let f = c.args.follower.now in
    let found = c.args.found.now in
    goes_from _ _ _ _ c.in_err-confirm-in-Wal.ensures.told (λ r after told confirms.
    subst (λ result. ReadsFound f found.place result r after) (sym (err_of _ _ c.from_residual.ensures.1))
    (unconfirmed f found r after c.in_err-confirm-in-Wal.field-0.0 c.in_err-confirm-in-Wal.ensures.answer confirms))

pub returns-in_err-confirm-in-Wal-clause-answer : goal.returns-in_err-confirm-in-Wal-clause-answer
returns-in_err-confirm-in-Wal-clause-answer g c =
    subst IsReadFault (sym (err_of _ _ c.from_residual.ensures.1))
    (confirm_answer c.in_err-confirm-in-Wal.field-0.0 c.in_err-confirm-in-Wal.ensures.answer)

pub returns-in_err-confirm-in-Wal-clause-causes : goal.returns-in_err-confirm-in-Wal-clause-causes
returns-in_err-confirm-in-Wal-clause-causes g c = λ store.
    live_failed c.from_residual.result c.confirm.result c.in_err-confirm-in-Wal.field-0.0
    (g.L.Live.fault_count c.args.live.now) (g.L.Live.fault_count c.args.live.now)
    (g.L.Live.fault_count c.confirm.new.live) store store (err_of _ _ c.from_residual.ensures.1)
    c.in_err-confirm-in-Wal.was (omega arith) (omega arith) c.confirm.ensures.cause

pub returns-in_ok-confirm-in-Wal-clause-reads : goal.returns-in_ok-confirm-in-Wal-clause-reads
returns-in_ok-confirm-in-Wal-clause-reads g c =
    let f = c.args.follower.now in
    let found = c.args.found.now in
    goes_from _ _ _ _ c.in_ok-confirm-in-Wal.ensures.told (λ r after told confirms.
    confirmed f found r after confirms (ap (λ (p : Place). is_in_log (Some p)) c.in-Wal.is))

pub returns-in_ok-confirm-in-Wal-clause-causes : goal.returns-in_ok-confirm-in-Wal-clause-causes
returns-in_ok-confirm-in-Wal-clause-causes g c = λ store.
    none_failed (g.L.Live.fault_count c.args.live.now) (g.L.Live.fault_count c.confirm.new.live) store store
    c.confirm.ensures.cause.later (omega arith)

pub returns-in-Rest-clause-confirmed : goal.returns-in-Rest-clause-confirmed
returns-in-Rest-clause-confirmed g c = record {
  told = λ r told. (
    r,
    told,
    confirms_nothing c.args.follower.now c.args.found.now r c.in-Rest.sum c.in-Rest.is
        (c.requires.fits r told),
  );
  silent = λ none. none;
}

pub returns-in_ok-confirm-in-Wal-clause-confirmed : goal.returns-in_ok-confirm-in-Wal-clause-confirmed
returns-in_ok-confirm-in-Wal-clause-confirmed g c =
    goes_map _ _ _ _ c.in_ok-confirm-in-Wal.ensures.told (λ r after confirms.
    confirms_log c.args.follower.now c.args.found.now r after confirms)
