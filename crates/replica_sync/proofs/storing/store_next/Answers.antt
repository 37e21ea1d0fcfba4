use Rattle.std.proofs.Common.{ℕ, Err, refl, sym, ap, subst, ◌∙◌, inl, inr}
use Rattle.snapshot_read.proofs.TellLemmas.{err_of}
use Rattle.wal_follow.proofs.GoesOnLemmas.{goes_map}
use Rattle.replica_store.proofs.PutLemmas.{err_leaves}
use Rattle.replica_sync.specs.declared.answer.SyncFault.{SyncFault}
use Rattle.replica_sync.specs.declared.answer.SyncFault.TheVariants.{TxidSpent}
use Rattle.replica_sync.specs.Answers.{IsNextAnswer}
use Rattle.replica_sync.specs.Storing.{StoresFound, MayStoreFound}
use Rattle.replica_sync.proofs.SyncLemmas.{blames_none, recast, all_well, unstored, not_stored, was_stored, next_answer}
use Rattle.replica_sync.proofs.storing.store_next.Goals as goal

pub store_found-requires : goal.store_found-requires
store_found-requires g c = record {
  valid = c.in_ok-name.ensures.valid;
  found = c.requires.found;
  fits = c.requires.fits;
  awake = c.requires.awake;
}

pub returns-in_err-name-clause-live : goal.returns-in_err-name-clause-live
returns-in_err-name-clause-live g c =
    let spent = err_of _ _ c.from_residual.ensures.1 ∙ ap (λ (x : SyncFault). Err x) c.in_err-name.ensures.err.0 in
    record {
      told = λ r told. (
        r,
        told,
        unstored c.args.follower.now c.args.found.now.place c.from_residual.result TxidSpent r spent
            (λ fault is. absurd cc) (c.requires.fits r told),
      );
      silent = λ none. none;
    }

pub returns-in_err-name-clause-err : goal.returns-in_err-name-clause-err
returns-in_err-name-clause-err g c = err_leaves c.from_residual.result _ (record { either = inl refl })

pub returns-in_err-name-clause-answer : goal.returns-in_err-name-clause-answer
returns-in_err-name-clause-answer g c =
    let spent = err_of _ _ c.from_residual.ensures.1 ∙ ap (λ (x : SyncFault). Err x) c.in_err-name.ensures.err.0 in
    subst (λ result. IsNextAnswer c.args.dated.now result) (sym spent) c.in_err-name.ensures.err.1

pub returns-in_err-name-clause-causes : goal.returns-in_err-name-clause-causes
returns-in_err-name-clause-causes g c =
    let spent = err_of _ _ c.from_residual.ensures.1 ∙ ap (λ (x : SyncFault). Err x) c.in_err-name.ensures.err.0 in
    blames_none c.from_residual.result TxidSpent (g.L.Live.fault_count c.args.live.now)
    (g.S.Disk.fault_count c.args.store.now) spent (λ fault is. absurd cc) (λ fault is. absurd cc)

pub returns-in_err-store_found-clause-live : goal.returns-in_err-store_found-clause-live
returns-in_err-store_found-clause-live g c =
    goes_map _ _ _ _ c.in_err-store_found.ensures.reads (λ r after reads.
    not_stored c.args.follower.now c.args.found.now.place c.from_residual-in_err-store_found.result
    c.in_err-store_found.field-0.0 r after (err_of _ _ c.from_residual-in_err-store_found.ensures.1) reads)

pub returns-in_err-store_found-clause-err : goal.returns-in_err-store_found-clause-err
returns-in_err-store_found-clause-err g c =
    err_leaves c.from_residual-in_err-store_found.result _
    (record {
      either = inr (
        c.in_ok-name.name,
        c.in_ok-name.ensures.valid,
        c.in_ok-name.ensures.ok,
        subst (λ (n : ℕ). MayStoreFound c.args.found.now c.in_ok-name.name n (g.S.Disk.told c.args.store.now)
            (g.S.Disk.told c.store_found.new.store) (g.L.Live.told c.args.live.now)
            (g.L.Live.told c.store_found.new.live))
            c.next_moment-moment.ensures c.in_err-store_found.ensures.err,
      );
    })

pub returns-in_err-store_found-clause-answer : goal.returns-in_err-store_found-clause-answer
returns-in_err-store_found-clause-answer g c =
    next_answer c.args.dated.now c.from_residual-in_err-store_found.result c.in_err-store_found.field-0.0
    (err_of _ _ c.from_residual-in_err-store_found.ensures.1) c.in_err-store_found.ensures.answer
    c.in_ok-name.ensures.left

pub returns-in_err-store_found-clause-causes : goal.returns-in_err-store_found-clause-causes
returns-in_err-store_found-clause-causes g c =
    recast c.from_residual-in_err-store_found.result c.in_err-store_found.field-0.0
    (g.L.Live.fault_count c.args.live.now) (g.L.Live.fault_count c.store_found.new.live)
    (g.S.Disk.fault_count c.args.store.now) (g.S.Disk.fault_count c.store_found.new.store)
    (err_of _ _ c.from_residual-in_err-store_found.ensures.1) c.in_err-store_found.ensures.causes

pub returns-clause-live : goal.returns-clause-live
returns-clause-live g c =
    goes_map _ _ _ _ c.in_ok-store_found.ensures.reads (λ r after reads.
    was_stored c.args.follower.now c.stored.new.self c.args.found.now c.in_ok-name.name r after c.requires.found
    c.stored.ensures.fits reads)

pub returns-clause-ok : goal.returns-clause-ok
returns-clause-ok g c = record {
  valid = c.in_ok-name.ensures.valid;
  is_next = c.in_ok-name.ensures.ok;
  stores = subst (λ (n : ℕ). StoresFound c.args.found.now c.in_ok-name.name n (g.S.Disk.told c.args.store.now)
      (g.S.Disk.told c.store_found.new.store) (g.L.Live.told c.args.live.now) (g.L.Live.told c.store_found.new.live))
      c.next_moment-moment.ensures c.in_ok-store_found.ensures.ok;
}

pub returns-clause-known : goal.returns-clause-known
returns-clause-known g c = record {
  place = c.args.found.now.place;
  is_place = c.stored.ensures.place;
  pages = λ stays log. (c.args.found.now.commit, c.stored.ensures.pages);
}

pub returns-clause-causes : goal.returns-clause-causes
returns-clause-causes g c =
    all_well c.in_ok-name.name (g.L.Live.fault_count c.args.live.now) (g.L.Live.fault_count c.store_found.new.live)
    (g.S.Disk.fault_count c.args.store.now) (g.S.Disk.fault_count c.store_found.new.store)
    c.store_found.ensures.causes.live_later c.store_found.ensures.causes.store_later
