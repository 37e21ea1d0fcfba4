use Rattle.std.proofs.Common.{List, Result, refl, sym, subst, arith}
use Rattle.crash_disk.specs.GoesOn as disk
use Rattle.live_gate.specs.LiveRecord.{GoesOn}
use Rattle.live_gate.specs.Legal.{IsLegal}
use Rattle.replica_store.specs.declared.dated_names.Dated.{Dated}
use Rattle.replica_round.specs.declared.changing.Changed.{Changed}
use Rattle.round_line.specs.declared.round.Synced.{Synced}
use Rattle.wal_follow.proofs.GoesOnLemmas.{goes_from, goes_both}
use Rattle.replica_sync.specs.Faith.{IfBothTell}
use Rattle.replica_sync.specs.LiveSide.{MayAdvanceTo}
use Rattle.replica_sync.proofs.ReadingLemmas.{live_now}
use Rattle.replica_round.specs.declared.stop.RoundStop.{RoundStop}
use Rattle.replica_round.specs.ChangesFaith.{ChangesKeepFaith}
use Rattle.replica_round.specs.ChangesLive.{ChangesLive}
use Rattle.replica_round.specs.Stop.{stop_of_files, stop_of_sync, stop_of_hold}
use Rattle.replica_round.specs.ChangesStore.{ChangesStore}
use Rattle.replica_round.proofs.FaithLemmas.{read_faith, refused_faith, held_faith, done_faith}
use Rattle.replica_round.proofs.ChangesLemmas.{read_rounds, refused_rounds, held_rounds, done_rounds}
use Rattle.replica_round.proofs.ResultLemmas.{err_of, files_causes, sync_causes, hold_causes, all_well}
use Rattle.replica_round.proofs.StoreLemmas.{are_lent, read_stores, syncs_store, refused_stores, held_stores}
use Rattle.replica_round.proofs.StoreLemmas.{done_stores}
use Rattle.replica_round.proofs.ChangeLemmas.{are_with, pages_known}
use Rattle.replica_round.proofs.changing.store_changes.Goals as goal

-- ---- the list of the files is refused

pub returns-in_err-files-clause-live : goal.returns-in_err-files-clause-live
returns-in_err-files-clause-live g c =
    subst (λ (result : Result Changed RoundStop). GoesOn (g.L.Live.told c.args.live.now) (g.L.Live.told c.args.live.now)
    (ChangesLive c.args.follower.now c.args.follower.now result)) (sym (err_of _ _ c.from_residual.ensures.1))
    (record {
      told = λ r is. (
        r,
        is,
        read_rounds c.args.follower.now c.in_err-files.field-0.0 r (c.requires.legal r is) (c.requires.fits r is),
      );
      silent = λ is. is;
    })

pub returns-in_err-files-clause-store : goal.returns-in_err-files-clause-store
returns-in_err-files-clause-store g c =
    subst (λ (result : Result Changed RoundStop). disk.GoesOn (g.S.Disk.told c.args.store.now)
    (g.S.Disk.told c.files_of.new.store) (ChangesStore c.args.now result)) (sym (err_of _ _ c.from_residual.ensures.1))
    (read_stores c.args.now c.in_err-files.field-0.0 (g.S.Disk.told c.args.store.now)
    (g.S.Disk.told c.files_of.new.store) c.in_err-files.ensures.unchanged c.in_err-files.ensures.explained)

pub returns-in_err-files-clause-faith : goal.returns-in_err-files-clause-faith
returns-in_err-files-clause-faith g c =
    subst (λ (result : Result Changed RoundStop). IfBothTell (g.L.Live.told c.args.live.now)
    (g.L.Live.told c.args.live.now) (g.S.Disk.told c.args.store.now) (g.S.Disk.told c.files_of.new.store)
    (ChangesKeepFaith c.args.follower.now c.args.follower.now c.args.now result))
    (sym (err_of _ _ c.from_residual.ensures.1))
    (read_faith c.args.follower.now c.args.now (stop_of_files c.in_err-files.field-0.0)
    (g.L.Live.told c.args.live.now) (g.S.Disk.told c.args.store.now) (g.S.Disk.told c.files_of.new.store)
    c.in_err-files.ensures.unchanged)

pub returns-in_err-files-clause-causes : goal.returns-in_err-files-clause-causes
returns-in_err-files-clause-causes g c =
    files_causes c.from_residual.result _ (err_of _ _ c.from_residual.ensures.1) c.in_err-files.field-0.0
    (g.L.Live.fault_count c.args.live.now) (g.S.Disk.fault_count c.args.store.now)
    (g.S.Disk.fault_count c.files_of.new.store) refl c.in_err-files.ensures.cause

-- ---- the sync is

pub returns-in_err-sync-clause-live : goal.returns-in_err-sync-clause-live
returns-in_err-sync-clause-live g c =
    subst (λ (result : Result Changed RoundStop). GoesOn (g.L.Live.told c.args.live.now) (g.L.Live.told c.sync.new.live)
    (ChangesLive c.args.follower.now c.sync.new.follower result))
    (sym (err_of _ _ c.from_residual-in_err-sync.ensures.1))
    (goes_from _ _ _ _ c.in_err-sync.ensures.live (λ r after told syncs.
    refused_rounds c.args.follower.now c.sync.new.follower c.in_err-sync.field-0.0 r after (c.requires.legal r told)
    syncs))

pub returns-in_err-sync-clause-store : goal.returns-in_err-sync-clause-store
returns-in_err-sync-clause-store g c =
    subst (λ (result : Result Changed RoundStop). disk.GoesOn (g.S.Disk.told c.args.store.now)
    (g.S.Disk.told c.sync.new.store) (ChangesStore c.args.now result))
    (sym (err_of _ _ c.from_residual-in_err-sync.ensures.1))
    (refused_stores c.args.now c.in_err-sync.field-0.0 (g.S.Disk.told c.args.store.now)
    (g.S.Disk.told c.sync.new.store)
    (syncs_store c.args.now c.as_slice.result.now _ (g.S.Disk.told c.args.store.now)
    (g.S.Disk.told c.files_of.new.store) (g.S.Disk.told c.sync.new.store) c.in_ok-files.ensures.unchanged
    (are_lent (g.S.Disk.told c.args.store.now) _ _ c.as_slice.ensures c.in_ok-files.ensures.value)
    c.in_err-sync.ensures.named c.in_err-sync.ensures.store))

pub returns-in_err-sync-clause-faith : goal.returns-in_err-sync-clause-faith
returns-in_err-sync-clause-faith g c =
    subst (λ (result : Result Changed RoundStop). IfBothTell (g.L.Live.told c.args.live.now)
    (g.L.Live.told c.sync.new.live) (g.S.Disk.told c.args.store.now) (g.S.Disk.told c.sync.new.store)
    (ChangesKeepFaith c.args.follower.now c.sync.new.follower c.args.now result))
    (sym (err_of _ _ c.from_residual-in_err-sync.ensures.1))
    (refused_faith c.args.follower.now c.sync.new.follower c.args.now c.as_slice.result.now c.in_err-sync.field-0.0
    (stop_of_sync c.in_err-sync.field-0.0)
    (g.L.Live.told c.args.live.now) (g.L.Live.told c.sync.new.live) (g.S.Disk.told c.args.store.now)
    (g.S.Disk.told c.files_of.new.store) (g.S.Disk.told c.sync.new.store) c.in_ok-files.ensures.unchanged
    (are_lent (g.S.Disk.told c.args.store.now) _ _ c.as_slice.ensures c.in_ok-files.ensures.value) c.requires.legal
    c.in_err-sync.ensures.faith)

pub returns-in_err-sync-clause-causes : goal.returns-in_err-sync-clause-causes
returns-in_err-sync-clause-causes g c =
    sync_causes c.from_residual-in_err-sync.result _ (err_of _ _ c.from_residual-in_err-sync.ensures.1)
    c.in_err-sync.field-0.0 (g.L.Live.fault_count c.args.live.now) (g.L.Live.fault_count c.sync.new.live)
    (g.S.Disk.fault_count c.args.store.now) (g.S.Disk.fault_count c.files_of.new.store)
    (g.S.Disk.fault_count c.sync.new.store) refl c.in_ok-files.ensures.cause.later c.in_err-sync.ensures.causes

-- ---- the hold stays by a fault

pub hold_place-requires : goal.hold_place-requires
hold_place-requires g c = record {
  mark = λ stays.
      live_now (g.L.Live.told c.args.live.now) (g.L.Live.told c.sync.new.live) _ (λ r. IsLegal r.database)
      (λ r. MayAdvanceTo c.sync.new.follower.place r.database) c.in_ok-sync.ensures.live c.requires.legal
      (λ x y legal syncs. syncs.hold legal refl stays);
}

pub returns-in_err-hold_place-clause-live : goal.returns-in_err-hold_place-clause-live
returns-in_err-hold_place-clause-live g c =
    subst (λ (result : Result Changed RoundStop). GoesOn (g.L.Live.told c.args.live.now)
    (g.L.Live.told c.hold_place.new.live) (ChangesLive c.args.follower.now c.sync.new.follower result))
    (sym (err_of _ _ c.from_residual-in_err-hold_place.ensures.1))
    (goes_both _ _ _ _ _ _ c.in_ok-sync.ensures.live c.in_err-hold_place.ensures.told
    (λ r mid after told syncs holds.
    held_rounds c.args.follower.now c.sync.new.follower c.in_ok-sync.sync r mid after (c.requires.legal r told)
    c.in_ok-sync.ensures.none syncs _ c.in_err-hold_place.field-0.0 holds))

pub returns-in_err-hold_place-clause-store : goal.returns-in_err-hold_place-clause-store
returns-in_err-hold_place-clause-store g c =
    subst (λ (result : Result Changed RoundStop). disk.GoesOn (g.S.Disk.told c.args.store.now)
    (g.S.Disk.told c.sync.new.store) (ChangesStore c.args.now result))
    (sym (err_of _ _ c.from_residual-in_err-hold_place.ensures.1))
    (held_stores c.args.now c.in_ok-sync.sync c.in_err-hold_place.field-0.0 (g.S.Disk.told c.args.store.now)
    (g.S.Disk.told c.sync.new.store)
    (syncs_store c.args.now c.as_slice.result.now _ (g.S.Disk.told c.args.store.now)
    (g.S.Disk.told c.files_of.new.store) (g.S.Disk.told c.sync.new.store) c.in_ok-files.ensures.unchanged
    (are_lent (g.S.Disk.told c.args.store.now) _ _ c.as_slice.ensures c.in_ok-files.ensures.value)
    c.in_ok-sync.ensures.named c.in_ok-sync.ensures.store))

pub returns-in_err-hold_place-clause-faith : goal.returns-in_err-hold_place-clause-faith
returns-in_err-hold_place-clause-faith g c =
    subst (λ (result : Result Changed RoundStop). IfBothTell (g.L.Live.told c.args.live.now)
    (g.L.Live.told c.hold_place.new.live) (g.S.Disk.told c.args.store.now) (g.S.Disk.told c.sync.new.store)
    (ChangesKeepFaith c.args.follower.now c.sync.new.follower c.args.now result))
    (sym (err_of _ _ c.from_residual-in_err-hold_place.ensures.1))
    (held_faith c.args.follower.now c.sync.new.follower c.args.now c.as_slice.result.now c.in_ok-sync.sync
    (g.L.Live.told c.args.live.now) (g.L.Live.told c.sync.new.live) (g.L.Live.told c.hold_place.new.live)
    (g.S.Disk.told c.args.store.now) (g.S.Disk.told c.files_of.new.store) (g.S.Disk.told c.sync.new.store)
    c.in_ok-files.ensures.unchanged
    (are_lent (g.S.Disk.told c.args.store.now) _ _ c.as_slice.ensures c.in_ok-files.ensures.value) c.requires.legal
    c.in_ok-sync.ensures.live c.in_ok-sync.ensures.faith _ c.in_err-hold_place.field-0.0
    (stop_of_hold c.in_err-hold_place.field-0.0) c.in_err-hold_place.ensures.told)

pub returns-in_err-hold_place-clause-causes : goal.returns-in_err-hold_place-clause-causes
returns-in_err-hold_place-clause-causes g c =
    hold_causes c.from_residual-in_err-hold_place.result _ (err_of _ _ c.from_residual-in_err-hold_place.ensures.1)
    c.in_err-hold_place.field-0.0 (g.L.Live.fault_count c.args.live.now) (g.L.Live.fault_count c.sync.new.live)
    (g.L.Live.fault_count c.hold_place.new.live) (g.S.Disk.fault_count c.args.store.now)
    (g.S.Disk.fault_count c.sync.new.store) refl c.in_ok-sync.ensures.causes.live_later
    (omega (arith, c.in_ok-files.ensures.cause.later, c.in_ok-sync.ensures.causes.store_later))
    c.in_err-hold_place.ensures.cause

-- ---- the hold moves

-- what is handed out
abbrev changed_of : List Dated → Synced → Changed
changed_of files synced = record { files = files; sync = synced }

pub returns-clause-live : goal.returns-clause-live
returns-clause-live g c =
    goes_both _ _ _ _ _ _ c.in_ok-sync.ensures.live c.in_ok-hold_place.ensures.told
    (λ r mid after told syncs holds.
    done_rounds c.args.follower.now c.sync.new.follower c.in_ok-sync.sync r mid after (c.requires.legal r told)
    c.in_ok-sync.ensures.none syncs (changed_of c.in_ok-files.files c.in_ok-sync.sync) refl holds)

pub returns-clause-store : goal.returns-clause-store
returns-clause-store g c =
    done_stores c.args.now c.as_slice.result.now (changed_of c.in_ok-files.files c.in_ok-sync.sync)
    (g.S.Disk.told c.args.store.now) (g.S.Disk.told c.files_of.new.store) (g.S.Disk.told c.sync.new.store)
    c.in_ok-files.ensures.unchanged
    (are_lent (g.S.Disk.told c.args.store.now) _ _ c.as_slice.ensures c.in_ok-files.ensures.value)
    c.in_ok-sync.ensures.named c.as_slice.ensures c.in_ok-sync.ensures.store

pub returns-clause-faith : goal.returns-clause-faith
returns-clause-faith g c =
    done_faith c.args.follower.now c.sync.new.follower c.args.now c.as_slice.result.now c.in_ok-sync.sync
    (g.L.Live.told c.args.live.now) (g.L.Live.told c.sync.new.live) (g.L.Live.told c.hold_place.new.live)
    (g.S.Disk.told c.args.store.now) (g.S.Disk.told c.files_of.new.store) (g.S.Disk.told c.sync.new.store)
    c.in_ok-files.ensures.unchanged
    (are_lent (g.S.Disk.told c.args.store.now) _ _ c.as_slice.ensures c.in_ok-files.ensures.value) c.requires.legal
    c.in_ok-sync.ensures.live c.in_ok-sync.ensures.faith _ (changed_of c.in_ok-files.files c.in_ok-sync.sync) refl
    c.in_ok-hold_place.ensures.told

pub returns-clause-causes : goal.returns-clause-causes
returns-clause-causes g c =
    all_well _ (g.L.Live.fault_count c.args.live.now) (g.L.Live.fault_count c.hold_place.new.live)
    (g.S.Disk.fault_count c.args.store.now) (g.S.Disk.fault_count c.sync.new.store)
    (omega (arith, c.in_ok-sync.ensures.causes.live_later, c.in_ok-hold_place.ensures.cause.later))
    (omega (arith, c.in_ok-files.ensures.cause.later, c.in_ok-sync.ensures.causes.store_later))

pub returns-clause-files : goal.returns-clause-files
returns-clause-files g c =
    are_with c.args.now (changed_of c.in_ok-files.files c.in_ok-sync.sync) (g.S.Disk.told c.args.store.now)
    (g.S.Disk.told c.sync.new.store) (returns-clause-store g c)

pub returns-clause-pages : goal.returns-clause-pages
returns-clause-pages g c = pages_known c.sync.new.follower c.in_ok-sync.ensures.known
