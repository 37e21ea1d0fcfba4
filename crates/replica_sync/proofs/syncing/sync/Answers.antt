use Rattle.std.proofs.Common.{◌≡◌, false, Ok, refl, sym, ap, subst, ◌∙◌, arith}
use Rattle.snapshot_read.proofs.TellLemmas.{err_of}
use Rattle.crash_disk.specs.GoesOn as disk
use Rattle.wal_follow.specs.declared.answer.Next.{Next}
use Rattle.live_gate.specs.Legal.{IsLegal}
use Rattle.wal_follow.specs.Following.{Fits}
use Rattle.wal_follow.specs.Calls.{Follows, found_in, target_of}
use Rattle.wal_follow.proofs.GoesOnLemmas.{goes_from, goes_join}
use Rattle.round_line.specs.declared.round.Synced.{Synced}
use Rattle.replica_sync.specs.Answers.{IsNamed}
use Rattle.replica_sync.specs.LiveSide.{Syncs, StoresLive}
use Rattle.replica_sync.specs.Newest.{next_moment}
use Rattle.replica_sync.specs.Reading.{ConfirmsFound}
use Rattle.replica_sync.specs.StoreSide.{Stores}
use Rattle.replica_sync.proofs.ReadingLemmas.{live_now, goes_with}
use Rattle.replica_sync.proofs.SyncLemmas.{follow_causes, later_recast, all_well, named_follow, named_refused}
use Rattle.replica_sync.proofs.SyncLemmas.{named_stored, syncs_err, syncs_refused, syncs_stored, syncs_same}
use Rattle.replica_sync.proofs.SyncStoreLemmas.{store_unchanged, store_refused, store_stored, found_target}
use Rattle.replica_sync.proofs.SyncStoreLemmas.{none_is_same}
use Rattle.replica_sync.specs.Faith.{IfBothTell, SyncKeepsFaith}
use Rattle.replica_sync.proofs.Theorems.{faith_unchanged, faith_same, faith_refused, faith_stored}
use Rattle.replica_sync.proofs.syncing.sync.Goals as goal

pub store_next-requires : goal.store_next-requires
store_next-requires g c =
    let ok = c.in_ok-next.ensures in
    record {
      found = ok.learns.found ∙ found_target c.in_ok-next.next c.in-Some.found (sym c.found_of.ensures ∙ c.in-Some.is);
      fits = live_now (g.L.Live.told c.args.live.now) (g.L.Live.told c.next.new.live) _ (λ r. IsLegal r.database)
          (λ r. Fits c.next.new.self r.database) ok.told c.requires.legal
          (λ x y legal follows. follows.fits legal (follows.awake refl));
      awake = live_now (g.L.Live.told c.args.live.now) (g.L.Live.told c.next.new.live) _ (λ r. IsLegal r.database)
          (λ r. r.database.stopped ≡ false) ok.told c.requires.legal (λ x y legal follows. follows.awake refl);
    }

pub returns-in_err-next-clause-named : goal.returns-in_err-next-clause-named
returns-in_err-next-clause-named g c =
    subst (λ result. IsNamed c.args.dated.now result) (sym (err_of _ _ c.from_residual.ensures.1))
    (named_follow c.args.dated.now c.in_err-next.field-0.0 c.in_err-next.ensures.never)

pub returns-in_err-next-clause-live : goal.returns-in_err-next-clause-live
returns-in_err-next-clause-live g c =
    goes_from _ _ _ _ c.in_err-next.ensures.told (λ r after told follows.
    subst (λ result. Syncs c.args.follower.now c.next.new.self result r after)
    (sym (err_of _ _ c.from_residual.ensures.1))
    (syncs_err c.args.follower.now c.next.new.self c.in_err-next.field-0.0 r after c.in_err-next.ensures.never follows))

pub returns-in_err-next-clause-store : goal.returns-in_err-next-clause-store
returns-in_err-next-clause-store g c =
    store_unchanged c.args.dated.now (next_moment c.args.dated.now c.args.now) c.from_residual.result _
    (g.S.Disk.told c.args.store.now) (err_of _ _ c.from_residual.ensures.1)

pub returns-in_err-next-clause-causes : goal.returns-in_err-next-clause-causes
returns-in_err-next-clause-causes g c =
    follow_causes c.from_residual.result c.next.result c.in_err-next.field-0.0 (g.L.Live.fault_count c.args.live.now)
    (g.L.Live.fault_count c.next.new.live) (g.S.Disk.fault_count c.args.store.now)
    (err_of _ _ c.from_residual.ensures.1)
    c.in_err-next.was c.next.ensures.cause

pub returns-in-None-clause-live : goal.returns-in-None-clause-live
returns-in-None-clause-live g c =
    let ok = c.in_ok-next.ensures in
    let same = none_is_same c.in_ok-next.next (sym c.found_of.ensures ∙ c.in-None.is) in
    goes_from _ _ _ _ ok.told (λ r after told follows.
    syncs_same c.args.follower.now c.next.new.self r after
    (subst (λ (answer : Next). Follows c.args.follower.now c.next.new.self (Ok answer) r after) same follows)
    (c.requires.legal r told) (c.requires.fits r told) ok.learns.keeps.place ok.learns.keeps.passed)

pub returns-in-None-clause-causes : goal.returns-in-None-clause-causes
returns-in-None-clause-causes g c =
    all_well _ (g.L.Live.fault_count c.args.live.now) (g.L.Live.fault_count c.next.new.live)
    (g.S.Disk.fault_count c.args.store.now) (g.S.Disk.fault_count c.args.store.now) c.next.ensures.cause.later
    (omega arith)

pub returns-in_err-name-in-Some-clause-named : goal.returns-in_err-name-in-Some-clause-named
returns-in_err-name-in-Some-clause-named g c =
    subst (λ result. IsNamed c.args.dated.now result) (sym (err_of _ _ c.from_residual-in_err-name-in-Some.ensures.1))
    (named_refused c.args.dated.now c.in_err-name-in-Some.field-0.0 c.in_err-name-in-Some.ensures.answer)

pub returns-in_err-name-in-Some-clause-live : goal.returns-in_err-name-in-Some-clause-live
returns-in_err-name-in-Some-clause-live g c =
    goes_join _ _ _ _ _ _ c.in_ok-next.ensures.told c.in_err-name-in-Some.ensures.live (λ r mid after first second.
    subst (λ result. Syncs c.args.follower.now c.store_next.new.follower result r after)
    (sym (err_of _ _ c.from_residual-in_err-name-in-Some.ensures.1))
    (syncs_refused c.args.follower.now c.next.new.self c.store_next.new.follower c.in_ok-next.next c.in-Some.found r
    mid after
    first (sym c.found_of.ensures ∙ c.in-Some.is) c.args.dated.now c.in_err-name-in-Some.field-0.0
    c.in_err-name-in-Some.ensures.answer second))

pub returns-in_err-name-in-Some-clause-store : goal.returns-in_err-name-in-Some-clause-store
returns-in_err-name-in-Some-clause-store g c =
    subst (λ result. disk.GoesOn (g.S.Disk.told c.args.store.now) (g.S.Disk.told c.store_next.new.store)
    (Stores c.args.dated.now (next_moment c.args.dated.now c.args.now) result))
    (sym (err_of _ _ c.from_residual-in_err-name-in-Some.ensures.1))
    (store_refused c.args.dated.now c.in-Some.found (next_moment c.args.dated.now c.args.now)
    c.in_err-name-in-Some.field-0.0 (g.S.Disk.told c.args.store.now) (g.S.Disk.told c.store_next.new.store)
    (g.L.Live.told c.next.new.live) (g.L.Live.told c.store_next.new.live) c.in_err-name-in-Some.ensures.err)

pub returns-in_err-name-in-Some-clause-causes : goal.returns-in_err-name-in-Some-clause-causes
returns-in_err-name-in-Some-clause-causes g c =
    later_recast c.from_residual-in_err-name-in-Some.result c.in_err-name-in-Some.field-0.0
    (g.L.Live.fault_count c.args.live.now) (g.L.Live.fault_count c.next.new.live)
    (g.L.Live.fault_count c.store_next.new.live) (g.S.Disk.fault_count c.args.store.now)
    (g.S.Disk.fault_count c.store_next.new.store) (err_of _ _ c.from_residual-in_err-name-in-Some.ensures.1)
    c.next.ensures.cause.later c.in_err-name-in-Some.ensures.causes

pub returns-in_ok-name-in-Some-clause-named : goal.returns-in_ok-name-in-Some-clause-named
returns-in_ok-name-in-Some-clause-named g c =
    subst (λ (s : Synced). IsNamed c.args.dated.now (Ok s)) (sym c.synced_of.ensures)
    (named_stored c.args.dated.now c.in-Some.found.wanted c.in_ok-name-in-Some.name
    c.in_ok-name-in-Some.ensures.ok.is_next)

pub returns-in_ok-name-in-Some-clause-live : goal.returns-in_ok-name-in-Some-clause-live
returns-in_ok-name-in-Some-clause-live g c =
    let stores = goes_with _ _ _ _ (λ mid after. StoresLive c.next.new.self c.store_next.new.follower
    c.in-Some.found.place (Ok c.in_ok-name-in-Some.name) mid after
    × ConfirmsFound c.next.new.self (target_of c.in-Some.found) mid after) c.in_ok-name-in-Some.ensures.live
    c.in_ok-name-in-Some.ensures.confirmed (λ mid after live confirms. (live, confirms)) in
    goes_join _ _ _ _ _ _ c.in_ok-next.ensures.told stores (λ r mid after first second.
    subst (λ (s : Synced). Syncs c.args.follower.now c.store_next.new.follower (Ok s) r after) (sym c.synced_of.ensures)
    (syncs_stored c.args.follower.now c.next.new.self c.store_next.new.follower c.in_ok-next.next c.in-Some.found r
    mid after
    first (sym c.found_of.ensures ∙ c.in-Some.is) c.in_ok-name-in-Some.name c.in_ok-name-in-Some.ensures.place second.0
    second.1))

pub returns-in_ok-name-in-Some-clause-store : goal.returns-in_ok-name-in-Some-clause-store
returns-in_ok-name-in-Some-clause-store g c =
    subst (λ (s : Synced). disk.GoesOn (g.S.Disk.told c.args.store.now) (g.S.Disk.told c.store_next.new.store)
    (Stores c.args.dated.now (next_moment c.args.dated.now c.args.now) (Ok s))) (sym c.synced_of.ensures)
    (store_stored c.args.dated.now c.in-Some.found c.in_ok-name-in-Some.name (next_moment c.args.dated.now c.args.now)
    (g.S.Disk.told c.args.store.now) (g.S.Disk.told c.store_next.new.store) (g.L.Live.told c.next.new.live)
    (g.L.Live.told c.store_next.new.live) c.in_ok-name-in-Some.ensures.ok)

pub returns-in_ok-name-in-Some-clause-causes : goal.returns-in_ok-name-in-Some-clause-causes
returns-in_ok-name-in-Some-clause-causes g c =
    all_well c.synced_of.result (g.L.Live.fault_count c.args.live.now) (g.L.Live.fault_count c.store_next.new.live)
    (g.S.Disk.fault_count c.args.store.now) (g.S.Disk.fault_count c.store_next.new.store)
    (omega (arith, c.next.ensures.cause.later, c.store_next.ensures.causes.live_later))
    c.store_next.ensures.causes.store_later

pub returns-in-None-clause-none : goal.returns-in-None-clause-none
returns-in-None-clause-none g c =
    let same = none_is_same c.in_ok-next.next (sym c.found_of.ensures ∙ c.in-None.is) in
    c.in_ok-next.ensures.learns.found ∙ ap (λ (answer : Next). found_in answer) same

pub returns-in-None-clause-known : goal.returns-in-None-clause-known
returns-in-None-clause-known g c =
    c.in_ok-next.ensures.learns.same (none_is_same c.in_ok-next.next (sym c.found_of.ensures ∙ c.in-None.is))

pub returns-in_err-next-clause-faith : goal.returns-in_err-next-clause-faith
returns-in_err-next-clause-faith g c =
    faith_unchanged c.args.follower.now c.next.new.self c.args.dated.now c.args.now c.from_residual.result _
    (g.L.Live.told c.args.live.now) (g.L.Live.told c.next.new.live) (g.S.Disk.told c.args.store.now) _
    (err_of _ _ c.from_residual.ensures.1) c.in_err-next.ensures.told (λ r s follows. follows.step)

pub returns-in-None-clause-faith : goal.returns-in-None-clause-faith
returns-in-None-clause-faith g c =
    faith_same c.args.follower.now c.next.new.self c.args.dated.now c.args.now c.in_ok-next.next
    (g.L.Live.told c.args.live.now) (g.L.Live.told c.next.new.live) (g.S.Disk.told c.args.store.now)
    (none_is_same c.in_ok-next.next (sym c.found_of.ensures ∙ c.in-None.is)) c.in_ok-next.ensures.learns.keeps.place
    c.requires.fits c.in_ok-next.ensures.told

pub returns-in_err-name-in-Some-clause-faith : goal.returns-in_err-name-in-Some-clause-faith
returns-in_err-name-in-Some-clause-faith g c =
    faith_refused c.args.follower.now c.next.new.self c.store_next.new.follower c.args.dated.now c.args.now
    c.in_ok-next.next
    c.in-Some.found (g.L.Live.told c.args.live.now) (g.L.Live.told c.next.new.live)
    (g.L.Live.told c.store_next.new.live)
    (g.S.Disk.told c.args.store.now) (g.S.Disk.told c.store_next.new.store) _ c.requires.fits c.in_ok-next.ensures.told
    (sym c.found_of.ensures ∙ c.in-Some.is) c.in_err-name-in-Some.ensures.live (λ r s stores. stores.step)
    c.from_residual-in_err-name-in-Some.result _ (err_of _ _ c.from_residual-in_err-name-in-Some.ensures.1)
    c.in_err-name-in-Some.ensures.err

pub returns-in_ok-name-in-Some-clause-faith : goal.returns-in_ok-name-in-Some-clause-faith
returns-in_ok-name-in-Some-clause-faith g c =
    subst (λ (s : Synced). IfBothTell (g.L.Live.told c.args.live.now) (g.L.Live.told c.store_next.new.live)
    (g.S.Disk.told c.args.store.now) (g.S.Disk.told c.store_next.new.store) (SyncKeepsFaith c.args.follower.now
    c.store_next.new.follower c.args.dated.now c.args.now (Ok s))) (sym c.synced_of.ensures)
    (faith_stored c.args.follower.now c.next.new.self c.store_next.new.follower c.args.dated.now c.args.now
    c.in_ok-next.next
    c.in-Some.found (g.L.Live.told c.args.live.now) (g.L.Live.told c.next.new.live)
    (g.L.Live.told c.store_next.new.live)
    (g.S.Disk.told c.args.store.now) (g.S.Disk.told c.store_next.new.store) _ c.requires.fits c.in_ok-next.ensures.told
    (sym c.found_of.ensures ∙ c.in-Some.is) c.in_ok-name-in-Some.ensures.live (λ r s stores. stores.step)
    c.in_ok-name-in-Some.name c.in_ok-name-in-Some.ensures.place c.in_ok-name-in-Some.ensures.ok)
