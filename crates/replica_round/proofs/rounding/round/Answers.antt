use Rattle.std.proofs.Common.{Option, Result, Ok, Err, refl, sym, subst}
use Rattle.crash_disk.specs.GoesOn as disk
use Rattle.round_line.specs.declared.round.Round.{Round}
use Rattle.replica_round.specs.declared.stop.RoundStop.{RoundStop}
use Rattle.live_gate.specs.LiveRecord.{Attachment, GoesOn, is_at_rest}
use Rattle.replica_round.specs.Faith.{RoundKeepsFaith}
use Rattle.replica_round.specs.StoreSide.{StoresRound}
use Rattle.replica_sync.specs.Faith.{IfBothTell}
use Rattle.replica_round.proofs.RoundFaith.{refused_keeps, unpassed_keeps, unkept_keeps, done_keeps}
use Rattle.replica_round.proofs.ResultLemmas.{err_of}
use Rattle.replica_round.proofs.RoundStore.{round_of, unchanged_stores, unpassed_stores, unkept_stores, kept_stores}
use Rattle.replica_round.specs.LiveSide.{Rounds}
use Rattle.replica_round.specs.Passing.{PassesWhenLong}
use Rattle.wal_follow.proofs.GoesOnLemmas.{goes_both}
use Rattle.replica_round.proofs.RoundLive.{goes_fitting, unpassed_rounds, unkept_rounds, done_rounds}
use Rattle.replica_round.proofs.rounding.round.Goals as goal

-- ---- the live database

pub returns-in_err-passed-clause-live : goal.returns-in_err-passed-clause-live
returns-in_err-passed-clause-live g c =
    subst (λ (result : Result Round RoundStop). GoesOn (g.L.Live.told c.args.live.now)
    (g.L.Live.told c.pass_when_long.new.live) (Rounds (is_at_rest (g.L.Live.attached c.args.live.now))
    c.args.follower.now c.pass_when_long.new.follower result))
    (sym (err_of _ _ c.from_residual-in_err-passed.ensures.1))
    (goes_both _ _ _ _ _ _ c.in_ok-changed.ensures.live c.in_err-passed.ensures.told
    (λ r mid after told changes passes.
    unpassed_rounds c.args.follower.now c.store_changes.new.follower c.pass_when_long.new.follower
    (is_at_rest (g.L.Live.attached c.args.live.now)) c.in_ok-changed.changed r mid after changes
    c.in_err-passed.field-0.0
    (subst (λ (at : Option Attachment). PassesWhenLong c.store_changes.new.follower c.pass_when_long.new.follower
    (is_at_rest at) (Err c.in_err-passed.field-0.0) mid after) c.in_ok-changed.ensures.keeps.attached passes)))

pub returns-in_err-upkeep-clause-live : goal.returns-in_err-upkeep-clause-live
returns-in_err-upkeep-clause-live g c =
    subst (λ (result : Result Round RoundStop). GoesOn (g.L.Live.told c.args.live.now)
    (g.L.Live.told c.pass_when_long.new.live) (Rounds (is_at_rest (g.L.Live.attached c.args.live.now))
    c.args.follower.now c.pass_when_long.new.follower result))
    (sym (err_of _ _ c.from_residual-in_err-upkeep.ensures.1))
    (goes_fitting _ _ _ _ _ _ _ c.in_ok-changed.ensures.live c.in_ok-passed.ensures.told c.in_ok-passed.ensures.fits
    (λ r mid after changes passes fits.
    unkept_rounds c.args.follower.now c.store_changes.new.follower c.pass_when_long.new.follower
    (is_at_rest (g.L.Live.attached c.args.live.now)) c.in_ok-changed.changed r mid after changes c.in_ok-passed.passed
    (subst (λ (at : Option Attachment). PassesWhenLong c.store_changes.new.follower c.pass_when_long.new.follower
    (is_at_rest at) (Ok c.in_ok-passed.passed) mid after) c.in_ok-changed.ensures.keeps.attached passes)
    fits c.in_err-upkeep.field-0.0))

pub returns-clause-live : goal.returns-clause-live
returns-clause-live g c =
    goes_fitting _ _ _ _ _ _ _ c.in_ok-changed.ensures.live c.in_ok-passed.ensures.told c.in_ok-passed.ensures.fits
    (λ r mid after changes passes fits.
    done_rounds c.args.follower.now c.store_changes.new.follower c.pass_when_long.new.follower
    (is_at_rest (g.L.Live.attached c.args.live.now)) c.in_ok-changed.changed r mid after changes c.in_ok-passed.passed
    (subst (λ (at : Option Attachment). PassesWhenLong c.store_changes.new.follower c.pass_when_long.new.follower
    (is_at_rest at) (Ok c.in_ok-passed.passed) mid after) c.in_ok-changed.ensures.keeps.attached passes)
    fits (round_of c.in_ok-changed.changed c.in_ok-passed.passed c.in_ok-upkeep.upkeep) refl refl)

-- ---- storing the changes is refused

pub returns-in_err-changed-clause-store : goal.returns-in_err-changed-clause-store
returns-in_err-changed-clause-store g c =
    subst (λ (result : Result Round RoundStop). disk.GoesOn (g.S.Disk.told c.args.store.now)
    (g.S.Disk.told c.store_changes.new.store) (StoresRound c.args.keep c.args.now result))
    (sym (err_of _ _ c.from_residual.ensures.1))
    (unchanged_stores c.args.keep c.args.now c.in_err-changed.field-0.0 (g.S.Disk.told c.args.store.now)
    (g.S.Disk.told c.store_changes.new.store) c.in_err-changed.ensures.store)

-- ---- the pass is

pub returns-in_err-passed-clause-store : goal.returns-in_err-passed-clause-store
returns-in_err-passed-clause-store g c =
    subst (λ (result : Result Round RoundStop). disk.GoesOn (g.S.Disk.told c.args.store.now)
    (g.S.Disk.told c.store_changes.new.store) (StoresRound c.args.keep c.args.now result))
    (sym (err_of _ _ c.from_residual-in_err-passed.ensures.1))
    (unpassed_stores c.args.keep c.args.now c.in_ok-changed.changed c.in_err-passed.field-0.0
    (g.S.Disk.told c.args.store.now) (g.S.Disk.told c.store_changes.new.store) c.in_ok-changed.ensures.store)

-- ---- the upkeep is asked

pub keep_up-requires : goal.keep_up-requires
keep_up-requires g c = record { in_order = c.in_ok-changed.ensures.in_order; files = c.in_ok-changed.ensures.files }

pub returns-in_err-upkeep-clause-store : goal.returns-in_err-upkeep-clause-store
returns-in_err-upkeep-clause-store g c =
    subst (λ (result : Result Round RoundStop). disk.GoesOn (g.S.Disk.told c.args.store.now)
    (g.S.Disk.told c.keep_up.new.store) (StoresRound c.args.keep c.args.now result))
    (sym (err_of _ _ c.from_residual-in_err-upkeep.ensures.1))
    (unkept_stores c.args.keep c.args.now c.in_ok-changed.changed c.in_err-upkeep.field-0.0
    (g.S.Disk.told c.args.store.now) (g.S.Disk.told c.store_changes.new.store) (g.S.Disk.told c.keep_up.new.store)
    c.in_ok-changed.ensures.store c.in_ok-changed.ensures.files c.in_err-upkeep.ensures.explained
    c.in_err-upkeep.ensures.files)

pub returns-clause-store : goal.returns-clause-store
returns-clause-store g c =
    kept_stores c.args.keep c.args.now c.in_ok-changed.changed c.in_ok-passed.passed c.in_ok-upkeep.upkeep
    (g.S.Disk.told c.args.store.now) (g.S.Disk.told c.store_changes.new.store) (g.S.Disk.told c.keep_up.new.store)
    c.in_ok-changed.ensures.store c.in_ok-changed.ensures.files c.in_ok-upkeep.ensures.ok c.in_ok-upkeep.ensures.files

-- ---- the faith of the replica

pub returns-in_err-changed-clause-faith : goal.returns-in_err-changed-clause-faith
returns-in_err-changed-clause-faith g c =
    subst (λ (result : Result Round RoundStop). IfBothTell (g.L.Live.told c.args.live.now)
    (g.L.Live.told c.store_changes.new.live) (g.S.Disk.told c.args.store.now) (g.S.Disk.told c.store_changes.new.store)
    (RoundKeepsFaith c.args.follower.now c.store_changes.new.follower c.args.keep c.args.now result))
    (sym (err_of _ _ c.from_residual.ensures.1))
    (refused_keeps c.args.follower.now c.store_changes.new.follower c.args.keep c.args.now c.in_err-changed.field-0.0
    (g.L.Live.told c.args.live.now) (g.L.Live.told c.store_changes.new.live) (g.S.Disk.told c.args.store.now)
    (g.S.Disk.told c.store_changes.new.store) c.in_err-changed.ensures.store c.in_err-changed.ensures.faith)

pub returns-in_err-passed-clause-faith : goal.returns-in_err-passed-clause-faith
returns-in_err-passed-clause-faith g c =
    subst (λ (result : Result Round RoundStop). IfBothTell (g.L.Live.told c.args.live.now)
    (g.L.Live.told c.pass_when_long.new.live) (g.S.Disk.told c.args.store.now)
    (g.S.Disk.told c.store_changes.new.store) (RoundKeepsFaith c.args.follower.now c.pass_when_long.new.follower
    c.args.keep c.args.now result)) (sym (err_of _ _ c.from_residual-in_err-passed.ensures.1))
    (unpassed_keeps c.args.follower.now c.store_changes.new.follower c.pass_when_long.new.follower
    (is_at_rest (g.L.Live.attached c.store_changes.new.live)) (Err c.in_err-passed.field-0.0) c.args.keep
    c.args.now c.in_ok-changed.changed (g.L.Live.told c.args.live.now) (g.L.Live.told c.store_changes.new.live)
    (g.L.Live.told c.pass_when_long.new.live) (g.S.Disk.told c.args.store.now)
    (g.S.Disk.told c.store_changes.new.store) c.in_ok-changed.ensures.live c.in_ok-changed.ensures.faith
    c.in_err-passed.ensures.told c.in_err-passed.field-0.0)

pub returns-in_err-upkeep-clause-faith : goal.returns-in_err-upkeep-clause-faith
returns-in_err-upkeep-clause-faith g c =
    subst (λ (result : Result Round RoundStop). IfBothTell (g.L.Live.told c.args.live.now)
    (g.L.Live.told c.pass_when_long.new.live) (g.S.Disk.told c.args.store.now) (g.S.Disk.told c.keep_up.new.store)
    (RoundKeepsFaith c.args.follower.now c.pass_when_long.new.follower c.args.keep c.args.now result))
    (sym (err_of _ _ c.from_residual-in_err-upkeep.ensures.1))
    (unkept_keeps c.args.follower.now c.store_changes.new.follower c.pass_when_long.new.follower
    (is_at_rest (g.L.Live.attached c.store_changes.new.live)) (Ok c.in_ok-passed.passed) c.args.keep
    c.args.now c.in_ok-changed.changed (g.L.Live.told c.args.live.now) (g.L.Live.told c.store_changes.new.live)
    (g.L.Live.told c.pass_when_long.new.live) (g.S.Disk.told c.args.store.now)
    (g.S.Disk.told c.store_changes.new.store) c.in_ok-changed.ensures.live c.in_ok-changed.ensures.faith
    c.in_ok-passed.ensures.told c.in_ok-changed.ensures.known c.in_ok-changed.ensures.store
    (g.S.Disk.told c.keep_up.new.store) c.in_err-upkeep.ensures.faith c.in_err-upkeep.field-0.0
    c.in_err-upkeep.ensures.sound)

pub returns-clause-faith : goal.returns-clause-faith
returns-clause-faith g c =
    done_keeps c.args.follower.now c.store_changes.new.follower c.pass_when_long.new.follower
    (is_at_rest (g.L.Live.attached c.store_changes.new.live)) (Ok c.in_ok-passed.passed) c.args.keep
    c.args.now c.in_ok-changed.changed (g.L.Live.told c.args.live.now) (g.L.Live.told c.store_changes.new.live)
    (g.L.Live.told c.pass_when_long.new.live) (g.S.Disk.told c.args.store.now)
    (g.S.Disk.told c.store_changes.new.store) c.in_ok-changed.ensures.live c.in_ok-changed.ensures.faith
    c.in_ok-passed.ensures.told c.in_ok-changed.ensures.known c.in_ok-changed.ensures.store
    (g.S.Disk.told c.keep_up.new.store) c.in_ok-upkeep.ensures.faith
    (round_of c.in_ok-changed.changed c.in_ok-passed.passed c.in_ok-upkeep.upkeep) refl c.in_ok-passed.ensures.place
    c.in_ok-upkeep.ensures.files c.in_ok-upkeep.ensures.settles
