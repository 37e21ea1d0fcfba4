use Rattle.std.proofs.Common.{refl, inr, ◌∙◌, arith}
use Rattle.page_cursors.specs.Cursors.{plan_of}
use Rattle.restore_apply.specs.declared.restored.RestoreFault.TheVariants.{Target}
use Rattle.restore_apply.proofs.FaultLemmas.{leaves_begun, rose_later}
use Rattle.restore_apply.proofs.PlanLemmas.{err_is}
use Rattle.restore_apply.proofs.StagingLemmas.{there_once_synced, named, maybe_named, not_synced}
use Rattle.restore_apply.proofs.output.write_named.Goals as goal

pub rename-requires-clause-there : goal.rename-requires-clause-there
rename-requires-clause-there g c = there_once_synced (g.T.Disk.told c.fill.new.target) (g.T.Disk.told c.sync.new.self)
    c.args.temporary.now c.in_ok-sync.ensures.ok c.in_ok-fill.ensures.there

pub returns-clause-ok : goal.returns-clause-ok
returns-clause-ok g c =
    let fill = c.in_ok-fill.ensures.ok in
    record {
      bytes = fill.bytes;
      names =
          named (g.T.Disk.told c.args.target.now) (g.T.Disk.told c.fill.new.target) (g.T.Disk.told c.sync.new.self)
          (g.T.Disk.told c.rename.new.self) c.args.temporary.now c.args.name.now fill.bytes fill.fills
          c.in_ok-sync.ensures.ok c.in_ok-rename.ensures.ok;
      state = fill.state;
    }

pub returns-in_err-fill-clause-err : goal.returns-in_err-fill-clause-err
returns-in_err-fill-clause-err g c =
    err_is c.from_residual.result c.in_err-fill.field-0.0 _ c.from_residual.ensures.1
    (leaves_begun (g.S.Disk.told c.args.store.now) c.args.cursors.now c.args.temporary.now c.args.name.now _ _
    _ _ _ _ c.in_err-fill.field-0.0 c.in_err-fill.ensures.rests c.in_err-fill.ensures.err)

pub returns-in_err-sync-clause-err : goal.returns-in_err-sync-clause-err
returns-in_err-sync-clause-err g c =
    let fill = c.in_ok-fill.ensures.ok in
    err_is c.from_residual-in_err-sync.result (Target c.in_err-sync.field-0.0) _ c.from_residual-in_err-sync.ensures.1
    (inr (record {
      bytes = fill.bytes;
      names =
          not_synced (g.T.Disk.told c.args.target.now) (g.T.Disk.told c.fill.new.target)
          (g.T.Disk.told c.sync.new.self) c.args.temporary.now c.args.name.now fill.bytes fill.fills
          c.in_err-sync.ensures.err;
      state = fill.state;
    }))

pub returns-in_err-rename-clause-err : goal.returns-in_err-rename-clause-err
returns-in_err-rename-clause-err g c =
    let fill = c.in_ok-fill.ensures.ok in
    err_is c.from_residual-in_err-rename.result (Target c.in_err-rename.field-0.0) _
    c.from_residual-in_err-rename.ensures.1
    (inr (record {
      bytes = fill.bytes;
      names =
          maybe_named (g.T.Disk.told c.args.target.now) (g.T.Disk.told c.fill.new.target)
          (g.T.Disk.told c.sync.new.self) (g.T.Disk.told c.rename.new.self) c.args.temporary.now c.args.name.now
          fill.bytes fill.fills c.in_ok-sync.ensures.ok c.in_err-rename.ensures.err;
      state = fill.state;
    }))

pub returns-in_err-sync-clause-rests : goal.returns-in_err-sync-clause-rests
returns-in_err-sync-clause-rests g c =
    err_is c.from_residual-in_err-sync.result (Target c.in_err-sync.field-0.0) _ c.from_residual-in_err-sync.ensures.1
    (rose_later _ _ _ c.fill.ensures.target_later (c.in_err-sync.ensures.cause.rose refl))

pub returns-in_err-rename-clause-rests : goal.returns-in_err-rename-clause-rests
returns-in_err-rename-clause-rests g c =
    err_is c.from_residual-in_err-rename.result (Target c.in_err-rename.field-0.0) _
    c.from_residual-in_err-rename.ensures.1
    (rose_later _ _ _ (omega (arith, c.fill.ensures.target_later, c.sync.ensures.cause.later))
    (c.in_err-rename.ensures.cause.rose refl))
