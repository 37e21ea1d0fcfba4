use Rattle.std.proofs.Common.{◌∙◌}
use Rattle.restore_apply.proofs.StagingLemmas.{append_gathered, append_failed, err_leaves}
use Rattle.restore_apply.proofs.gathered.Gathered.flush.Goals as goal

pub returns-in_err-append-clause-err : goal.returns-in_err-append-clause-err
returns-in_err-append-clause-err g c =
    err_leaves c.from_residual.result _
    (append_failed (g.D.Disk.told c.args.disk.now) (g.D.Disk.told c.append.new.self) c.args.name.now
    c.as_slice.result.now c.in_err-append.ensures.err)

pub returns-clause-ok : goal.returns-clause-ok
returns-clause-ok g c =
    append_gathered (g.D.Disk.told c.args.disk.now) (g.D.Disk.told c.append.new.self) c.args.name.now
    c.as_slice.result.now c.args.self.now (c.as_slice.ensures.value ∙ c.self.view_is) c.in_ok-append.ensures.ok
