use Rattle.std.proofs.Common.{◌≡◌, ◌∙◌, ℕ, Option, Some, None, ap, subst}
use Rattle.ls_base.specs.declared.mark.Mark.{Mark}
use Rattle.wal_frames.specs.Scanned.{scanned_to}
use Rattle.checkpointer.specs.CopiedState.{CopiedState}
use Rattle.checkpointer.specs.PairState.{bytes_at}
use Rattle.checkpointer.specs.Reading.{IsNewer}
use Rattle.checkpointer.proofs.RestartLemmas.{restart_failed, restart_grown, restart_cut, restart_done}
use Rattle.checkpointer.proofs.restarting.restart.Goals as goal

pub returns-in-Err-clause-value : goal.returns-in-Err-clause-value
returns-in-Err-clause-value g c =
    restart_failed c.args.db.now c.args.wal.now c.args.copied c.copied.inside.scan (g.D.Disk.told c.args.disk.now)
    (g.D.Disk.told c.newer_mark.new.disk) c.in-Err.ensures.unchanged c.requires.copied
    (c.copied.invariant.0 ∙ ap (λ (s : CopiedState). scanned_to s.head s.mark) c.copied.view_is) c.in-Err.fault

pub returns-in-Ok-Some-clause-value : goal.returns-in-Ok-Some-clause-value
returns-in-Ok-Some-clause-value g c =
    let end : c.copied.inside.mark.end ≡ c.args.copied.mark.end = ap (λ (s : CopiedState). s.mark.end)
    c.copied.view_is in
    restart_grown c.args.db.now c.args.wal.now c.args.copied c.copied.inside.scan (g.D.Disk.told c.args.disk.now)
    (g.D.Disk.told c.newer_mark.new.disk) c.in-Ok-Some.ensures.unchanged c.requires.copied
    (c.copied.invariant.0 ∙ ap (λ (s : CopiedState). scanned_to s.head s.mark) c.copied.view_is) c.in-Ok-Some.last
    (λ x told.
    subst (λ (n : ℕ). IsNewer (bytes_at x c.args.wal.now) n c.copied.inside.scan (Some c.in-Ok-Some.last)) end
    (subst (λ (newer : Option Mark). IsNewer (bytes_at x c.args.wal.now) c.copied.inside.mark.end c.copied.inside.scan
    newer) c.in-Ok-Some.field-0-is (c.in-Ok-Some.ensures.value x told)))

pub returns-in-Err-empty-clause-value : goal.returns-in-Err-empty-clause-value
returns-in-Err-empty-clause-value g c =
    let end : c.copied.inside.mark.end ≡ c.args.copied.mark.end = ap (λ (s : CopiedState). s.mark.end)
    c.copied.view_is in
    restart_cut c.args.db.now c.args.wal.now c.args.copied c.copied.inside.scan (g.D.Disk.told c.args.disk.now)
    (g.D.Disk.told c.newer_mark.new.disk) c.in-Ok-None.ensures.unchanged c.requires.copied
    (c.copied.invariant.0 ∙ ap (λ (s : CopiedState). scanned_to s.head s.mark) c.copied.view_is) c.requires.apart
    (λ x told.
    subst (λ (n : ℕ). IsNewer (bytes_at x c.args.wal.now) n c.copied.inside.scan None) end
    (subst (λ (newer : Option Mark). IsNewer (bytes_at x c.args.wal.now) c.copied.inside.mark.end c.copied.inside.scan
    newer) c.in-Ok-None.field-0-is (c.in-Ok-None.ensures.value x told)))
    (g.D.Disk.told c.empty.new.disk) c.in-Err-empty.fault c.in-Err-empty.ensures.err

pub returns-clause-value : goal.returns-clause-value
returns-clause-value g c =
    let end : c.copied.inside.mark.end ≡ c.args.copied.mark.end = ap (λ (s : CopiedState). s.mark.end)
    c.copied.view_is in
    restart_done c.args.db.now c.args.wal.now c.args.copied c.copied.inside.scan (g.D.Disk.told c.args.disk.now)
    (g.D.Disk.told c.newer_mark.new.disk) c.in-Ok-None.ensures.unchanged c.requires.copied
    (c.copied.invariant.0 ∙ ap (λ (s : CopiedState). scanned_to s.head s.mark) c.copied.view_is) c.requires.apart
    (λ x told.
    subst (λ (n : ℕ). IsNewer (bytes_at x c.args.wal.now) n c.copied.inside.scan None) end
    (subst (λ (newer : Option Mark). IsNewer (bytes_at x c.args.wal.now) c.copied.inside.mark.end c.copied.inside.scan
    newer) c.in-Ok-None.field-0-is (c.in-Ok-None.ensures.value x told)))
    (g.D.Disk.told c.empty.new.disk) c.in-Ok.ensures.ok
