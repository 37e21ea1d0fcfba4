use Rattle.std.proofs.Common.{List, ℕ, refl, sym, ap, subst, ◌∙◌}
use Rattle.crash_disk.specs.Output.{gains_text, GainsFront}
use Rattle.litestream_core.specs.Command.{Explains}
use Rattle.litestream_core.specs.RequestView.{as_request}
use Rattle.litestream_core.proofs.CommandLemmas.{explains_fault, explains_done, explains_sink_fault, explained_from}
use Rattle.litestream_core.proofs.CommandLemmas.{applied_from}
use Rattle.litestream_core.proofs.command.restore.Goals as goal

pub returns-in-Err-clause-explained : goal.returns-in-Err-clause-explained
returns-in-Err-clause-explained g c =
    let r = as_request c.args.request.now in
    let ready = c.in_ok-ready in
    subst (Explains r _) (sym c.refusal.ensures)
    (explains_fault r _ ready.ready.txid ready.ready.plan ready.ensures.absent ready.ensures.plan
    (g.S.Disk.fault_count c.prepare.new.store) (g.T.Disk.fault_count c.prepare.new.target) ready.ensures.store_later
    ready.ensures.target_later refl c.in-Err.fault
    (explained_from _ (g.S.Disk.told c.prepare.new.store) _ (g.T.Disk.told c.prepare.new.target) _
    (g.T.Disk.told c.restore-applied.new.target) ready.ready.plan c.as_slice-plan.result.now r.output
    (sym (g.met.S.Disk.stands c.prepare.new.store r.replica ready.ensures.attached.replica)
    ∙ ready.ensures.store_unchanged)
    (sym (g.met.T.Disk.stands c.prepare.new.target r.folder ready.ensures.attached.output)
    ∙ ready.ensures.target_unchanged)
    (sym (g.met.T.Disk.stands c.restore-applied.new.target r.folder
    (c.in-Err.ensures.same_target_folder ∙ ready.ensures.attached.output)))
    c.as_slice-plan.ensures _ _ _ _ c.in-Err.fault c.in-Err.ensures.explained))

pub returns-in_default-clause-explained : goal.returns-in_default-clause-explained
returns-in_default-clause-explained g c =
    let r = as_request c.args.request.now in
    let ready = c.in_ok-ready in
    explains_sink_fault r _ ready.ready.txid ready.ready.plan ready.ensures.absent ready.ensures.plan c.in-Ok.restored
    (applied_from _ (g.S.Disk.told c.prepare.new.store) _ (g.T.Disk.told c.prepare.new.target) _
    (g.T.Disk.told c.restore-applied.new.target) ready.ready.plan c.as_slice-plan.result.now r.output
    (sym (g.met.S.Disk.stands c.prepare.new.store r.replica ready.ensures.attached.replica)
    ∙ ready.ensures.store_unchanged)
    (sym (g.met.T.Disk.stands c.prepare.new.target r.folder ready.ensures.attached.output)
    ∙ ready.ensures.target_unchanged)
    (sym (g.met.T.Disk.stands c.restore-applied.new.target r.folder
    (c.in-Ok.ensures.same_target_folder ∙ ready.ensures.attached.output)))
    c.as_slice-plan.ensures c.in-Ok.restored c.in-Ok.ensures.ok)
    (c.in_default.ensures.cause.rose refl)
    (subst (λ (line : List ℕ). GainsFront (g.O.Out.text c.args.out.now) (g.O.Out.text c.put.new.self) line)
    (c.as_slice.ensures.value ∙ c.restored_line-line.ensures) c.in_default.ensures.err)

pub returns-clause-explained : goal.returns-clause-explained
returns-clause-explained g c =
    let r = as_request c.args.request.now in
    let ready = c.in_ok-ready in
    explains_done r _ ready.ready.txid ready.ready.plan ready.ensures.absent ready.ensures.plan c.in-Ok.restored
    (applied_from _ (g.S.Disk.told c.prepare.new.store) _ (g.T.Disk.told c.prepare.new.target) _
    (g.T.Disk.told c.restore-applied.new.target) ready.ready.plan c.as_slice-plan.result.now r.output
    (sym (g.met.S.Disk.stands c.prepare.new.store r.replica ready.ensures.attached.replica)
    ∙ ready.ensures.store_unchanged)
    (sym (g.met.T.Disk.stands c.prepare.new.target r.folder ready.ensures.attached.output)
    ∙ ready.ensures.target_unchanged)
    (sym (g.met.T.Disk.stands c.restore-applied.new.target r.folder
    (c.in-Ok.ensures.same_target_folder ∙ ready.ensures.attached.output)))
    c.as_slice-plan.ensures c.in-Ok.restored c.in-Ok.ensures.ok)
    (c.in-Ok-put.ensures.ok ∙ ap (λ line. gains_text (g.O.Out.text c.args.out.now) line)
    (c.as_slice.ensures.value ∙ c.restored_line-line.ensures))
