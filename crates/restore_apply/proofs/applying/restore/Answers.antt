use Rattle.std.proofs.Common.{◌≡◌, List, ℕ, Err, refl, ap, subst, sym, ◌∙◌}
use Rattle.std.specs.Prelude.{Result}
use Rattle.ltx_reader.proofs.ReaderGivenLemmas.{gives_none}
use Rattle.page_cursors.specs.Costs.{left_of_all, nothing, plan_cost}
use Rattle.page_cursors.proofs.CostLemmas.{takes_none, takes_then}
use Rattle.page_cursors.proofs.CostListLemmas.{takes_all}
use Rattle.restore_apply.specs.declared.restored.Restored.{Restored}
use Rattle.restore_apply.specs.declared.restored.RestoreFault.TheVariants.{Memory}
use Rattle.page_cursors.specs.declared.fault.CursorsFault.{CursorsFault}
use Rattle.page_cursors.specs.Cursors.{plan_of}
use Rattle.crash_disk.specs.Files.{files_after}
use Rattle.crash_disk.specs.Told.{Told}
use Rattle.replica_store.specs.declared.file_name.FileName.{FileName}
use Rattle.restore_apply.specs.declared.restored.RestoreFault.{RestoreFault}
use Rattle.restore_apply.specs.Restoring.{ExplainsRestore, AreStateOf}
use Rattle.restore_apply.specs.Writing.{Clears}
use Rattle.restore_apply.proofs.FaultLemmas.{explains_begin, explains_sooner, from_memory, passes_none}
use Rattle.restore_apply.proofs.PlanLemmas.{err_is}
use Rattle.restore_apply.proofs.applying.restore.Goals as goal

pub returns-in-Err-clause-explained : goal.returns-in-Err-clause-explained
returns-in-Err-clause-explained g c =
    let store = g.S.Disk.told c.args.store.now in
    let old = g.T.Disk.told c.args.target.now in
    let new = g.T.Disk.told c.refuse.new.target in
    let plan = c.args.plan.now in
    let name = c.args.name.now in
    let before = g.T.Disk.fault_count c.args.target.now in
    let now = g.T.Disk.fault_count c.refuse.new.target in
    let temporary = c.as_str.ensures.value ∙ c.in_ok-temporary.ensures in
    subst (λ (fault : RestoreFault). ExplainsRestore store plan name old new (g.S.Disk.fault_count c.args.store.now)
    (g.S.Disk.fault_count c.begin.new.store) before now fault)
    (sym c.refuse.ensures.same)
    (explains_begin name plan store old new c.requires.absent (g.S.Disk.fault_count c.args.store.now)
    (g.S.Disk.fault_count c.begin.new.store) before now c.refuse.ensures.later c.in-Err.fault
    (subst (λ (t : List ℕ). Clears t old new before now c.in-Err.fault) temporary c.refuse.ensures.clears)
    c.in-Err.ensures.explained (λ disk is. c.in-Err.ensures.cause.rose disk (ap (λ (e : CursorsFault). Err e) is)))

pub returns-in_err-write_output-clause-explained : goal.returns-in_err-write_output-clause-explained
returns-in_err-write_output-clause-explained g c =
    let store = g.S.Disk.told c.args.store.now in
    let old = g.T.Disk.told c.args.target.now in
    let new = g.T.Disk.told c.write_output.new.target in
    let plan = c.args.plan.now in
    let name = c.args.name.now in
    let fault = c.in_err-write_output.field-0.0 in
    let before = g.S.Disk.fault_count c.args.store.now in
    let begun = g.S.Disk.fault_count c.begin.new.store in
    let now = g.S.Disk.fault_count c.write_output.new.store in
    let target = g.T.Disk.fault_count c.args.target.now in
    let target_now = g.T.Disk.fault_count c.write_output.new.target in
    err_is c.from_residual-in_err-write_output.result fault
    (ExplainsRestore store plan name old new before now target target_now)
    c.from_residual-in_err-write_output.ensures.1
    (explains_sooner store plan name old new before begun now target target_now fault c.begin.ensures.cause.later
    (subst (λ (p : List FileName). ExplainsRestore store p name old new begun now target target_now fault)
    c.in-Ok.ensures.plan
    (subst (λ (t : Told). ExplainsRestore t (plan_of c.in-Ok.cursors) name old new begun now target target_now fault)
    c.begin.ensures.unchanged c.in_err-write_output.ensures.explained)))

pub returns-clause-ok : goal.returns-clause-ok
returns-clause-ok g c =
    let written = c.in_ok-write_output.ensures.ok in
    record {
      bytes = written.bytes;
      output = written.writes;
      state = λ events told.
          subst (λ (p : List FileName). AreStateOf (files_after events) p c.in-Ok.cursors.commit written.bytes)
          c.in-Ok.ensures.plan (written.state events (c.begin.ensures.unchanged ∙ told));
      txid = c.last_txid.ensures;
    }

pub returns-in_err-temporary-clause-takes : goal.returns-in_err-temporary-clause-takes
returns-in_err-temporary-clause-takes g c = λ events told.
    takes_all _ _ _ _ _ _ (takes_none (plan_cost (files_after events) c.args.plan.now) c.args.steps.now c.args.steps.now
    (g.S.Disk.given c.args.store.now) (g.S.Disk.given c.args.store.now) refl refl)

pub returns-in_err-gathered-clause-takes : goal.returns-in_err-gathered-clause-takes
returns-in_err-gathered-clause-takes g c = λ events told.
    takes_all _ _ _ _ _ _ (takes_none (plan_cost (files_after events) c.args.plan.now) c.args.steps.now c.args.steps.now
    (g.S.Disk.given c.args.store.now) (g.S.Disk.given c.args.store.now) refl refl)

pub returns-in_err-temporary-clause-little : goal.returns-in_err-temporary-clause-little
returns-in_err-temporary-clause-little g c = λ memory. gives_none _ _

pub returns-in_err-gathered-clause-little : goal.returns-in_err-gathered-clause-little
returns-in_err-gathered-clause-little g c = λ memory. gives_none _ _

pub returns-in-Err-clause-little : goal.returns-in-Err-clause-little
returns-in-Err-clause-little g c = λ memory.
    c.in-Err.ensures.little (ap (λ (e : CursorsFault). Err e) (from_memory c.in-Err.fault
    (subst (λ (f : RestoreFault). ◌≡◌ {A = Result Restored RestoreFault} (Err f) (Err Memory)) c.refuse.ensures.same
    memory)))

pub returns-in_err-write_output-clause-little : goal.returns-in_err-write_output-clause-little
returns-in_err-write_output-clause-little g c = λ memory.
    absurd (passes_none c.in_err-write_output.field-0.0 c.from_residual-in_err-write_output.result
    c.from_residual-in_err-write_output.ensures.1 c.in_err-write_output.ensures.no_memory memory)

pub returns-in_err-write_output-clause-takes : goal.returns-in_err-write_output-clause-takes
returns-in_err-write_output-clause-takes g c = λ events told.
    let files = files_after events in
    takes_then (plan_cost files c.args.plan.now) (left_of_all files c.in-Ok.cursors.cursors.items) nothing
    c.args.steps.now c.begin.new.steps c.write_output.new.steps (g.S.Disk.given c.args.store.now)
    (g.S.Disk.given c.begin.new.store) (g.S.Disk.given c.write_output.new.store) (c.in-Ok.ensures.takes events told)
    (c.write_output.ensures.takes events (c.begin.ensures.unchanged ∙ told) (c.in-Ok.ensures.counted events told))

pub returns-clause-takes : goal.returns-clause-takes
returns-clause-takes g c = λ events told.
    let files = files_after events in
    takes_then (plan_cost files c.args.plan.now) (left_of_all files c.in-Ok.cursors.cursors.items) nothing
    c.args.steps.now c.begin.new.steps c.write_output.new.steps (g.S.Disk.given c.args.store.now)
    (g.S.Disk.given c.begin.new.store) (g.S.Disk.given c.write_output.new.store) (c.in-Ok.ensures.takes events told)
    (c.write_output.ensures.takes events (c.begin.ensures.unchanged ∙ told) (c.in-Ok.ensures.counted events told))
