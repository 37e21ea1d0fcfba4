use Rattle.std.proofs.Common.{◌≡◌, List, ℕ, refl, subst}
use Rattle.crash_disk.specs.declared.event.Event.TheVariants.{Removed}
use Rattle.crash_disk.specs.Told.{GainsOrNot, gains}
use Rattle.crash_disk.proofs.GoesOnLemmas.{goes_on-weaker}
use Rattle.ls_base.specs.Fault.{Rose}
use Rattle.restore_apply.specs.declared.restored.RestoreFault.TheVariants.{Target}
use Rattle.restore_apply.specs.Writing.{NamesPages, LeavesPages}
use Rattle.page_cursors.specs.Cursors.{plan_of}
use Rattle.restore_apply.proofs.FaultLemmas.{explains_cleared, unsettled, rose_later, never_memory}
use Rattle.restore_apply.proofs.OutputLemmas.{writes-from_settles}
use Rattle.restore_apply.proofs.PlanLemmas.{err_is}
use Rattle.restore_apply.proofs.StagingLemmas.{settled}
use Rattle.restore_apply.proofs.output.write_output.Goals as goal

pub returns-in-Err-clause-explained : goal.returns-in-Err-clause-explained
returns-in-Err-clause-explained g c =
    let old = g.T.Disk.told c.args.target.now in
    let mid = g.T.Disk.told c.write_named-written.new.target in
    let new = g.T.Disk.told c.clear.new.target in
    let store = g.S.Disk.told c.args.store.now in
    let name = c.args.name.now in
    let before = g.T.Disk.fault_count c.args.target.now in
    let middle = g.T.Disk.fault_count c.write_named-written.new.target in
    let now = g.T.Disk.fault_count c.clear.new.target in
    let is = c.requires.temporary in
    explains_cleared name old mid new c.requires.absent before middle now c.write_named-written.ensures.target_later
    c.clear.ensures.later
    (subst (λ (t : List ℕ). GainsOrNot mid new (Removed t)) is c.clear.ensures.tried)
    (subst (λ (t : List ℕ). (Rose middle now → ⊥) → new ≡ gains mid (Removed t)) is c.clear.ensures.removed)
    store c.args.cursors.now _ _ c.in-Err.fault c.in-Err.ensures.rests
    (subst (λ (t : List ℕ). LeavesPages store c.args.cursors.now t name old mid c.in-Err.fault) is
    c.in-Err.ensures.err)

pub returns-in_err-sync_names-clause-explained : goal.returns-in_err-sync_names-clause-explained
returns-in_err-sync_names-clause-explained g c =
    let old = g.T.Disk.told c.args.target.now in
    let mid = g.T.Disk.told c.write_named-written.new.target in
    let store = g.S.Disk.told c.args.store.now in
    let name = c.args.name.now in
    err_is c.from_residual.result (Target c.in_err-sync_names.field-0.0) _ c.from_residual.ensures.1
    (unsettled name old mid (g.T.Disk.told c.sync_names.new.self) store c.args.cursors.now _ _
    (rose_later _ _ _ c.write_named-written.ensures.target_later (c.in_err-sync_names.ensures.cause.rose refl))
    (subst (λ (t : List ℕ). NamesPages store c.args.cursors.now t name old mid) c.requires.temporary
    c.in_default.ensures.ok) c.in_err-sync_names.ensures.err)

pub returns-clause-ok : goal.returns-clause-ok
returns-clause-ok g c =
    let old = g.T.Disk.told c.args.target.now in
    let mid = g.T.Disk.told c.write_named-written.new.target in
    let new = g.T.Disk.told c.sync_names.new.self in
    let store = g.S.Disk.told c.args.store.now in
    let name = c.args.name.now in
    let named = subst (λ (t : List ℕ). NamesPages store c.args.cursors.now t name old mid) c.requires.temporary
    c.in_default.ensures.ok in
    record {
      bytes = named.bytes;
      writes =
          goes_on-weaker old new _ _ (settled old mid new name named.bytes named.names c.in_ok-sync_names.ensures.ok)
          (λ x y is. writes-from_settles name named.bytes x y is);
      state = named.state;
    }

pub returns-in-Err-clause-no_memory : goal.returns-in-Err-clause-no_memory
returns-in-Err-clause-no_memory g c =
    never_memory (g.S.Disk.told c.args.store.now) (plan_of c.args.cursors.now) _ _ _ _ c.in-Err.fault
    c.in-Err.ensures.rests
