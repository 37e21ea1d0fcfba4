use Rattle.std.proofs.Common.{◌≡◌, sym, subst, List, [], ℕ, ◌∙◌}
use Rattle.crash_disk.specs.declared.event.Event.TheVariants.{Created, Removed}
use Rattle.crash_disk.specs.Told.{gains, GainsOrNot}
use Rattle.crash_disk.specs.GoesOn.{GoesOn}
use Rattle.replica_store.specs.NameText.{file_path}
use Rattle.replica_store.specs.Putting.{IsPutting}
use Rattle.replica_store.proofs.PutLemmas.{begins, not_cleared, not_created, err_leaves}
use Rattle.replica_store.proofs.put.Put.begin.Goals as goal

pub returns-in_err-remove-clause-err : goal.returns-in_err-remove-clause-err
returns-in_err-remove-clause-err g c =
    let old = g.S.Disk.told c.args.store.now in
    let new = g.S.Disk.told c.remove.new.self in
    let path = file_path c.args.name.now.level c.args.name.now.min c.args.name.now.max in
    let draft = c.as_str.ensures ∙ c.of-draft.ensures in
    err_leaves c.from_residual.result _
    (not_cleared old new path (subst (λ (q : List ℕ). GainsOrNot old new (Removed q)) draft
    c.in_err-remove.ensures.err))

pub returns-in_err-create-clause-err : goal.returns-in_err-create-clause-err
returns-in_err-create-clause-err g c =
    let old = g.S.Disk.told c.args.store.now in
    let cleared = g.S.Disk.told c.remove.new.self in
    let new = g.S.Disk.told c.create.new.self in
    let path = file_path c.args.name.now.level c.args.name.now.min c.args.name.now.max in
    let first = c.as_str.ensures ∙ c.of-draft.ensures in
    let second = c.as_str-2.ensures ∙ c.of-draft.ensures in
    err_leaves c.from_residual-in_err-create.result _
    (not_created old cleared new path
    (subst (λ (q : List ℕ). cleared ≡ gains old (Removed q)) first c.in_ok-remove.ensures.ok)
    (subst (λ (q : List ℕ). GainsOrNot cleared new (Created q)) second c.in_err-create.ensures.err))

pub returns-clause-ok : goal.returns-clause-ok
returns-clause-ok g c =
    let old = g.S.Disk.told c.args.store.now in
    let cleared = g.S.Disk.told c.remove.new.self in
    let new = g.S.Disk.told c.create.new.self in
    let path = file_path c.args.name.now.level c.args.name.now.min c.args.name.now.max in
    let first = c.as_str.ensures ∙ c.of-draft.ensures in
    let second = c.as_str-2.ensures ∙ c.of-draft.ensures in
    subst (λ (q : List ℕ). GoesOn old new (IsPutting q [])) (sym c.write_name.ensures)
    (begins old cleared new path
    (subst (λ (q : List ℕ). cleared ≡ gains old (Removed q)) first c.in_ok-remove.ensures.ok)
    (subst (λ (q : List ℕ). new ≡ gains cleared (Created q)) second c.in_ok-create.ensures.ok))
