use Rattle.std.proofs.Common.{◌≡◌, subst, List, ℕ, ◌∙◌}
use Rattle.std.proofs.lemmas.Result.{on_ok_weaker, on_err_weaker}
use Rattle.crash_disk.specs.declared.event.Event.TheVariants.{Removed}
use Rattle.crash_disk.specs.Told.{gains, GainsOrNot}
use Rattle.replica_store.specs.Listing.{path_of}
use Rattle.replica_store.proofs.DropLemmas.{dropped, may_drop}
use Rattle.replica_store.proofs.settling.drop_file.Goals as goal

pub returns-clause-ok : goal.returns-clause-ok
returns-clause-ok g c =
    let old = g.S.Disk.told c.args.store.now in
    let new = g.S.Disk.told c.remove.new.self in
    on_ok_weaker c.remove.result (λ is. dropped old new (path_of c.args.name.now)
    (subst (λ (q : List ℕ). new ≡ gains old (Removed q)) (c.as_str.ensures ∙ c.write_name.ensures) is))
    c.remove.ensures.ok

pub returns-clause-err : goal.returns-clause-err
returns-clause-err g c =
    let old = g.S.Disk.told c.args.store.now in
    let new = g.S.Disk.told c.remove.new.self in
    on_err_weaker c.remove.result (λ is. may_drop old new (path_of c.args.name.now)
    (subst (λ (q : List ℕ). GainsOrNot old new (Removed q)) (c.as_str.ensures ∙ c.write_name.ensures) is))
    c.remove.ensures.err
