use Rattle.std.proofs.Common.{◌≡◌, ap, subst, List, ℕ, ◌∙◌}
use Rattle.std.proofs.lemmas.Result.{on_err_weaker, on_ok_weaker}
use Rattle.crash_disk.specs.declared.event.Event.TheVariants.{Appended}
use Rattle.crash_disk.specs.Told.{gains, GainsPrefixOrNot}
use Rattle.replica_store.specs.Putting.{draft_path}
use Rattle.replica_store.proofs.PutLemmas.{appended, not_appended}
use Rattle.replica_store.proofs.put.Put.append.Goals as goal

pub returns-clause-ok : goal.returns-clause-ok
returns-clause-ok g c =
    let old = g.S.Disk.told c.args.store.now in
    let new = g.S.Disk.told c.append.new.self in
    let draft = c.as_str.ensures ∙ c.self.invariant ∙ ap draft_path c.self.view_is in
    on_ok_weaker c.append.result (λ is. λ begun before putting. appended begun old new c.args.self.now before
    c.args.bytes.now putting
    (subst (λ (q : List ℕ). new ≡ gains old (Appended q c.args.bytes.now)) draft is)) c.append.ensures.ok

pub returns-clause-err : goal.returns-clause-err
returns-clause-err g c =
    let old = g.S.Disk.told c.args.store.now in
    let new = g.S.Disk.told c.append.new.self in
    let draft = c.as_str.ensures ∙ c.self.invariant ∙ ap draft_path c.self.view_is in
    on_err_weaker c.append.result (λ is. λ begun before putting. not_appended begun old new c.args.self.now before
    c.args.bytes.now putting
    (subst (λ (q : List ℕ). GainsPrefixOrNot old new q c.args.bytes.now) draft is)) c.append.ensures.err
