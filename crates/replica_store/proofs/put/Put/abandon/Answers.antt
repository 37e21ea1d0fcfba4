use Rattle.std.proofs.Common.{◌≡◌, ap, subst, List, ℕ, ◌∙◌}
use Rattle.std.proofs.lemmas.Result.{on_ok_weaker}
use Rattle.crash_disk.specs.declared.event.Event.TheVariants.{Removed}
use Rattle.crash_disk.specs.Told.{gains, GainsOrNot}
use Rattle.replica_store.specs.Putting.{draft_path}
use Rattle.replica_store.proofs.PutLemmas.{absent, removed, tried}
use Rattle.replica_store.proofs.put.Put.abandon.Goals as goal

pub returns-clause-ok : goal.returns-clause-ok
returns-clause-ok g c =
    let old = g.S.Disk.told c.args.store.now in
    let new = g.S.Disk.told c.remove.new.self in
    let draft = c.as_str.ensures ∙ c.self.invariant ∙ ap draft_path c.self.view_is in
    on_ok_weaker c.remove.result (λ is. absent old new c.args.self
    (subst (λ (q : List ℕ). new ≡ gains old (Removed q)) draft is)) c.remove.ensures.ok

pub returns-clause-kept : goal.returns-clause-kept
returns-clause-kept g c =
    let old = g.S.Disk.told c.args.store.now in
    let new = g.S.Disk.told c.remove.new.self in
    let draft = c.as_str.ensures ∙ c.self.invariant ∙ ap draft_path c.self.view_is in
    λ begun kept. removed begun old new c.args.self kept
    (subst (λ (q : List ℕ). GainsOrNot old new (Removed q)) draft
    (tried c.remove.result old new (Removed c.as_str.result.now) c.remove.ensures.ok c.remove.ensures.err))
