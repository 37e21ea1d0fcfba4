use Rattle.std.proofs.Common.{◌≡◌, ap, subst, List, ℕ, ◌∙◌, sym}
use Rattle.std.proofs.lemmas.Result.{on_err_weaker, on_ok_weaker}
use Rattle.crash_disk.specs.declared.event.Event.TheVariants.{Synced, Renamed}
use Rattle.crash_disk.specs.Files.{IsThere}
use Rattle.crash_disk.specs.Told.{gains, GainsOrNot, IfTold}
use Rattle.replica_store.specs.Putting.{draft_path}
use Rattle.replica_store.proofs.PutLemmas.{there_once_synced, not_synced, not_renamed, not_settled, settled, err_leaves}
use Rattle.replica_store.proofs.put.Put.finish.Goals as goal

pub returns-in_err-sync-clause-err : goal.returns-in_err-sync-clause-err
returns-in_err-sync-clause-err g c =
    let old = g.S.Disk.told c.args.store.now in
    let new = g.S.Disk.told c.sync.new.self in
    err_leaves c.from_residual.result _
    (λ begun bytes putting. not_synced begun old new c.args.self bytes putting c.in_err-sync.ensures.err)

pub rename-requires-clause-there : goal.rename-requires-clause-there
rename-requires-clause-there g c =
    let old = g.S.Disk.told c.args.store.now in
    let synced = g.S.Disk.told c.sync.new.self in
    let same = c.as_str.ensures ∙ sym c.as_str-2.ensures in
    there_once_synced old synced c.as_str-2.result.now
    (subst (λ (q : List ℕ). synced ≡ gains old (Synced q)) same c.in_ok-sync.ensures.ok)
    (subst (λ (q : List ℕ). IfTold old (λ events. IsThere events q))
    (sym (c.as_str-2.ensures ∙ c.self.invariant ∙ ap draft_path c.self.view_is)) c.requires.there)

pub returns-in_err-rename-clause-err : goal.returns-in_err-rename-clause-err
returns-in_err-rename-clause-err g c =
    let old = g.S.Disk.told c.args.store.now in
    let synced = g.S.Disk.told c.sync.new.self in
    let new = g.S.Disk.told c.rename.new.self in
    let draft = c.as_str.ensures ∙ c.self.invariant ∙ ap draft_path c.self.view_is in
    err_leaves c.from_residual-in_err-rename.result _
    (λ begun bytes putting. not_renamed begun old synced c.args.self bytes putting
    (subst (λ (q : List ℕ). synced ≡ gains old (Synced q)) draft c.in_ok-sync.ensures.ok) new
    (subst (λ (q : List ℕ). GainsOrNot synced new (Renamed q c.args.self))
    (c.as_str-2.ensures ∙ c.self.invariant ∙ ap draft_path c.self.view_is)
    (subst (λ (q : List ℕ). GainsOrNot synced new (Renamed c.as_str-2.result.now q))
    (c.as_str-3.ensures ∙ c.self.view_is) c.in_err-rename.ensures.err)))

pub returns-clause-ok : goal.returns-clause-ok
returns-clause-ok g c =
    let old = g.S.Disk.told c.args.store.now in
    let synced = g.S.Disk.told c.sync.new.self in
    let renamed = g.S.Disk.told c.rename.new.self in
    let new = g.S.Disk.told c.sync_names.new.self in
    let draft = c.as_str.ensures ∙ c.self.invariant ∙ ap draft_path c.self.view_is in
    on_ok_weaker c.sync_names.result (λ is. λ begun bytes putting. settled begun old synced c.args.self bytes putting
    (subst (λ (q : List ℕ). synced ≡ gains old (Synced q)) draft c.in_ok-sync.ensures.ok) renamed new
    (subst (λ (q : List ℕ). renamed ≡ gains synced (Renamed q c.args.self))
    (c.as_str-2.ensures ∙ c.self.invariant ∙ ap draft_path c.self.view_is)
    (subst (λ (q : List ℕ). renamed ≡ gains synced (Renamed c.as_str-2.result.now q))
    (c.as_str-3.ensures ∙ c.self.view_is) c.in_ok-rename.ensures.ok)) is) c.sync_names.ensures.ok

pub returns-clause-err : goal.returns-clause-err
returns-clause-err g c =
    let old = g.S.Disk.told c.args.store.now in
    let synced = g.S.Disk.told c.sync.new.self in
    let renamed = g.S.Disk.told c.rename.new.self in
    let new = g.S.Disk.told c.sync_names.new.self in
    let draft = c.as_str.ensures ∙ c.self.invariant ∙ ap draft_path c.self.view_is in
    on_err_weaker c.sync_names.result
    (λ is. λ begun bytes putting. not_settled begun old synced c.args.self bytes putting
    (subst (λ (q : List ℕ). synced ≡ gains old (Synced q)) draft c.in_ok-sync.ensures.ok) renamed new
    (subst (λ (q : List ℕ). renamed ≡ gains synced (Renamed q c.args.self))
    (c.as_str-2.ensures ∙ c.self.invariant ∙ ap draft_path c.self.view_is)
    (subst (λ (q : List ℕ). renamed ≡ gains synced (Renamed c.as_str-2.result.now q))
    (c.as_str-3.ensures ∙ c.self.view_is) c.in_ok-rename.ensures.ok)) is) c.sync_names.ensures.err
