use Rattle.std.proofs.Common.{◌≡◌, ◌++◌, List, ℕ, take, sym, ap, subst, ◌∙◌, arith}
use Rattle.std.proofs.lemmas.List.{take_all}
use Rattle.restore_apply.specs.Pages.{lock_between, bytes_put}
use Rattle.restore_apply.proofs.PutLemmas.{puts_all}
use Rattle.crash_disk.proofs.GoesOnLemmas.{goes_on-then, goes_on-weaker}
use Rattle.restore_apply.specs.Staging.{OnlyAppends, AppendsGathered}
use Rattle.restore_apply.proofs.StagingLemmas.{gathers-then, only_appends, only_appends-then, still_there, err_leaves}
use Rattle.restore_apply.proofs.pages.put_page.Goals as goal

pub put-requires-clause-there : goal.put-requires-clause-there
put-requires-clause-there g c =
    let name = c.args.name.now in
    still_there (g.D.Disk.told c.args.disk.now) (g.D.Disk.told c.put_lock_page.new.disk) name
    (goes_on-weaker (g.D.Disk.told c.args.disk.now) (g.D.Disk.told c.put_lock_page.new.disk) _ (OnlyAppends name)
    c.in_ok-put_lock_page.ensures.ok (only_appends name _ _ _)) c.requires.there

pub returns-in_err-put-clause-err : goal.returns-in_err-put-clause-err
returns-in_err-put-clause-err g c =
    let name = c.args.name.now in
    err_leaves c.from_residual-in_err-put.result _
    (goes_on-then (g.D.Disk.told c.args.disk.now) (g.D.Disk.told c.put_lock_page.new.disk)
    (g.D.Disk.told c.put.new.disk)
    _ (OnlyAppends name) (OnlyAppends name) c.in_ok-put_lock_page.ensures.ok c.in_err-put.ensures.err
    (λ x y z first second. only_appends-then name x y z (only_appends name _ _ _ x y first) second))

pub returns-then-number-lock_page-clause-ok : goal.returns-then-number-lock_page-clause-ok
returns-then-number-lock_page-clause-ok g c =
    let old = g.D.Disk.told c.args.disk.now in
    let mid = g.D.Disk.told c.put_lock_page.new.disk in
    let new = g.D.Disk.told c.put.new.disk in
    let name = c.args.name.now in
    let before = c.args.gathered.now in
    let size = c.args.cursors.now.size in
    let number = c.args.cursors.now.last in
    let items = c.args.cursors.now.page.items in
    let page : take c.get.result c.deref.result.now ≡ items =
    ap (λ (bytes : List ℕ). take c.get.result bytes) c.deref.ensures.value
    ∙ take_all c.get.result items (omega (arith, c.requires.sized, c.get.ensures.value)) in
    let all : lock_between size c.args.last c.from.result ++ take c.get.result c.deref.result.now
    ≡ bytes_put size c.args.cursors.now.commit c.args.last number items =
    ap (λ (n : ℕ). lock_between size c.args.last n ++ take c.get.result c.deref.result.now) c.from.ensures
    ∙ ap (λ (bytes : List ℕ). lock_between size c.args.last number ++ bytes) page
    ∙ sym (puts_all size c.args.cursors.now.commit c.args.last number c.lock_page.result items
    c.if-number-cursors.true c.if-number-lock_page.true c.lock_page.ensures) in
    goes_on-then old mid new _ _ (AppendsGathered name before
    (bytes_put size c.args.cursors.now.commit c.args.last number
    items) c.put.new.self) c.in_ok-put_lock_page.ensures.ok c.in_ok-put.ensures.ok
    (λ x y z first second. subst (λ (bytes : List ℕ). AppendsGathered name before bytes c.put.new.self x z) all
    (gathers-then name before _ _ _ _ x y z first second))
