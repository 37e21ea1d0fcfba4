use Rattle.std.proofs.Common.{ℕ, List, sym, subst}
use Rattle.std.specs.FinMap.{insert}
use Rattle.std.proofs.lemmas.Result.{on_ok_weaker}
use Rattle.ltx_format.specs.declared.header.LtxHeader.{LtxHeader}
use Rattle.ltx_format.specs.LtxFormat.{IsStored}
use Rattle.compact_levels.specs.Drafting.{IsDrafting}
use Rattle.compact_levels.proofs.CopyStepLemmas.{copies_page, passes_page}
use Rattle.compact_levels.proofs.merging.copy_page.Goals as goal

pub returns-then-not-is_stored-clause-ok : goal.returns-then-not-is_stored-clause-ok
returns-then-not-is_stored-clause-ok g c = λ begun old some above last gives.
    let now = g.S.Disk.told c.args.store.now in
    passes_page begun now old c.args.cursors.now c.args.draft.now c.args.number some above last gives
    (λ stored.
    let told = c.is_stored.ensures.1 (subst (λ (h : LtxHeader). IsStored h c.args.number) c.requires.header stored) in
    let not = c.if-not-is_stored.true in absurd cc)

pub returns-clause-ok : goal.returns-clause-ok
returns-clause-ok g c =
    let mid = g.S.Disk.told c.args.store.now in
    let now = g.S.Disk.told c.page.new.store in
    on_ok_weaker c.page.result
    (λ paged begun old some above last gives.
    copies_page begun mid now old c.args.cursors.now c.args.draft.now c.page.new.self c.args.number some above last
    gives
    (subst (λ (h : LtxHeader). IsStored h c.args.number) (sym c.requires.header)
    (c.is_stored.ensures.0 c.if-not-is_stored.false))
    (subst (λ (bs : List ℕ). IsDrafting begun now c.page.new.self (insert some.pages c.args.number bs))
    c.deref.ensures.value
    (paged begun some.pages some.is.drafting)) c.page.ensures.same)
    c.page.ensures.ok
