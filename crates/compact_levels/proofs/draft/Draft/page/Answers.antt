use Rattle.std.proofs.Common.{ℕ, List, ap, ◌∙◌, ◌++◌, refl}
use Rattle.std.proofs.lemmas.Result.{on_ok_weaker, on_err_weaker}
use Rattle.std.specs.FinMap.{insert}
use Rattle.compact_levels.specs.declared.draft.Draft.{Draft}
use Rattle.compact_levels.proofs.DraftLemmas.{gathers}
use Rattle.compact_levels.proofs.draft.Draft.page.Goals as goal

pub returns-clause-ok : goal.returns-clause-ok
returns-clause-ok g c =
    let old = c.args.self.now in
    let full : Draft = record { put = old.put; piece = c.extend_from_slice-2.new.self; writer = c.page.new.self } in
    let front = c.page.new.into in
    let items = c.in_ok-extend_from_slice-2.ensures.items
    ∙ ap (λ (bs : List ℕ). bs ++ c.args.page.now) c.in_ok-extend_from_slice.ensures.items in
    on_ok_weaker c.flush.result
    (λ flushed begun pages is. flushed begun (insert pages c.args.number c.args.page.now)
    (gathers begun (g.S.Disk.told c.args.store.now) old full pages c.args.number c.args.page.now front is refl
    c.page.ensures.header items c.in_ok-page.ensures.block c.in_ok-page.ensures.written))
    c.flush.ensures.ok

pub returns-clause-err : goal.returns-clause-err
returns-clause-err g c =
    let old = c.args.self.now in
    let full : Draft = record { put = old.put; piece = c.extend_from_slice-2.new.self; writer = c.page.new.self } in
    let front = c.page.new.into in
    let items = c.in_ok-extend_from_slice-2.ensures.items
    ∙ ap (λ (bs : List ℕ). bs ++ c.args.page.now) c.in_ok-extend_from_slice.ensures.items in
    on_err_weaker c.flush.result
    (λ flushed begun pages is. flushed begun (insert pages c.args.number c.args.page.now)
    (gathers begun (g.S.Disk.told c.args.store.now) old full pages c.args.number c.args.page.now front is refl
    c.page.ensures.header items c.in_ok-page.ensures.block c.in_ok-page.ensures.written))
    c.flush.ensures.err
