use Rattle.std.proofs.Common.{◌≡◌, ◌-◌, Some, length, sym, ap, subst, ◌∙◌, arith}
use Rattle.std.specs.Prelude.{slice_get}
use Rattle.std.proofs.lemmas.Option.{slice_get-get_or}
use Rattle.ls_base.specs.PageSize.{IsPageSize}
use Rattle.ltx_format.specs.declared.header.LtxHeader.{LtxHeader}
use Rattle.page_cursors.specs.declared.cursor.Cursor.{Cursor}
use Rattle.page_cursors.proofs.BeginLemmas.{ends_with}
use Rattle.page_cursors.proofs.OddLemmas.{page_fits}
use Rattle.page_cursors.proofs.cursors.Cursors.stand.Goals as goal

pub returns-clause-shape : goal.returns-clause-shape
returns-clause-shape c =
    let cursors = c.args.cursors.items in
    let first = c.index.result.now in
    let is : slice_get cursors 0 ≡ Some first =
    slice_get-get_or cursors 0 first c.requires.some ∙ ap (λ (x : Cursor). Some x) (sym c.index.ensures) in
    let size = ap (λ (h : LtxHeader). h.size) c.header.ensures.value ∙ c.requires.one_size.1 0 first is in
    record {
      count = c.requires.count;
      sized = λ k cursor at. c.requires.one_size.1 k cursor at ∙ sym size;
      page =
          ap length c.truncate.ensures.items
          ∙ page_fits c.get.result c.args.page.items (subst IsPageSize
          (sym c.get.ensures.value) c.get.ensures.valid) c.requires.room
          ∙ c.get.ensures.value;
    }

pub returns-clause-ends : goal.returns-clause-ends
returns-clause-ends c =
    let cursors = c.args.cursors.items in
    let at = c.len-at.result - 1 in
    let last = c.index-2.result.now in
    let count : c.len-at.result ≡ length cursors = c.len-at.ensures ∙ c.args.cursors.ok.0 in
    let is : slice_get cursors at ≡ Some last =
    slice_get-get_or cursors at last (omega (arith, count, c.requires.some))
    ∙ ap (λ (x : Cursor). Some x) (sym c.index-2.ensures) in
    ends_with cursors last at (omega (arith, count, c.requires.some)) is 0
    ∙ ap (λ (h : LtxHeader). Some h.commit) (sym c.header-last.ensures.value)
