use Rattle.std.proofs.Common.{◌≡◌, ◌-◌, ◌<◌, List, Some, true, length, take, sym, ap, ◌∙◌, arith}
use Rattle.std.specs.Prelude.{slice_get}
use Rattle.std.proofs.lemmas.Option.{slice_get-get_or}
use Rattle.ltx_format.specs.declared.header.LtxHeader.{LtxHeader}
use Rattle.page_cursors.specs.declared.cursor.Cursor.{Cursor}
use Rattle.compact_levels.proofs.MergeLemmas.{split_last, valid_header}
use Rattle.compact_levels.proofs.merging.merged_header.Goals as goal

pub returns-clause-valid : goal.returns-clause-valid
returns-clause-valid c =
    valid_header c.header-last.result.now c.args.name.now.min c.args.name.now.max c.header-last.ensures.valid
    (omega (arith, c.requires.named.from_first)) c.requires.named.in_order c.requires.named.max_fits

pub returns-clause-merges : goal.returns-clause-merges
returns-clause-merges c =
    let cursors = c.args.cursors.now.cursors.items in
    let at = c.len.result - 1 in
    let last = c.index.result.now in
    let low : at < length cursors = omega (arith, c.len.ensures, c.args.cursors.now.cursors.ok.0, c.requires.some) in
    let there : slice_get cursors at ≡ Some last = slice_get-get_or cursors at last low
    ∙ ap (λ (cursor : Cursor). Some cursor) (sym c.index.ensures) in
    record {
      before = take at cursors;
      last = last;
      ends = split_last cursors at last
          (omega (arith, c.len.ensures, c.args.cursors.now.cursors.ok.0, c.requires.some)) there;
      is = ap (λ (h : LtxHeader). record h { min = c.args.name.now.min; max = c.args.name.now.max; index = true })
          c.header-last.ensures.value;
    }
