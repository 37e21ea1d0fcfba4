use Rattle.std.proofs.Common.{◌≡◌, ◌<◌, ℕ, List, ◌++◌, length, take, Some, sym, ap, ◌∙◌, append_assoc, arith}
use Rattle.std.specs.List.{flat_map, slice_get}
use Rattle.std.specs.FinMap.{entries, keys, get-entries}
use Rattle.std.proofs.lemmas.List.{length-map, append-nil}
use Rattle.ltx_format.specs.LtxFormat.{page_block}
use Rattle.ltx_format.proofs.BlockLoop.{Blocks}
use Rattle.ltx_format.proofs.CountLemmas.{few}
use Rattle.ltx_format.proofs.EntryLoop.{within_numbers, no_more_numbers}
use Rattle.ltx_format.proofs.PageLemmas.{blocks-from_pages}
use Rattle.ltx_format.proofs.WalkLemmas.{block_at_place, all_put, put_more, same_page, some_not_none}
use Rattle.ltx_format.proofs.writing.put_pages.Goals.{in-Some-get+in_ok-put_block, in_default-get}
use Rattle.ltx_format.proofs.writing.put_pages.Goals as goal

pub loop-at-init : goal.loop-at-init
loop-at-init c = record { put = sym (append-nil c.args.out.now); counted = omega arith }

pub loop-at-preserved : goal.loop-at-preserved
loop-at-preserved c =
    let h = c.args.header.now in
    let pages = c.args.pages.now in
    let at = c.loop-at.at in
    let number = c.in-Some.number in
    let are = (blocks-from_pages h pages c.requires).0 in
    let there : slice_get (keys pages) at ≡ Some number = sym
    (c.number_at.ensures ∙ ap (λ (k : ℕ). slice_get (keys pages) k) c.from.ensures) ∙ c.in-Some.is in
    let here = block_at_place h.size h.commit 0 at number (entries pages) are there in
    let within : at < length (entries pages) = omega (
      arith,
      within_numbers (keys pages) at number there,
      length-map (entries pages) (λ e. e.0),
    ) in
    let before = flat_map page_block (take at (entries pages)) in
    record {
      put = elim c.match-get.branch [
        | in-Some-get+in_ok-put_block w ↦
            let page = w.in-Some-get.page.now in
            let same = same_page _ here.page page (get-entries pages number ∙ here.found) (sym w.in-Some-get.ensures) in
            w.out-is ∙ w.in_ok-put_block.ensures
            ∙ ap (λ (x : List ℕ). x ++ page_block (number, page)) c.loop-at.invariant.put
            ∙ append_assoc c.args.out.now before (page_block (number, page))
            ∙ ap (λ (x : List ℕ). c.args.out.now ++ x) (ap (λ (p : List ℕ). before ++ page_block (number, p)) (sym same)
            ∙ sym (put_more at number here.page (entries pages) here.more))
        | in_default-get w ↦ absurd (some_not_none _ here.page (get-entries pages number ∙ here.found)
            (sym w.in_default-get.ensures))
      ];
      counted = omega (arith, within);
    }

pub returns-clause-put : goal.returns-clause-put
returns-clause-put c =
    let h = c.args.header.now in
    let pages = c.args.pages.now in
    c.loop-at.invariant.put
    ∙ ap (λ (x : Blocks). c.args.out.now ++ flat_map page_block x)
    (all_put h.size h.commit c.loop-at.at (entries pages)
    (blocks-from_pages h pages c.requires).0 c.loop-at-test.false)

pub returns-clause-count : goal.returns-clause-count
returns-clause-count c =
    let h = c.args.header.now in
    let pages = c.args.pages.now in
    let most = few h.size h.commit 0 (entries pages) (blocks-from_pages h pages c.requires).0 in
    omega (arith, most, c.loop-at.invariant.counted, c.loop-at-test.false)

pub returns-in_default-clause-count : goal.returns-in_default-clause-count
returns-in_default-clause-count c =
    let pages = c.args.pages.now in
    let none = no_more_numbers (keys pages) c.loop-at.at (sym
    (c.number_at.ensures ∙ ap (λ (k : ℕ). slice_get (keys pages) k) c.from.ensures) ∙ c.in_default.is) in
    omega (arith, none, length-map (entries pages) (λ e. e.0), c.loop-at.invariant.counted)
