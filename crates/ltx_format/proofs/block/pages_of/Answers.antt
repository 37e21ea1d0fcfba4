use Rattle.std.proofs.Common.{◌≡◌, ◌++◌, ◌∷◌, [], length-append, refl, arith}
use Rattle.std.specs.FinMap as map
use Rattle.std.proofs.lemmas.Bool.{ne_eqb}
use Rattle.std.proofs.lemmas.Result.{err_from_is_err_and}
use Rattle.ltx_format.proofs.BlockLoop.{begins, entries-empty, goes_on, ends, no_number, no_page, is_done, no_end}
use Rattle.ltx_format.proofs.BlockLoop.{entries-insert_last, up_to_more, page_rises}
use Rattle.ltx_format.proofs.block.pages_of.Goals as goal

pub loop-count-init : goal.loop-count-init
loop-count-init c = rw (entries-empty c.new-pages.result c.new-pages.ensures)
    (record { so_far = begins _ _ _; counted = refl; up_to = tt })

pub returns-in_err-number-clause-value : goal.returns-in_err-number-clause-value
returns-in_err-number-clause-value c =
    let p = err_from_is_err_and c.from_residual.result c.from_residual.ensures.1 in
    rw (p.1, p.2) (no_number _ _ _ _ c.loop-count.count _ _ c.loop-count-test.true c.loop-count.invariant.so_far
    c.in_err-number.field-0.0 c.in_err-number.ensures)

pub returns-then-number-eq0-clause-value : goal.returns-then-number-eq0-clause-value
returns-then-number-eq0-clause-value c =
    ends _ _ _ _ c.loop-count.count _ _ c.loop-count-test.true c.loop-count.invariant.so_far c.in_ok-number.behind.now
    (rw c.if-number-eq0.true at c.in_ok-number.ensures)

pub returns-in_err-page-clause-value : goal.returns-in_err-page-clause-value
returns-in_err-page-clause-value c =
    let p = err_from_is_err_and c.from_residual-in_err-page.result c.from_residual-in_err-page.ensures.1 in
    rw (p.1, p.2) (no_page _ _ _ _ c.loop-count.count _ _ c.loop-count-test.true c.loop-count.invariant.so_far
    c.in_ok-number.number c.in_ok-number.behind.now c.in_err-page.field-0.0
    c.in_ok-number.ensures (ne_eqb _ 0 c.if-number-eq0.false) c.in_err-page.ensures)

pub loop-count-preserved : goal.loop-count-preserved
loop-count-preserved c =
    let number = c.in_ok-number.number in
    let page = c.in_ok-page.page.now in
    let before = c.loop-count.pages in
    let rises = page_rises _ _ c.loop-count.last number c.in_ok-number.behind.now _ c.in_ok-page.ensures in
    let now : map.entries c.put.new.self ≡ map.entries before ++ (number, page) ∷ [] =
    rw (c.in_ok-put.ensures.ok, c.in_ok-page-2.ensures) (entries-insert_last before number page c.loop-count.last
    c.loop-count.invariant.up_to rises) in
    let counted = c.loop-count.invariant.counted in
    rw now (record {
      so_far = goes_on _ _ _ _ c.loop-count.count _ _ c.loop-count-test.true c.loop-count.invariant.so_far number
          c.in_ok-number.behind.now page c.in_ok-page.behind.now
          c.in_ok-number.ensures (ne_eqb number 0 c.if-number-eq0.false) c.in_ok-page.ensures;
      counted = omega (arith, length-append (map.entries before) ((number, page) ∷ []));
      up_to = up_to_more number page c.loop-count.last (map.entries before) c.loop-count.invariant.up_to rises;
    })

pub returns-in_err-rest-clause-value : goal.returns-in_err-rest-clause-value
returns-in_err-rest-clause-value c =
    let p = err_from_is_err_and c.from_residual-in_err-rest.result c.from_residual-in_err-rest.ensures.1 in
    rw (p.1, p.2) (no_end (map.entries c.loop-count.pages) _ _ c.loop-count.last c.loop-count.count _ _
    c.loop-count-test.false c.loop-count.invariant.so_far c.in_err-rest.field-0.0 c.in_err-rest.ensures)

pub returns-clause-value : goal.returns-clause-value
returns-clause-value c =
    is_done (map.entries c.loop-count.pages) c.args.header.now.size c.args.header.now.commit c.loop-count.last
    c.loop-count.count c.loop-count.rest.now _ c.loop-count-test.false c.loop-count.invariant.so_far
    c.in_ok-rest.rest.now c.in_ok-rest.ensures
