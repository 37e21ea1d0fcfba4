use Rattle.std.proofs.Common.{◌≡◌, ℕ, ◌+◌, ◌++◌, List, [], ◌∷◌, length, map, ap, sym, ◌∙◌, arith}
use Rattle.std.specs.Prelude.{bit_xor}
use Rattle.std.specs.List.{range_with_len}
use Rattle.std.proofs.lemmas.List.FromFn.{length-map-range_with_len, map-range_with_len_more}
use Rattle.ls_base.specs.PageSize.{lock_page}
use Rattle.ls_sums.specs.PageSum.{counted_sum, sums_from}
use Rattle.ls_sums.proofs.PageSumLemmas.{sums_from-push}
use Rattle.wal_frames.specs.View.{page_at_rest}
use Rattle.sim_writer.proofs.rest.rest_entry.Goals as goal

pages_more : (f : ℕ → List ℕ) (count : ℕ) (pages now : List (List ℕ)) (page : List ℕ)
    → pages ≡ map f (range_with_len 1 count) → page ≡ f (count + 1) → now ≡ pages ++ page ∷ []
    → now ≡ map f (range_with_len 1 (count + 1))
pages_more f count pages now page before is grown =
    grown ∙ ap (λ (ps : List (List ℕ)). ps ++ page ∷ []) before
    ∙ ap (λ (p : List ℕ). map f (range_with_len 1 count) ++ p ∷ []) is
    ∙ sym (map-range_with_len_more f 1 count (count + 1) (omega arith))

sum_more : (lock : ℕ) (f : ℕ → List ℕ) (count sum now : ℕ) (page : List ℕ)
    → sum ≡ sums_from lock 1 (map f (range_with_len 1 count)) → page ≡ f (count + 1)
    → now ≡ bit_xor sum (counted_sum lock (count + 1) page)
    → now ≡ sums_from lock 1 (map f (range_with_len 1 (count + 1)))
sum_more lock f count sum now page before is added =
    let done = map f (range_with_len 1 count) in
    let number : 1 + length done ≡ count + 1 = omega (arith, length-map-range_with_len f 1 count) in
    added ∙ ap (λ (n : ℕ). bit_xor n (counted_sum lock (count + 1) page)) before
    ∙ ap (λ (n : ℕ). bit_xor (sums_from lock 1 done) (counted_sum lock n page)) (sym number)
    ∙ ap (λ (p : List ℕ). bit_xor (sums_from lock 1 done) (counted_sum lock (1 + length done) p)) is
    ∙ sym (sums_from-push lock 1 done (f (count + 1)))
    ∙ ap (sums_from lock 1) (sym (map-range_with_len_more f 1 count (count + 1) (omega arith)))

pub loop-before-preserved : goal.loop-before-preserved
loop-before-preserved c =
    let f = page_at_rest c.args.size c.args.file.now in
    let count = c.loop-before.before in
    record {
      few = c.loop-before.invariant.few;
      pages = pages_more f count c.loop-before.pages c.push.new.self c.in_ok-page.page c.loop-before.invariant.pages
          c.in_ok-page.ensures c.in_ok-push.ensures.ok;
      sum = sum_more (lock_page c.args.size) f count c.loop-before.sum c.sum_with-sum.result c.in_ok-page.page
          c.loop-before.invariant.sum c.in_ok-page.ensures c.sum_with-sum.ensures;
    }
