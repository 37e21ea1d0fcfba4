-- A commit as it grows page by page.
use Rattle.std.proofs.Common.{◌≡◌, ◌∙◌, ℕ, suc, ◌+◌, ◌*◌, refl, ap, sym, arith}
use Rattle.std.specs.FinMap.{empty, insert}
use Rattle.demo_draws.specs.Generator.{advanced, advanced_by, drawn}
use Rattle.demo_draws.specs.DrawnPage.{page_words, page_of_draws}
use Rattle.demo_draws.specs.DrawnCommit.{PagesByNumber, first_pages, drawn_pages, drawn_number, before_page}
use Rattle.demo_draws.specs.DrawnCommit.{commit_of_draws, after_commit}
use Rattle.demo_draws.proofs.GeneratorLemmas.{advanced_by-more, advanced_by-add, two-steps}

pub no-first_pages : (x : ℕ) → first_pages x 0 ≡ empty
unfolding first_pages
no-first_pages x = refl

-- the next page of a first commit, drawn where y stands
pub first_pages-more : (x n y : ℕ) → y ≡ advanced_by (page_words * n) x
    → first_pages x (n + 1) ≡ insert (first_pages x n) (n + 1) (page_of_draws y (n + 1))
unfolding first_pages
first_pages-more x n y at =
    let next : n + 1 ≡ suc n = omega arith in
    ap (first_pages x) next
    ∙ ap (λ (z : ℕ). insert (first_pages x n) (suc n) (page_of_draws z (suc n))) (sym at)
    ∙ ap (λ (k : ℕ). insert (first_pages x n) k (page_of_draws y k)) (sym next)

-- the generator behind it
pub words-more : (x n y : ℕ) → y ≡ advanced_by (page_words * n) x
    → advanced_by page_words y ≡ advanced_by (page_words * (n + 1)) x
words-more x n y at =
    let same : page_words * n + page_words ≡ page_words * (n + 1) = omega arith in
    ap (advanced_by page_words) at ∙ advanced_by-add (page_words * n) page_words x
    ∙ ap (λ (k : ℕ). advanced_by k x) same

pub no-drawn_pages : (x size : ℕ) → drawn_pages x size 0 ≡ empty
unfolding drawn_pages
no-drawn_pages x size = refl

-- the next page of a later commit, drawn where y stands
pub drawn_pages-more : (x size k y : ℕ) → y ≡ before_page x k
    → drawn_pages x size (k + 1)
    ≡ insert (drawn_pages x size k) (drawn_number y size) (page_of_draws (advanced y) (drawn_number y size))
unfolding drawn_pages
drawn_pages-more x size k y at =
    let next : k + 1 ≡ suc k = omega arith in
    ap (drawn_pages x size) next
    ∙ ap (λ (z : ℕ). insert (drawn_pages x size k) (drawn_number z size)
    (page_of_draws (advanced z) (drawn_number z size))) (sym at)

-- the generator behind it
pub before_page-more : (x k y : ℕ) → y ≡ before_page x k
    → advanced_by page_words (advanced y) ≡ before_page x (k + 1)
before_page-more x k y at =
    let done = (1 + page_words) * k in
    let same : done + 1 + page_words ≡ (1 + page_words) * (k + 1) = omega arith in
    ap (λ (z : ℕ). advanced_by page_words (advanced z)) at
    ∙ ap (advanced_by page_words) (sym (advanced_by-more done x))
    ∙ advanced_by-add (done + 1) page_words x
    ∙ ap (λ (n : ℕ). advanced_by n x) same

-- the generator where the pages of a commit begin
behind_count : (x s1 s2 : ℕ) → s1 ≡ advanced x → s2 ≡ advanced s1 → s2 ≡ advanced_by 2 x
behind_count x s1 s2 first second = second ∙ ap advanced first ∙ sym (two-steps x)

-- its size, then how many pages, then the pages
pub is_commit : (x s1 s2 size count : ℕ) (pages : PagesByNumber) → s1 ≡ advanced x → s2 ≡ advanced s1
    → size ≡ drawn x 21 → count ≡ drawn s1 8 → pages ≡ drawn_pages s2 (290 + size) (1 + count)
    → record { size = 290 + size; pages = pages } ≡ commit_of_draws x
is_commit x s1 s2 size count pages first second is_size is_count are =
    let at = behind_count x s1 s2 first second in
    rw (are, at, is_count, first, is_size) refl

-- the generator behind it
pub is_after_commit : (x s1 s2 count after : ℕ) → s1 ≡ advanced x → s2 ≡ advanced s1 → count ≡ drawn s1 8
    → after ≡ before_page s2 (1 + count) → after ≡ after_commit x
is_after_commit x s1 s2 count after first second is_count is =
    let at = behind_count x s1 s2 first second in
    rw (is, at, is_count, first) refl
