-- Drawn commits. This project's rule.
use Rattle.std.specs.Prelude.{ℕ, zero, suc, ◌+◌, ◌*◌, List, map}
use Rattle.std.specs.List.{range_with_len}
use Rattle.std.specs.Ordering.{nat_cmp}
use Rattle.std.specs.FinMap.{FinMap, empty, insert}
use Rattle.demo_draws.specs.declared.commit.DrawnCommit.{DrawnCommit}
use Rattle.demo_draws.specs.Generator.{advanced, advanced_by, drawn}
use Rattle.demo_draws.specs.DrawnPage.{page_words, page_of_draws}

-- pages by their numbers
abbrev pub PagesByNumber : Type 0
PagesByNumber = FinMap nat_cmp (List ℕ)

-- ---- a first commit

-- the drawn pages 1 to last: that of number n + 1 is drawn behind n others
unfoldable pub first_pages : ℕ → ℕ → PagesByNumber
first_pages x zero = empty
first_pages x (suc n) = insert (first_pages x n) (suc n) (page_of_draws (advanced_by (page_words * n) x) (suc n))

-- the pages 1 to 300, which the database has then
abbrev pub first_commit : ℕ → DrawnCommit
first_commit x = record { size = 300; pages = first_pages x 300 }

abbrev pub after_first_commit : ℕ → ℕ
after_first_commit x = advanced_by (page_words * 300) x

-- ---- a later commit

-- where the drawing of the page behind k others begins: a number and the words of a page were drawn for each
abbrev pub before_page : ℕ → ℕ → ℕ
before_page x k = advanced_by ((1 + page_words) * k) x

-- a drawn number of a page, from 1 to the size
abbrev pub drawn_number : ℕ → ℕ → ℕ
drawn_number x size = 1 + drawn x size

-- so many drawn pages: for each its number and, at once, its bytes; one drawn again replaces the earlier one
unfoldable pub drawn_pages : ℕ → ℕ → ℕ → PagesByNumber
drawn_pages x size zero = empty
drawn_pages x size (suc k) =
    let y = before_page x k in
    insert (drawn_pages x size k) (drawn_number y size) (page_of_draws (advanced y) (drawn_number y size))

-- first the size is drawn, then how many pages
abbrev pub drawn_size : ℕ → ℕ
drawn_size x = 290 + drawn x 21

abbrev pub drawn_count : ℕ → ℕ
drawn_count x = 1 + drawn (advanced x) 8

-- then the pages
abbrev pub commit_of_draws : ℕ → DrawnCommit
commit_of_draws x = record {
  size = drawn_size x;
  pages = drawn_pages (advanced_by 2 x) (drawn_size x) (drawn_count x);
}

abbrev pub after_commit : ℕ → ℕ
after_commit x = before_page (advanced_by 2 x) (drawn_count x)

-- ---- the commits of a round

-- the number that the generator gave last before the commit behind k others
unfoldable pub before_commit : ℕ → ℕ → ℕ
before_commit x zero = x
before_commit x (suc k) = after_commit (before_commit x k)

-- so many commits
abbrev pub commits_of_draws : ℕ → ℕ → List DrawnCommit
commits_of_draws x count = map (λ k. commit_of_draws (before_commit x k)) (range_with_len 0 count)

-- how many commits a round has is drawn: none, one or two; then they are
abbrev pub round_commits : ℕ → List DrawnCommit
round_commits x = commits_of_draws (advanced x) (drawn x 3)

abbrev pub after_round_commits : ℕ → ℕ
after_round_commits x = before_commit (advanced x) (drawn x 3)
