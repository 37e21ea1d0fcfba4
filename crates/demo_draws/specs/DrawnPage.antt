-- Drawn pages. The header in page 1: SQLite database file format, section 1.3.
use Rattle.std.specs.Prelude.{ℕ, ◌*◌, ◌==◌, if◌then◌else◌, List, [], ◌∷◌, ◌++◌, map, drop, replicate, codes}
use Rattle.std.specs.Int.{w64, to_be_bytes}
use Rattle.std.specs.List.{concat, range_with_len}
use Rattle.demo_draws.specs.Generator.{advanced_by}

-- how many numbers are drawn for a page, and the bytes of a page
abbrev pub page_words : ℕ
page_words = 512

abbrev pub page_bytes : ℕ
page_bytes = 8 * page_words

-- the next numbers of the generator, so many
abbrev pub numbers_behind : ℕ → ℕ → List ℕ
numbers_behind x count = map (λ k. advanced_by k x) (range_with_len 1 count)

-- their bytes: eight each, the highest first
unfoldable pub drawn_bytes : ℕ → ℕ → List ℕ
drawn_bytes x count = concat (map (to_be_bytes w64) (numbers_behind x count))

-- the header of a database of pages of 4096 bytes in WAL mode: the header string, the page size, the versions, zeros
abbrev pub database_header : List ℕ
database_header = (codes "SQLite format 3" ++ 0 ∷ []) ++ (16 ∷ 0 ∷ []) ++ (2 ∷ 2 ∷ []) ++ replicate 80 0

-- the drawn page of this number: page 1 begins with the header
abbrev pub page_of_draws : ℕ → ℕ → List ℕ
page_of_draws x number =
    let bytes = drawn_bytes x page_words in
    if number == 1 then database_header ++ drop 100 bytes else bytes
