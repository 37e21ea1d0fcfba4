-- The sum of a page, and of the pages of a database at rest. This project's rule.
use Rattle.std.specs.Prelude.{ℕ, ◌+◌, ◌^◌, ◌==◌, if◌then◌else◌, List, [], ◌∷◌, ◌++◌, bit_or, bit_xor}
use Rattle.std.specs.Int.{w32, to_be_bytes}
use Rattle.ls_base.specs.PageSize.{lock_page}
use Rattle.ls_sums.specs.Crc64.{crc64}

-- the check of the page's number, as four bytes with the highest first, and of the page, with the top bit set
abbrev pub page_sum : ℕ → List ℕ → ℕ
page_sum number page = bit_or (crc64 (to_be_bytes w32 number ++ page)) (2 ^ 63)

-- the sum of a page at rest, which leaves the lock page out: SQLite never uses that page, and it is never stored
abbrev pub counted_sum : ℕ → ℕ → List ℕ → ℕ
counted_sum lock number page = if number == lock then 0 else page_sum number page

-- the exclusive or of the sums of pages whose first has this number, where `lock` is the number of the lock page
abbrev pub sums_from : ℕ → ℕ → List (List ℕ) → ℕ
sums_from lock number [] = 0
sums_from lock number (page ∷ pages) = bit_xor (counted_sum lock number page) (sums_from lock (number + 1) pages)

-- The sum of a place at rest: that of all pages of this size but the lock page, with the top bit set. The
-- first of them is page 1.
abbrev pub rest_sum : ℕ → List (List ℕ) → ℕ
rest_sum size pages = bit_or (sums_from (lock_page size) 1 pages) (2 ^ 63)
