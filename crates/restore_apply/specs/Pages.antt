-- The bytes of an output, by the pages that were given for it.
use Rattle.std.specs.Prelude.{ℕ, zero, suc, Bool, ◌==◌, ◌&&◌, not, nat_le, nat_lt, if◌then◌else◌, List, [], ◌++◌}
use Rattle.std.specs.Prelude.{replicate, unwrap_or}
use Rattle.ls_base.specs.PageSize.{lock_page}
use Rattle.page_cursors.specs.Blocks.{Blocks, page_in}

-- the page of this number in an output with pages of this size: the lock page is zeros
abbrev pub output_page : ℕ → Blocks → ℕ → List ℕ
output_page size given p = if p == lock_page size then replicate size 0 else unwrap_or (page_in given p) []

-- the pages up to this number, one after another
abbrev pub output_to : ℕ → Blocks → ℕ → List ℕ
output_to size given zero = []
output_to size given (suc p) = output_to size given p ++ output_page size given (suc p)

-- the lock page, where it lies between the two numbers
abbrev pub lock_between : ℕ → ℕ → ℕ → List ℕ
lock_between size last next =
    if nat_lt last (lock_page size) && nat_lt (lock_page size) next then replicate size 0 else []

-- a page of this number stands in an output of so many pages; the lock page comes from no file
abbrev pub is_put : ℕ → ℕ → ℕ → Bool
is_put size commit number = nat_le number commit && not (number == lock_page size)

-- what such a page puts behind the page of the last number
abbrev pub bytes_put : ℕ → ℕ → ℕ → ℕ → List ℕ → List ℕ
bytes_put size commit last number page =
    if is_put size commit number then lock_between size last number ++ page else []

-- and the last number then
abbrev pub last_put : ℕ → ℕ → ℕ → ℕ → ℕ
last_put size commit last number = if is_put size commit number then number else last
