-- Page sizes: SQLite database file format, section 1.3.2. The lock page: section 1.6.
use Rattle.std.specs.Prelude.{◌≡◌, ℕ, ◌+◌, ◌/◌, ◌≤◌, ◌^◌, Bool, [], ◌∷◌, ◌==◌}
use Rattle.std.specs.List.{list_any}

-- a power of two from 512 to 65536
abbrev pub IsPageSize : ℕ → Type 0
IsPageSize n = (k : ℕ) × (9 ≤ k) × (k ≤ 16) × (n ≡ 2 ^ k)

-- the same as a test
abbrev pub is_page_size : ℕ → Bool
is_page_size n = list_any (λ size. size == n) (512 ∷ 1024 ∷ 2048 ∷ 4096 ∷ 8192 ∷ 16384 ∷ 32768 ∷ 65536 ∷ [])

-- the number of the page that holds byte 2^30, counted from 1
abbrev pub lock_page : ℕ → ℕ
lock_page size = 2 ^ 30 / size + 1
