-- Database states.
use Rattle.std.specs.Prelude.{◌≡◌, ℕ, zero, suc, List, [], length, replicate, Option, Some, None}
use Rattle.std.specs.List.{AllByRecursion, concat, slice_get}
use Rattle.ls_base.specs.PageSize.{lock_page}

-- a page size, and pages of that many bytes each; the empty state has neither
pub record State : Type 0 where
  pub page_size : Option ℕ
  pub pages : List (List ℕ)

-- the page of this number, counted from 1
abbrev pub page_of : State → ℕ → Option (List ℕ)
page_of s zero = None
page_of s (suc n) = slice_get s.pages n

-- each page has the page size, and where there is no page size there is no page
abbrev pub HasPageSize : Option ℕ → List (List ℕ) → Type 0
HasPageSize None pages = pages ≡ []
HasPageSize (Some size) pages = AllByRecursion (λ page. length page ≡ size) pages

-- The lock page, where the state has one, is zeros: SQLite never uses it, and it is never stored.
abbrev pub HasBlankLockPage : State → Type 0
HasBlankLockPage s =
    (size : ℕ) → s.page_size ≡ Some size → (page : List ℕ) → page_of s (lock_page size) ≡ Some page
    → page ≡ replicate size 0

-- what each state of a database is
pub record IsState (s : State) : Type 0 where
  pub sized : HasPageSize s.page_size s.pages
  pub blank : HasBlankLockPage s

abbrev pub empty_state : State
empty_state = record { page_size = None; pages = [] }

-- the database file of the state: its pages one after another
abbrev pub state_bytes : State → List ℕ
state_bytes s = concat s.pages
