-- Changes, and what one makes of a state.
use Rattle.std.specs.Prelude.{◌≡◌, ℕ, ◌≤◌, Bool, true, false, ◌==◌, List, [], map, replicate, Option, Some, IsSome}
use Rattle.std.specs.Prelude.{unwrap_or}
use Rattle.std.specs.Option.{option_or}
use Rattle.std.specs.List.{range_with_len}
use Rattle.std.specs.Ordering.{nat_cmp}
use Rattle.std.specs.FinMap.{FinMap, get}
use Rattle.ls_base.specs.PageSize.{lock_page}
use Rattle.ls_base.specs.State.{State, page_of}

-- a page size, the number of pages afterwards, and pages by their number
pub record Change : Type 0 where
  pub page_size : ℕ
  pub commit : ℕ
  pub pages : FinMap nat_cmp (List ℕ)

-- the lock page is zeros, any other page is the change's where it has one, else the state's
abbrev pub page_where : Bool → State → Change → ℕ → Option (List ℕ)
page_where true s c p = Some (replicate c.page_size 0)
page_where false s c p = option_or (get c.pages p) (page_of s p)

-- the page of this number after the change
abbrev pub page_after : State → Change → ℕ → Option (List ℕ)
page_after s c p = page_where (p == lock_page c.page_size) s c p

-- The change fits the state: the state is empty or has the change's page size, and each page of the
-- state afterwards is in the change or in the state.
pub record IsApplicable (s : State) (c : Change) : Type 0 where
  pub same_size : (size : ℕ) → s.page_size ≡ Some size → size ≡ c.page_size
  pub each : (p : ℕ) → 1 ≤ p → p ≤ c.commit → IsSome (page_after s c p)

-- the state after the change: its commit pages
abbrev pub apply : State → Change → State
apply s c = record {
  page_size = Some c.page_size;
  pages = map (λ p. unwrap_or (page_after s c p) []) (range_with_len 1 c.commit);
}
