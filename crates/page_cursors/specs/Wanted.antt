-- The numbers that a file of a chain must hold: those above the size before it and up to its own, but for the
-- lock page.
use Rattle.std.specs.Prelude.{◌≡◌, ◌≢◌, ℕ, ◌<◌, ◌≤◌, List, Some, None}
use Rattle.std.specs.List.{Contains}
use Rattle.page_cursors.specs.declared.wanted.Wanted.{Wanted}

-- each number is below the bound
abbrev pub AreBelow : List ℕ → ℕ → Type 0
AreBelow numbers bound = (p : ℕ) → Contains numbers p → p < bound

-- each number between two others is there, but for the lock page
abbrev pub HoldsBetween : ℕ → List ℕ → ℕ → ℕ → Type 0
HoldsBetween lock numbers above below = (p : ℕ) → above < p → p < below → p ≢ lock → Contains numbers p

-- the least number above another that isn't there, but for the lock page
pub record IsFirstLacking (lock above : ℕ) (numbers : List ℕ) (number : ℕ) : Type 0 where
  pub above_it : above < number
  pub unlocked : number ≢ lock
  pub lacking : Contains numbers number → ⊥
  pub least : HoldsBetween lock numbers above number

-- none was missed yet: all before this one are there
pub record WantsNext (lock above : ℕ) (numbers : List ℕ) (next : ℕ) : Type 0 where
  pub first : IsFirstLacking lock above numbers next
  pub all : (p : ℕ) → Contains numbers p → above < p → p < next

-- one was missed: a later one is there
pub record HasMissed (lock above : ℕ) (numbers : List ℕ) (number : ℕ) : Type 0 where
  pub first : IsFirstLacking lock above numbers number
  pub later : ℕ
  pub there : Contains numbers later
  pub beyond : number < later

-- what is wanted behind these numbers, which rose
pub record Wants (lock above : ℕ) (numbers : List ℕ) (wanted : Wanted) : Type 0 where
  pub same_lock : wanted.lock ≡ lock
  pub next : wanted.missed ≡ None → WantsNext lock above numbers wanted.next
  pub missed : (number : ℕ) → wanted.missed ≡ Some number → HasMissed lock above numbers number

-- each number that the file must hold is there
abbrev pub HoldsAll : ℕ → ℕ → List ℕ → ℕ → Type 0
HoldsAll lock above numbers commit = (p : ℕ) → above < p → p ≤ commit → p ≢ lock → Contains numbers p
