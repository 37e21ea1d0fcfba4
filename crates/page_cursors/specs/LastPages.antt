-- The state that changes make, told by its pages: each is that of the last change that has it.
use Rattle.std.specs.Prelude.{◌≡◌, ◌≢◌, ℕ, ◌<◌, ◌≤◌, List, [], ◌∷◌, length, replicate, Option, Some, None, IsSome}
use Rattle.std.specs.List.{AllByRecursion}
use Rattle.std.specs.Option.{option_or}
use Rattle.std.specs.FinMap.{get}
use Rattle.ls_base.specs.Change.{Change}
use Rattle.ls_base.specs.PageSize.{lock_page}
use Rattle.ls_base.specs.State.{State, empty_state, page_of}
use Rattle.replica_store.specs.Applying.{AppliesTo, LacksPage}

-- the page of this number in the last change that has it
abbrev pub last_page : List Change → ℕ → Option (List ℕ)
last_page [] p = None
last_page (c ∷ changes) p = option_or (last_page changes p) (get c.pages p)

-- how many pages the last change leaves, where there were so many before
abbrev pub last_commit : ℕ → List Change → ℕ
last_commit before [] = before
last_commit before (c ∷ changes) = last_commit c.commit changes

-- behind so many pages the change has each page that no state before it has; the lock page is in none
abbrev pub HoldsNew : ℕ → Change → Type 0
HoldsNew before c = (p : ℕ) → before < p → p ≤ c.commit → p ≢ lock_page c.page_size → IsSome (get c.pages p)

-- each of the changes does, behind those before it
abbrev pub HoldNew : ℕ → List Change → Type 0
HoldNew before [] = Unit {0}
HoldNew before (c ∷ changes) = HoldsNew before c × HoldNew c.commit changes

abbrev pub HaveSize : ℕ → List Change → Type 0
HaveSize size changes = AllByRecursion (λ c. c.page_size ≡ size) changes

-- the changes, from nothing on, make this state: its lock page is zeros, and each other page the last one
pub record MakesOfLastPages (size : ℕ) (changes : List Change) (state : State) : Type 0 where
  pub applies : AppliesTo empty_state changes state
  pub count : length state.pages ≡ last_commit 0 changes
  pub lock : (p : ℕ) → p ≡ lock_page size → p ≤ last_commit 0 changes → page_of state p ≡ Some (replicate size 0)
  pub others : (p : ℕ) → 1 ≤ p → p ≤ last_commit 0 changes → p ≢ lock_page size → page_of state p ≡ last_page changes p

-- changes of one page size make the state of the last pages, where each has the pages that none before it has
abbrev pub LastPagesMakeStates : Type 0
LastPagesMakeStates =
    (size : ℕ) (changes : List Change) → HaveSize size changes → HoldNew 0 changes
    → (state : State) × MakesOfLastPages size changes state

-- the first page above so many that the change lacks
pub record IsFirstLackingOf (before : ℕ) (c : Change) (number : ℕ) : Type 0 where
  pub above : before < number
  pub within : number ≤ c.commit
  pub unlocked : number ≢ lock_page c.page_size
  pub lacking : get c.pages number ≡ None
  pub least : (p : ℕ) → before < p → p < number → p ≢ lock_page c.page_size → IsSome (get c.pages p)

-- a change that lacks a page above those of a state doesn't fit it, and that page is the first missing one
abbrev pub LackingPagesAreMissing : Type 0
LackingPagesAreMissing =
    (s : State) (c : Change) (number : ℕ) → IsFirstLackingOf (length s.pages) c number → LacksPage s c number
