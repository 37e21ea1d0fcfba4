-- Entries of one place with other states.
use Rattle.std.specs.Prelude.{◌≡◌, ℕ, Some}
use Rattle.std.specs.List.{slice_get}
use Rattle.ls_base.specs.declared.entry.Entry.{Entry}
use Rattle.ls_base.specs.History.{History, state_of}

-- an entry of the history has the place of this one, but another state
pub record HasTwin (history : History) (entry : Entry) : Type 0 where
  pub at : ℕ
  pub other : Entry
  pub found : slice_get history at ≡ Some other
  pub place : other.place ≡ entry.place
  pub differs : state_of other ≡ state_of entry → ⊥

-- each entry of its place has its state
pub record HasNoTwin (history : History) (entry : Entry) : Type 0 where
  pub each : (j : ℕ) (other : Entry) → slice_get history j ≡ Some other → other.place ≡ entry.place
      → state_of other ≡ state_of entry
