-- What states a database had.
use Rattle.std.specs.Prelude.{◌≡◌, ℕ, List, Option, Some, option_map, find}
use Rattle.std.specs.List.{slice_get}
use Rattle.ls_base.specs.declared.entry.Entry.{Entry}
use Rattle.ls_base.specs.declared.place.Place.{Place}
use Rattle.ls_base.specs.Place.{is_same_place}
use Rattle.ls_base.specs.State.{State}

-- the state of an entry
abbrev pub state_of : Entry → State
state_of entry = record { page_size = Some entry.size; pages = entry.pages }

-- The entries in the order in which they came. One is added at each commit, and whenever the log ceases
-- to have one.
abbrev pub History : Type 0
History = List Entry

-- the state at a place: that of the first entry there
abbrev pub state_at : History → Place → Option State
state_at history place = option_map state_of (find (λ entry. is_same_place entry.place place) history)

-- entries of one place have one state
abbrev pub HaveOneState : History → Type 0
HaveOneState history =
    (j k : ℕ) (a b : Entry) → slice_get history j ≡ Some a → slice_get history k ≡ Some b
    → a.place ≡ b.place → state_of a ≡ state_of b
