-- Cursors that wait with numbers.
use Rattle.std.specs.Prelude.{◌≡◌, ℕ, ◌<◌, ◌≤◌, length, List, replicate, Option, Some, None, slice_get, nat_lt}
use Rattle.std.specs.Prelude.{if◌then◌else◌}
use Rattle.std.specs.List.{Contains}
use Rattle.std.specs.Ordering.{nat_cmp, ordering_then}
use Rattle.std.specs.declared.cmp.Ordering.{Ordering}
use Rattle.std.specs.declared.cmp.Reverse.{Reverse}

-- The number with which each cursor waits, if it does, by the cursor's place; and how many numbers may be put before
-- memory is needed.
pub record Queue : Type 0 where
  pub numbers : List (Option ℕ)
  pub room : ℕ

-- no cursor of these waits, and there is room for a number of each
pub record IsEmptyQueue (count : ℕ) (queue : Queue) : Type 0 where
  pub numbers : queue.numbers ≡ replicate count None
  pub room : count ≤ queue.room

-- the cursor at the place waits with the number
abbrev pub Waits : List (Option ℕ) → ℕ → ℕ → Type 0
Waits numbers place number = slice_get numbers place ≡ Some (Some number)

-- a number and a place are those of the least number, and of equal numbers of the earliest cursor
pub record IsLeast (numbers : List (Option ℕ)) (next : ℕ × ℕ) : Type 0 where
  pub waits : Waits numbers next.1 next.0
  pub least : (place number : ℕ) → Waits numbers place number → next.0 ≤ number
  pub earliest : (place : ℕ) → Waits numbers place next.0 → next.1 ≤ place

-- the next number, where it is above the last
abbrev pub number_above : ℕ → Option ℕ → Option ℕ
number_above last None = None
number_above last (Some next) = if nat_lt last next then Some next else None

-- no cursor waits
abbrev pub NoneWaits : List (Option ℕ) → Type 0
NoneWaits numbers = (place number : ℕ) → Waits numbers place number → ⊥

-- the order of the entries: one is greater that has a lesser number, or the same number and an earlier place
abbrev pub entry_order : Reverse (ℕ × ℕ) → Reverse (ℕ × ℕ) → Ordering
entry_order x y = ordering_then (nat_cmp y.0.0 x.0.0) (nat_cmp y.0.1 x.0.1)

abbrev pub entry_of : ℕ → ℕ → Reverse (ℕ × ℕ)
entry_of number place = record { 0 = (number, place) }

-- there is an entry for each cursor that waits
abbrev pub HoldsEach : List (Reverse (ℕ × ℕ)) → List (Option ℕ) → Type 0
HoldsEach entries numbers = (place number : ℕ) → Waits numbers place number → Contains entries (entry_of number place)

-- no cursor waits from this place on
abbrev pub AreFresh : ℕ → List (Option ℕ) → Type 0
AreFresh place numbers = (k : ℕ) → place ≤ k → k < length numbers → slice_get numbers k ≡ Some None
