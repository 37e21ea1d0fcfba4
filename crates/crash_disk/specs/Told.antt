-- The record of changes that a disk may tell.
use Rattle.std.specs.Prelude.{◌≡◌, ℕ, ◌+◌, ◌-◌, ◌^◌, ◌≤◌, min, List, ◌∷◌, length, Option, Some, option_map, take, ◌⊎◌}
use Rattle.crash_disk.specs.declared.event.Event.{Event}
use Rattle.crash_disk.specs.declared.event.Event.TheVariants.{Appended, Wrote}

-- the changes since the beginning, newest first, or none where the disk doesn't tell
abbrev pub Told : Type 0
Told = Option (List Event)

-- one more change; a disk that doesn't tell stays silent
abbrev pub gains : Told → Event → Told
gains told event = option_map (λ events. event ∷ events) told

-- a fact about the record, asked only where it is told
abbrev pub IfTold : Told → (List Event → Type 0) → Type 0
IfTold told P = (events : List Event) → told ≡ Some events → P events

-- the change took place or didn't
abbrev pub GainsOrNot : Told → Told → Event → Type 0
GainsOrNot old new event = (new ≡ old) ⊎ (new ≡ gains old event)

-- a front of the bytes was appended, or nothing was
abbrev pub GainsPrefixOrNot : Told → Told → List ℕ → List ℕ → Type 0
GainsPrefixOrNot old new name bytes = (new ≡ old) ⊎ ((k : ℕ) × (new ≡ gains old (Appended name (take k bytes))))

-- some bytes were written from the offset on, no more than so many, or nothing was
abbrev pub GainsBytesOrNot : Told → Told → List ℕ → ℕ → ℕ → Type 0
GainsBytesOrNot old new name at most =
    (new ≡ old) ⊎ ((bytes : List ℕ) × (length bytes ≤ most) × (new ≡ gains old (Wrote name at bytes)))

-- so many bytes more were given, up to the last value of a u64
abbrev pub gives : Option ℕ → ℕ → Option ℕ
gives given more = option_map (λ n. min (n + more) (2 ^ 64 - 1)) given

-- the folder that the disk is attached to and the count of bytes that it gave are as before
pub record Keeps (folder_before folder_now : Option (List ℕ)) (given_before given_now : Option ℕ) : Type 0 where
  pub folder : folder_now ≡ folder_before
  pub given : given_now ≡ given_before
