-- What `crash` of a disk in memory leaves, by its choice.
use Rattle.std.specs.Prelude.{◌≡◌, ℕ, Bool, false, if◌then◌else◌, ◌||◌, List, [], ◌∷◌, length, Option, Some, None}
use Rattle.std.specs.Prelude.{option_map}
use Rattle.crash_disk.specs.declared.event.Event.{Event}
use Rattle.crash_disk.specs.declared.event.Event.TheVariants.{Placed, Created, Appended, Wrote, Cut, Synced, Renamed}
use Rattle.crash_disk.specs.declared.event.Event.TheVariants.{Removed, NamesSynced}
use Rattle.crash_disk.specs.Files.{file_at, is_name}
use Rattle.crash_disk.specs.Numbers.{number_at, file_of}
use Rattle.crash_disk.specs.Remnant.{takes_names, remnant_at, bytes_left}

-- the number that the name had when the names were last synced
unfoldable pub synced_number_at : List Event → List ℕ → Option ℕ
synced_number_at [] q = None
synced_number_at (Placed name bytes ∷ events) q =
    if is_name q name then Some (length events) else synced_number_at events q
synced_number_at (Created name ∷ events) q = synced_number_at events q
synced_number_at (Appended name bytes ∷ events) q = synced_number_at events q
synced_number_at (Wrote name at bytes ∷ events) q = synced_number_at events q
synced_number_at (Cut name size ∷ events) q = synced_number_at events q
synced_number_at (Synced name ∷ events) q = synced_number_at events q
synced_number_at (Renamed from to ∷ events) q = synced_number_at events q
synced_number_at (Removed name ∷ events) q = synced_number_at events q
synced_number_at (NamesSynced ∷ events) q = number_at events q

-- the number of the file that the choice leaves at a name
abbrev pub number_left : ℕ → List Event → List ℕ → Option ℕ
number_left choice events name =
    if takes_names choice name then number_at events name else synced_number_at events name

-- the file that the choice leaves at a name
abbrev pub file_left : ℕ → List Event → List ℕ → Option (List ℕ)
file_left choice events name =
    option_map (λ n. bytes_left (remnant_at choice name) (file_of events n)) (number_left choice events name)

-- after the crash each name has the file that the choice leaves there
abbrev pub LeavesByChoice : ℕ → List Event → List Event → Type 0
LeavesByChoice choice old new = (name : List ℕ) → file_at new name ≡ file_left choice old name

-- the name under which the change puts a file
abbrev pub name_given : Event → Option (List ℕ)
name_given (Placed name bytes) = Some name
name_given (Created name) = Some name
name_given (Renamed from to) = Some to
name_given (Appended name bytes) = None
name_given (Wrote name at bytes) = None
name_given (Cut name size) = None
name_given (Synced name) = None
name_given (Removed name) = None
name_given NamesSynced = None

abbrev pub is_given : List ℕ → Option (List ℕ) → Bool
is_given q None = false
is_given q (Some name) = is_name q name

-- whether some change puts a file under the name
abbrev pub is_ever_given : List Event → List ℕ → Bool
is_ever_given [] q = false
is_ever_given (event ∷ events) q = is_given q (name_given event) || is_ever_given events q
