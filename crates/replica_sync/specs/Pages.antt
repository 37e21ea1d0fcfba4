-- The pages of what was found, and the file that they make.
use Rattle.std.specs.Prelude.{◌≡◌, ◌≢◌, ℕ, ◌+◌, ◌-◌, ◌*◌, ◌≤◌, nat_lt, nat_le, if◌then◌else◌, get_or, List, length}
use Rattle.std.specs.Prelude.{Some}
use Rattle.std.specs.List.{Contains}
use Rattle.std.specs.List.Sorted.{IsStrictlyIncreasing}
use Rattle.std.specs.FinMap.{get}
use Rattle.ls_base.specs.Limits.{database_limit}
use Rattle.ls_base.specs.PageSize.{IsPageSize, lock_page}
use Rattle.ls_base.specs.History.{state_at}
use Rattle.ls_base.specs.State.{State, page_of}
use Rattle.live_gate.specs.LiveRecord.{Database, LiveRecord}
use Rattle.live_gate.specs.LiveRecord as live
use Rattle.live_gate.specs.Legal.{IsLegal}
use Rattle.ltx_format.specs.LtxFormat.{IsPlaceFor}
use Rattle.ltx_format.specs.Writing.{PageMap}
use Rattle.wal_follow.specs.declared.answer.Found.{Found}
use Rattle.wal_follow.specs.declared.answer.Wanted.{Wanted}
use Rattle.wal_follow.specs.declared.answer.Wanted.TheVariants.{All, Listed}
use Rattle.wal_follow.specs.declared.following.Target.{Target}
use Rattle.wal_follow.specs.Calls.{IsTargetView}

-- ---- the numbers

-- the page of this number is to be stored
abbrev pub IsToStore : Wanted → ℕ → ℕ → ℕ → Type 0
IsToStore All size commit p = (1 ≤ p) × (p ≤ commit) × (p ≢ lock_page size)
IsToStore (Listed numbers) size commit p = Contains numbers p

abbrev pub IsWanted : Found → ℕ → Type 0
IsWanted found p = IsToStore found.wanted found.size found.commit p

-- the number of the page at this place among all of them, from 0 on
abbrev pub number_in : Wanted → ℕ → ℕ → ℕ
number_in All lock at = if nat_lt (at + 1) lock then at + 1 else at + 2
number_in (Listed numbers) lock at = get_or numbers at 0

-- how many there are
abbrev pub count_in : Wanted → ℕ → ℕ → ℕ
count_in All lock commit = if nat_le lock commit then commit - 1 else commit
count_in (Listed numbers) lock commit = length numbers

abbrev pub number_at : Found → ℕ → ℕ
number_at found at = number_in found.wanted (lock_page found.size) at

abbrev pub count_of : Found → ℕ
count_of found = count_in found.wanted (lock_page found.size) found.commit

-- a list of numbers rises
abbrev pub AreRising : Wanted → Type 0
AreRising All = Unit {0}
AreRising (Listed numbers) = IsStrictlyIncreasing numbers

-- A file's header can tell the state, and each page that is wanted may stand in a file.
pub record IsStorable (found : Found) : Type 0 where
  pub size : IsPageSize found.size
  pub some : 1 ≤ found.commit
  pub small : found.commit * found.size ≤ database_limit
  pub place : IsPlaceFor found.size found.place
  pub rising : AreRising found.wanted
  pub numbers : (p : ℕ) → IsWanted found p → (1 ≤ p) × (p ≤ found.commit) × (p ≢ lock_page found.size)

-- ---- the state

-- The history has this state at the target's place, and the files show it there.
pub record IsShown (target : Target) (d : Database) (s : State) : Type 0 where
  pub recorded : state_at d.history target.place ≡ Some s
  pub view : IsTargetView target d target.place s

-- Whatever state a legal database had at the target then, the pages are its own, where no coincidence is counted.
pub record ArePagesOf (target : Target) (live_old live_new : live.Told) (pages : PageMap) : Type 0 where
  pub each : (old new : LiveRecord) → live_old ≡ Some old → live_new ≡ Some new
      → IsLegal old.database → new.database.chances ≡ 0
      → (s : State) → IsShown target old.database s
      → (p : ℕ) (page : List ℕ) → get pages p ≡ Some page → page_of s p ≡ Some page
