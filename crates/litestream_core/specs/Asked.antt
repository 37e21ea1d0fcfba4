-- Which transaction a restore asks for, and the chain of files to it.
use Rattle.std.specs.Prelude.{◌≡◌, ◌≢◌, ℕ, ◌≤◌, List, [], length, Option, Some, ℤ, pos, negsuc}
use Rattle.std.specs.List.{Contains}
use Rattle.crash_disk.specs.Files.{Files}
use Rattle.ls_words.specs.declared.command.Target.{Target}
use Rattle.ls_words.specs.declared.command.Target.TheVariants.{Newest, At, Moment}
use Rattle.replica_store.specs.declared.dated_names.Dated.{Dated}
use Rattle.replica_store.specs.declared.error.Damage.{Damage}
use Rattle.replica_store.specs.declared.file_name.FileName.{FileName}
use Rattle.replica_store.specs.Chain.{IsRetained, IsChain, BeginsOnce}
use Rattle.replica_store.specs.Dating.{AreDated, IsFirstBadHeader}
use Rattle.replica_store.specs.Listing.{AreListed}
use Rattle.restore_plan.specs.ChosenChain.{IsChosenChain}
use Rattle.restore_plan.specs.Moment.{IsRetainedAt, IsLastAt}
use Rattle.restore_plan.specs.Retained.{IsGreatestRetainedBelow}
use Rattle.litestream_core.specs.Request.{Request}

-- the names of the replica, of which there are some
pub record AreNames (files : Files) (names : List FileName) : Type 0 where
  pub listed : AreListed files names
  pub some : names ≢ []

-- the greatest transaction with which a file ends
pub record IsNewest (names : List FileName) (t : ℕ) : Type 0 where
  pub name : FileName
  pub there : Contains names name
  pub ends : name.max ≡ t
  pub greatest : (other : FileName) → Contains names other → other.max ≤ t

-- the last retained transaction at or before a moment that isn't before 1970
pub record IsOfMoment (files : Files) (names : List FileName) (moment : ℤ) (t : ℕ) : Type 0 where
  pub dated : List Dated
  pub moments : AreDated files names dated
  pub ms : ℕ
  pub is : moment ≡ pos ms
  pub last : IsLastAt dated ms t

-- the transaction that is asked for
abbrev pub IsAsked : Files → List FileName → Target → ℕ → Type 0
IsAsked files names Newest t = IsNewest names t
IsAsked files names (At asked) t = t ≡ asked
IsAsked files names (Moment moment) t = IsOfMoment files names moment t

-- the moment is before 1970, or no retained transaction is so early
abbrev pub IsTooEarly : Files → List FileName → ℤ → Type 0
IsTooEarly files names (pos ms) =
    (dated : List Dated) × AreDated files names dated × ((t : ℕ) → IsRetainedAt dated ms t → ⊥)
IsTooEarly files names (negsuc n) = Unit {0}

-- nothing was retained at the asked moment
abbrev pub LacksMoment : Files → List FileName → Target → Type 0
LacksMoment files names Newest = ⊥
LacksMoment files names (At asked) = ⊥
LacksMoment files names (Moment moment) = IsTooEarly files names moment

-- A header was looked at for its moment, and it is damaged. None is looked at where the moment is before 1970.
abbrev pub HasBadHeaderAt : Files → List FileName → ℤ → FileName → Damage → Type 0
HasBadHeaderAt files names (pos ms) name damage = IsFirstBadHeader files names name damage
HasBadHeaderAt files names (negsuc n) name damage = ⊥

abbrev pub HasBadHeader : Files → List FileName → Target → FileName → Damage → Type 0
HasBadHeader files names Newest name damage = ⊥
HasBadHeader files names (At asked) name damage = ⊥
HasBadHeader files names (Moment moment) name damage = HasBadHeaderAt files names moment name damage

-- the plan of a restore: the chosen chain to the transaction that is asked for
pub record IsPlan (files : Files) (r : Request) (t : ℕ) (plan : List FileName) : Type 0 where
  pub names : List FileName
  pub are : AreNames files names
  pub asked : IsAsked files names r.target t
  pub retained : IsRetained names t
  pub chain : IsChain names t plan
  pub chosen : IsChosenChain names t plan
  pub once : BeginsOnce plan
  pub fewest : (other : List FileName) → IsChain names t other → length plan ≤ length other

-- no chain leads to the transaction that is asked for
pub record IsMissing (files : Files) (r : Request) (after : ℕ) : Type 0 where
  pub names : List FileName
  pub are : AreNames files names
  pub t : ℕ
  pub asked : IsAsked files names r.target t
  pub missing : IsRetained names t → ⊥
  pub greatest : IsGreatestRetainedBelow names t after

-- the replica has names, and the moment that is asked for is too early for them
pub record IsBefore (files : Files) (r : Request) : Type 0 where
  pub names : List FileName
  pub are : AreNames files names
  pub lacks : LacksMoment files names r.target

-- a header that was looked at for its moment is damaged
pub record IsBadHeader (files : Files) (r : Request) (name : FileName) (damage : Damage) : Type 0 where
  pub names : List FileName
  pub are : AreNames files names
  pub bad : HasBadHeader files names r.target name damage

-- the disks are attached to the folders of the replica and of the output
pub record AreAttached (r : Request) (store target : Option (List ℕ)) : Type 0 where
  pub replica : store ≡ Some r.replica
  pub output : target ≡ Some r.folder
