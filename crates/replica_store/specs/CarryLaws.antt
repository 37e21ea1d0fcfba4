-- The laws of a replica that no stop harms.
use Rattle.std.specs.Prelude.{◌≡◌, ◌↔◌, ℕ, ◌<◌, ◌≤◌, List, [], ◌∷◌, ◌++◌, length, take, Some}
use Rattle.std.specs.List.{Contains}
use Rattle.crash_disk.specs.declared.event.Event.{Event}
use Rattle.crash_disk.specs.declared.event.Event.TheVariants.{Placed}
use Rattle.crash_disk.specs.Files.{Files, files_after}
use Rattle.crash_disk.specs.GoesOn.{IsGrown}
use Rattle.crash_disk.specs.Images.{IsCrashImage, WasCrashImageSince, ArePlaced}
use Rattle.ls_base.specs.declared.line.Line.{Line}
use Rattle.ls_base.specs.Change.{Change}
use Rattle.ls_base.specs.History.{History, state_at}
use Rattle.ls_base.specs.SyncLog.{SyncLog}
use Rattle.ltx_format.specs.declared.header.LtxHeader.{LtxHeader}
use Rattle.replica_store.specs.declared.file_name.FileName.{FileName}
use Rattle.replica_store.specs.CarriesOn.{IsLonger, IsExtendedBy, CarriesOn, RetainsNew}
use Rattle.replica_store.specs.CrashFaithful.{IsCrashFaithful, IsSettled, LeavesAsRead}
use Rattle.replica_store.specs.Dropping.{MayDropAll, MayGo}
use Rattle.replica_store.specs.Faithful.{IsFaithful}
use Rattle.replica_store.specs.FaithLaws.{line_in, state_after}
use Rattle.replica_store.specs.FileOf.{IsFileOf}
use Rattle.replica_store.specs.Listing.{path_of, IsFilePath, IsIn}
use Rattle.replica_store.specs.NameText.{whole_path}
use Rattle.replica_store.specs.PutFiles.{IsNextFile, IsMergedFile, FollowsRetained}
use Rattle.replica_store.specs.Putting.{IsAbsent, KeepsOthers, Puts, HasPut, HasSyncedNames, MayDrop}
use Rattle.replica_store.specs.Retained.{IsRetainedIn}

-- a disk is settled exactly where its files as read are faithful, and a crash leaves them as they read
abbrev pub SettledIsAsRead : Type 0
SettledIsAsRead =
    (history : History) (events : List Event) (log : SyncLog)
    → IsSettled events history log ↔ (IsFaithful (files_after events) history log × LeavesAsRead events)

-- ---- steps

-- a settled disk goes on while nothing is done
abbrev pub CarriesOnItself : Type 0
CarriesOnItself =
    (history : History) (cut : ℕ) (events : List Event) (log : SyncLog)
    → IsSettled events history log → CarriesOn history cut events events log log

-- one step after another is a step
abbrev pub CarriesOnThen : Type 0
CarriesOnThen =
    (history : History) (cut : ℕ) (a b c : List Event) (log mid later : SyncLog) → IsGrown a b → IsGrown b c
    → CarriesOn history cut a b log mid → CarriesOn history cut b c mid later → CarriesOn history cut a c log later

-- where nothing but a temporary file changed, the disk is settled as before
abbrev pub TemporaryFilesChangeNothing : Type 0
TemporaryFilesChangeNothing =
    (history : History) (cut : ℕ) (before now : List Event) (log : SyncLog) (path : List ℕ)
    → IsSettled before history log → IsFilePath path → KeepsOthers path before now
    → CarriesOn history cut before now log log × IsSettled now history log

-- ---- files that are put

-- a file with the next line was put
abbrev pub NextFileCarriesOn : Type 0
NextFileCarriesOn =
    (history : History) (cut : ℕ) (before now : List Event) (log : SyncLog) (line : Line) (name : FileName)
    (bytes : List ℕ) → IsSettled before history log → IsNextFile history log line name bytes → cut ≤ line.moment
    → Puts (path_of name) bytes before now
    → CarriesOn history cut before now log (log ++ line ∷ []) × IsCrashFaithful now history (log ++ line ∷ [])

-- and brought to the disk; behind a retained transaction its own is retained
abbrev pub NextFileSettles : Type 0
NextFileSettles =
    (history : History) (before now : List Event) (log : SyncLog) (line : Line) (name : FileName) (bytes : List ℕ)
    → IsSettled before history log → IsNextFile history log line name bytes → HasPut (path_of name) bytes before now
    → IsSettled now history (log ++ line ∷ [])
    × (FollowsRetained (files_after before) name → RetainsNew now log (log ++ line ∷ []))

-- a file of the log was put under a name that wasn't there
abbrev pub MergedFileCarriesOn : Type 0
MergedFileCarriesOn =
    (history : History) (cut : ℕ) (before now : List Event) (log : SyncLog) (name : FileName) (bytes : List ℕ)
    → IsSettled before history log → IsMergedFile history log name bytes → IsAbsent before (path_of name)
    → Puts (path_of name) bytes before now
    → CarriesOn history cut before now log log × IsCrashFaithful now history log

-- and brought to the disk
abbrev pub MergedFileSettles : Type 0
MergedFileSettles =
    (history : History) (before now : List Event) (log : SyncLog) (name : FileName) (bytes : List ℕ)
    → IsSettled before history log → IsMergedFile history log name bytes → IsAbsent before (path_of name)
    → HasPut (path_of name) bytes before now → IsSettled now history log

-- ---- files that are dropped

-- none is dropped yet, and one more is
abbrev pub NoneDropped : Type 0
NoneDropped = (paths : List (List ℕ)) (events : List Event) → MayDropAll paths events events

abbrev pub OneMoreDropped : Type 0
OneMoreDropped =
    (paths : List (List ℕ)) (path : List ℕ) (before mid now : List Event) → IsGrown mid now → Contains paths path
    → MayDropAll paths before mid → MayDrop path mid now → MayDropAll paths before now

-- the replica goes on without files that may go
abbrev pub DropsCarryOn : Type 0
DropsCarryOn =
    (history : History) (cut : ℕ) (before now : List Event) (log : SyncLog) (paths : List (List ℕ))
    → IsSettled before history log → MayGo (files_after before) log cut paths → MayDropAll paths before now
    → CarriesOn history cut before now log log × IsCrashFaithful now history log

-- ---- names that are brought to the disk

-- a sync of the names makes a crash-faithful disk settled
abbrev pub SyncedNamesSettle : Type 0
SyncedNamesSettle =
    (history : History) (old new : List Event) (log : SyncLog) → IsGrown old new
    → IsCrashFaithful old history log → HasSyncedNames old new → IsSettled new history log

-- and leaves no image that wasn't one before it
abbrev pub SyncedNamesAddNoImage : Type 0
SyncedNamesAddNoImage =
    (old new : List Event) (image : Files) → HasSyncedNames old new
    → WasCrashImageSince new (length old) image → IsCrashImage old image

-- so a step may end with one
abbrev pub SyncedNamesCarryOn : Type 0
SyncedNamesCarryOn =
    (history : History) (cut : ℕ) (before now after : List Event) (log later : SyncLog)
    → IsGrown before now → IsGrown now after → CarriesOn history cut before now log later → HasSyncedNames now after
    → CarriesOn history cut before after log later

-- ---- the next run

-- what a crash leaves of a crash-faithful disk is a settled disk, for a front of the log
abbrev pub CrashesSettle : Type 0
CrashesSettle =
    (history : History) (events after : List Event) (log : SyncLog) → IsCrashFaithful events history log
    → IsCrashImage events (files_after after) → ArePlaced after
    → (lines : ℕ) × (lines ≤ length log) × IsSettled after history (take lines log)

-- and of a settled one, for the whole log
abbrev pub CrashesLoseNothingSettled : Type 0
CrashesLoseNothingSettled =
    (history : History) (events after : List Event) (log : SyncLog) → IsSettled events history log
    → IsCrashImage events (files_after after) → ArePlaced after → IsSettled after history log

-- ---- what grows

-- a longer history keeps all of it
abbrev pub LongerHistoryKeeps : Type 0
LongerHistoryKeeps =
    (history more : History) (cut : ℕ) (before now : List Event) (log later : SyncLog)
    → (IsCrashFaithful now history log → IsCrashFaithful now (history ++ more) log)
    × (IsSettled now history log → IsSettled now (history ++ more) log)
    × (CarriesOn history cut before now log later → CarriesOn (history ++ more) cut before now log later)

-- a larger set of files retains what a smaller one does
abbrev pub MoreFilesRetainMore : Type 0
MoreFilesRetainMore =
    (a b : Files) (t : ℕ) → ((name : FileName) → IsIn a name → IsIn b name) → IsRetainedIn a t → IsRetainedIn b t

-- ---- the log that files tell

-- files that are faithful to a longer log, with one for each new line, tell it
abbrev pub FaithfulFilesExtend : Type 0
FaithfulFilesExtend =
    (files : Files) (history : History) (log later : SyncLog) → IsFaithful files history later → IsLonger log later
    → ((t : ℕ) → length log < t → t ≤ length later → (name : FileName) × IsIn files name × (name.max ≡ t))
    → IsExtendedBy log files later

-- and tell no other
abbrev pub OneExtension : Type 0
OneExtension =
    (log : SyncLog) (files : Files) (a b : SyncLog) → IsExtendedBy log files a → IsExtendedBy log files b → a ≡ b

-- ---- where it begins

-- a disk on which nothing was done is settled for the empty log
abbrev pub EmptyIsSettled : Type 0
EmptyIsSettled = (history : History) → IsSettled [] history []

-- and a disk with one file of the whole database for one line
abbrev pub WholeIsSettled : Type 0
WholeIsSettled =
    (history : History) (whole : List ℕ) (h : LtxHeader) (c : Change)
    → IsFileOf whole 1 1 h c → state_at history h.place ≡ Some (state_after c)
    → IsSettled (Placed (whole_path 1) whole ∷ []) history (line_in h ∷ [])
