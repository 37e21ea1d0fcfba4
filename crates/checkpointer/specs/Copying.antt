-- Pages that are copied from a log into the database file.
use Rattle.std.specs.Prelude.{◌≡◌, ◌≢◌, ◌⊎◌, ℕ, ◌+◌, ◌-◌, ◌*◌, ◌≤◌, Bool, true, false}
use Rattle.std.specs.Prelude.{List, [], ◌∷◌, length, take, drop, Some}
use Rattle.std.specs.Ordering.{nat_cmp}
use Rattle.std.specs.BTreeMap.{BTreeMap, get}
use Rattle.ls_base.specs.PageSize.{lock_page}
use Rattle.crash_disk.specs.declared.event.Event.{Event}
use Rattle.crash_disk.specs.declared.event.Event.TheVariants.{Wrote, Cut, Synced}
use Rattle.crash_disk.specs.FileState.{SomeOf}
use Rattle.checkpointer.specs.PairState.{bytes_at}

-- the page of this number was written with the bytes that the log has from the offset on
pub record WritesPage (db wal : List ℕ) (size number at : ℕ) (old new : List Event) : Type 0 where
  pub bytes : List ℕ
  pub is : new ≡ Wrote db ((number - 1) * size) bytes ∷ old
  pub long : length bytes ≡ size
  pub page : at + size ≤ length (bytes_at old wal) → bytes ≡ take size (drop at (bytes_at old wal))

-- nothing was done, or some bytes were written where the page stands
abbrev pub MayWritePage : List ℕ → ℕ → ℕ → List Event → List Event → Type 0
MayWritePage db size number old new =
    (new ≡ old) ⊎ ((bytes : List ℕ) × (length bytes ≤ size) × (new ≡ Wrote db ((number - 1) * size) bytes ∷ old))

-- ---- many pages

-- the bytes of a page were written, by its number
pub record Written : Type 0 where
  pub number : ℕ
  pub bytes : List ℕ

-- after these writes, the newest first
abbrev pub after_writes : List ℕ → ℕ → List Written → List Event → List Event
after_writes db size [] old = old
after_writes db size (w ∷ writes) old = Wrote db ((w.number - 1) * size) w.bytes ∷ after_writes db size writes old

-- all of them are so
abbrev pub EachIs : (Written → Type 0) → List Written → Type 0
EachIs P [] = Unit {0}
EachIs P (w ∷ writes) = P w × EachIs P writes

-- a page that a checkpoint copies: one of the view, but never the lock page
pub record IsCopiedNumber (size commit number : ℕ) : Type 0 where
  pub from : 1 ≤ number
  pub upto : number ≤ commit
  pub unlocked : number ≢ lock_page size

-- no more than the bytes of a page that is copied
pub record IsPartOfPage (size commit : ℕ) (pages : BTreeMap ℕ ℕ) (w : Written) : Type 0 where
  pub copied : IsCopiedNumber size commit w.number
  pub at : ℕ
  pub found : get nat_cmp pages w.number ≡ Some at
  pub within : length w.bytes ≤ size

-- the whole page, from where it stands in the log
pub record IsPageOf (size commit : ℕ) (pages : BTreeMap ℕ ℕ) (log : List ℕ) (w : Written) : Type 0 where
  pub copied : IsCopiedNumber size commit w.number
  pub at : ℕ
  pub found : get nat_cmp pages w.number ≡ Some at
  pub long : length w.bytes ≡ size
  pub page : at + size ≤ length log → w.bytes ≡ take size (drop at log)

-- each page stands in the log
abbrev pub AreWithin : ℕ → BTreeMap ℕ ℕ → List ℕ → Type 0
AreWithin size pages log = (number at : ℕ) → get nat_cmp pages number ≡ Some at → at + size ≤ length log

-- the pages that a checkpoint copies were written
pub record CopiesPages (db wal : List ℕ) (size commit : ℕ) (pages : BTreeMap ℕ ℕ) (old new : List Event) : Type 0 where
  pub writes : List Written
  pub is : new ≡ after_writes db size writes old
  pub each : EachIs (IsPageOf size commit pages (bytes_at old wal)) writes
  pub all : (number at : ℕ) → get nat_cmp pages number ≡ Some at → IsCopiedNumber size commit number
      → SomeOf (λ w. w.number ≡ number) writes

-- some of them were written, the last one maybe in part
pub record MayCopyPages (db : List ℕ) (size commit : ℕ) (pages : BTreeMap ℕ ℕ) (old new : List Event) : Type 0 where
  pub writes : List Written
  pub is : new ≡ after_writes db size writes old
  pub each : EachIs (IsPartOfPage size commit pages) writes

-- ---- the length

-- the file was given the length, or had as much and may not shrink
abbrev pub SetsLength : List ℕ → ℕ → Bool → List Event → List Event → Type 0
SetsLength db bytes may_shrink old new =
    ((new ≡ Cut db bytes ∷ old) × ((may_shrink ≡ true) ⊎ (length (bytes_at old db) ≤ bytes)))
    ⊎ ((new ≡ old) × (may_shrink ≡ false) × (bytes ≤ length (bytes_at old db)))

abbrev pub MaySetLength : List ℕ → ℕ → Bool → List Event → List Event → Type 0
MaySetLength db bytes may_shrink old new =
    (new ≡ old) ⊎ ((new ≡ Cut db bytes ∷ old) × ((may_shrink ≡ true) ⊎ (length (bytes_at old db) ≤ bytes)))

-- ---- all of it

-- the pages were copied, the length was set and the file was synced
pub record CopiesFound
    (db wal : List ℕ) (size commit : ℕ) (pages : BTreeMap ℕ ℕ) (is_last : Bool) (old new : List Event) : Type 0 where
  pub copied : List Event
  pub sized : List Event
  pub page_writes : CopiesPages db wal size commit pages old copied
  pub set : SetsLength db (commit * size) is_last copied sized
  pub is : new ≡ Synced db ∷ sized

-- the pages were copied, and maybe the length was set
pub record MaySizeCopied
    (db wal : List ℕ) (size commit : ℕ) (pages : BTreeMap ℕ ℕ) (is_last : Bool) (old new : List Event) : Type 0 where
  pub copied : List Event
  pub page_writes : CopiesPages db wal size commit pages old copied
  pub set : MaySetLength db (commit * size) is_last copied new

-- a part of it
abbrev pub MayCopyFound : List ℕ → List ℕ → ℕ → ℕ → BTreeMap ℕ ℕ → Bool → List Event → List Event → Type 0
MayCopyFound db wal size commit pages is_last old new =
    MayCopyPages db size commit pages old new ⊎ MaySizeCopied db wal size commit pages is_last old new
