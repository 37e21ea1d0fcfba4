-- What a live database may tell: plain data in two halves.
use Rattle.std.specs.Prelude.{◌≡◌, ℕ, List, ◌++◌, Bool, false, Option, Some, None}
use Rattle.ls_base.specs.History.{History}

-- The half of the database. The writer's moves change this half alone.
pub record Database : Type 0 where
  -- its states with their places, in the order in which they came
  pub history : History
  -- the committed part of its log: the bytes from the header to the last mark, none where there is no mark
  pub committed : List ℕ
  -- the bytes of the database file
  pub file : List ℕ
  -- the end of the copied mark, the greatest up to which copying into the file has begun; 0 where there is none
  pub copied : ℕ
  -- the end of the mark at which the gate is held, 0 where it is held at no mark, none where it isn't held
  pub held : Option ℕ
  -- whether it refuses a pass now
  pub refuses : Bool
  -- whether the machine stopped since the last `attach`
  pub stopped : Bool
  -- how many checksum coincidences came, up to the last value of a u64
  pub chances : ℕ

-- The half of what was asked. No move changes it, and each part of it only the call that it speaks of.
pub record Asked : Type 0 where
  -- the offset of the last `aim`, and the bytes that `read` answered since
  pub aimed : ℕ
  pub answered : List ℕ
  -- whether the last `read` that answered Ok gave no byte
  pub gave_none : Bool
  -- what `db_head` gave at its last Ok, and what `db_size` and `wal_size` answered at theirs
  pub head : Option (List ℕ)
  pub db_size : Option ℕ
  pub wal_size : Option ℕ
  -- how many bytes `read` answered, how often `pass` was asked, and how often it answered Passed, each up to the last
  -- value of a u64
  pub taken : ℕ
  pub passes_asked : ℕ
  pub passes_done : ℕ

pub record LiveRecord : Type 0 where
  pub database : Database
  pub asked : Asked

-- the record, or none where the live database doesn't tell
abbrev pub Told : Type 0
Told = Option LiveRecord

-- what a live database is attached to: the path, and whether it was said that nobody else has the database open
pub record Attachment : Type 0 where
  pub path : List ℕ
  pub at_rest : Bool

-- whether that was said
abbrev pub is_at_rest : Option Attachment → Bool
is_at_rest None = false
is_at_rest (Some a) = a.at_rest

-- a fact about the record, asked only where it is told
abbrev pub IfTold : Told → (LiveRecord → Type 0) → Type 0
IfTold told P = (r : LiveRecord) → told ≡ Some r → P r

-- P holds of what a told live database told and tells; one that doesn't tell stays silent
pub record GoesOn (old new : Told) (P : LiveRecord → LiveRecord → Type 0) : Type 0 where
  pub told : (r : LiveRecord) → old ≡ Some r → (after : LiveRecord) × (new ≡ Some after) × P r after
  pub silent : old ≡ None → new ≡ None

-- the one list begins with the other
pub record IsPrefix {A : Type 0} (front whole : List A) : Type 0 where
  pub rest : List A
  pub is : whole ≡ front ++ rest
