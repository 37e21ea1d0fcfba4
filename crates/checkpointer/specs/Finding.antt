-- What a log has up to an offset.
use Rattle.std.specs.Prelude.{◌≡◌, ◌≢◌, ℕ, ◌≤◌, Bool, true, List, length, take, Some, Ok, Err, Result}
use Rattle.std.specs.BTreeMap.{BTreeMap}
use Rattle.ls_base.specs.declared.mark.Mark.{Mark}
use Rattle.wal_frames.specs.declared.header.WalHeader.{WalHeader}
use Rattle.wal_frames.specs.WalFormat.{read_header}
use Rattle.wal_frames.specs.ValidPrefix.{valid_frames}
use Rattle.wal_frames.specs.Marks.{IsMark, last_mark_of}
use Rattle.checkpointer.specs.declared.fault.BackfillFault.{BackfillFault}
use Rattle.checkpointer.specs.declared.fault.BackfillFault.TheVariants.{Disk, NotMark, Memory}
use Rattle.checkpointer.specs.Gathering.{AreOffsets}

-- the header is the log's, or the log has no mark
abbrev pub Begins : List ℕ → Result WalHeader BackfillFault → Type 0
Begins log (Ok h) = (32 ≤ length log) × (read_header (take 32 log) ≡ Ok h)
Begins log (Err NotMark) = (mark : Mark) → IsMark log mark → ⊥
Begins log (Err Memory) = Unit {0}
Begins log (Err (Disk fault)) = Unit {0}

-- the log begins with this header, and has as many bytes
pub record HasHeader (log : List ℕ) (h : WalHeader) (upto : ℕ) : Type 0 where
  pub head : read_header (take 32 log) ≡ Ok h
  pub long : upto ≤ length log

-- no commit of the log ends at the offset
abbrev pub NoneEnds : List ℕ → ℕ → Type 0
NoneEnds log upto = (mark : Mark) → IsMark log mark → mark.end ≢ upto

-- The mark is one of the log's, under this header, and ends at the offset. The offsets are those of the pages of the
-- frames up to it.
pub record IsFound
    (log : List ℕ) (upto : ℕ) (h : WalHeader) (pages : BTreeMap ℕ ℕ) (mark : Mark) (is_last : Bool) : Type 0 where
  pub head : read_header log ≡ Ok h
  pub is_mark : IsMark log mark
  pub end : mark.end ≡ upto
  pub offsets : AreOffsets h.size (take upto log) pages (valid_frames (take upto log))
  pub last : is_last ≡ true → last_mark_of log ≡ Some mark
  pub not_last : last_mark_of log ≡ Some mark → is_last ≡ true
