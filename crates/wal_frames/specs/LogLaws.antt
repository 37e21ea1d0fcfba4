-- Logs that grow, are cut or share a front.
use Rattle.std.specs.Prelude.{◌≡◌, ℕ, ◌+◌, ◌≤◌, ◌<◌, List, ◌∷◌, ◌++◌, length, take, drop, Some, Ok}
use Rattle.std.specs.List.{AllByRecursion}
use Rattle.ls_base.specs.declared.mark.Mark.{Mark}
use Rattle.wal_frames.specs.declared.header.WalHeader.{WalHeader}
use Rattle.wal_frames.specs.WalFormat.{read_header}
use Rattle.wal_frames.specs.WalFrame.{frame_length}
use Rattle.wal_frames.specs.ValidPrefix.{valid_frames}
use Rattle.wal_frames.specs.Marks.{end_of, marks_of, IsMark, last_mark_of, committed_part}

-- each mark's end is behind this offset
abbrev pub EndBehind : ℕ → List Mark → Type 0
EndBehind offset marks = AllByRecursion (λ mark. offset < mark.end) marks

-- all that is behind the marks of a log in one that begins with it
pub record HasMoreMarks (before after : List ℕ) : Type 0 where
  pub more : List Mark
  pub kept : marks_of after ≡ marks_of before ++ more
  pub behind : EndBehind (length before) more

-- A log that grows keeps its marks, and has new ones behind its old end alone.
abbrev pub GrowingKeepsMarks : Type 0
GrowingKeepsMarks = (log more : List ℕ) → HasMoreMarks log (log ++ more)

-- its last mark is never earlier
pub record HasLastFrom (end : ℕ) (log : List ℕ) : Type 0 where
  pub mark : Mark
  pub is_last : last_mark_of log ≡ Some mark
  pub from : end ≤ mark.end

abbrev pub LastIsNeverEarlier : Type 0
LastIsNeverEarlier =
    (log more : List ℕ) (mark : Mark) → last_mark_of log ≡ Some mark → HasLastFrom mark.end (log ++ more)

-- A log that is cut at an offset has the marks up to it.
abbrev pub CutKeepsMarks : Type 0
CutKeepsMarks = (log : List ℕ) (at : ℕ) (mark : Mark) → IsMark log mark → mark.end ≤ at → IsMark (take at log) mark

-- A mark of a log is one of each log that has the same bytes up to it.
abbrev pub MarkByItsBytes : Type 0
MarkByItsBytes = (a b : List ℕ) (mark : Mark) → IsMark a mark → take mark.end a ≡ take mark.end b → IsMark b mark

-- a mark ends within its log, and the last one ends at or behind each
abbrev pub MarksEndWithin : Type 0
MarksEndWithin = (log : List ℕ) (mark : Mark) → IsMark log mark → mark.end ≤ length log

abbrev pub LastIsGreatest : Type 0
LastIsGreatest =
    (log : List ℕ) (mark last : Mark) → IsMark log mark → last_mark_of log ≡ Some last → mark.end ≤ last.end

-- one end has one mark
abbrev pub OneMarkAnEnd : Type 0
OneMarkAnEnd = (log : List ℕ) (a b : Mark) → IsMark log a → IsMark log b → a.end ≡ b.end → a ≡ b

-- the committed part has all marks of the log, and is its own committed part
abbrev pub CommittedHasTheMarks : Type 0
CommittedHasTheMarks = (log : List ℕ) → marks_of (committed_part log) ≡ marks_of log

abbrev pub CommittedIsItsOwn : Type 0
CommittedIsItsOwn = (log : List ℕ) → committed_part (committed_part log) ≡ committed_part log

-- where each valid frame stands: its bytes, from the end of those before it on
pub record StandsAt (h : WalHeader) (log : List ℕ) (at : ℕ) (frame : List ℕ) : Type 0 where
  pub within : at + frame_length h ≤ length log
  pub bytes : frame ≡ take (frame_length h) (drop at log)

abbrev pub FramesStand : Type 0
FramesStand =
    (log : List ℕ) (h : WalHeader) (before : List (List ℕ)) (frame : List ℕ) (behind : List (List ℕ))
    → read_header log ≡ Ok h → valid_frames log ≡ before ++ frame ∷ behind → StandsAt h log (end_of h before) frame
