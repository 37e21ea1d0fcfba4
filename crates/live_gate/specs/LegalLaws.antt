-- What is legal, in other words.
use Rattle.std.specs.Prelude.{◌≡◌, ℕ, List, ◌++◌, map, None}
use Rattle.ls_base.specs.declared.entry.Entry.{Entry}
use Rattle.ls_base.specs.History.{History}
use Rattle.wal_frames.specs.Marks.{marks_of, place_of}
use Rattle.live_gate.specs.Legal.{IsRecorded, IsLegal}
use Rattle.live_gate.specs.Still.{still_database}

-- the last entries of the history stand at the marks of the log, in their order, as many as there are
pub record EndsAtMarks (history : History) (committed : List ℕ) : Type 0 where
  pub earlier : History
  pub latest : List Entry
  pub split : history ≡ earlier ++ latest
  pub places : map (λ entry. entry.place) latest ≡ map place_of (marks_of committed)

abbrev pub MarksAreRecorded : Type 0
MarksAreRecorded =
    (history : History) (committed file : List ℕ) (copied : ℕ) → IsRecorded history committed file copied
    → EndsAtMarks history committed

-- a database that never moves is legal, whatever its two files hold
abbrev pub StillIsLegal : Type 0
StillIsLegal = (db wal : List ℕ) → IsLegal (still_database db wal None)
