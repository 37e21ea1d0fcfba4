-- What the piece makes of the states of a history.
use Rattle.std.specs.Prelude.{◌≡◌, ℕ, ◌≤◌, List, ◌∷◌, ◌++◌, length, Some, Ok}
use Rattle.std.specs.FinMap.{get}
use Rattle.ls_base.specs.declared.entry.Entry.{Entry}
use Rattle.ls_base.specs.declared.mark.Mark.{Mark}
use Rattle.ls_base.specs.declared.place.Place.{Place}
use Rattle.ls_base.specs.State.{State, IsState, empty_state, page_of}
use Rattle.ls_base.specs.Change.{Change, IsApplicable, apply}
use Rattle.ls_base.specs.History.{History, state_of, state_at}
use Rattle.wal_frames.specs.declared.header.WalHeader.{WalHeader}
use Rattle.wal_frames.specs.WalFormat.{read_header}
use Rattle.wal_frames.specs.ValidPrefix.{valid_frames}
use Rattle.wal_frames.specs.Marks.{marks_of, IsMark, place_of}
use Rattle.wal_frames.specs.View.{frames_to, view_at}
use Rattle.live_gate.specs.LiveRecord.{Database}
use Rattle.live_gate.specs.Legal.{IsLegal}
use Rattle.wal_follow.specs.Piece.{frames_between, IsPieceSince, IsWhole}

-- ---- the piece applied

-- the change fits this state, and makes that one of it
pub record Makes (before : State) (c : Change) (after : State) : Type 0 where
  pub fits : IsApplicable before c
  pub gives : apply before c ≡ after

-- The history has a state at the place, and the change makes that one of it.
pub record LeadsFrom (history : History) (place : Place) (c : Change) (after : State) : Type 0 where
  pub before : State
  pub recorded : state_at history place ≡ Some before
  pub makes : Makes before c after

-- the change is the piece of this log from the one mark to the other
abbrev pub IsPieceBetween : WalHeader → Database → Mark → Mark → Change → Type 0
IsPieceBetween h d a q c =
    IsPieceSince h.size a.commit (frames_between h (valid_frames d.committed) a q) (view_at d.file d.committed q) c

-- The two marks are marks of a legal database's log, in their order, and the later isn't before the copied one.
pub record AreInOrder (d : Database) (h : WalHeader) (a q : Mark) : Type 0 where
  pub legal : IsLegal d
  pub calm : d.chances ≡ 0
  pub accepted : read_header d.committed ≡ Ok h
  pub is_first : IsMark d.committed a
  pub is_later : IsMark d.committed q
  pub order : a.end ≤ q.end
  pub copied : d.copied ≤ q.end

-- The piece makes the view at the later mark of the state that is recorded at the earlier one.
abbrev pub PieceLeadsOn : Type 0
PieceLeadsOn =
    (d : Database) (h : WalHeader) (a q : Mark) (c : Change) → AreInOrder d h a q → IsPieceBetween h d a q c
    → LeadsFrom d.history (place_of a) c (view_at d.file d.committed q)

-- the entry stands before those of the log's marks
pub record StandsBefore (history : History) (committed : List ℕ) (e : Entry) : Type 0 where
  pub earlier : History
  pub latest : List Entry
  pub split : history ≡ earlier ++ e ∷ latest
  pub many : length latest ≡ length (marks_of committed)

-- The piece of all frames up to a mark makes the view there of the state before the first mark.
abbrev pub PieceLeadsFromRest : Type 0
PieceLeadsFromRest =
    (d : Database) (h : WalHeader) (e : Entry) (q : Mark) (c : Change) → AreInOrder d h q q
    → StandsBefore d.history d.committed e
    → IsPieceSince h.size (length e.pages) (frames_to h (valid_frames d.committed) q)
    (view_at d.file d.committed q) c
    → Makes (state_of e) c (view_at d.file d.committed q)

-- ---- the piece applied once more

-- Whatever state the piece leads from, applied to its own result it changes nothing.
abbrev pub PieceStays : Type 0
PieceStays =
    (file log : List ℕ) (h : WalHeader) (earlier since : List (List ℕ)) (start : ℕ) (q : Mark) (c : Change)
    → read_header log ≡ Ok h → frames_to h (valid_frames log) q ≡ earlier ++ since
    → IsPieceSince h.size start since (view_at file log q) c
    → Makes (view_at file log q) c (view_at file log q)

-- ---- its pages

-- Each page of the piece is the view's, those that grew back among them.
abbrev pub PieceHasTheView : Type 0
PieceHasTheView =
    (file log : List ℕ) (h : WalHeader) (earlier since : List (List ℕ)) (start : ℕ) (q : Mark) (c : Change)
    (p : ℕ) (page : List ℕ)
    → read_header log ≡ Ok h → frames_to h (valid_frames log) q ≡ earlier ++ since
    → IsPieceSince h.size start since (view_at file log q) c
    → get c.pages p ≡ Some page → page_of (view_at file log q) p ≡ Some page

-- ---- a whole state

-- the change that holds a whole state makes it of nothing
abbrev pub WholeMakesAll : Type 0
WholeMakesAll =
    (size : ℕ) (view : State) (c : Change) → IsState view → view.page_size ≡ Some size → IsWhole size view c
    → Makes empty_state c view

-- ---- what is recorded

-- The history has at each mark from the copied one on the view there.
abbrev pub MarksHaveTheirView : Type 0
MarksHaveTheirView =
    (d : Database) (q : Mark) → IsLegal d → d.chances ≡ 0 → IsMark d.committed q → d.copied ≤ q.end
    → state_at d.history (place_of q) ≡ Some (view_at d.file d.committed q)
