-- What a live database may be: its log, its file and its history fit together.
use Rattle.std.specs.Prelude.{◌≡◌, ◌≢◌, ℕ, ◌≤◌, List, [], ◌∷◌, ◌++◌, length, take, Option, Some, None, Ok, ◌⊎◌}
use Rattle.std.specs.List.{flat_map}
use Rattle.ls_base.specs.declared.entry.Entry.{Entry}
use Rattle.ls_base.specs.declared.mark.Mark.{Mark}
use Rattle.ls_base.specs.PageSize.{IsPageSize, lock_page}
use Rattle.ls_base.specs.State.{State, IsState, page_of}
use Rattle.ls_base.specs.History.{History, HaveOneState, state_of}
use Rattle.db_page.specs.DatabaseHeader.{IsWalDatabase, page_size_field, page_size_of}
use Rattle.wal_frames.specs.declared.header.WalHeader.{WalHeader}
use Rattle.wal_frames.specs.WalFormat.{read_header}
use Rattle.wal_frames.specs.WalFrame.{commit_size}
use Rattle.wal_frames.specs.ValidPrefix.{valid_frames}
use Rattle.wal_frames.specs.Marks.{mark_of, place_of, IsMark, committed_part}
use Rattle.wal_frames.specs.View.{frames_page, view_under, view_at_rest, rest_place}
use Rattle.live_gate.specs.LiveRecord.{Database}

-- ---- the commits of a log

-- the frames of a commit: some that don't commit, and the last, which does
pub record Commit : Type 0 where
  pub frames : List (List ℕ)
  pub last : List ℕ

abbrev pub all_frames : Commit → List (List ℕ)
all_frames c = c.frames ++ c.last ∷ []

-- none of the frames commits
abbrev pub NoneCommits : List (List ℕ) → Type 0
NoneCommits [] = Unit {0}
NoneCommits (frame ∷ frames) = (commit_size frame ≡ 0) × NoneCommits frames

-- the mark of a commit behind these frames
abbrev pub commit_mark : WalHeader → List (List ℕ) → Commit → Mark
commit_mark h passed c = mark_of h (passed ++ c.frames) c.last

-- What the entry of a commit is. The frames `passed` stand before those of the commit, `before` is the state of the
-- entry before, where there is one, and copying has begun up to the offset `copied`.
pub record FitsCommit
    (h : WalHeader) (file : List ℕ) (copied : ℕ) (passed : List (List ℕ)) (before : Option State)
    (c : Commit) (e : Entry) : Type 0 where
  pub unfinished : NoneCommits c.frames
  pub commits : commit_size c.last ≢ 0
  pub place : e.place ≡ place_of (commit_mark h passed c)
  pub size : e.size ≡ h.size
  pub same_size : (s : State) → before ≡ Some s → s.page_size ≡ Some h.size
  pub is_state : IsState (state_of e)
  pub many : length e.pages ≡ commit_size c.last
  -- a page that the commit wrote is that of its last frame for it
  pub written : (p : ℕ) (page : List ℕ) → 1 ≤ p → p ≤ length e.pages → p ≢ lock_page h.size
      → frames_page p (all_frames c) ≡ Some page → page_of (state_of e) p ≡ Some page
  -- any other within both sizes is as before
  pub kept : (s : State) (p : ℕ) → before ≡ Some s → 1 ≤ p → p ≤ length e.pages → p ≤ length s.pages
      → frames_page p (all_frames c) ≡ None → page_of (state_of e) p ≡ page_of s p
  -- from the copied mark on, the state is the view
  pub view : copied ≤ (commit_mark h passed c).end
      → state_of e ≡ view_under h file (passed ++ all_frames c) (commit_mark h passed c)

-- each commit has its entry, in their order
abbrev pub AreEntries :
    WalHeader → List ℕ → ℕ → List (List ℕ) → Option State → List Commit → List Entry → Type 0
AreEntries h file copied passed before [] [] = Unit {0}
AreEntries h file copied passed before [] (e ∷ es) = ⊥
AreEntries h file copied passed before (c ∷ cs) [] = ⊥
AreEntries h file copied passed before (c ∷ cs) (e ∷ es) =
    FitsCommit h file copied passed before c e
    × AreEntries h file copied (passed ++ all_frames c) (Some (state_of e)) cs es

-- the state of the last entry, or of none
abbrev pub last_state : Option State → List Entry → Option State
last_state before [] = before
last_state before (e ∷ es) = last_state (Some (state_of e)) es

-- ---- the two forms of a live database

-- The log has commits, and no more. Their entries are the last ones of the history.
pub record HasCommits (history : History) (committed file : List ℕ) (copied : ℕ) : Type 0 where
  pub h : WalHeader
  pub accepted : read_header committed ≡ Ok h
  pub whole : committed_part committed ≡ committed
  pub commits : List Commit
  pub some : commits ≢ []
  pub frames : valid_frames committed ≡ flat_map all_frames commits
  pub earlier : History
  pub latest : List Entry
  pub split : history ≡ earlier ++ latest
  pub entries : AreEntries h file copied [] (last_state None earlier) commits latest

-- The log has no commit. The last entry is that of the database file.
pub record IsAtRest (history : History) (committed file : List ℕ) (copied : ℕ) : Type 0 where
  pub none : committed ≡ []
  pub uncopied : copied ≡ 0
  pub earlier : History
  pub last : Entry
  pub split : history ≡ earlier ++ last ∷ []
  pub size : IsPageSize last.size
  pub is_state : IsState (state_of last)
  pub view : state_of last ≡ view_at_rest last.size file
  pub place : last.place ≡ rest_place last.size file
  pub header : IsWalDatabase (take 100 file) → page_size_of (page_size_field (take 100 file)) ≡ last.size

abbrev pub IsRecorded : History → List ℕ → List ℕ → ℕ → Type 0
IsRecorded history committed file copied =
    HasCommits history committed file copied ⊎ IsAtRest history committed file copied

-- ---- what is copied and what is held

-- a mark of the log ends there
abbrev pub IsMarkEnd : List ℕ → ℕ → Type 0
IsMarkEnd log end = (mark : Mark) × IsMark log mark × (mark.end ≡ end)

abbrev pub IsCopied : List ℕ → ℕ → Type 0
IsCopied committed copied = copied ≢ 0 → IsMarkEnd committed copied

-- The gate is held at a mark at or past the copied one, or at no mark, and then nothing is copied.
pub record MayBeHeld (committed : List ℕ) (copied end : ℕ) : Type 0 where
  pub at_no_mark : end ≡ 0 → copied ≡ 0
  pub at_mark : end ≢ 0 → IsMarkEnd committed end × (copied ≤ end)

abbrev pub IsHeld : List ℕ → ℕ → Option ℕ → Type 0
IsHeld committed copied held = (end : ℕ) → held ≡ Some end → MayBeHeld committed copied end

-- where no coincidence is counted, entries of one place have one state
abbrev pub IsWithoutTwins : History → ℕ → Type 0
IsWithoutTwins history chances = chances ≡ 0 → HaveOneState history

pub record IsLegalAs
    (history : History) (committed file : List ℕ) (copied : ℕ) (held : Option ℕ) (chances : ℕ) : Type 0 where
  pub recorded : IsRecorded history committed file copied
  pub is_copied : IsCopied committed copied
  pub is_held : IsHeld committed copied held
  pub without_twins : IsWithoutTwins history chances

-- what a live database may be
abbrev pub IsLegal : Database → Type 0
IsLegal d = IsLegalAs d.history d.committed d.file d.copied d.held d.chances
