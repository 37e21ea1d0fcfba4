-- What changed from one state of a log to a later one.
use Rattle.std.specs.Prelude.{◌≡◌, ◌≢◌, ℕ, ◌<◌, ◌≤◌, ◌==◌, min, if◌then◌else◌, List, [], ◌∷◌, length, drop, Some, None}
use Rattle.std.specs.Prelude.{◌⊎◌}
use Rattle.std.specs.FinMap.{get}
use Rattle.ls_base.specs.declared.mark.Mark.{Mark}
use Rattle.ls_base.specs.PageSize.{lock_page}
use Rattle.ls_base.specs.State.{State, page_of}
use Rattle.ls_base.specs.Change.{Change}
use Rattle.wal_frames.specs.declared.header.WalHeader.{WalHeader}
use Rattle.wal_frames.specs.WalFrame.{commit_size}
use Rattle.wal_frames.specs.View.{frames_up_to, frames_to, frames_page}

-- ---- the frames since a place

-- those of the frames of a log that stand behind one mark, up to another
abbrev pub frames_between : WalHeader → List (List ℕ) → Mark → Mark → List (List ℕ)
frames_between h frames a q = drop (frames_up_to h a) (frames_to h frames q)

-- the lesser of a number of pages and that which a frame's commit says, where it commits
abbrev pub least_met : ℕ → ℕ → ℕ
least_met least size = if size == 0 then least else min least size

-- the least number of pages that the database had, from `start` pages on over the commits of these frames
abbrev pub least_size : ℕ → List (List ℕ) → ℕ
least_size start [] = start
least_size start (frame ∷ frames) = least_size (least_met start (commit_size frame)) frames

-- ---- the piece

-- A page grew back: it lies behind the least size and within the size now, and no frame since then has it. SQLite may
-- leave a page unwritten that it took anew, so the database has for it whatever an older frame or the file has.
pub record IsRegrown (size least count : ℕ) (since : List (List ℕ)) (p : ℕ) : Type 0 where
  pub behind : least < p
  pub within : p ≤ count
  pub unlocked : p ≢ lock_page size
  pub unwritten : frames_page p since ≡ None

-- A page belongs to the piece: a frame since then has it, or it lies behind the least size.
pub record IsChanged (size least count : ℕ) (since : List (List ℕ)) (p : ℕ) : Type 0 where
  pub from : 1 ≤ p
  pub within : p ≤ count
  pub unlocked : p ≢ lock_page size
  pub changed : (frames_page p since ≢ None) ⊎ (least < p)

-- The piece of a log whose page size is `size`: what leads from a state of `start` pages by the frames `since` to this
-- view. The lock page is never in it.
pub record IsPieceSince (size start : ℕ) (since : List (List ℕ)) (view : State) (c : Change) : Type 0 where
  pub page_size : c.page_size ≡ size
  pub commit : c.commit ≡ length view.pages
  -- a page that was written is that of its last frame
  pub written : (p : ℕ) (page : List ℕ) → p ≤ c.commit → p ≢ lock_page size → frames_page p since ≡ Some page
      → get c.pages p ≡ Some page
  -- a page that grew back is the view's
  pub regrown : (p : ℕ) → IsRegrown size (least_size start since) c.commit since p → get c.pages p ≡ page_of view p
  -- it has no other pages
  pub none : (p : ℕ) → (IsChanged size (least_size start since) c.commit since p → ⊥) → get c.pages p ≡ None

-- The change that holds a whole state, all pages but the lock page.
pub record IsWhole (size : ℕ) (view : State) (c : Change) : Type 0 where
  pub page_size : c.page_size ≡ size
  pub commit : c.commit ≡ length view.pages
  pub each : (p : ℕ) → 1 ≤ p → p ≤ c.commit → p ≢ lock_page size → get c.pages p ≡ page_of view p
  pub lock : get c.pages (lock_page size) ≡ None
  pub none : (p : ℕ) → c.commit < p → get c.pages p ≡ None
