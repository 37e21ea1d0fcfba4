-- That a replica can be faithful: without files, with one file of the whole database, and with a piece behind it.
use Rattle.std.specs.Prelude.{◌≡◌, ℕ, ◌≤◌, List, [], ◌∷◌, Some}
use Rattle.std.specs.FinMap.{empty, insert}
use Rattle.crash_disk.specs.Files.{Files, files_after}
use Rattle.ls_base.specs.declared.line.Line.{Line}
use Rattle.ls_base.specs.Change.{Change, IsApplicable, apply}
use Rattle.ls_base.specs.History.{History, state_at}
use Rattle.ls_base.specs.State.{State, empty_state}
use Rattle.ltx_format.specs.declared.header.LtxHeader.{LtxHeader}
use Rattle.replica_store.specs.Faithful.{IsFaithful}
use Rattle.replica_store.specs.FileOf.{IsFileOf}
use Rattle.replica_store.specs.NameText.{file_path, whole_path}

-- the line that a header tells
abbrev pub line_in : LtxHeader → Line
line_in h = record { place = h.place; moment = h.moment }

-- a disk on which nothing was ever done is faithful to the empty log
abbrev pub EmptyIsFaithful : Type 0
EmptyIsFaithful = (history : History) → IsFaithful (files_after []) history []

-- these bytes are the only file: the whole database as of the first transaction
abbrev pub with_whole : List ℕ → Files
with_whole whole = insert empty (whole_path 1) whole

-- and these are the file of the second transaction
abbrev pub with_piece : List ℕ → List ℕ → Files
with_piece whole piece = insert (with_whole whole) (file_path 0 2 2) piece

-- what the file of the whole database makes
abbrev pub state_after : Change → State
state_after c = apply empty_state c

-- a file of the whole database is faithful to the line that it tells, where its state was at that place
abbrev pub WholeIsFaithful : Type 0
WholeIsFaithful =
    (history : History) (whole : List ℕ) (h : LtxHeader) (c : Change)
    → IsFileOf whole 1 1 h c → state_at history h.place ≡ Some (state_after c)
    → IsFaithful (with_whole whole) history (line_in h ∷ [])

-- and with a piece that fits behind it, no earlier, to two lines
abbrev pub PieceIsFaithful : Type 0
PieceIsFaithful =
    (history : History) (whole piece : List ℕ) (h i : LtxHeader) (c d : Change)
    → IsFileOf whole 1 1 h c → state_at history h.place ≡ Some (state_after c)
    → IsFileOf piece 2 2 i d → IsApplicable (state_after c) d
    → state_at history i.place ≡ Some (apply (state_after c) d)
    → h.moment ≤ i.moment → IsFaithful (with_piece whole piece) history (line_in h ∷ line_in i ∷ [])
