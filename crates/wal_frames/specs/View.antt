-- The database as of a mark of its log: SQLite database file format, section 4.3. The lock page, section 1.6, is
-- zeros in every view, whatever the file or the log has there.
use Rattle.std.specs.Prelude.{ℕ, ◌+◌, ◌-◌, ◌*◌, ◌/◌, ◌==◌, max, if◌then◌else◌, Option, Some, None, unwrap_or}
use Rattle.std.specs.Prelude.{List, [], ◌∷◌, ◌++◌, length, take, drop, map, replicate}
use Rattle.std.specs.Option.{option_or}
use Rattle.std.specs.List.{range_with_len}
use Rattle.ls_base.specs.PageSize.{lock_page}
use Rattle.ls_base.specs.State.{State, empty_state}
use Rattle.ls_base.specs.declared.mark.Mark.{Mark}
use Rattle.ls_base.specs.declared.place.Place.{Place}
use Rattle.ls_base.specs.declared.place.Place.TheVariants.{Rest}
use Rattle.ls_sums.specs.PageSum.{rest_sum}
use Rattle.wal_frames.specs.declared.header.WalHeader.{WalHeader}
use Rattle.wal_frames.specs.WalFormat.{read_header}
use Rattle.wal_frames.specs.WalFrame.{frame_length, page_number, frame_page}
use Rattle.wal_frames.specs.ValidPrefix.{frames_under, if_accepted}

-- how many frames end at or before a mark
abbrev pub frames_up_to : WalHeader → Mark → ℕ
frames_up_to h mark = (mark.end - 32) / frame_length h

-- those of the frames that end at or before the mark
abbrev pub frames_to : WalHeader → List (List ℕ) → Mark → List (List ℕ)
frames_to h frames mark = take (frames_up_to h mark) frames

-- the page of the last of the frames with this number
abbrev pub frames_page : ℕ → List (List ℕ) → Option (List ℕ)
frames_page number [] = None
frames_page number (frame ∷ frames) =
    option_or (frames_page number frames) (if page_number frame == number then Some (frame_page frame) else None)

-- the page of this number, from 1, of a database file, where missing bytes are zero
abbrev pub file_page : ℕ → List ℕ → ℕ → List ℕ
file_page size file number = take size (drop ((number - 1) * size) file ++ replicate size 0)

-- zeros at the lock page's number, else this page
abbrev pub unless_locked : ℕ → ℕ → List ℕ → List ℕ
unless_locked size number page = if number == lock_page size then replicate size 0 else page

-- One page of the view at a mark: that of the last of the valid frames with its number at or before the mark, else
-- that of the database file.
abbrev pub page_at_mark : WalHeader → List ℕ → List (List ℕ) → Mark → ℕ → List ℕ
page_at_mark h file frames mark number =
    unless_locked h.size number
    (unwrap_or (frames_page number (frames_to h frames mark)) (file_page h.size file number))

abbrev pub view_under : WalHeader → List ℕ → List (List ℕ) → Mark → State
view_under h file frames mark =
    record { page_size = Some h.size; pages = map (page_at_mark h file frames mark) (range_with_len 1 mark.commit) }

-- the view at a mark has as many pages as the mark's commit says
abbrev pub view_at : List ℕ → List ℕ → Mark → State
view_at file log mark = if_accepted (read_header log) (λ h. view_under h file (frames_under h log) mark) empty_state

-- how many pages a database file has, the last of them maybe in part, and at least one
abbrev pub file_pages : ℕ → List ℕ → ℕ
file_pages size file = max 1 ((length file + (size - 1)) / size)

-- one page of the view where the log has no mark: that of the database file
abbrev pub page_at_rest : ℕ → List ℕ → ℕ → List ℕ
page_at_rest size file number = unless_locked size number (file_page size file number)

-- the view where the log has no mark
abbrev pub view_at_rest : ℕ → List ℕ → State
view_at_rest size file =
    record { page_size = Some size; pages = map (page_at_rest size file) (range_with_len 1 (file_pages size file)) }

-- its place
abbrev pub rest_place : ℕ → List ℕ → Place
rest_place size file = Rest (rest_sum size (view_at_rest size file).pages)
