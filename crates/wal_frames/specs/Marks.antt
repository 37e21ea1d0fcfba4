-- The commit marks of a log: the ends of the valid frames that commit (SQLite database file format, section 4.3).
use Rattle.std.specs.Prelude.{ℕ, ◌+◌, ◌*◌, ◌==◌, if◌then◌else◌, List, [], ◌∷◌, ◌++◌, length, take, Option, Some, None}
use Rattle.std.specs.List.{Contains, last_or}
use Rattle.ls_base.specs.declared.mark.Mark.{Mark}
use Rattle.ls_base.specs.declared.place.Place.{Place}
use Rattle.ls_base.specs.declared.place.Place.TheVariants.{Wal}
use Rattle.ls_sums.specs.declared.wal_sum.WalSum.{WalSum}
use Rattle.wal_frames.specs.declared.header.WalHeader.{WalHeader}
use Rattle.wal_frames.specs.WalFormat.{sums_at, read_header}
use Rattle.wal_frames.specs.WalFrame.{frame_length, commit_size}
use Rattle.wal_frames.specs.ValidPrefix.{frames_under, if_accepted}

-- the end of the last of these frames
abbrev pub end_of : WalHeader → List (List ℕ) → ℕ
end_of h frames = 32 + length frames * frame_length h

-- the mark at an end, with the running sums there
abbrev pub mark_with : WalHeader → ℕ → WalSum → ℕ → Mark
mark_with h end sums commit =
    record { salt1 = h.salt1; salt2 = h.salt2; end = end; s0 = sums.s0; s1 = sums.s1; commit = commit }

-- the mark of a frame behind those
abbrev pub mark_of : WalHeader → List (List ℕ) → List ℕ → Mark
mark_of h before frame = mark_with h (end_of h (before ++ frame ∷ [])) (sums_at frame 16) (commit_size frame)

-- the marks of those of the frames that commit, where they stand behind others
abbrev pub marks_behind : WalHeader → List (List ℕ) → List (List ℕ) → List Mark
marks_behind h before [] = []
marks_behind h before (frame ∷ frames) =
    (if commit_size frame == 0 then [] else mark_of h before frame ∷ []) ++ marks_behind h (before ++ frame ∷ []) frames

-- the marks of a log, in their order: none where its header is refused
unfoldable pub marks_of : List ℕ → List Mark
marks_of log = if_accepted (read_header log) (λ h. marks_behind h [] (frames_under h log)) []

-- the mark is one of the log's
abbrev pub IsMark : List ℕ → Mark → Type 0
IsMark log mark = Contains (marks_of log) mark

-- the last mark of a log
abbrev pub last_mark_of : List ℕ → Option Mark
last_mark_of log = last_or None (marks_of log)

-- the place of the state behind a mark
abbrev pub place_of : Mark → Place
place_of mark = Wal mark.salt1 mark.salt2 mark.end mark.s0 mark.s1

-- the bytes up to a mark, or nothing where there is none
abbrev pub bytes_to : Option Mark → List ℕ → List ℕ
bytes_to None log = []
bytes_to (Some mark) log = take mark.end log

-- the committed part of a log: the bytes up to its last mark
abbrev pub committed_part : List ℕ → List ℕ
committed_part log = bytes_to (last_mark_of log) log
