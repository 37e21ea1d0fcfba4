-- Reading a log on, piece by piece.
use Rattle.std.specs.Prelude.{◌≡◌, ℕ, ◌+◌, ◌<◌, ◌≤◌, List, length, take, drop, Option, Some, None}
use Rattle.ls_base.specs.declared.mark.Mark.{Mark}
use Rattle.wal_frames.specs.Marks.{last_mark_of}
use Rattle.wal_frames.specs.Scanned.{Scanned, HasTaken}

-- the front of the buffer is a piece of the file, at least one byte where the file goes on to the end asked for
pub record IsPiece (file : List ℕ) (at end : ℕ) (buffer : List ℕ) (n : ℕ) : Type 0 where
  pub some : end ≤ length file → 0 < n
  pub bytes : take n buffer ≡ take n (drop at file)
  pub within : end ≤ length file → at + n ≤ length file

-- a scan that had taken the log up to the first offset has taken it up to the second
abbrev pub ReadsOn : List ℕ → ℕ → ℕ → Scanned → Scanned → Type 0
ReadsOn log from end old new =
    from ≤ end → end ≤ length log → HasTaken old (take from log) → HasTaken new (take end log)

-- where the scan had taken the log up to this offset: the last mark of the log, if it is behind
abbrev pub IsNewer : List ℕ → ℕ → Scanned → Option Mark → Type 0
IsNewer log from old None =
    from ≤ length log → HasTaken old (take from log) → (last : Mark) → last_mark_of log ≡ Some last → last.end ≤ from
IsNewer log from old (Some newer) =
    from ≤ length log → HasTaken old (take from log) → (last_mark_of log ≡ Some newer) × (from < newer.end)
