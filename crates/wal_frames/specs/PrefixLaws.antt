-- What the valid prefix and its marks are, in the words of the format.
use Rattle.std.specs.Prelude.{◌≡◌, ◌≢◌, ◌↔◌, ℕ, ◌≤◌, List, [], ◌∷◌, ◌++◌, length, map, None, Ok}
use Rattle.std.specs.List.Sorted.{IsStrictlyIncreasing}
use Rattle.ls_base.specs.declared.mark.Mark.{Mark}
use Rattle.wal_frames.specs.declared.header.WalHeader.{WalHeader}
use Rattle.wal_frames.specs.WalFormat.{read_header}
use Rattle.wal_frames.specs.WalFrame.{commit_size}
use Rattle.wal_frames.specs.ValidPrefix.{fault_behind, valid_behind, valid_frames}
use Rattle.wal_frames.specs.Marks.{mark_of, marks_of, IsMark}

-- each of the frames is valid behind those before it
abbrev pub AreValid : List ℕ → WalHeader → List (List ℕ) → List (List ℕ) → Type 0
AreValid front h before [] = Unit {0}
AreValid front h before (frame ∷ frames) =
    (fault_behind front h before frame ≡ None) × AreValid front h (before ++ frame ∷ []) frames

-- these are the longest list of frames at the front of all in which each is valid
pub record IsLongest (front : List ℕ) (h : WalHeader) (all frames : List (List ℕ)) : Type 0 where
  pub rest : List (List ℕ)
  pub stand_first : all ≡ frames ++ rest
  pub are_valid : AreValid front h [] frames
  pub longest : (others rest : List (List ℕ)) → all ≡ others ++ rest → AreValid front h [] others
      → length others ≤ length frames

abbrev pub ValidIsLongest : Type 0
ValidIsLongest =
    (front : List ℕ) (h : WalHeader) (all : List (List ℕ)) → IsLongest front h all (valid_behind front h [] all)

-- the mark is that of one of these frames, which commits
pub record IsMarkOf (h : WalHeader) (frames : List (List ℕ)) (mark : Mark) : Type 0 where
  pub before : List (List ℕ)
  pub frame : List ℕ
  pub behind : List (List ℕ)
  pub split : frames ≡ before ++ frame ∷ behind
  pub commits : commit_size frame ≢ 0
  pub is : mark ≡ mark_of h before frame

-- the marks of a log are those of its valid frames that commit
abbrev pub MarksAreCommits : Type 0
MarksAreCommits =
    (log : List ℕ) (h : WalHeader) (mark : Mark) → read_header log ≡ Ok h
    → IsMark log mark ↔ IsMarkOf h (valid_frames log) mark

-- they stand in the order of their ends, and no two at one
abbrev pub MarksRise : Type 0
MarksRise = (log : List ℕ) → IsStrictlyIncreasing (map (λ mark. mark.end) (marks_of log))
