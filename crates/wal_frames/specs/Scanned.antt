-- What a scan of a log has found in the bytes that it took.
use Rattle.std.specs.Prelude.{◌≡◌, ℕ, ◌+◌, ◌-◌, ◌≤◌, List, [], ◌∷◌, ◌++◌, length, take, drop, Option, Some, None, Ok}
use Rattle.ls_base.specs.declared.mark.Mark.{Mark}
use Rattle.ls_sums.specs.declared.wal_sum.WalSum.{WalSum}
use Rattle.wal_frames.specs.declared.header.WalHeader.{WalHeader}
use Rattle.wal_frames.specs.declared.fault.NotValid.{NotValid}
use Rattle.wal_frames.specs.declared.fed.Fed.{Fed}
use Rattle.wal_frames.specs.declared.fed.Fed.TheVariants.{All, Frame}
use Rattle.wal_frames.specs.WalFormat.{read_header}
use Rattle.wal_frames.specs.WalFrame.{page_number, commit_size}
use Rattle.wal_frames.specs.ValidPrefix.{prefix_sums, frames_under, stop_under, if_accepted, valid_frames}
use Rattle.wal_frames.specs.Marks.{end_of, last_mark_of}

-- what a scan keeps
pub record Scanned : Type 0 where
  pub head : WalHeader
  -- how many bytes behind the header it took
  pub taken : ℕ
  -- the end of the valid prefix, and the running sums there
  pub end : ℕ
  pub sums : WalSum
  -- the bytes behind the prefix that are no whole frame yet
  pub held : List ℕ
  pub last : Option Mark
  pub stopped : Option NotValid

-- what is held behind the prefix: nothing where a whole frame stopped the scan
abbrev pub held_behind : Option NotValid → List ℕ → List ℕ
held_behind None bytes = bytes
held_behind (Some fault) bytes = []

-- The scan has taken these bytes of the log: its header, which is accepted, and what came behind it.
pub record HasTaken (s : Scanned) (log : List ℕ) : Type 0 where
  pub accepted : read_header log ≡ Ok s.head
  pub is_taken : s.taken ≡ length log - 32
  pub is_end : s.end ≡ end_of s.head (frames_under s.head log)
  pub is_sums : s.sums ≡ prefix_sums (take 24 log) s.head (frames_under s.head log)
  pub is_held : s.held ≡ held_behind (stop_under s.head log) (drop (end_of s.head (frames_under s.head log)) log)
  pub is_last : s.last ≡ last_mark_of log
  pub is_stopped : s.stopped ≡ stop_under s.head log

-- what a scan of a log with this header keeps at a mark
abbrev pub scanned_to : WalHeader → Mark → Scanned
scanned_to h mark = record {
  head = h;
  taken = mark.end - 32;
  end = mark.end;
  sums = record { s0 = mark.s0; s1 = mark.s1 };
  held = [];
  last = Some mark;
  stopped = None;
}

-- the fault of the first whole frame behind a log's valid prefix
abbrev pub stop_of : List ℕ → Option NotValid
stop_of log = if_accepted (read_header log) (λ h. stop_under h log) None

-- one more frame of the valid prefix ends with these bytes, and says this
pub record EndsFrame (before after : List ℕ) (number commit end : ℕ) : Type 0 where
  pub frame : List ℕ
  pub next : valid_frames after ≡ valid_frames before ++ frame ∷ []
  pub is_number : number ≡ page_number frame
  pub is_commit : commit ≡ commit_size frame
  pub is_end : end ≡ length after

-- it took the piece, and no frame of the valid prefix ends in it
abbrev pub TakesNoFrame : Scanned → Scanned → List ℕ → Type 0
TakesNoFrame old new piece =
    (log : List ℕ) → HasTaken old log → HasTaken new (log ++ piece) × (valid_frames (log ++ piece) ≡ valid_frames log)

-- it took the piece, with which one more frame of the valid prefix ends
abbrev pub TakesFrame : Scanned → Scanned → List ℕ → ℕ → ℕ → ℕ → Type 0
TakesFrame old new piece number commit end =
    (log : List ℕ) → HasTaken old log → HasTaken new (log ++ piece) × EndsFrame log (log ++ piece) number commit end

-- What `feed` did. `All`: it took the whole piece, and no frame ends in it. `Frame`: it took the piece up to the
-- first end of a frame.
abbrev pub Feeds : Scanned → Scanned → List ℕ → Fed → Type 0
Feeds old new piece All = (new.taken ≡ old.taken + length piece) × TakesNoFrame old new piece
Feeds old new piece (Frame taken number commit end) =
    (1 ≤ taken) × (taken ≤ length piece) × (new.taken ≡ old.taken + taken)
    × TakesFrame old new (take taken piece) number commit end

-- the end that is answered is that of the valid prefix from then on
abbrev pub AnswersEnd : Scanned → Fed → Type 0
AnswersEnd new All = Unit {0}
AnswersEnd new (Frame taken number commit end) = end ≡ new.end
