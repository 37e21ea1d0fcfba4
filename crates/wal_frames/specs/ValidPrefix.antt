-- The frames of a log that are valid: SQLite database file format, sections 4.1 and 4.2.
use Rattle.std.specs.Prelude.{ℕ, ◌-◌, ◌/◌, List, [], ◌∷◌, ◌++◌, length, take, drop, Option, Some, None, Result, Ok, Err}
use Rattle.std.specs.Option.{option_or}
use Rattle.std.specs.List.{flat_map}
use Rattle.std.specs.Simd.{first_chunks}
use Rattle.ls_sums.specs.declared.wal_sum.WalSum.{WalSum}
use Rattle.wal_frames.specs.declared.header.WalHeader.{WalHeader}
use Rattle.wal_frames.specs.declared.fault.NotValid.{NotValid}
use Rattle.wal_frames.specs.declared.fault.WalHeaderFault.{WalHeaderFault}
use Rattle.wal_frames.specs.WalFormat.{sums_of, read_header}
use Rattle.wal_frames.specs.WalFrame.{frame_length, summed_part, frame_fault}

-- ---- the valid prefix of a log, whose first 24 bytes are `front`

-- what the sums are over: the log's first 24 bytes, and then each frame's part
abbrev pub summed_bytes : List ℕ → List (List ℕ) → List ℕ
summed_bytes front frames = front ++ flat_map summed_part frames

-- the sums up to the end of these frames
unfoldable pub prefix_sums : List ℕ → WalHeader → List (List ℕ) → WalSum
prefix_sums front h frames = sums_of h.order (summed_bytes front frames)

-- the first failed test of the frame behind those frames
unfoldable pub fault_behind : List ℕ → WalHeader → List (List ℕ) → List ℕ → Option NotValid
fault_behind front h before frame = frame_fault h (prefix_sums front h (before ++ frame ∷ [])) frame

-- the frame and those behind it, where it has no fault
abbrev pub if_valid : Option NotValid → List ℕ → List (List ℕ) → List (List ℕ)
if_valid None frame others = frame ∷ others
if_valid (Some fault) frame others = []

-- the longest list of frames at the front of `frames` in which each is valid behind those before it
abbrev pub valid_behind : List ℕ → WalHeader → List (List ℕ) → List (List ℕ) → List (List ℕ)
valid_behind front h before [] = []
valid_behind front h before (frame ∷ frames) =
    if_valid (fault_behind front h before frame) frame (valid_behind front h (before ++ frame ∷ []) frames)

-- the fault of the first frame that isn't valid behind those before it
abbrev pub stop_behind : List ℕ → WalHeader → List (List ℕ) → List (List ℕ) → Option NotValid
stop_behind front h before [] = None
stop_behind front h before (frame ∷ frames) =
    option_or (fault_behind front h before frame) (stop_behind front h (before ++ frame ∷ []) frames)

-- ---- the same of all bytes of a log, header and all

-- the whole frames behind the header
unfoldable pub whole_frames : WalHeader → List ℕ → List (List ℕ)
whole_frames h log = first_chunks (frame_length h) ((length log - 32) / frame_length h) (drop 32 log)

-- its valid prefix under this header, and the fault of the first frame behind that
abbrev pub frames_under : WalHeader → List ℕ → List (List ℕ)
frames_under h log = valid_behind (take 24 log) h [] (whole_frames h log)

abbrev pub stop_under : WalHeader → List ℕ → Option NotValid
stop_under h log = stop_behind (take 24 log) h [] (whole_frames h log)

-- a value under the header that a log begins with, or another where it is refused
abbrev pub if_accepted : {A : Type 0} → Result WalHeader WalHeaderFault → (WalHeader → A) → A → A
if_accepted (Ok h) value otherwise = value h
if_accepted (Err fault) value otherwise = otherwise

-- the valid prefix of the log: no frame where its header is refused
abbrev pub valid_frames : List ℕ → List (List ℕ)
valid_frames log = if_accepted (read_header log) (λ h. frames_under h log) []
