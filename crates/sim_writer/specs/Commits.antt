-- What a commit does.
use Rattle.std.specs.Prelude.{true, ◌≡◌, ℕ, ◌+◌, ◌≤◌, ◌⊎◌, min, ◌-◌, ◌^◌, List, [], ◌∷◌, ◌++◌, length, drop, map, Ok}
use Rattle.std.specs.Prelude.{unwrap_or}
use Rattle.std.specs.List.{concat, range_with_len}
use Rattle.std.specs.Option.{option_or}
use Rattle.std.specs.FinMap.{get, keys}
use Rattle.ls_base.specs.declared.place.Place.TheVariants.{Wal}
use Rattle.wal_frames.specs.declared.header.WalHeader.{WalHeader}
use Rattle.wal_frames.specs.WalFormat.{read_header, wal_header_bytes}
use Rattle.wal_frames.specs.ValidPrefix.{valid_frames}
use Rattle.wal_frames.specs.View.{frames_page, file_page, unless_locked}
use Rattle.live_gate.specs.Moves.{AddsCommit}
use Rattle.sim_writer.specs.declared.commit.Made.{Made}
use Rattle.sim_writer.specs.declared.machine.Machine.{Machine}
use Rattle.sim_writer.specs.CommitFrames.{PagesByNumber, AreChecked, commit_frames, commit_sums}
use Rattle.sim_writer.specs.Sound.{database_of, tail_of}
use Rattle.sim_writer.specs.Twins.{HasTwin, HasNoTwin}

-- one page of the state behind a commit of these pages
abbrev pub page_after : WalHeader → List ℕ → List (List ℕ) → PagesByNumber → ℕ → List ℕ
page_after h file frames pages p =
    unless_locked h.size p (unwrap_or (option_or (get pages p) (frames_page p frames)) (file_page h.size file p))

-- the header where the log has no commit
abbrev pub front_of : WalHeader → List ℕ → List ℕ
front_of h [] = wal_header_bytes h
front_of h (b ∷ bs) = []

-- what stands before the frames of the next commit, and that a header reads back
pub record Front (m : Machine) (front : List ℕ) : Type 0 where
  pub is : front ≡ front_of m.head m.committed
  pub long : m.committed ≡ [] → length front ≡ 32
  pub reads : m.committed ≡ [] → read_header front ≡ Ok m.head

-- a commit of these pages as yet only made
pub record Makes (m : Machine) (pages : PagesByNumber) (size : ℕ) (made : Made) : Type 0 where
  pub front : List ℕ
  pub is_front : Front m front
  pub bytes : made.bytes ≡ front ++ concat (commit_frames m.head m.sums pages size (keys pages))
  pub checked : AreChecked m.head m.sums pages size (keys pages)
  pub sums : made.sums ≡ commit_sums m.head m.sums pages size (keys pages)
  pub is_size : made.entry.size ≡ m.head.size
  pub pages_are : made.entry.pages
      ≡ map (page_after m.head m.file (valid_frames m.committed) pages) (range_with_len 1 size)
  pub place : made.entry.place
      ≡ Wal m.head.salt1 m.head.salt2 (length m.committed + length made.bytes) made.sums.s0 made.sums.s1

-- one more, up to the last value of a u64
abbrev pub counted : ℕ → ℕ
counted n = min (n + 1) (2 ^ 64 - 1)

-- the commit was taken in; the bytes behind the log's committed part were written over
pub record Puts (made : Made) (old new : Machine) : Type 0 where
  pub history : new.history ≡ old.history ++ made.entry ∷ []
  pub committed : new.committed ≡ old.committed ++ made.bytes
  pub tail : tail_of new ≡ drop (length made.bytes) (tail_of old)
  pub sums : new.sums ≡ made.sums
  pub twins : (HasNoTwin old.history made.entry × (new.chances ≡ old.chances))
      ⊎ (HasTwin old.history made.entry × (new.chances ≡ counted old.chances))
  pub later : old.chances ≤ new.chances
  pub before_log : new.before_log ≡ old.before_log
  pub file : new.file ≡ old.file
  pub head : new.head ≡ old.head
  pub copied : new.copied ≡ old.copied
  pub held : new.held ≡ old.held
  pub refuses : new.refuses ≡ old.refuses
  pub over : new.over ≤ length new.tail
  pub headed : new.headed ≡ true
  pub stopped : new.stopped ≡ old.stopped

-- One commit more: the frames of the pages in the order of their numbers, behind the committed part or behind the
-- header of a new log. They were written over what stood there.
pub record Commits (pages : PagesByNumber) (size : ℕ) (old new : Machine) : Type 0 where
  pub adds : AddsCommit (database_of old) (database_of new)
  pub bytes : new.committed
      ≡ old.committed ++ (front_of old.head old.committed
      ++ concat (commit_frames old.head old.sums pages size (keys pages)))
  pub tail : tail_of new
      ≡ drop (length (front_of old.head old.committed
      ++ concat (commit_frames old.head old.sums pages size (keys pages)))) (tail_of old)
  pub head : new.head ≡ old.head
  pub refuses : new.refuses ≡ old.refuses
