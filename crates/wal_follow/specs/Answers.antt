-- What `next` finds, and what it answers.
use Rattle.std.specs.Prelude.{◌≡◌, ◌≢◌, ℕ, ◌+◌, ◌-◌, ◌*◌, ◌<◌, ◌≤◌, ◌↔◌, Bool, true, false, List, [], take, Option}
use Rattle.std.specs.Prelude.{Some, None, Result, Ok, Err, ◌⊎◌}
use Rattle.std.specs.List.{Contains}
use Rattle.std.specs.List.Sorted.{IsStrictlyIncreasing}
use Rattle.ls_base.specs.declared.mark.Mark.{Mark}
use Rattle.ls_base.specs.declared.place.Place.{Place}
use Rattle.ls_base.specs.declared.place.Place.TheVariants.{Wal, Rest}
use Rattle.ls_base.specs.Limits.{database_limit, log_limit}
use Rattle.db_page.specs.DatabaseHeader.{IsWalDatabase, IsFirstFault, page_size_field, page_size_of}
use Rattle.wal_frames.specs.declared.header.WalHeader.{WalHeader}
use Rattle.wal_frames.specs.WalFormat.{read_header}
use Rattle.wal_frames.specs.ValidPrefix.{valid_frames}
use Rattle.wal_frames.specs.Marks.{marks_of, IsMark, place_of}
use Rattle.wal_frames.specs.View.{frames_to, file_pages, rest_place}
use Rattle.live_gate.specs.LiveRecord.{Database, LiveRecord}
use Rattle.wal_follow.specs.declared.answer.Found.{Found}
use Rattle.wal_follow.specs.declared.answer.Next.{Next}
use Rattle.wal_follow.specs.declared.answer.Next.TheVariants.{Same, Piece, Lost}
use Rattle.wal_follow.specs.declared.answer.Wanted.TheVariants.{All, Listed}
use Rattle.wal_follow.specs.declared.fault.FollowFault.{FollowFault}
use Rattle.wal_follow.specs.declared.fault.FollowFault.TheVariants.{Header, SizesDiffer, WalTooLong, TooLarge}
use Rattle.wal_follow.specs.declared.fault.FollowFault.TheVariants.{GateBroken, Live, Memory}
use Rattle.wal_follow.specs.declared.following.Following.{Following}
use Rattle.wal_follow.specs.Piece.{frames_between, least_size, IsChanged}

-- ---- what was found

-- the page size that the header of the database file says
pub record SaysSize (file : List ℕ) (size : ℕ) : Type 0 where
  pub database : IsWalDatabase (take 100 file)
  pub is : page_size_of (page_size_field (take 100 file)) ≡ size

-- The last mark of the log: one of the committed part now, and not before any that was there before.
pub record FindsMark (old new : Database) (h : WalHeader) (q : Mark) : Type 0 where
  pub accepted : read_header new.committed ≡ Ok h
  pub is_mark : IsMark new.committed q
  pub latest : (m : Mark) → IsMark old.committed m → m.end ≤ q.end

-- the log had no mark, and the database file is of this page size
pub record FindsRest (old new : Database) (size : ℕ) : Type 0 where
  pub none : marks_of old.committed ≡ []
  pub held : new.held ≡ Some 0
  pub says : SaysSize new.file size

-- ---- continuity

-- The log up to this mark doesn't lead on from the place: there is none, or it is at rest, or no mark up to there has
-- its salts, end and sums, and no pass of this run emptied the log at it.
abbrev pub IsLostAtMark : Bool → Option Place → List ℕ → Mark → Type 0
IsLostAtMark passed None log q = Unit {0}
IsLostAtMark passed (Some (Rest sum)) log q = Unit {0}
IsLostAtMark passed (Some (Wal a b end s0 s1)) log q =
    (passed ≡ false) × ((m : Mark) → IsMark log m → m.end ≤ q.end → place_of m ≡ Wal a b end s0 s1 → ⊥)

-- The database file at this place doesn't follow from the place of the newest line.
abbrev pub IsLostAtRest : Bool → Option Place → Place → Type 0
IsLostAtRest passed None rest = Unit {0}
IsLostAtRest passed (Some (Rest sum)) rest = Rest sum ≢ rest
IsLostAtRest passed (Some (Wal a b end s0 s1)) rest = passed ≡ false

-- ---- the pages of a piece

-- The frames since the follower's place up to a mark, and the size at the place: that of the mark of the place or,
-- where the log was emptied there, the recorded one and all frames.
abbrev pub AreSince : Bool → Following → List ℕ → WalHeader → Mark → ℕ → List (List ℕ) → Type 0
AreSince true f log h q start since = (f.pages ≡ Some start) × (since ≡ frames_to h (valid_frames log) q)
AreSince false f log h q start since =
    (a : Mark) × IsMark log a × (f.place ≡ Some (place_of a)) × (a.end ≤ q.end) × (start ≡ a.commit)
    × (since ≡ frames_between h (valid_frames log) a q)

-- the numbers are those of the pages of the piece, in rising order
pub record AreWanted (size start count : ℕ) (since : List (List ℕ)) (numbers : List ℕ) : Type 0 where
  pub rising : IsStrictlyIncreasing numbers
  pub each : (p : ℕ) → Contains numbers p ↔ IsChanged size (least_size start since) count since p

-- ---- the answers

-- the found state is that at the mark
pub record DescribesMark (found : Found) (h : WalHeader) (q : Mark) : Type 0 where
  pub size : found.size ≡ h.size
  pub place : found.place ≡ place_of q
  pub commit : found.commit ≡ q.commit

-- the found state is that of the database file
pub record DescribesRest (found : Found) (size : ℕ) (file : List ℕ) : Type 0 where
  pub is_size : found.size ≡ size
  pub place : found.place ≡ rest_place size file
  pub commit : found.commit ≡ file_pages size file

pub record LosesAtMark (f : Following) (found : Found) (old new : Database) : Type 0 where
  pub h : WalHeader
  pub q : Mark
  pub finds : FindsMark old new h q
  pub describes : DescribesMark found h q
  pub lost : IsLostAtMark f.passed f.place new.committed q

pub record LosesAtRest (f : Following) (found : Found) (old new : Database) : Type 0 where
  pub finds : FindsRest old new found.size
  pub describes : DescribesRest found found.size new.file
  pub lost : IsLostAtRest f.passed f.place (rest_place found.size new.file)

pub record LeadsOn (f : Following) (found : Found) (old new : Database) : Type 0 where
  pub h : WalHeader
  pub q : Mark
  pub finds : FindsMark old new h q
  pub describes : DescribesMark found h q
  pub follows : IsLostAtMark f.passed f.place new.committed q → ⊥
  pub later : f.place ≢ Some (place_of q)
  pub start : ℕ
  pub since : List (List ℕ)
  pub are_since : AreSince f.passed f new.committed h q start since
  pub numbers : List ℕ
  pub listed : found.wanted ≡ Listed numbers
  pub wanted : AreWanted h.size start q.commit since numbers

pub record StaysAtMark (f : Following) (old new : Database) : Type 0 where
  pub h : WalHeader
  pub q : Mark
  pub finds : FindsMark old new h q
  pub follows : IsLostAtMark f.passed f.place new.committed q → ⊥
  pub same : f.place ≡ Some (place_of q)

pub record StaysAtRest (f : Following) (old new : Database) : Type 0 where
  pub size : ℕ
  pub finds : FindsRest old new size
  pub follows : IsLostAtRest f.passed f.place (rest_place size new.file) → ⊥

-- the found state has so many bytes
abbrev pub HasBytes : Database → Database → ℕ → Type 0
HasBytes old new n =
    ((h : WalHeader) × (q : Mark) × FindsMark old new h q × (n ≡ q.commit * h.size))
    ⊎ ((size : ℕ) × FindsRest old new size × (n ≡ file_pages size new.file * size))

-- where the log has a mark, its page size is that of the database file
pub record FindsSizes (old new : Database) (db wal : ℕ) : Type 0 where
  pub h : WalHeader
  pub q : Mark
  pub finds : FindsMark old new h q
  pub is_wal : h.size ≡ wal
  pub differ : db ≢ wal

-- What `next` answers, where no coincidence is counted.
abbrev pub Answers : Following → Result Next FollowFault → Database → Database → Type 0
Answers f (Ok Same) old new = StaysAtMark f old new ⊎ StaysAtRest f old new
Answers f (Ok (Piece found)) old new = LeadsOn f found old new × (found.commit * found.size ≤ database_limit)
Answers f (Ok (Lost found)) old new =
    (LosesAtMark f found old new ⊎ LosesAtRest f found old new) × (found.wanted ≡ All)
    × (found.commit * found.size ≤ database_limit)
Answers f (Err (SizesDiffer db wal)) old new = FindsSizes old new db wal
Answers f (Err (TooLarge n)) old new = (database_limit < n) × HasBytes old new n
Answers f (Err (Header fault)) old new = Unit {0}
Answers f (Err (WalTooLong n)) old new = Unit {0}
Answers f (Err (GateBroken broken)) old new = Unit {0}
Answers f (Err (Live fault)) old new = Unit {0}
Answers f (Err Memory) old new = Unit {0}

-- ---- the refusals before the log is read

-- what the bytes of the database's header are for each answer
abbrev pub IsAnswerToHeader : Result Next FollowFault → List ℕ → Type 0
IsAnswerToHeader (Err (Header fault)) bytes = IsFirstFault bytes fault
IsAnswerToHeader (Err (SizesDiffer db wal)) bytes =
    IsWalDatabase bytes × (page_size_of (page_size_field bytes) ≡ db)
IsAnswerToHeader (Err (WalTooLong n)) bytes = IsWalDatabase bytes
IsAnswerToHeader (Err (TooLarge n)) bytes = IsWalDatabase bytes
IsAnswerToHeader (Err (GateBroken broken)) bytes = IsWalDatabase bytes
IsAnswerToHeader (Err (Live fault)) bytes = Unit {0}
IsAnswerToHeader (Err Memory) bytes = Unit {0}
IsAnswerToHeader (Ok next) bytes = IsWalDatabase bytes

-- what the length of the log is for each answer behind that
abbrev pub IsAnswerToLength : Result Next FollowFault → ℕ → Type 0
IsAnswerToLength (Err (Header fault)) n = Unit {0}
IsAnswerToLength (Err (WalTooLong m)) n = (m ≡ n) × (log_limit < n)
IsAnswerToLength (Err (SizesDiffer db wal)) n = n ≤ log_limit
IsAnswerToLength (Err (TooLarge m)) n = n ≤ log_limit
IsAnswerToLength (Err (GateBroken broken)) n = n ≤ log_limit
IsAnswerToLength (Err (Live fault)) n = Unit {0}
IsAnswerToLength (Err Memory) n = Unit {0}
IsAnswerToLength (Ok next) n = n ≤ log_limit

-- the answer is that of the database's header, and behind that of the length of the log
pub record AnswersInOrder (result : Result Next FollowFault) (new : LiveRecord) : Type 0 where
  pub header : (bytes : List ℕ) → new.asked.head ≡ Some bytes → IsAnswerToHeader result bytes
  pub length : (n : ℕ) → new.asked.wal_size ≡ Some n → IsAnswerToLength result n

-- ---- least reading

-- From a place that `stored` recorded on, no more is read than a header and what stands behind the place.
abbrev pub IsReadBehind : Following → LiveRecord → LiveRecord → Type 0
IsReadBehind f old new =
    (a b end s0 s1 n : ℕ) → f.recorded ≡ true → f.passed ≡ false → f.place ≡ Some (Wal a b end s0 s1)
    → new.asked.wal_size ≡ Some n → new.asked.taken ≤ old.asked.taken + 32 + (n - end)
