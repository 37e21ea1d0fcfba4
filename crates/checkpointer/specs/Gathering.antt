-- Where the pages of a log's frames stand.
use Rattle.std.specs.Prelude.{◌≡◌, ℕ, ◌+◌, ◌≤◌, List, length, take, drop, Option, Some, None}
use Rattle.std.specs.Ordering.{nat_cmp}
use Rattle.std.specs.BTreeMap.{BTreeMap, get}
use Rattle.wal_frames.specs.ValidPrefix.{valid_frames}
use Rattle.wal_frames.specs.View.{frames_page}
use Rattle.wal_frames.specs.Scanned.{Scanned, HasTaken}

-- the page stands in the log from this offset on
abbrev pub StandsFrom : ℕ → List ℕ → Option ℕ → Option (List ℕ) → Type 0
StandsFrom size log None None = Unit {0}
StandsFrom size log None (Some page) = ⊥
StandsFrom size log (Some at) None = ⊥
StandsFrom size log (Some at) (Some page) = (at + size ≤ length log) × (page ≡ take size (drop at log))

-- for each number the offset of the last page of that number among the frames
abbrev pub AreOffsets : ℕ → List ℕ → BTreeMap ℕ ℕ → List (List ℕ) → Type 0
AreOffsets size log pages frames = (p : ℕ) → StandsFrom size log (get nat_cmp pages p) (frames_page p frames)

-- the scan has taken the log, and the offsets are those of its valid frames
pub record HasGathered (log : List ℕ) (scan : Scanned) (pages : BTreeMap ℕ ℕ) : Type 0 where
  pub taken : HasTaken scan log
  pub offsets : AreOffsets scan.head.size log pages (valid_frames log)

-- where the scan had taken the header alone, it has gathered the log up to the end
abbrev pub GathersOn : List ℕ → ℕ → Scanned → BTreeMap ℕ ℕ → Scanned → BTreeMap ℕ ℕ → Type 0
GathersOn log end old pages new more =
    end ≤ length log → HasGathered (take 32 log) old pages → HasGathered (take end log) new more
