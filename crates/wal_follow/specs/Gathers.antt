-- What gathering the frames of a log gives.
use Rattle.std.specs.Prelude.{◌≡◌, ℕ, List, Option, Some, None, Result, Ok, Err}
use Rattle.wal_frames.specs.declared.header.WalHeader.{WalHeader}
use Rattle.wal_frames.specs.Marks.{last_mark_of}
use Rattle.wal_frames.specs.Scanned.{HasTaken}
use Rattle.snapshot_read.specs.Offsets.{AreWithinLimit}
use Rattle.wal_follow.specs.declared.fault.FollowFault.{FollowFault}
use Rattle.wal_follow.specs.declared.fault.FollowFault.TheVariants.{Header, SizesDiffer, WalTooLong, TooLarge}
use Rattle.wal_follow.specs.declared.fault.FollowFault.TheVariants.{GateBroken, Live, Memory}
use Rattle.wal_follow.specs.declared.following.Following.{Following}
use Rattle.wal_follow.specs.declared.gather.Gathered.{Gathered}
use Rattle.wal_follow.specs.declared.gathering.Gathering.{Gathering}

-- Only what was gathered changes. A scan stays one, and no offset comes near the greatest number.
pub record KeepsPlaces (old new : Following) : Type 0 where
  pub only : new ≡ record old { scan = new.scan; newer = new.newer; fresh = new.fresh }
  pub scan : new.scan ≡ None → old.scan ≡ None
  pub within : AreWithinLimit 65536 old.newer.offsets → AreWithinLimit 65536 new.newer.offsets

-- the answers that there are; where the log has a commit its scan is kept
abbrev pub IsGatherAnswer : Following → Result (Option Gathered) FollowFault → Type 0
IsGatherAnswer after (Ok (Some gathered)) = after.scan ≡ None → ⊥
IsGatherAnswer after (Ok None) = Unit {0}
IsGatherAnswer after (Err (Live fault)) = Unit {0}
IsGatherAnswer after (Err Memory) = Unit {0}
IsGatherAnswer after (Err (Header fault)) = ⊥
IsGatherAnswer after (Err (WalTooLong n)) = ⊥
IsGatherAnswer after (Err (SizesDiffer db wal)) = ⊥
IsGatherAnswer after (Err (TooLarge n)) = ⊥
IsGatherAnswer after (Err (GateBroken broken)) = ⊥

abbrev pub IsHeadAnswer : Result (Option WalHeader) FollowFault → Type 0
IsHeadAnswer (Ok head) = Unit {0}
IsHeadAnswer (Err (Live fault)) = Unit {0}
IsHeadAnswer (Err Memory) = ⊥
IsHeadAnswer (Err (Header fault)) = ⊥
IsHeadAnswer (Err (WalTooLong n)) = ⊥
IsHeadAnswer (Err (SizesDiffer db wal)) = ⊥
IsHeadAnswer (Err (TooLarge n)) = ⊥
IsHeadAnswer (Err (GateBroken broken)) = ⊥

-- what was gathered has this last mark, page size and least number of pages
abbrev pub IsGathered : Gathering → Option Gathered → Type 0
IsGathered g None = (log : List ℕ) → HasTaken g.scan log → last_mark_of log ≡ None
IsGathered g (Some d) =
    (d.size ≡ g.scan.head.size) × (d.least ≡ g.least)
    × ((log : List ℕ) → HasTaken g.scan log → last_mark_of log ≡ Some d.mark)
