-- What a follower always has.
use Rattle.std.specs.Prelude.{◌≡◌, ◌≤◌, true, Some, None}
use Rattle.std.specs.FinMap.{len}
use Rattle.ls_base.specs.PageSize.{IsPageSize}
use Rattle.snapshot_read.specs.Offsets.{AreWithinLimit}
use Rattle.wal_follow.specs.declared.following.Following.{Following}
use Rattle.wal_follow.specs.declared.following.Target.{Target}
use Rattle.wal_follow.specs.Following.{is_in_log}

-- A recorded place in the log has the scan of its log and its number of pages, what was found has room among what is
-- kept, and each page ends within 2^64 bytes.
pub record IsReady (f : Following) : Type 0 where
  pub scan : f.recorded ≡ true → is_in_log f.place ≡ true → f.scan ≡ None → ⊥
  pub pages : f.recorded ≡ true → is_in_log f.place ≡ true → f.pages ≡ None → ⊥
  pub found : (target : Target) → f.found ≡ Some target → is_in_log (Some target.place) ≡ true → f.scan ≡ None → ⊥
  pub sized : (target : Target) → f.found ≡ Some target → IsPageSize target.size
  pub room : (target : Target) → f.found ≡ Some target → len f.newer.offsets ≤ f.kept.spare
  pub kept : AreWithinLimit 65536 f.kept.offsets
  pub newer : AreWithinLimit 65536 f.newer.offsets
