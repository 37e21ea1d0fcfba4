use Rattle.std.proofs.Common.{◌≡◌, take}
use Rattle.snapshot_read.specs.Offsets.{AreWithinLimit}
use Rattle.wal_follow.specs.Gathering.{put_all}
use Rattle.wal_follow.proofs.gathering.put_all.Given as goal

abbrev pub invariant-loop-page : goal.invariant-loop-page
invariant-loop-page l =
    (l.offsets.offsets ≡ put_all l.initial.offsets.offsets (take l.page-index l.pages))
    × (AreWithinLimit 65536 l.initial.offsets.offsets → AreWithinLimit 65536 l.offsets.offsets)
