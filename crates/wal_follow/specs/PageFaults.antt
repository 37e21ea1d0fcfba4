-- The fault of a page, as one of the follower.
use Rattle.snapshot_read.specs.declared.fault.PageFault.{PageFault}
use Rattle.snapshot_read.specs.declared.fault.PageFault.TheVariants as page
use Rattle.wal_follow.specs.declared.fault.Broken.TheVariants.{Short}
use Rattle.wal_follow.specs.declared.fault.FollowFault.{FollowFault}
use Rattle.wal_follow.specs.declared.fault.FollowFault.TheVariants.{GateBroken, Live}

abbrev pub page_fault : PageFault → FollowFault
page_fault (page.Live fault) = Live fault
page_fault (page.Short at) = GateBroken (Short at)
