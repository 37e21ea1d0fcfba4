use Rattle.std.proofs.Common.{length}
use Rattle.crash_disk.proofs.replay.+synced_number_at.Given as goal

abbrev pub decreases-synced_number_at : goal.decreases-synced_number_at
decreases-synced_number_at l = length l.events.now
