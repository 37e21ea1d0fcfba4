use Rattle.std.proofs.Common.{length}
use Rattle.crash_disk.proofs.replay.+number_at.Given as goal

abbrev pub decreases-number_at : goal.decreases-number_at
decreases-number_at l = length l.events.now
