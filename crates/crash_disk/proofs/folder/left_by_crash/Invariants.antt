use Rattle.std.proofs.Common.{reverse, take}
use Rattle.crash_disk.specs.Crashed.{AreLeft}
use Rattle.crash_disk.proofs.folder.left_by_crash.Given as goal

-- the files at the names that the changes so far gave
abbrev pub invariant-loop-event : goal.invariant-loop-event
invariant-loop-event l = AreLeft l.choice (reverse l.events) (reverse (take l.event-index l.events)) l.left
