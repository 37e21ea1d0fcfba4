use Rattle.std.proofs.Common.{◌≡◌, reverse, take}
use Rattle.crash_disk.specs.Numbers.{file_of}
use Rattle.crash_disk.proofs.replay.file_of.Given as goal

-- the file of the changes so far
abbrev pub invariant-loop-i : goal.invariant-loop-i
invariant-loop-i l = l.file ≡ file_of (reverse (take l.i l.events)) l.number
