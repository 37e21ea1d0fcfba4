use Rattle.std.proofs.Common.{◌≡◌, reverse, take}
use Rattle.crash_disk.specs.Remnant.{torn}
use Rattle.crash_disk.proofs.replayed.torn.Given as goal

-- the ranges so far
abbrev pub invariant-loop-range : goal.invariant-loop-range
invariant-loop-range l = l.bytes ≡ torn (reverse (take l.range-index l.ranges)) l.initial.bytes
