use Rattle.std.proofs.Common.{◌≡◌, ◌%◌, sum, take}
use Rattle.crash_disk.proofs.remnant.last_bits.Given as goal

abbrev pub invariant-loop-byte : goal.invariant-loop-byte
invariant-loop-byte l = l.bits ≡ sum (take l.byte-index l.bytes) % 8
