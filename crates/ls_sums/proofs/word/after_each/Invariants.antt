use Rattle.std.proofs.Common.{◌≡◌, drop}
use Rattle.ls_sums.specs.Crc64.{after_bytes}
use Rattle.ls_sums.proofs.word.after_each.Given as goal

abbrev pub invariant-loop-byte : goal.invariant-loop-byte
invariant-loop-byte l = after_bytes l.after (drop l.byte-index l.bytes) ≡ after_bytes l.register l.bytes
