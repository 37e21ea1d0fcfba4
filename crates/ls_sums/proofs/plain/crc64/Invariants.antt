use Rattle.std.proofs.Common.{◌≡◌, drop}
use Rattle.ls_sums.specs.Crc64 as spec
use Rattle.ls_sums.proofs.plain.crc64.Given as goal

abbrev pub invariant-loop-byte : goal.invariant-loop-byte
invariant-loop-byte l = spec.after_bytes l.register (drop l.byte-index l.bytes) ≡ spec.after_bytes spec.all_ones l.bytes
