use Rattle.std.proofs.Common.{◌≡◌, ◌-◌}
use Rattle.ls_sums.specs.Crc64 as spec
use Rattle.ls_sums.proofs.plain.after_byte.Given as goal

abbrev pub invariant-loop : goal.invariant-loop
invariant-loop l = spec.after_bits (8 - l.counter) l.after ≡ spec.after_byte l.register l.byte
