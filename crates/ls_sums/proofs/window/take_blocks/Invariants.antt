use Rattle.std.proofs.Common.{ℕ, take, flat_map}
use Rattle.std.specs.List.{concat}
use Rattle.ls_sums.specs.Crc64.{after_bytes}
use Rattle.ls_sums.specs.Window.{Holds}
use Rattle.ls_sums.proofs.window.take_blocks.Given as goal

abbrev pub invariant-loop-block : goal.invariant-loop-block
invariant-loop-block l =
    (register : ℕ) → Holds l.fn.ring register
    → Holds l.ring (after_bytes register (flat_map concat (take l.block-index l.blocks)))
