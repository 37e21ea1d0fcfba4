use Rattle.std.proofs.Common.{ℕ, flat_map, take, subst, sym, arith}
use Rattle.std.specs.List.{concat}
use Rattle.ls_sums.specs.Crc64.{after_bytes}
use Rattle.ls_sums.specs.Window.{Holds}
use Rattle.ls_sums.proofs.WindowLemmas.{blocks_next}
use Rattle.ls_sums.proofs.window.take_blocks.Goals as goal

pub loop-block-preserved : goal.loop-block-preserved
loop-block-preserved c = λ register holds.
    let blocks = c.args.blocks.now in
    let i = c.loop-block.block-index in
    subst (λ (x : ℕ). Holds c.take_block.new.ring x) (sym (blocks_next register i blocks (omega arith)))
    (c.take_block.ensures (after_bytes register (flat_map concat (take i blocks)))
    (c.loop-block.invariant register holds))
