use Rattle.std.proofs.Common.{arith}
use Rattle.crash_disk.specs.Files.{files_after}
use Rattle.ltx_command.proofs.SizeLemmas.{sizes_all}
use Rattle.ltx_command.proofs.gathering.sizes_of.Goals as goal

pub returns-clause-value : goal.returns-clause-value
returns-clause-value g c = λ events told.
    sizes_all (files_after events) c.args.dated.now c.loop-one.one-index c.loop-one.sizes.items
    (omega (arith, c.loop-one-test.false)) (c.loop-one.invariant.sizes events told)
