use Rattle.restore_plan.proofs.RunLemmas.{five_runs}
use Rattle.restore_plan.proofs.sweep.Sweep.new.Goals as goal

pub invariant_of-result : goal.invariant_of-result
invariant_of-result c =
    let names = c.args.names.now in
    let t = c.args.t in (
      c.requires.in_order,
      five_runs names t 0 c.new.result c.new-2.result c.new-3.result c.new-4.result c.new-5.result c.new.ensures.level
          c.new-2.ensures.level c.new-3.ensures.level c.new-4.ensures.level c.new-5.ensures.level
          (c.new.ensures.run names t 0) (c.new-2.ensures.run names t 0) (c.new-3.ensures.run names t 0)
          (c.new-4.ensures.run names t 0) (c.new-5.ensures.run names t 0),
    )
