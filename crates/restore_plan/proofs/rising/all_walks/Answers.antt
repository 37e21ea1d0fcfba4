use Rattle.restore_plan.proofs.WalkLemmas.{five_walks}
use Rattle.restore_plan.proofs.rising.all_walks.Goals as goal

pub returns : goal.returns
returns c = λ names after. five_walks names after c.new.result c.new-2.result c.new-3.result c.new-4.result
    c.new-5.result
    c.new.ensures.level c.new-2.ensures.level c.new-3.ensures.level c.new-4.ensures.level c.new-5.ensures.level
    (c.new.ensures.walk names after) (c.new-2.ensures.walk names after) (c.new-3.ensures.walk names after)
    (c.new-4.ensures.walk names after) (c.new-5.ensures.walk names after)
