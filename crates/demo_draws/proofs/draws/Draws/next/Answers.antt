use Rattle.std.proofs.Common.{arith}
use Rattle.demo_draws.specs.Generator.{advanced}
use Rattle.demo_draws.proofs.draws.Draws.next.Goals as goal

pub returns-clause-value : goal.returns-clause-value
unfolding advanced
returns-clause-value c = omega (arith, c.self.view_is)

pub returns-clause-state : goal.returns-clause-state
unfolding advanced
returns-clause-state c = omega (arith, c.self.view_is)
