use Rattle.std.proofs.Common.{◌≡◌, ◌-◌, length}
use Rattle.restore_plan.specs.Walk.{IsWalk}
use Rattle.restore_plan.proofs.walk.Walk.first_beyond.Given as goal

abbrev pub invariant-loop-self : goal.invariant-loop-self
invariant-loop-self l = (l.self.level ≡ l.fn.self.level) × IsWalk l.names l.after l.self

abbrev pub decreases-loop-self : goal.decreases-loop-self
decreases-loop-self l = length l.names - l.self.at
