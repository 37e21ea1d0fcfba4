use Rattle.std.proofs.Common.{◌≡◌, ◌-◌, length}
use Rattle.restore_plan.specs.Run.{IsRun}
use Rattle.restore_plan.proofs.run.Run.advance.Given as goal

abbrev pub invariant-loop-self : goal.invariant-loop-self
invariant-loop-self l = (l.self.level ≡ l.initial.self.level) × IsRun l.names l.t l.after l.self

abbrev pub decreases-loop-self : goal.decreases-loop-self
decreases-loop-self l = length l.names - l.self.at
