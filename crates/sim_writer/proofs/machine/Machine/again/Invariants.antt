use Rattle.std.proofs.Common.{◌≡◌, ◌-◌, take, drop}
use Rattle.sim_writer.proofs.machine.Machine.again.Given as goal

abbrev pub invariant-loop-at : goal.invariant-loop-at
invariant-loop-at l = l.again ≡ take (l.at - l.self.before_log) (drop l.self.before_log l.self.history)
