use Rattle.std.proofs.Common.{refl}
use Rattle.live_gate.proofs.MoveLemmas.{restart_step}
use Rattle.sim_writer.proofs.sim_live.SimLive.restart.Goals as goal

pub returns-then-branch : goal.returns-then-branch
returns-then-branch c =
    let done = c.in_ok-restart.ensures.done c.if-branch.true in
    let restarts = done.1.renews.restarts in
    rw (← c.self.view_is) (done.0, (done.1, refl), restart_step _ _ restarts, restarts.empties.twins)
