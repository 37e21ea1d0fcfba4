use Rattle.std.proofs.Common.{ℕ, List, refl, subst}
use Rattle.sim_writer.specs.Stopping.{StopsAt}
use Rattle.sim_writer.proofs.StopLemmas.{stop_step}
use Rattle.sim_writer.proofs.sim_live.SimLive.stop.Goals as goal

pub returns-then-branch : goal.returns-then-branch
returns-then-branch c =
    let done = c.in_ok-stop.ensures.done c.if-branch.true in
    let stops = subst (λ (b : List ℕ). StopsAt c.args.mark b c.self.inside.machine c.stop.new.self) c.as_slice.ensures
    done.1 in
    let moves = stop_step c.args.mark c.args.tail c.self.inside.machine c.stop.new.self stops in
    rw (← c.self.view_is) (done.0, (stops, refl), moves.0, moves.1)
