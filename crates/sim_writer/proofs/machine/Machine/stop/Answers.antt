use Rattle.sim_writer.proofs.StopLemmas.{stopped_sound, stops_at}
use Rattle.sim_writer.proofs.machine.Machine.stop.Goals as goal

pub returns-clause-done : goal.returns-clause-done
returns-clause-done c _ = (
  c.in-Some.ensures.some.can,
  stops_at c.args.self.now c.requires.sound c.args.number c.args.tail.now c.in_ok-left.left c.in-Some.kept.end
      c.in-Some.kept.sums c.in_ok-again.again c.in_ok-committed.committed c.fall_to.new.self c.in-Some.ensures.some
      c.in_ok-left.ensures c.in_ok-again.ensures c.in_ok-committed.ensures c.in_ok-fall_to.ensures.ok,
)

pub returns-clause-sound : goal.returns-clause-sound
returns-clause-sound c =
    stopped_sound c.args.self.now c.requires.sound c.args.number c.args.tail.now c.in_ok-left.left c.in-Some.kept.end
    c.in-Some.kept.sums c.in_ok-again.again c.in_ok-committed.committed c.fall_to.new.self c.in-Some.ensures.some
    c.in_ok-left.ensures c.in_ok-again.ensures c.in_ok-committed.ensures c.in_ok-fall_to.ensures.ok
