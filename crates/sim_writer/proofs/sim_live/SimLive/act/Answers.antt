use Rattle.std.proofs.Common.{ℕ, List, refl, subst}
use Rattle.live_gate.proofs.StepLemmas.{step_itself}
use Rattle.sim_writer.specs.Loose.{PutsLoose}
use Rattle.sim_writer.proofs.LiveLemmas.{twins_same, loose_step, sound_refusing, refusing_step, refusing_twins}
use Rattle.sim_writer.proofs.sim_live.SimLive.act.Goals as goal

pub returns-in_ok-put_loose-in-Loose : goal.returns-in_ok-put_loose-in-Loose
returns-in_ok-put_loose-in-Loose c =
    let puts = subst (λ (b : List ℕ). PutsLoose b c.self.inside.machine c.put_loose.new.self) c.as_slice.ensures
    c.in_ok-put_loose-in-Loose.ensures.ok in
    let moves = loose_step c.in-Loose.bytes c.self.inside.machine c.put_loose.new.self puts in
    rw (c.in-Loose.is, ← c.self.view_is) (tt, (puts, refl), moves.0, moves.1)

pub returns-in-Fault : goal.returns-in-Fault
returns-in-Fault c = rw (c.in-Fault.is, ← c.self-in-Fault.view_is) (tt, refl, step_itself _, twins_same _)

pub invariant_of-self-in-Refuse : goal.invariant_of-self-in-Refuse
invariant_of-self-in-Refuse c = sound_refusing c.self-in-Refuse.inside.machine c.in-Refuse.refuses
    c.self-in-Refuse.invariant

pub returns-in-Refuse : goal.returns-in-Refuse
returns-in-Refuse c =
    rw (c.in-Refuse.is, ← c.self-in-Refuse.view_is) (tt, refl, refusing_step _ _, refusing_twins _ _)
