use Rattle.std.proofs.Common.{None, false, ◌∙◌}
use Rattle.live_gate.proofs.StillLemmas.{goes_on}
use Rattle.sim_writer.specs.contracts.sim_live.SimLive.{the_view}
use Rattle.sim_writer.proofs.LiveLemmas as calls
use Rattle.sim_writer.proofs.live.SimLiveLive.attach.Goals as goal

pub invariant_of-self : goal.invariant_of-self
invariant_of-self c =
    let m = c.self.inside.machine in
    calls.sound_held m None false c.self.invariant
    (calls.free_is_held m.committed m.copied)

pub returns-then-begin_fails-clause-content : goal.returns-then-begin_fails-clause-content
returns-then-begin_fails-clause-content c = rw (c.begin_fails.ensures.fails c.if-begin_fails.true).is (goes_on _ _ _
    (calls.attaches_not c.args.self.now _))

pub returns-then-begin_fails-clause-told : goal.returns-then-begin_fails-clause-told
returns-then-begin_fails-clause-told c =
    rw (c.begin_fails.ensures.fails c.if-begin_fails.true).is (goes_on _ _ _ (calls.attaches_not c.args.self.now _))

pub returns-clause-content : goal.returns-clause-content
returns-clause-content c =
    let goes = c.begin_fails.ensures.goes c.if-begin_fails.false in
    let same = c.self.view_is ∙ goes.is in
    rw (← same) (goes_on _ _ _ (calls.attaches (the_view c.self.inside) _))

pub returns-then-is_err-clause-content : goal.returns-then-is_err-clause-content
returns-then-is_err-clause-content c =
    let goes = c.begin_fails.ensures.goes c.if-begin_fails.false in
    rw goes.is (goes_on _ _ _ (calls.attaches_not c.args.self.now _))

pub returns-then-is_err-clause-told : goal.returns-then-is_err-clause-told
returns-then-is_err-clause-told c =
    let goes = c.begin_fails.ensures.goes c.if-begin_fails.false in
    rw goes.is (goes_on _ _ _ (calls.attaches_not c.args.self.now _))
