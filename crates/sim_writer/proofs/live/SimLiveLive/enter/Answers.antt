use Rattle.std.proofs.Common.{Some, ◌∙◌}
use Rattle.live_gate.proofs.StillLemmas.{goes_on}
use Rattle.sim_writer.specs.Sound.{database_of}
use Rattle.sim_writer.specs.contracts.sim_live.SimLive.{the_view}
use Rattle.sim_writer.proofs.LiveLemmas as calls
use Rattle.sim_writer.proofs.live.SimLiveLive.enter.Goals as goal

pub invariant_of-self : goal.invariant_of-self
invariant_of-self c =
    let m = c.self.inside.machine in
    calls.sound_held m (Some m.copied) m.stopped c.self.invariant
    (calls.copied_is_held (database_of m) c.self.invariant.legal)

pub returns-then-begin_fails-clause-told : goal.returns-then-begin_fails-clause-told
returns-then-begin_fails-clause-told c =
    rw (c.begin_fails.ensures.fails c.if-begin_fails.true).is (goes_on _ _ _ (calls.enters_not c.args.self.now _))

pub returns-clause-told : goal.returns-clause-told
returns-clause-told c =
    let goes = c.begin_fails.ensures.goes c.if-begin_fails.false in
    let same = c.self.view_is ∙ goes.is in
    let runs = calls.runs_now same goes in
    rw (← same) (goes_on _ _ _ (calls.enters (the_view c.self.inside) c.self.invariant runs))
