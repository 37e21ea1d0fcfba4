use Rattle.live_gate.specs.contracts.still_live.StillLive.{the_view}
use Rattle.live_gate.proofs.StillLemmas.{goes_on, enters}
use Rattle.live_gate.proofs.still_live.StillLiveLive.enter.Goals as goal

pub returns-clause-told : goal.returns-clause-told
returns-clause-told c = rw (← c.self.view_is) (goes_on _ _ _ (enters (the_view c.self.inside)))
