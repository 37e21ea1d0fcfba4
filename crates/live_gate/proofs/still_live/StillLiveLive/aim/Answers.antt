use Rattle.live_gate.specs.contracts.still_live.StillLive.{the_view}
use Rattle.live_gate.proofs.StillLemmas.{goes_on, aims}
use Rattle.live_gate.proofs.still_live.StillLiveLive.aim.Goals as goal

pub returns-clause-told : goal.returns-clause-told
returns-clause-told c = rw (← c.self.view_is) (goes_on _ _ _ (aims (the_view c.self.inside) c.args.at))
