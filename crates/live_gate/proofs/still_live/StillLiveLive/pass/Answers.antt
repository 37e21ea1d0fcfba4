use Rattle.std.proofs.Common.{rules}
use Rattle.live_gate.specs.contracts.still_live.StillLive.{the_view}
use Rattle.live_gate.proofs.StillLemmas.{goes_on, keeps}
use Rattle.live_gate.proofs.still_live.StillLiveLive.pass.Goals as goal

pub returns-clause-told : goal.returns-clause-told
returns-clause-told c = rw (← c.self.view_is) (goes_on _ _ _ (keeps (the_view c.self.inside) _ _ _ (search rules)))
