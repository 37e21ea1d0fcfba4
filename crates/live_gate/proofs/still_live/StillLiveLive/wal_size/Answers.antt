use Rattle.std.proofs.Common.{rules}
use Rattle.live_gate.specs.contracts.still_live.StillLive.{the_view}
use Rattle.live_gate.proofs.StillLemmas.{goes_on, gives_log_size}
use Rattle.live_gate.proofs.still_live.StillLiveLive.wal_size.Goals as goal

pub returns-clause-told : goal.returns-clause-told
returns-clause-told c = rw (← c.self.view_is) (goes_on _ _ _ (gives_log_size (the_view c.self.inside) _ (search rules)))
