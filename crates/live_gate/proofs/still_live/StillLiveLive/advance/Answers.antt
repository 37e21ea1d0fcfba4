use Rattle.std.proofs.Common.{sym, subst, refl}
use Rattle.live_gate.specs.LiveCalls.{MayAdvance}
use Rattle.live_gate.specs.contracts.still_live.StillLive.{the_view}
use Rattle.live_gate.specs.Still.{StillState, still_database, still_record}
use Rattle.live_gate.proofs.StillLemmas.{goes_on, advances}
use Rattle.live_gate.proofs.still_live.StillLiveLive.advance.Goals as goal

pub returns-clause-told : goal.returns-clause-told
returns-clause-told c =
    let may = subst (λ (s : StillState). MayAdvance c.args.end (still_database s.db s.wal s.held)) (sym c.self.view_is)
    (c.requires.mark (still_record c.args.self.now) refl) in
    rw (← c.self.view_is) (goes_on _ _ _ (advances (the_view c.self.inside) c.args.end may))
