use Rattle.round_tests.proofs.ReadyLemmas.{still_legal, still_fits}
use Rattle.round_tests.proofs.steps.two_rounds.Goals as goal

pub round-requires-clause-legal : goal.round-requires-clause-legal
round-requires-clause-legal g c = λ r told. (c.in_ok-begin.ensures r told).legal

pub round-requires-clause-fits : goal.round-requires-clause-fits
round-requires-clause-fits g c = λ r told. c.start-follower.ensures.fits r.database (c.in_ok-begin.ensures r told).gate

pub round-requires-2-clause-legal : goal.round-requires-2-clause-legal
round-requires-2-clause-legal g c =
    still_legal _ _ _ c.in_ok-first.first (g.L.Live.told c.begin.new.live) (g.L.Live.told c.round.new.live)
    c.in_ok-begin.ensures c.in_ok-first.ensures.live

pub round-requires-2-clause-fits : goal.round-requires-2-clause-fits
round-requires-2-clause-fits g c =
    still_fits _ _ _ c.in_ok-first.first (g.L.Live.told c.begin.new.live) (g.L.Live.told c.round.new.live)
    c.in_ok-begin.ensures c.in_ok-first.ensures.live
