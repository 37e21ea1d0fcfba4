use Rattle.sync_tests.proofs.syncing.synced.Goals as goal

pub sync-requires-clause-legal : goal.sync-requires-clause-legal
sync-requires-clause-legal c = c.in_ok-enter.ensures.legal

pub sync-requires-clause-fits : goal.sync-requires-clause-fits
sync-requires-clause-fits c = λ r told. c.start-follower.ensures.fits r.database (c.in_ok-enter.ensures.gate r told)
