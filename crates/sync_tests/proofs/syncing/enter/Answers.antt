use Rattle.live_gate.specs.Legal.{IsLegal}
use Rattle.snapshot_read.specs.Reading.{IsUnderGate}
use Rattle.replica_sync.proofs.ReadingLemmas.{live_now}
use Rattle.sync_tests.proofs.syncing.enter.Goals as goal

pub returns-clause-legal : goal.returns-clause-legal
returns-clause-legal g c =
    live_now (g.L.Live.told c.attach.new.self) (g.L.Live.told c.enter.new.self) _ (λ r. IsLegal r.database)
    (λ r. IsLegal r.database) c.in_ok-enter.ensures.told c.in_ok-attach.ensures.legal
    (λ before after legal enters. enters.step.legal legal)

pub returns-clause-gate : goal.returns-clause-gate
returns-clause-gate g c =
    live_now (g.L.Live.told c.attach.new.self) (g.L.Live.told c.enter.new.self) _ (λ r. IsLegal r.database)
    (λ r. IsUnderGate r.database) c.in_ok-enter.ensures.told c.in_ok-attach.ensures.legal
    (λ before after legal enters. (after.database.copied, enters.ok))
