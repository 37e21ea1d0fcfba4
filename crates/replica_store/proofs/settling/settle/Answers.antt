use Rattle.std.proofs.lemmas.Result.{on_ok_weaker}
use Rattle.replica_store.proofs.DropLemmas.{settled}
use Rattle.replica_store.proofs.settling.settle.Goals as goal

pub returns-clause-ok : goal.returns-clause-ok
returns-clause-ok g c = on_ok_weaker c.sync_names.result
    (settled (g.S.Disk.told c.args.store.now) (g.S.Disk.told c.sync_names.new.self)) c.sync_names.ensures.ok
