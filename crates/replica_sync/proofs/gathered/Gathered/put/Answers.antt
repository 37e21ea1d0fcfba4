use Rattle.replica_sync.proofs.GatherLemmas.{added}
use Rattle.replica_sync.proofs.gathered.Gathered.put.Goals as goal

pub returns-clause-ok : goal.returns-clause-ok
returns-clause-ok g c =
    added c.args.put.now c.args.self.now c.make_room.new.self c.args.bytes.now c.add.new.self
    (g.S.Disk.told c.args.store.now) (g.S.Disk.told c.make_room.new.store) c.in_ok-make_room.ensures.ok c.add.ensures
