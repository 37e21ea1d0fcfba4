use Rattle.replica_store.proofs.PutLemmas.{err_leaves}
use Rattle.replica_sync.proofs.gathered.Gathered.make_room.Goals as goal

pub returns-in_err-flush-clause-err : goal.returns-in_err-flush-clause-err
returns-in_err-flush-clause-err g c = err_leaves c.from_residual.result _ c.in_err-flush.ensures.err
