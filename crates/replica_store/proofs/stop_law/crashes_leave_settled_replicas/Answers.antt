use Rattle.replica_store.proofs.DropCarryLemmas.{crashes_settle, crashes_lose_nothing_settled}
use Rattle.replica_store.proofs.stop_law.crashes_leave_settled_replicas.Goals as goal

pub returns-clause-faithful : goal.returns-clause-faithful
returns-clause-faithful c = crashes_settle

pub returns-clause-settled : goal.returns-clause-settled
returns-clause-settled c = crashes_lose_nothing_settled
