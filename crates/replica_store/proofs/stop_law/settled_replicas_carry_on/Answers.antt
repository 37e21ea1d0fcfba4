use Rattle.replica_store.proofs.CarryLemmas.{carries_on_itself, carries_on_then}
use Rattle.replica_store.proofs.PutCarryLemmas.{kept_carries_on, kept_settled}
use Rattle.replica_store.proofs.CrashLemmas.{as_read, settled_by}
use Rattle.replica_store.proofs.stop_law.settled_replicas_carry_on.Goals as goal

pub returns-clause-as_read : goal.returns-clause-as_read
returns-clause-as_read c = λ history events log. (
  λ settled. (settled.faithful.files, as_read events history log settled),
  λ is. settled_by events history log is.0
      is.1,
)

pub returns-clause-itself : goal.returns-clause-itself
returns-clause-itself c = carries_on_itself

pub returns-clause-then : goal.returns-clause-then
returns-clause-then c = carries_on_then

pub returns-clause-temporary : goal.returns-clause-temporary
returns-clause-temporary c = λ history cut before now log path settled is kept. (
  kept_carries_on history cut before now log settled path is kept,
  kept_settled history cut before now log settled
      path is kept,
)
