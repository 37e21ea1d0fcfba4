use Rattle.replica_store.proofs.GrowthLemmas.{empty_is_settled, whole_is_settled}
use Rattle.replica_store.proofs.stop_law.replicas_begin_settled.Goals as goal

pub returns-clause-empty : goal.returns-clause-empty
returns-clause-empty c = empty_is_settled

pub returns-clause-whole : goal.returns-clause-whole
returns-clause-whole c = whole_is_settled
