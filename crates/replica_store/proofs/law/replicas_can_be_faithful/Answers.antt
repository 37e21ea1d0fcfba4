use Rattle.replica_store.proofs.FaithLawLemmas.{empty_is_faithful, whole_is_faithful, piece_is_faithful}
use Rattle.replica_store.proofs.law.replicas_can_be_faithful.Goals as goal

pub returns-clause-empty : goal.returns-clause-empty
returns-clause-empty c = empty_is_faithful

pub returns-clause-whole : goal.returns-clause-whole
returns-clause-whole c = whole_is_faithful

pub returns-clause-piece : goal.returns-clause-piece
returns-clause-piece c = piece_is_faithful
