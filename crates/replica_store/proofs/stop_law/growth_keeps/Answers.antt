use Rattle.replica_store.proofs.FaithLemmas.{retained_more}
use Rattle.replica_store.proofs.GrowthLemmas.{longer_history_keeps}
use Rattle.replica_store.proofs.stop_law.growth_keeps.Goals as goal

pub returns-clause-history : goal.returns-clause-history
returns-clause-history c = longer_history_keeps

pub returns-clause-files : goal.returns-clause-files
returns-clause-files c = retained_more
