use Rattle.replica_store.proofs.NextFileLemmas.{next_file_carries_on, next_file_settles}
use Rattle.replica_store.proofs.stop_law.next_files_carry_on.Goals as goal

pub returns-clause-carries_on : goal.returns-clause-carries_on
returns-clause-carries_on c = next_file_carries_on

pub returns-clause-settles : goal.returns-clause-settles
returns-clause-settles c = next_file_settles
