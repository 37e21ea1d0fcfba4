use Rattle.replica_store.proofs.NextFileLemmas.{merged_file_carries_on, merged_file_settles}
use Rattle.replica_store.proofs.stop_law.merged_files_carry_on.Goals as goal

pub returns-clause-carries_on : goal.returns-clause-carries_on
returns-clause-carries_on c = merged_file_carries_on

pub returns-clause-settles : goal.returns-clause-settles
returns-clause-settles c = merged_file_settles
