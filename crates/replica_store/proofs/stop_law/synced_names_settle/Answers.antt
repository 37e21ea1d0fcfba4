use Rattle.replica_store.proofs.DropCarryLemmas.{synced_settles, no_new_image, synced_carries_on}
use Rattle.replica_store.proofs.stop_law.synced_names_settle.Goals as goal

pub returns-clause-settle : goal.returns-clause-settle
returns-clause-settle c = synced_settles

pub returns-clause-no_new_image : goal.returns-clause-no_new_image
returns-clause-no_new_image c = no_new_image

pub returns-clause-carry_on : goal.returns-clause-carry_on
returns-clause-carry_on c = synced_carries_on
