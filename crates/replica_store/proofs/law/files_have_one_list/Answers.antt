use Rattle.replica_store.proofs.OneListLemmas.{one_list}
use Rattle.replica_store.proofs.law.files_have_one_list.Goals as goal

pub returns : goal.returns
returns c = one_list
