use Rattle.replica_store.proofs.ExtendedLemmas.{faithful_files_extend, one_extension}
use Rattle.replica_store.proofs.stop_law.files_tell_one_longer_log.Goals as goal

pub returns-clause-tell : goal.returns-clause-tell
returns-clause-tell c = faithful_files_extend

pub returns-clause-one : goal.returns-clause-one
returns-clause-one c = one_extension
