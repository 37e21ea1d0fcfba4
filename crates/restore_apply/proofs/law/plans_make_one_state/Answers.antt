use Rattle.restore_apply.proofs.DamageLemmas.{one_state, unspoilt, complete}
use Rattle.restore_apply.proofs.law.plans_make_one_state.Goals as goal

pub returns-clause-one : goal.returns-clause-one
returns-clause-one c = one_state

pub returns-clause-sound : goal.returns-clause-sound
returns-clause-sound c = unspoilt

pub returns-clause-whole : goal.returns-clause-whole
returns-clause-whole c = complete
