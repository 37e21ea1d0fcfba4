use Rattle.page_cursors.proofs.LastPagesLemmas.{make_states, lacking_is_missing}
use Rattle.page_cursors.proofs.law.last_pages_make_states.Goals as goal

pub returns-clause-states : goal.returns-clause-states
returns-clause-states c = make_states

pub returns-clause-missing : goal.returns-clause-missing
returns-clause-missing c = lacking_is_missing
