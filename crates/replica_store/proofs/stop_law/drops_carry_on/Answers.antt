use Rattle.replica_store.proofs.DropCarryLemmas.{none_dropped, one_more_dropped, drops_carry_on, drops_crash_faithful}
use Rattle.replica_store.proofs.stop_law.drops_carry_on.Goals as goal

pub returns-clause-none : goal.returns-clause-none
returns-clause-none c = none_dropped

pub returns-clause-one_more : goal.returns-clause-one_more
returns-clause-one_more c = one_more_dropped

pub returns-clause-carry_on : goal.returns-clause-carry_on
returns-clause-carry_on c = λ history cut before now log paths settled go drops. (
  drops_carry_on history cut before now log paths settled go drops,
  drops_crash_faithful history cut before now log
      paths settled go drops,
)
