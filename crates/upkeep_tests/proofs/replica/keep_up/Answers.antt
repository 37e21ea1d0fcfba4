use Rattle.std.proofs.Common.{sym, subst, ◌∙◌}
use Rattle.replica_store.specs.Chain.{IsListOrdered}
use Rattle.replica_upkeep.proofs.ListedLemmas.{listed_files}
use Rattle.upkeep_tests.proofs.replica.keep_up.Goals as goal

pub maintain-requires-clause-in_order : goal.maintain-requires-clause-in_order
maintain-requires-clause-in_order c =
    subst IsListOrdered (sym (c.in_ok-files.ensures.names ∙ c.as_slice.ensures)) c.in_ok-names.ensures.ordered

pub maintain-requires-clause-files : goal.maintain-requires-clause-files
maintain-requires-clause-files c =
    listed_files _ _ _ c.in_ok-names.names c.as_slice.result.now c.in_ok-files.files c.in_ok-names.ensures.value
    c.in_ok-names.ensures.unchanged c.as_slice.ensures c.in_ok-files.ensures.value c.in_ok-files.ensures.unchanged
