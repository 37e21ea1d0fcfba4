use Rattle.std.proofs.Common.{sym, subst}
use Rattle.replica_store.specs.Chain.{IsListOrdered}
use Rattle.compact_levels.proofs.RunOfLemmas.{due_is_run}
use Rattle.levels_tests.proofs.merging.merge_run.Goals as goal

pub due-requires-clause-in_order : goal.due-requires-clause-in_order
due-requires-clause-in_order c = subst IsListOrdered (sym c.requires.same) c.requires.in_order

pub merge-requires-clause-run : goal.merge-requires-clause-run
merge-requires-clause-run c =
    due_is_run c.args.dated.now _ _ c.args.names.now c.in_ok-run.ensures.due (sym c.requires.same)
