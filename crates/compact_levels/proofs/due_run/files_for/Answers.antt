use Rattle.replica_store.specs.Chain.{names_of}
use Rattle.compact_levels.proofs.RunLemmas.{only_chain, only_pile}
use Rattle.compact_levels.proofs.due_run.files_for.Goals as goal

pub returns-then-level-eq9-clause-only : goal.returns-then-level-eq9-clause-only
returns-then-level-eq9-clause-only c =
    only_chain (names_of c.args.dated.now) c.args.level c.args.after c.chain_to_newest.result c.if-level-eq9.true
    c.chain_to_newest.ensures.found c.chain_to_newest.ensures.none

pub returns-clause-only : goal.returns-clause-only
returns-clause-only c =
    only_pile (names_of c.args.dated.now) c.args.level c.args.after c.pile_of.result c.if-level-eq9.false
    c.pile_of.ensures.found c.pile_of.ensures.none
