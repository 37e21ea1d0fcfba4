use Rattle.std.proofs.Common.{arith, sym, ◌∙◌}
use Rattle.replica_sync.proofs.NumberLemmas.{found_fits, listed_there, listed_number}
use Rattle.replica_sync.proofs.wanted.number_at.Goals as goal

pub number_of_all-requires : goal.number_of_all-requires
number_of_all-requires c = record {
  fits = found_fits c.args.found.now c.args.at c.requires.storable c.in-All.is c.requires.within;
}

pub overflow_cast-at : goal.overflow_cast-at
overflow_cast-at c =
    let fits = found_fits c.args.found.now c.args.at c.requires.storable c.in-All.is c.requires.within in
    omega (arith, fits)

pub unreachable-requires : goal.unreachable-requires
unreachable-requires c =
    listed_there c.args.found.now c.in-Listed.numbers c.args.at c.in-Listed.is c.requires.within
    (sym c.get.ensures ∙ c.in-None.is)

pub returns-in-Some : goal.returns-in-Some
returns-in-Some c =
    listed_number c.args.found.now c.in-Listed.numbers c.args.at c.in-Some.number c.in-Listed.is
    (sym c.get.ensures ∙ c.in-Some.is)
