use Rattle.std.proofs.Common.{refl, sym, subst, take}
use Rattle.replica_store.specs.Chain.{names_of}
use Rattle.compact_levels.specs.Pile.{IsPileSoFar}
use Rattle.compact_levels.proofs.ListLemmas.{names_next, names_all}
use Rattle.compact_levels.proofs.PileLemmas.{ended_by, whole_pile, no_pile}
use Rattle.compact_levels.proofs.pile.pile_of.Goals as goal

pub returns-then-is_ended_by-clause-found : goal.returns-then-is_ended_by-clause-found
returns-then-is_ended_by-clause-found c =
    ended_by c.args.dated.now c.loop-one.one-index c.one-item.result c.args.level c.args.after c.loop-one.files
    c.loop-one-test.true c.one-item.is c.loop-one.invariant (c.if-is_ended_by.ensures.ended refl)

pub loop-one-preserved : goal.loop-one-preserved
loop-one-preserved c =
    let one = c.one-item.result in
    let next = names_next c.args.dated.now c.loop-one.one-index one c.loop-one-test.true c.one-item.is in
    subst (λ names. IsPileSoFar names c.args.level c.args.after c.pile_with-files.result) (sym next)
    (c.pile_with-files.ensures (names_of (take c.loop-one.one-index c.args.dated.now)) c.loop-one.invariant)

pub returns-clause-none : goal.returns-clause-none
returns-clause-none c =
    no_pile (names_of c.args.dated.now) c.args.level c.args.after c.loop-one.files
    (subst (λ names. IsPileSoFar names c.args.level c.args.after c.loop-one.files)
    (names_all c.args.dated.now c.loop-one.one-index c.loop-one-test.false) c.loop-one.invariant)

pub returns-clause-found : goal.returns-clause-found
returns-clause-found c =
    whole_pile (names_of c.args.dated.now) c.args.level c.args.after c.loop-one.files
    (subst (λ names. IsPileSoFar names c.args.level c.args.after c.loop-one.files)
    (names_all c.args.dated.now c.loop-one.one-index c.loop-one-test.false) c.loop-one.invariant)
