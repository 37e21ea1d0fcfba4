use Rattle.std.proofs.Common.{sym, subst, take}
use Rattle.replica_store.specs.Chain.{names_of}
use Rattle.compact_levels.specs.Pile.{IsLastSoFar}
use Rattle.compact_levels.proofs.ListLemmas.{names_next, names_all}
use Rattle.compact_levels.proofs.last.last_of.Goals as goal

pub loop-one-preserved : goal.loop-one-preserved
loop-one-preserved c =
    let one = c.one-item.result in
    let next = names_next c.args.dated.now c.loop-one.one-index one c.loop-one-test.true c.one-item.is in
    subst (λ names. IsLastSoFar names c.args.level c.last_with-last.result) (sym next)
    (c.last_with-last.ensures (names_of (take c.loop-one.one-index c.args.dated.now)) c.loop-one.invariant)

pub returns : goal.returns
returns c =
    subst (λ names. IsLastSoFar names c.args.level c.loop-one.last)
    (names_all c.args.dated.now c.loop-one.one-index c.loop-one-test.false) c.loop-one.invariant
