use Rattle.std.proofs.Common.{◌≡◌, ◌≤◌, ◌⊎◌, inl, inr, arith, sym, subst, take}
use Rattle.replica_store.specs.Chain.{names_of}
use Rattle.std.proofs.lemmas.Bool.{cases_lt}
use Rattle.compact_levels.proofs.LastLemmas.{IsNewestSoFar, newest_next}
use Rattle.compact_levels.proofs.ListLemmas.{names_next, names_all}
use Rattle.compact_levels.proofs.last.newest.Goals as goal

pub loop-one-preserved : goal.loop-one-preserved
loop-one-preserved c =
    let one = c.one-item.result in
    let before = names_of (take c.loop-one.one-index c.args.dated.now) in
    let next = names_next c.args.dated.now c.loop-one.one-index one c.loop-one-test.true c.one-item.is in
    let more : c.loop-one.newest ≤ c.max-newest.result = omega (arith, c.max-newest.ensures) in
    let own : one.name.max ≤ c.max-newest.result = omega (arith, c.max-newest.ensures, c.number.ensures.value) in
    let is : (c.max-newest.result ≡ c.loop-one.newest) ⊎ (c.max-newest.result ≡ one.name.max) =
    elim (cases_lt c.loop-one.newest one.name.max) [
      | inl less ↦ inr (omega (arith, less, c.max-newest.ensures, c.number.ensures.value))
      | inr within ↦ inl (omega (arith, within, c.max-newest.ensures, c.number.ensures.value))
    ]
    in
    subst (λ names. IsNewestSoFar names c.max-newest.result) (sym next)
    (newest_next before c.loop-one.newest c.max-newest.result one.name c.loop-one.invariant more own is)

pub returns-clause-bound : goal.returns-clause-bound
returns-clause-bound c =
    (subst (λ names. IsNewestSoFar names c.loop-one.newest)
    (names_all c.args.dated.now c.loop-one.one-index c.loop-one-test.false) c.loop-one.invariant).bound

pub returns-clause-there : goal.returns-clause-there
returns-clause-there c =
    (subst (λ names. IsNewestSoFar names c.loop-one.newest)
    (names_all c.args.dated.now c.loop-one.one-index c.loop-one-test.false) c.loop-one.invariant).there
