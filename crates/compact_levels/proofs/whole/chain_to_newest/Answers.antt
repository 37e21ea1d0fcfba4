use Rattle.std.proofs.Common.{◌≡◌, ◌<◌, arith}
use Rattle.replica_store.specs.Chain.{names_of}
use Rattle.restore_plan.proofs.RunLemmas.{none_then}
use Rattle.compact_levels.proofs.WholeLemmas.{leads_to_newest, not_beyond, not_retained}
use Rattle.compact_levels.proofs.whole.chain_to_newest.Goals as goal

pub returns-then-newest-after-clause-none : goal.returns-then-newest-after-clause-none
returns-then-newest-after-clause-none c =
    not_beyond (names_of c.args.dated.now) c.args.after c.newest-newest.result c.newest-newest.ensures.bound
    c.if-newest-after.true

pub returns-in_err-first-clause-none : goal.returns-in_err-first-clause-none
returns-in_err-first-clause-none c =
    let newest = c.newest-newest.result in
    let end = c.in_ok-end.end in
    let same : end ≡ newest = omega (arith, c.in_ok-end.ensures) in
    let positive : 0 < newest = omega (arith, c.in_ok-end.ensures) in
    none_then c.from_residual-in_err-first.result _
    (not_retained (names_of c.args.dated.now) c.args.after newest end c.newest-newest.ensures.bound
    (c.newest-newest.ensures.there positive) same c.in_err-first.ensures.none)

pub returns-clause-found : goal.returns-clause-found
returns-clause-found c =
    let newest = c.newest-newest.result in
    let end = c.in_ok-end.end in
    let same : end ≡ newest = omega (arith, c.in_ok-end.ensures) in
    leads_to_newest (names_of c.args.dated.now) c.args.after newest end c.in_ok-first.first
    c.newest-newest.ensures.bound same (omega (arith, c.if-newest-after.false)) c.in_ok-first.ensures.found
