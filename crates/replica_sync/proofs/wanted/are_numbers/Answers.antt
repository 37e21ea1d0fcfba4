use Rattle.std.proofs.Common.{sym, subst}
use Rattle.std.specs.Bool.{OnTrue}
use Rattle.wal_follow.specs.declared.answer.Wanted.{Wanted}
use Rattle.replica_sync.specs.Pages.{AreRising}
use Rattle.replica_sync.proofs.NumberLemmas.{listed_all}
use Rattle.replica_sync.proofs.wanted.are_numbers.Goals as goal

pub returns-in-Listed-clause-numbers : goal.returns-in-Listed-clause-numbers
returns-in-Listed-clause-numbers c =
    listed_all c.args.found.now c.in-Listed.numbers c.lock_page.result c.are_listed.result c.in-Listed.is
    c.lock_page.ensures c.are_listed.ensures.numbers

pub returns-in-Listed-clause-rising : goal.returns-in-Listed-clause-rising
returns-in-Listed-clause-rising c =
    subst (λ (w : Wanted). OnTrue c.are_listed.result (AreRising w)) (sym c.in-Listed.is) c.are_listed.ensures.rising
