use Rattle.demo_draws.proofs.CommitLemmas.{is_commit, is_after_commit}
use Rattle.std.proofs.Common.{sym, subst}
use Rattle.demo_draws.specs.DatabaseCommit.{IsDatabaseCommit}
use Rattle.demo_draws.proofs.DatabaseLemmas.{commit-is}
use Rattle.demo_draws.proofs.draws.Draws.commit.Goals as goal

-- the commit is the drawn one
abbrev drawn_one : goal.returns-clause-ok
drawn_one c =
    is_commit c.args.self.now c.below-size.new.self c.below-count.new.self c.below-size.result c.below-count.result
    c.in_ok-pages.pages c.below-size.ensures.state c.below-count.ensures.state c.below-size.ensures.value
    c.below-count.ensures.value c.in_ok-pages.ensures.pages

pub returns-clause-ok : goal.returns-clause-ok
returns-clause-ok c = drawn_one c

pub returns-clause-legal : goal.returns-clause-legal
returns-clause-legal c = subst IsDatabaseCommit (sym (drawn_one c)) (commit-is c.args.self.now)

pub returns-clause-state : goal.returns-clause-state
returns-clause-state c =
    is_after_commit c.args.self.now c.below-size.new.self c.below-count.new.self c.below-count.result
    c.numbered_pages.new.self c.below-size.ensures.state c.below-count.ensures.state c.below-count.ensures.value
    c.in_ok-pages.ensures.state
