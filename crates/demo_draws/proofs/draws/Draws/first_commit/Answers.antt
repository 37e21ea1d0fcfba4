use Rattle.std.proofs.Common.{◌≡◌, sym, subst, ap}
use Rattle.demo_draws.specs.DrawnCommit.{PagesByNumber, first_commit}
use Rattle.demo_draws.specs.DatabaseCommit.{IsDatabaseCommit}
use Rattle.demo_draws.proofs.DatabaseLemmas.{first_commit-is}
use Rattle.demo_draws.proofs.draws.Draws.first_commit.Goals as goal

pub returns-clause-legal : goal.returns-clause-legal
returns-clause-legal c =
    let is : record { size = 300; pages = c.in_ok-pages.pages } ≡ first_commit c.args.self.now =
    ap (λ (ps : PagesByNumber). record { size = 300; pages = ps }) c.in_ok-pages.ensures.pages in
    subst IsDatabaseCommit (sym is) (first_commit-is c.args.self.now)
