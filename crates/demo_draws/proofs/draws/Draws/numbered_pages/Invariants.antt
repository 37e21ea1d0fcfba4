use Rattle.std.proofs.Common.{◌≡◌}
use Rattle.demo_draws.specs.DrawnCommit.{drawn_pages, before_page}
use Rattle.demo_draws.proofs.draws.Draws.numbered_pages.Given as goal

abbrev pub invariant-loop : goal.invariant-loop
invariant-loop l = record {
  pages : l.pages ≡ drawn_pages l.initial.self l.size l.counter;
  state : l.self ≡ before_page l.initial.self l.counter;
}
