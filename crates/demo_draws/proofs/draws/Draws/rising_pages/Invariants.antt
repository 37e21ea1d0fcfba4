use Rattle.std.proofs.Common.{◌≡◌, ◌*◌}
use Rattle.demo_draws.specs.Generator.{advanced_by}
use Rattle.demo_draws.specs.DrawnPage.{page_words}
use Rattle.demo_draws.specs.DrawnCommit.{first_pages}
use Rattle.demo_draws.proofs.draws.Draws.rising_pages.Given as goal

abbrev pub invariant-loop-before : goal.invariant-loop-before
invariant-loop-before l = record {
  pages : l.pages ≡ first_pages l.initial.self l.before;
  state : l.self ≡ advanced_by (page_words * l.before) l.initial.self;
}
