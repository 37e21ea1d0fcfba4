use Rattle.std.proofs.Common.{◌∙◌, ◌+◌, List, ℕ, ap, sym, refl}
use Rattle.std.specs.FinMap.{insert}
use Rattle.demo_draws.specs.Generator.{advanced_by}
use Rattle.demo_draws.specs.DrawnCommit.{PagesByNumber, first_pages}
use Rattle.demo_draws.proofs.CommitLemmas.{no-first_pages, first_pages-more, words-more}
use Rattle.demo_draws.proofs.draws.Draws.rising_pages.Goals as goal

pub loop-before-init : goal.loop-before-init
unfolding advanced_by
loop-before-init c = record { pages = c.new-pages.ensures ∙ sym (no-first_pages c.args.self.now); state = refl }

pub loop-before-preserved : goal.loop-before-preserved
loop-before-preserved c =
    let before = c.loop-before.before in
    let last = c.loop-before.self in
    let at = c.loop-before.invariant.state in
    let x = c.args.self.now in
    record {
      pages =
          c.in_ok-put.ensures.ok
          ∙ ap (λ (ps : PagesByNumber). insert ps (before + 1) c.in_ok-page.page) c.loop-before.invariant.pages
          ∙ ap (λ (p : List ℕ). insert (first_pages x before) (before + 1) p) c.in_ok-page.ensures.page
          ∙ sym (first_pages-more x before last at);
      state = c.page.ensures.state ∙ words-more x before last at;
    }
