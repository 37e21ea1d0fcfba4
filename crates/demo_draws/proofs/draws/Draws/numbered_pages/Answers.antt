use Rattle.std.proofs.Common.{◌≡◌, ◌∙◌, ◌+◌, List, ℕ, ap, sym, refl}
use Rattle.std.specs.FinMap.{insert}
use Rattle.demo_draws.specs.Generator.{advanced_by}
use Rattle.demo_draws.specs.DrawnPage.{page_words, page_of_draws}
use Rattle.demo_draws.specs.DrawnCommit.{PagesByNumber, drawn_pages, drawn_number}
use Rattle.demo_draws.proofs.CommitLemmas.{no-drawn_pages, drawn_pages-more, before_page-more}
use Rattle.demo_draws.proofs.draws.Draws.numbered_pages.Goals as goal

pub loop-init : goal.loop-init
unfolding advanced_by
loop-init c = record { pages = c.new-pages.ensures ∙ sym (no-drawn_pages c.args.self.now c.args.size); state = refl }

pub loop-preserved : goal.loop-preserved
loop-preserved c =
    let k = c.loop.counter in
    let y = c.loop.self in
    let at = c.loop.invariant.state in
    let x = c.args.self.now in
    let size = c.args.size in
    let page = c.in_ok-page.page in
    let number : 1 + c.below-number.result ≡ drawn_number y size = ap (λ (n : ℕ). 1 + n) c.below-number.ensures.value in
    record {
      pages =
          c.in_ok-put.ensures.ok
          ∙ ap (λ (ps : PagesByNumber). insert ps (1 + c.below-number.result) page) c.loop.invariant.pages
          ∙ ap (λ (p : List ℕ). insert (drawn_pages x size k) (1 + c.below-number.result) p) c.in_ok-page.ensures.page
          ∙ ap (λ (n : ℕ). insert (drawn_pages x size k) n (page_of_draws c.below-number.new.self n)) number
          ∙ ap (λ (z : ℕ). insert (drawn_pages x size k) (drawn_number y size)
          (page_of_draws z (drawn_number y size))) c.below-number.ensures.state
          ∙ sym (drawn_pages-more x size k y at);
      state = c.page.ensures.state ∙ ap (advanced_by page_words) c.below-number.ensures.state
          ∙ before_page-more x k y at;
    }
