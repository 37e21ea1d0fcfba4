use Rattle.std.proofs.Common.{◌≡◌, ℕ, ◌++◌, List, [], drop, sym, ap, ◌∙◌, arith, append-nil, option_copied}
use Rattle.std.specs.List.{concat}
use Rattle.std.proofs.lemmas.List.{drop_all}
use Rattle.sim_writer.proofs.FreshLemmas.{joined_more}
use Rattle.sim_writer.proofs.sim_live.joined.Goals as goal

pub loop-at-preserved : goal.loop-at-preserved
loop-at-preserved c = joined_more c.args.pages.now c.loop-at.at c.in-Some.page.now c.loop-at.bytes c.extend.new.self
    (sym c.get.ensures ∙ ap (λ o. option_copied o) c.in-Some.is)
    (c.in_ok-extend.ensures.ok ∙ ap (λ (b : List ℕ). c.loop-at.bytes ++ b) c.bytes.ensures)
    c.loop-at.invariant

pub returns : goal.returns
returns c =
    let none : drop c.loop-at.at c.args.pages.now ≡ [] = drop_all c.loop-at.at c.args.pages.now
    (omega (arith, c.loop-at-test.false, c.len-at-end.ensures)) in
    sym (append-nil c.loop-at.bytes)
    ∙ ap (λ (ps : List (List ℕ)). c.loop-at.bytes ++ concat ps) (sym none) ∙ c.loop-at.invariant
