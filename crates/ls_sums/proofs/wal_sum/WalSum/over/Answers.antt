use Rattle.std.proofs.Common.{List, ℕ, ◌∙◌, sym, ap}
use Rattle.std.specs.List.{concat}
use Rattle.ls_sums.specs.declared.order.Order.{Order}
use Rattle.ls_sums.specs.declared.order.Order.TheVariants.{Little, Big}
use Rattle.ls_sums.specs.WalSum.{words, after_words}
use Rattle.ls_sums.proofs.PairLemmas.{all_pairs}
use Rattle.ls_sums.proofs.wal_sum.WalSum.over.Goals as goal

pub returns-in-Little : goal.returns-in-Little
returns-in-Little c =
    let bytes = c.args.bytes.now in
    c.over_little.ensures
    ∙ ap (λ (pairs : List (List ℕ)). after_words c.args.self (words Little (concat pairs))) c.as_chunks.ensures.front
    ∙ ap (λ (xs : List ℕ). after_words c.args.self (words Little xs)) (all_pairs bytes c.requires)
    ∙ ap (λ (order : Order). after_words c.args.self (words order bytes)) (sym c.in-Little.is)

pub returns-in-Big : goal.returns-in-Big
returns-in-Big c =
    let bytes = c.args.bytes.now in
    c.over_big.ensures
    ∙ ap (λ (pairs : List (List ℕ)). after_words c.args.self (words Big (concat pairs))) c.as_chunks.ensures.front
    ∙ ap (λ (xs : List ℕ). after_words c.args.self (words Big xs)) (all_pairs bytes c.requires)
    ∙ ap (λ (order : Order). after_words c.args.self (words order bytes)) (sym c.in-Big.is)
