use Rattle.std.proofs.Common.{ap, refl, ◌∙◌}
use Rattle.ls_words.proofs.WordLemmas.{word-from_get}
use Rattle.ls_words.proofs.words.word_at.Goals as goal

pub returns : goal.returns
returns c = ap (λ x. x.now) c.unwrap_or.ensures ∙ word-from_get c.args.words.now c.args.at c.get.result _
    c.get.ensures refl
