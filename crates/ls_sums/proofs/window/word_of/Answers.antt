use Rattle.std.proofs.Common.{ℕ, ◌∙◌, sym, ap, rules}
use Rattle.ls_sums.specs.Word.{after_word}
use Rattle.ls_sums.proofs.WordLemmas.{after_bytes-word}
use Rattle.ls_sums.proofs.window.word_of.Goals as goal

pub returns : goal.returns
returns c = λ register.
    after_bytes-word register c.args.bytes (search rules) (search rules)
    ∙ ap (λ (x : ℕ). after_word register x) (sym c.from_le_bytes.ensures)
