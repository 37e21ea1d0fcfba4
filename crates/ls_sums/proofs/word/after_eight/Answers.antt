use Rattle.std.proofs.Common.{ℕ, ◌∙◌, sym, ap, rules}
use Rattle.ls_sums.specs.Word.{after_word}
use Rattle.ls_sums.proofs.WordLemmas.{after_bytes-word}
use Rattle.ls_sums.proofs.word.after_eight.Goals as goal

pub returns : goal.returns
returns c =
    c.after_word.ensures ∙ ap (λ (x : ℕ). after_word c.args.register x) c.from_le_bytes.ensures
    ∙ sym (after_bytes-word c.args.register c.args.bytes (search rules) (search rules))
