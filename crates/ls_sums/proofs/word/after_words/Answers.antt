use Rattle.std.proofs.Common.{◌+◌, ℕ, ◌∙◌, ap, drop, arith}
use Rattle.std.specs.List.{concat}
use Rattle.ls_sums.specs.Crc64.{after_bytes}
use Rattle.ls_sums.proofs.WordLemmas.{register_of_piece}
use Rattle.ls_sums.proofs.word.after_words.Goals as goal

pub loop-word-preserved : goal.loop-word-preserved
loop-word-preserved c =
    ap (λ (x : ℕ). after_bytes x (concat (drop (c.loop-word.word-index + 1) c.args.words.now)))
    c.after_eight-after.ensures
    ∙ register_of_piece c.loop-word.after c.args.words.now c.loop-word.word-index (omega arith)
    ∙ c.loop-word.invariant
