use Rattle.std.proofs.Common.{◌≡◌, drop}
use Rattle.std.specs.List.{concat}
use Rattle.ls_sums.specs.Crc64.{after_bytes}
use Rattle.ls_sums.proofs.word.after_words.Given as goal

abbrev pub invariant-loop-word : goal.invariant-loop-word
invariant-loop-word l = after_bytes l.after (concat (drop l.word-index l.words)) ≡ after_bytes l.register
    (concat l.words)
