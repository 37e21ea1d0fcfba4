use Rattle.std.proofs.Common.{◌≡◌, ℕ, ◌*◌, drop, take, bit_xor}
use Rattle.std.specs.List.{concat}
use Rattle.ls_sums.specs.Crc64.{after_bits, after_bytes}
use Rattle.ls_sums.specs.Window.{number_of_words, moved}
use Rattle.ls_sums.proofs.window.last_block.Given as goal

abbrev pub invariant-loop-at : goal.invariant-loop-at
invariant-loop-at l =
    (register : ℕ)
    → bit_xor l.after (moved (number_of_words (drop l.at l.ring)))
    ≡ bit_xor (after_bytes register (concat (take l.at l.words)))
    (after_bits (64 * l.at) (bit_xor register (moved (number_of_words l.ring))))
