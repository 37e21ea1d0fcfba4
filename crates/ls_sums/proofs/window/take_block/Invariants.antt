use Rattle.std.proofs.Common.{ℕ, take}
use Rattle.std.specs.List.{concat}
use Rattle.ls_sums.specs.Crc64.{after_bytes}
use Rattle.ls_sums.specs.Window.{number_of_words, Holds, HoldsNumber}
use Rattle.ls_sums.proofs.RingLemmas.{AreWords, round}
use Rattle.ls_sums.proofs.window.take_block.Given as goal

abbrev pub invariant-loop-at : goal.invariant-loop-at
invariant-loop-at l = record {
  fit : AreWords l.ring;
  holds : (register : ℕ) → Holds l.fn.ring register
      → HoldsNumber (number_of_words (round l.ring l.at)) (after_bytes register (concat (take l.at l.words)));
}

abbrev pub invariant-loop-at-2 : goal.invariant-loop-at-2
invariant-loop-at-2 l = record {
  fit : AreWords l.ring;
  holds : (register : ℕ) → Holds l.fn.ring register
      → HoldsNumber (number_of_words (round l.ring l.at)) (after_bytes register (concat (take l.at l.words)));
}
