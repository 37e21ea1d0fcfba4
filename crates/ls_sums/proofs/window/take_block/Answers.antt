use Rattle.std.proofs.Common.{◌+◌, ◌%◌, arith}
use Rattle.ls_sums.proofs.WindowLemmas.{are_words-set, xor_fits, moved_inside, moved_round, taken_next}
use Rattle.ls_sums.proofs.window.take_block.Goals as goal

pub loop-at-preserved : goal.loop-at-preserved
loop-at-preserved c =
    let ring = c.loop-at.ring in
    let at = c.loop-at.at in
    let fit = c.loop-at.invariant.fit in
    record {
      fit = are_words-set ring at _ fit
          (xor_fits c.word_of.result _ _ _ _ c.word_of.type_inv (fit (at + 4)) (fit (at + 3)) (fit (at + 1)) (fit at));
      holds = λ register holds.
          taken_next ring at c.word_of.result _ register c.args.words.now (omega arith) (omega arith) fit
          c.word_of.type_inv
          (moved_inside ring at (omega arith) (omega arith)) (omega arith) c.word_of.ensures
          (c.loop-at.invariant.holds register holds);
    }

pub loop-at-2-preserved : goal.loop-at-2-preserved
loop-at-2-preserved c =
    let ring = c.loop-at-2.ring in
    let at = c.loop-at-2.at in
    let fit = c.loop-at-2.invariant.fit in
    let word = c.word_of-in-loop-at-2 in
    record {
      fit = are_words-set ring at _ fit
          (xor_fits word.result _ _ _ _ word.type_inv (fit ((at + 4) % 64)) (fit ((at + 3) % 64))
          (fit ((at + 1) % 64)) (fit at));
      holds = λ register holds.
          taken_next ring at word.result _ register c.args.words.now (omega arith) (omega arith) fit word.type_inv
          (moved_round ring at (omega arith) (omega arith)) (omega arith) word.ensures
          (c.loop-at-2.invariant.holds register holds);
    }
