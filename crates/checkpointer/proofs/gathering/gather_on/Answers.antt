use Rattle.std.proofs.Common.{List, ℕ, take, subst, ◌∙◌, arith}
use Rattle.std.proofs.lemmas.List.{length-take-le}
use Rattle.checkpointer.specs.Gathering.{HasGathered}
use Rattle.checkpointer.specs.PairState.{bytes_at}
use Rattle.checkpointer.proofs.ReadingLemmas.{take_next}
use Rattle.checkpointer.proofs.gathering.gather_on.Goals as goal

pub loop-at-preserved : goal.loop-at-preserved
loop-at-preserved g c = record {
  stands =
      let len = length-take-le c.in-Ok.count c.next_piece.new.buffer c.in-Ok.ensures.bound.0 in
      omega (arith, c.in-Ok-gather.ensures.taken, len, c.loop-at.invariant.stands);
  within = c.in-Ok.ensures.bound.1;
  value = λ events told within begun.
      let log = bytes_at events c.args.wal.now in
      let so_far = c.loop-at.invariant.value events told within begun in
      let piece = c.in-Ok.ensures.piece events (c.loop-at.invariant.unchanged ∙ told) in
      subst (λ (xs : List ℕ). HasGathered xs c.gather.new.scan c.gather.new.pages)
      (take_next log c.next_piece.new.buffer c.loop-at.at c.in-Ok.count piece.bytes)
      (c.in-Ok-gather.ensures.value (take c.loop-at.at log) so_far);
  head = c.in-Ok-gather.ensures.head ∙ c.loop-at.invariant.head;
  unchanged = c.in-Ok.ensures.unchanged ∙ c.loop-at.invariant.unchanged;
  same_folder = c.in-Ok.ensures.same_folder ∙ c.loop-at.invariant.same_folder;
  later = omega (arith, c.in-Ok.ensures.cause.later, c.loop-at.invariant.later);
}
