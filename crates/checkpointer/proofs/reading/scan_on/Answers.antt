use Rattle.std.proofs.Common.{List, ℕ, take, subst, ◌∙◌, arith}
use Rattle.std.proofs.lemmas.List.{length-take-le}
use Rattle.wal_frames.specs.Scanned.{HasTaken}
use Rattle.checkpointer.specs.PairState.{bytes_at}
use Rattle.checkpointer.proofs.ReadingLemmas.{take_next}
use Rattle.checkpointer.proofs.reading.scan_on.Goals as goal

pub loop-at-preserved : goal.loop-at-preserved
loop-at-preserved g c = record {
  stands =
      let len = length-take-le c.in_ok-count.count c.next_piece.new.buffer c.in_ok-count.ensures.bound.0 in
      omega (arith, c.feed_all.ensures.taken, len, c.loop-at.invariant.stands);
  value = λ events told from within started.
      let log = bytes_at events c.args.wal.now in
      let so_far = c.loop-at.invariant.value events told from within started in
      let piece = c.in_ok-count.ensures.piece events (c.loop-at.invariant.unchanged ∙ told) in (
        c.in_ok-count.ensures.bound.1,
        subst (λ (xs : List ℕ). HasTaken c.feed_all.new.scan xs)
            (take_next log c.next_piece.new.buffer c.loop-at.at c.in_ok-count.count piece.bytes)
            (c.feed_all.ensures.value (take c.loop-at.at log) so_far.1),
      );
  head = c.feed_all.ensures.head ∙ c.loop-at.invariant.head;
  unchanged = c.in_ok-count.ensures.unchanged ∙ c.loop-at.invariant.unchanged;
  same_folder = c.in_ok-count.ensures.same_folder ∙ c.loop-at.invariant.same_folder;
  later = omega (arith, c.in_ok-count.ensures.cause.later, c.loop-at.invariant.later);
}
