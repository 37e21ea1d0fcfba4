use Rattle.std.proofs.Common.{◌≡◌, ◌-◌, ◌++◌, List, ℕ, length, take, refl, subst, ◌∙◌, arith, append-nil}
use Rattle.wal_frames.specs.Scanned.{HasTaken}
use Rattle.checkpointer.proofs.ReadingLemmas.{rest_next, short_next, taken_next, done_next}
use Rattle.checkpointer.proofs.reading.feed_all.Goals as goal

pub loop-taken-init : goal.loop-taken-init
loop-taken-init c =
    let none : length c.args.bytes.now - length c.args.bytes.now ≡ 0 = omega arith in
    record {
      rest_is = rw none refl;
      short = omega arith;
      taken = refl;
      head = refl;
      value = λ log t. rw (none, append-nil log) t;
    }

pub loop-taken-preserved : goal.loop-taken-preserved
loop-taken-preserved c =
    let bytes = c.args.bytes.now in
    let rest = c.loop-taken.rest.now in
    let i = c.loop-taken.invariant in
    let fed = c.in-Frame.ensures.value in
    record {
      rest_is = rest_next bytes rest c.in-Frame.taken i.rest_is i.short fed.1;
      short = short_next bytes rest c.in-Frame.taken i.short;
      taken = taken_next bytes rest c.in-Frame.taken c.feed.new.self.taken c.loop-taken.scan.taken
          c.args.scan.now.taken fed.1 fed.2 i.taken;
      head = c.in-Frame.ensures.head ∙ i.head;
      value = λ log t. subst (λ (xs : List ℕ). HasTaken c.feed.new.self xs)
          (done_next log bytes rest c.in-Frame.taken i.rest_is i.short fed.1)
          (fed.3 (log ++ take (length bytes - length rest) bytes) (i.value log t)).0;
    }
