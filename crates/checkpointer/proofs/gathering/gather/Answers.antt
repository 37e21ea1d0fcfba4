use Rattle.std.proofs.Common.{◌≡◌, ◌-◌, ◌++◌, List, ℕ, length, take, refl, ap, sym, subst, ◌∙◌, arith, append-nil}
use Rattle.wal_frames.specs.declared.header.WalHeader.{WalHeader}
use Rattle.checkpointer.specs.Gathering.{HasGathered}
use Rattle.checkpointer.proofs.ReadingLemmas.{rest_next, short_next, taken_next, done_next, all_done}
use Rattle.checkpointer.proofs.GatherLemmas.{gather_none, gather_more}
use Rattle.checkpointer.proofs.gathering.gather.Goals as goal

pub loop-taken-init : goal.loop-taken-init
loop-taken-init c =
    let none : length c.args.bytes.now - length c.args.bytes.now ≡ 0 = omega arith in
    record {
      rest_is = rw none refl;
      short = omega arith;
      taken = refl;
      head = refl;
      value = λ log t. rw (none, append-nil log) t;
    }

pub loop-taken-preserved : goal.loop-taken-preserved
loop-taken-preserved c =
    let bytes = c.args.bytes.now in
    let rest = c.loop-taken.rest.now in
    let i = c.loop-taken.invariant in
    let fed = c.in-Frame.ensures.value in
    record {
      rest_is = rest_next bytes rest c.in-Frame.taken i.rest_is i.short fed.1;
      short = short_next bytes rest c.in-Frame.taken i.short;
      taken = taken_next bytes rest c.in-Frame.taken c.feed.new.self.taken c.loop-taken.scan.taken
          c.args.scan.now.taken fed.1 fed.2 i.taken;
      head = c.in-Frame.ensures.head ∙ i.head;
      value = λ log t. subst (λ (xs : List ℕ). HasGathered xs c.feed.new.self c.insert.new.self)
          (done_next log bytes rest c.in-Frame.taken i.rest_is i.short fed.1)
          (
          let so_far = i.value log t in
          let now = fed.3 (log ++ take (length bytes - length rest) bytes) so_far.taken in
          gather_more (log ++ take (length bytes - length rest) bytes) (take c.in-Frame.taken rest) c.loop-taken.scan
          c.feed.new.self c.in-Frame.ensures.head c.in-Frame.number c.in-Frame.commit c.in-Frame.end now.0 now.1
          c.in-Frame.ensures.end
          c.loop-taken.pages c.insert.new.self c.saturating_sub.result so_far c.in_ok-insert.ensures.updates
          (c.saturating_sub.ensures ∙ ap (λ (n : ℕ). c.in-Frame.end - n)
          (c.from.ensures ∙ c.requires.size ∙ ap (λ (h : WalHeader). h.size)
          (sym (c.in-Frame.ensures.head ∙ i.head))))
          );
    }

pub returns-clause-value : goal.returns-clause-value
returns-clause-value c log t =
    let bytes = c.args.bytes.now in
    let rest = c.loop-taken.rest.now in
    let i = c.loop-taken.invariant in
    let so_far = i.value log t in
    let front = log ++ take (length bytes - length rest) bytes in
    let fed = c.in_default.ensures.value in
    let now = fed.1 front so_far.taken in
    let whole : front ++ rest ≡ log ++ bytes = all_done log bytes rest i.rest_is in
    subst (λ (xs : List ℕ). HasGathered xs c.feed.new.self c.loop-taken.pages) whole
    (gather_none front rest c.loop-taken.scan c.feed.new.self c.in_default.ensures.head c.loop-taken.pages so_far
    now.0 now.1)
