use Rattle.std.proofs.Common.{length, ◌∙◌, arith}
use Rattle.ltx_reader.specs.Reader.{bytes_named}
use Rattle.ltx_reader.proofs.ReaderGivenLemmas.{gives_then, gives_some}
use Rattle.ltx_reader.proofs.ReaderFillLemmas.{read_more, filled_none, within_more}
use Rattle.ltx_reader.proofs.filling.fill.Goals as goal

pub returns-then-count-eq0-clause-value : goal.returns-then-count-eq0-clause-value
returns-then-count-eq0-clause-value g c = λ events told.
    let more = read_more events c.args.name.now c.loop-done.into c.read_at.new.into c.loop-done.done c.args.at
    c.in_ok-count.count c.loop-done.invariant.within (c.loop-done.invariant.there events told)
    (c.loop-done.invariant.filled events told) (c.in_ok-count.ensures.value events
    (c.loop-done.invariant.unchanged ∙ told)) in
    filled_none (bytes_named events c.args.name.now) c.loop-done.into c.read_at.new.into c.loop-done.done c.args.at
    c.in_ok-count.count (length c.args.into.now) c.if-count-eq0.true c.loop-done-test.true (omega arith) more

pub loop-done-preserved : goal.loop-done-preserved
loop-done-preserved g c = record {
  are_bytes = λ k. omega (arith, c.type_inv.into k);
  within = within_more c.loop-done.into c.read_at.new.into c.loop-done.done c.in_ok-count.count
      c.loop-done.invariant.within c.in_ok-count.ensures.bound c.read_at.auto.into;
  unchanged = c.in_ok-count.ensures.unchanged ∙ c.loop-done.invariant.unchanged;
  same_folder = c.in_ok-count.ensures.same_folder ∙ c.loop-done.invariant.same_folder;
  later = omega (arith, c.in_ok-count.ensures.cause.later, c.loop-done.invariant.later);
  gave = gives_then c.loop-done.done c.in_ok-count.count _ _ _ _ c.loop-done.invariant.gave
      (gives_some c.in_ok-count.count c.in_ok-count.count _ _ (omega arith) c.in_ok-count.ensures.gave) (omega arith);
  there = λ events told. (read_more events c.args.name.now c.loop-done.into c.read_at.new.into c.loop-done.done
      c.args.at c.in_ok-count.count c.loop-done.invariant.within (c.loop-done.invariant.there events told)
      (c.loop-done.invariant.filled events told) (c.in_ok-count.ensures.value events
      (c.loop-done.invariant.unchanged ∙ told))).there;
  filled = λ events told. (read_more events c.args.name.now c.loop-done.into c.read_at.new.into c.loop-done.done
      c.args.at c.in_ok-count.count c.loop-done.invariant.within (c.loop-done.invariant.there events told)
      (c.loop-done.invariant.filled events told) (c.in_ok-count.ensures.value events
      (c.loop-done.invariant.unchanged ∙ told))).filled;
}
