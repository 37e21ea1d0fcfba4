use Rattle.std.proofs.Common.{◌∙◌, sym, arith}
use Rattle.std.specs.BinaryHeap.{heap_items}
use Rattle.std.proofs.lemmas.Bool.{false≢true}
use Rattle.std.proofs.lemmas.Option.{slice_get_within}
use Rattle.page_cursors.proofs.QueueLemmas.{pop_holds, pass_holds}
use Rattle.page_cursors.proofs.waiting.pop_waiting.Goals as goal

pub returns-then-waits-clause-holds : goal.returns-then-waits-clause-holds
returns-then-waits-clause-holds c =
    pop_holds (heap_items c.loop-number.heap) (heap_items c.pop.new.self) c.args.numbers.now c.in-Some.field-0.0.1
    c.in-Some.field-0.0.0
    (slice_get_within c.args.numbers.now _ _ (c.waits.ensures.0 c.if-waits.true)) c.in-Some.ensures.permutation
    c.loop-number.invariant.holds

pub loop-number-preserved : goal.loop-number-preserved
loop-number-preserved c = record {
  order = (c.in-Some.ensures.heap_order c.loop-number.invariant.order).0;
  holds = pass_holds (heap_items c.loop-number.heap)
      (heap_items c.pop.new.self) c.args.numbers.now c.in-Some.field-0.0.1 c.in-Some.field-0.0.0
      (λ waits. false≢true (sym c.if-waits.false ∙ c.waits.ensures.1 waits)) c.in-Some.ensures.permutation
      c.loop-number.invariant.holds;
  capacity = c.in-Some.ensures.capacity ∙ c.loop-number.invariant.capacity;
  fewer = omega (arith, c.in-Some.ensures.len, c.loop-number.invariant.fewer);
}
