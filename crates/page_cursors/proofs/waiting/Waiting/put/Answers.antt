use Rattle.std.proofs.Common.{◌∷◌, length, ap, arith}
use Rattle.std.specs.BinaryHeap.{KeepsHeap, heap_items}
use Rattle.std.specs.List.Sorted.{IsPermutation}
use Rattle.page_cursors.specs.Queue.{Queue, entry_order, entry_of}
use Rattle.page_cursors.proofs.QueueLemmas.{put_holds, when_ok}
use Rattle.page_cursors.proofs.waiting.Waiting.put.Goals as goal

pub invariant_of-self : goal.invariant_of-self
invariant_of-self c =
    let inside = c.self.inside in
    let ok = c.unwrap.ensures in (
      when_ok c.push.result c.unwrap.result (KeepsHeap entry_order (heap_items inside.heap)
          (heap_items c.push.new.self)) ok c.push.ensures.heap_order c.self.invariant.0,
      put_holds (heap_items inside.heap) (heap_items c.push.new.self) inside.numbers.items c.args.place c.args.number
          (omega (arith, c.requires.within, ap (λ (q : Queue). length q.numbers) c.self.view_is))
          (when_ok c.push.result c.unwrap.result (IsPermutation
          (entry_of c.args.number c.args.place ∷ heap_items inside.heap)
          (heap_items c.push.new.self)) ok c.push.ensures.permutation)
          c.self.invariant.1,
    )
