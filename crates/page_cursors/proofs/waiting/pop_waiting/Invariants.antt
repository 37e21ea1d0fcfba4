use Rattle.std.proofs.Common.{◌≡◌, ◌≤◌}
use Rattle.std.specs.BinaryHeap.{IsHeap, heap_items, heap_len, heap_capacity}
use Rattle.page_cursors.specs.Queue.{entry_order, HoldsEach}
use Rattle.page_cursors.proofs.waiting.pop_waiting.Given as goal

abbrev pub invariant-loop-number : goal.invariant-loop-number
invariant-loop-number l = record {
  order : IsHeap entry_order (heap_items l.heap);
  holds : HoldsEach (heap_items l.heap) l.numbers;
  capacity : heap_capacity l.heap ≡ heap_capacity l.fn.heap;
  fewer : heap_len l.heap ≤ heap_len l.fn.heap;
}

abbrev pub decreases-loop-number : goal.decreases-loop-number
decreases-loop-number l = heap_len l.heap
