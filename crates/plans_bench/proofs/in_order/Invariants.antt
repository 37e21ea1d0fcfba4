use Rattle.std.proofs.Common.{◌≡◌, ℕ, ◌+◌, ◌<◌, false, slice_index_or}
use Rattle.std.specs.Ordering.{is_lt}
use Rattle.replica_store.specs.declared.file_name.FileName.{FileName}
use Rattle.replica_store.specs.Chain.{list_order}
use Rattle.plans_bench.proofs.in_order.Given as goal

abbrev pub invariant-loop-at : goal.invariant-loop-at
invariant-loop-at l = (k : ℕ) (d : FileName) → k + 1 < l.at → is_lt
    (list_order (slice_index_or l.names (k + 1) d) (slice_index_or l.names k d)) ≡ false
