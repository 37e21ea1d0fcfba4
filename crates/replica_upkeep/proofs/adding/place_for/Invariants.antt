use Rattle.std.proofs.Common.{◌≡◌, ◌-◌, ◌<◌, true}
use Rattle.std.specs.Prelude.{IfSome, slice_get}
use Rattle.std.specs.Ordering.{is_lt}
use Rattle.replica_store.specs.Chain.{list_order}
use Rattle.replica_upkeep.proofs.adding.place_for.Given as goal

abbrev pub invariant-loop-at : goal.invariant-loop-at
invariant-loop-at l = 0 < l.at → IfSome (slice_get l.dated (l.at - 1))
    (λ one. is_lt (list_order one.name l.name) ≡ true)
