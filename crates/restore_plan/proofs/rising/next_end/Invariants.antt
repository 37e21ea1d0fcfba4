use Rattle.std.proofs.Common.{◌≡◌, ℕ, ◌<◌, IfSome, slice_index}
use Rattle.std.specs.List.{Contains}
use Rattle.replica_store.specs.declared.file_name.FileName.{FileName}
use Rattle.replica_store.specs.Chain.{MayComeNext}
use Rattle.restore_plan.specs.Run.{levels}
use Rattle.restore_plan.specs.Walk.{AreWalks, IsEndOfNext, IsNoLater}
use Rattle.restore_plan.proofs.rising.next_end.Given as goal

abbrev pub invariant-loop-walk : goal.invariant-loop-walk
invariant-loop-walk l = record {
  walks : AreWalks l.names l.after l.walks;
  end : IfSome l.least (IsEndOfNext l.names l.after);
  least : (k : ℕ) (name : FileName) → k < l.walk-index → Contains l.names name → name.level ≡ slice_index levels k
      → MayComeNext l.after name → IsNoLater l.least name.max;
}
