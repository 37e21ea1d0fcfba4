use Rattle.std.proofs.Common.{take}
use Rattle.replica_store.specs.Listing.{AreReadOf}
use Rattle.replica_store.proofs.listing.read_names.Given as goal

abbrev pub invariant-loop-at : goal.invariant-loop-at
invariant-loop-at l = AreReadOf (take l.at l.texts) l.names.items
