use Rattle.std.proofs.Common.{take}
use Rattle.replica_store.specs.Chain.{names_of}
use Rattle.compact_levels.specs.Pile.{IsLastSoFar}
use Rattle.compact_levels.proofs.last.last_of.Given as goal

abbrev pub invariant-loop-one : goal.invariant-loop-one
invariant-loop-one l = IsLastSoFar (names_of (take l.one-index l.dated)) l.level l.last
