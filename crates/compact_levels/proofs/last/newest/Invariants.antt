use Rattle.std.proofs.Common.{take}
use Rattle.replica_store.specs.Chain.{names_of}
use Rattle.compact_levels.proofs.LastLemmas.{IsNewestSoFar}
use Rattle.compact_levels.proofs.last.newest.Given as goal

abbrev pub invariant-loop-one : goal.invariant-loop-one
invariant-loop-one l = IsNewestSoFar (names_of (take l.one-index l.dated)) l.newest
