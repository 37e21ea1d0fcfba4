use Rattle.std.proofs.Common.{take}
use Rattle.replica_store.specs.Chain.{names_of}
use Rattle.compact_levels.specs.Pile.{IsPileSoFar}
use Rattle.compact_levels.proofs.pile.pile_of.Given as goal

abbrev pub invariant-loop-one : goal.invariant-loop-one
invariant-loop-one l = IsPileSoFar (names_of (take l.one-index l.dated)) l.level l.after l.files
