use Rattle.std.proofs.Common.{◌≡◌, drop}
use Rattle.compact_levels.specs.Due.{file_moment}
use Rattle.compact_levels.proofs.moment.moment_of.Given as goal

abbrev pub invariant-loop-one : goal.invariant-loop-one
invariant-loop-one l = file_moment l.dated l.fn.name ≡ file_moment (drop l.one-index l.dated) l.fn.name
