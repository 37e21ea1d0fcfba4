use Rattle.std.proofs.Common.{◌≡◌, drop}
use Rattle.std.specs.FinMap.{keys}
use Rattle.ltx_format.specs.Reading.{numbers_at}
use Rattle.ltx_format.proofs.entries.index_of.Given as goal

abbrev pub invariant-loop-at : goal.invariant-loop-at
invariant-loop-at l = numbers_at (drop l.at (keys l.pages)) l.rest ≡ numbers_at (keys l.pages) l.bytes
