use Rattle.std.proofs.Common.{◌≡◌, ◌++◌, take}
use Rattle.std.specs.FinMap.{keys}
use Rattle.ltx_format.proofs.IndexLaws.{number_fields}
use Rattle.ltx_format.proofs.writing.put_index.Given as goal

abbrev pub invariant-loop-at : goal.invariant-loop-at
invariant-loop-at l = l.out ≡ l.initial.out ++ number_fields (take l.at (keys l.pages))
