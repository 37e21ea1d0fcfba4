use Rattle.std.proofs.Common.{◌≡◌, ◌++◌, take}
use Rattle.ltx_format.proofs.IndexLaws.{number_fields}
use Rattle.ltx_format.proofs.index_writer.put_numbers.Given as goal

abbrev pub invariant-loop-at : goal.invariant-loop-at
invariant-loop-at l = l.out ≡ l.initial.out ++ number_fields (take l.at l.numbers)
