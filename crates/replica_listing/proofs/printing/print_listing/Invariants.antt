use Rattle.std.proofs.Common.{◌≤◌, ◌++◌, length, drop}
use Rattle.replica_listing.specs.Listing.{file_lines, listing}
use Rattle.replica_listing.specs.Printing.{HasPutUpTo}
use Rattle.replica_listing.proofs.printing.print_listing.Given as goal

abbrev pub invariant-loop-at : goal.invariant-loop-at
invariant-loop-at g l = record {
  within : l.at ≤ length l.dated;
  put : HasPutUpTo (g.O.Out.text l.initial.out) (g.O.Out.text l.out) (listing l.dated l.sizes)
      (l.piece.items ++ file_lines (drop l.at l.dated) (drop l.at l.sizes));
  later : g.O.Out.fault_count l.initial.out ≤ g.O.Out.fault_count l.out;
}
