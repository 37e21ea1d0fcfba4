use Rattle.std.proofs.Common.{◌≡◌, ℕ, ◌<◌, Some}
use Rattle.std.specs.List.{slice_get}
use Rattle.ls_base.specs.declared.entry.Entry.{Entry}
use Rattle.ls_base.specs.History.{state_of}
use Rattle.sim_writer.proofs.history.History.has_twin.Given as goal

abbrev pub invariant-loop-at : goal.invariant-loop-at
invariant-loop-at l =
    (j : ℕ) (other : Entry) → j < l.at → slice_get l.self j ≡ Some other → other.place ≡ l.entry.place
    → state_of other ≡ state_of l.entry
