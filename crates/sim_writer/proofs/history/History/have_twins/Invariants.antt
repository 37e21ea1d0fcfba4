use Rattle.std.proofs.Common.{◌≡◌, ℕ, ◌<◌, Some}
use Rattle.std.specs.List.{slice_get}
use Rattle.ls_base.specs.declared.entry.Entry.{Entry}
use Rattle.sim_writer.specs.Twins.{HasNoTwin}
use Rattle.sim_writer.proofs.history.History.have_twins.Given as goal

abbrev pub invariant-loop-at : goal.invariant-loop-at
invariant-loop-at l =
    (k : ℕ) (entry : Entry) → k < l.at → slice_get l.more k ≡ Some entry → HasNoTwin l.self entry
