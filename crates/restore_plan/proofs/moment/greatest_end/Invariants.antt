use Rattle.std.proofs.Common.{ℕ, ◌^◌, ◌≤◌, ◌<◌, get_or}
use Rattle.replica_store.specs.declared.dated_names.Dated.{Dated}
use Rattle.restore_plan.proofs.moment.greatest_end.Given as goal

abbrev pub invariant-loop-name : goal.invariant-loop-name
invariant-loop-name l =
    (l.greatest ≤ l.bound) × ((k : ℕ) (d : Dated) → k < l.name-index → (get_or l.dated k d).name.max < 2 ^ 64)
    × ((k : ℕ) (d : Dated) → k < l.name-index → (get_or l.dated k d).moment ≤ l.moment
    → (get_or l.dated k d).name.max ≤ l.bound → (get_or l.dated k d).name.max ≤ l.greatest)
