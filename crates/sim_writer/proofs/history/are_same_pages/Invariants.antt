use Rattle.std.proofs.Common.{◌≡◌, ℕ, ◌<◌, length}
use Rattle.std.specs.List.{slice_get}
use Rattle.sim_writer.proofs.history.are_same_pages.Given as goal

abbrev pub invariant-loop-at : goal.invariant-loop-at
invariant-loop-at l = record {
  many : length l.a ≡ length l.b;
  same : (k : ℕ) → k < l.at → slice_get l.a k ≡ slice_get l.b k;
}
