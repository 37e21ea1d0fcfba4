use Rattle.std.proofs.Common.{◌≡◌, ℕ, ◌-◌, ◌<◌, List, length, Some, None}
use Rattle.std.specs.Prelude.{◌≢◌}
use Rattle.std.specs.List.{slice_get}
use Rattle.std.specs.FinMap.{get, keys}
use Rattle.sim_writer.specs.CommitFrames.{IsCommittable}
use Rattle.sim_writer.proofs.frames.is_commit.Given as goal

abbrev pub invariant-loop-number : goal.invariant-loop-number
invariant-loop-number l = record {
  some : slice_get (keys l.pages) 0 ≢ None;
  each : (k n : ℕ) (page : List ℕ) → k < l.at → slice_get (keys l.pages) k ≡ Some n → get l.pages n ≡ Some page
      → IsCommittable l.page_size l.size n page;
}

abbrev pub decreases-loop-number : goal.decreases-loop-number
decreases-loop-number l = length (keys l.pages) - l.at
