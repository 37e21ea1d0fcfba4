-- Reading the log.
use Rattle.std.specs.Prelude.{◌≡◌, ℕ, ◌<◌, ◌≤◌, List, length, take, drop}
use Rattle.live_gate.specs.LiveCalls.{AgreeInFront}
use Rattle.sim_writer.specs.declared.machine.Machine.{Machine}
use Rattle.sim_writer.specs.Sound.{log_of}

-- so many bytes of the log from the offset on stand at the front of the buffer, and none only where the log has none
pub record ReadsLog (m : Machine) (at room n : ℕ) (into : List ℕ) : Type 0 where
  pub bytes : take n into ≡ take n (drop at (log_of m))
  pub long : length (take n into) ≡ n
  pub some : 0 < room → at < length (log_of m) → 1 ≤ n
  pub agrees : AgreeInFront (take n into) (drop at m.committed)
