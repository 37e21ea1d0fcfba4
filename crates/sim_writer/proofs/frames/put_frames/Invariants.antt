use Rattle.std.proofs.Common.{◌≡◌, ◌-◌, ◌++◌, length, drop}
use Rattle.std.specs.List.{concat}
use Rattle.std.specs.FinMap.{keys}
use Rattle.wal_frames.specs.WalFrame.{frame_length}
use Rattle.sim_writer.specs.CommitFrames.{AreChecked, commit_frames, commit_sums}
use Rattle.sim_writer.proofs.frames.put_frames.Given as goal

abbrev pub invariant-loop-number : goal.invariant-loop-number
invariant-loop-number l = record {
  room : length l.buffer ≡ frame_length l.head;
  bytes : l.into ++ concat (commit_frames l.head l.sums l.pages l.size (drop l.at (keys l.pages)))
      ≡ l.fn.into ++ concat (commit_frames l.head l.fn.sums l.pages l.size (keys l.pages));
  after : commit_sums l.head l.sums l.pages l.size (drop l.at (keys l.pages))
      ≡ commit_sums l.head l.fn.sums l.pages l.size (keys l.pages);
  checked : AreChecked l.head l.sums l.pages l.size (drop l.at (keys l.pages))
      → AreChecked l.head l.fn.sums l.pages l.size (keys l.pages);
}

abbrev pub decreases-loop-number : goal.decreases-loop-number
decreases-loop-number l = length (keys l.pages) - l.at
