use Rattle.std.proofs.Common.{length, take, false, ◌-◌, ◌≡◌, ◌≤◌}
use Rattle.live_gate.specs.LiveRecord.{GoesOn}
use Rattle.live_gate.specs.LiveCalls.{Keeps}
use Rattle.wal_follow.specs.LogReading.{HasRead}
use Rattle.wal_follow.proofs.reading.fill.Given as goal

abbrev pub invariant-loop-filled : goal.invariant-loop-filled
invariant-loop-filled g l =
    GoesOn (g.L.Live.told l.initial.live) (g.L.Live.told l.live) (λ old new. HasRead (take l.filled l.into) old new ×
    (1 ≤ l.filled → new.database.stopped ≡ false))
    × (l.filled ≤ length l.into) × (length l.into ≡ length l.initial.into)
    × Keeps (g.L.Live.attached l.initial.live) (g.L.Live.attached l.live) (g.L.Live.is_there l.initial.live)
    (g.L.Live.is_there l.live)
    × (g.L.Live.fault_count l.initial.live ≤ g.L.Live.fault_count l.live)

abbrev pub decreases-loop-filled : goal.decreases-loop-filled
decreases-loop-filled g l = length l.initial.into - l.filled
