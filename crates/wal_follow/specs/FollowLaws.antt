-- What a follower that fits goes on with.
use Rattle.std.specs.Prelude.{◌≡◌, ℕ, true, false, Some, None}
use Rattle.ls_base.specs.declared.place.Place.{Place}
use Rattle.live_gate.specs.LiveRecord.{Database}
use Rattle.live_gate.specs.Legal.{IsLegal}
use Rattle.live_gate.specs.LiveCalls.{TakesPlace}
use Rattle.live_gate.specs.Step.{IsWriterStep}
use Rattle.wal_follow.specs.declared.following.Following.{Following}
use Rattle.wal_follow.specs.Following.{Fits, is_in_log}

-- A follower that fits goes on fitting under the gate, whatever the writer does, while its machine doesn't stop.
abbrev pub FitsStays : Type 0
FitsStays =
    (f : Following) (old new : Database) → IsWriterStep old new → new.stopped ≡ false → Fits f old → Fits f new

-- A pass of this run at the follower's place leaves a database that the follower fits once `passed` was called.
abbrev pub PassedFits : Type 0
PassedFits =
    (f : Following) (old new : Database) (place : Place) (pages : ℕ) → IsLegal old → TakesPlace place old new
    → f.place ≡ Some place → is_in_log (Some place) ≡ true → f.pages ≡ Some pages → Fits f old
    → Fits (record f { passed = true; found = None }) new
