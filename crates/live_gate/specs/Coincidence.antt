-- Checksum coincidences: bytes that pass for committed ones though they aren't, and states that pass for one.
use Rattle.std.specs.Prelude.{◌≡◌, ℕ, ◌≤◌, List, ◌++◌, length, take, Some, ◌⊎◌}
use Rattle.std.specs.List.{slice_get}
use Rattle.ls_base.specs.declared.entry.Entry.{Entry}
use Rattle.ls_base.specs.declared.mark.Mark.{Mark}
use Rattle.ls_base.specs.Fault.{Rose}
use Rattle.ls_base.specs.History.{History, state_of}
use Rattle.wal_frames.specs.Marks.{last_mark_of}
use Rattle.live_gate.specs.LiveRecord.{Database, LiveRecord, IsPrefix}

-- what a reader has: the committed bytes before the offset that it aimed at, and those answered since
abbrev pub read_bytes : LiveRecord → List ℕ
read_bytes r = take r.asked.aimed r.database.committed ++ r.asked.answered

-- Where the aim is within the committed part or at its end, what was read is committed up to its own last mark. The
-- checksums of the frames say so unless bytes that aren't committed match them by chance.
abbrev pub IsReadByChecksums : LiveRecord → Type 0
IsReadByChecksums r =
    r.asked.aimed ≤ length r.database.committed
    → (mark : Mark) → last_mark_of (read_bytes r) ≡ Some mark
    → IsPrefix (take mark.end (read_bytes r)) r.database.committed

-- each entry that came has the state of each entry of its place
abbrev pub AddsNoTwins : History → History → Type 0
AddsNoTwins old new =
    (j k : ℕ) (a b : Entry) → length old ≤ k → slice_get new j ≡ Some a → slice_get new k ≡ Some b
    → a.place ≡ b.place → state_of a ≡ state_of b

-- the count rises exactly where twins came
pub record CountsTwins (old new : Database) : Type 0 where
  pub rose : Rose old.chances new.chances ⊎ AddsNoTwins old.history new.history
  pub calm : AddsNoTwins old.history new.history → new.chances ≡ old.chances
