-- What is answered over a database file, where the log has no commit.
use Rattle.std.specs.Prelude.{◌≡◌, ℕ, ◌+◌, ◌-◌, ◌/◌, max, true, false, None, Result, IsOk}
use Rattle.std.specs.FinMap.{get}
use Rattle.live_gate.specs.LiveRecord.{Database, Asked, LiveRecord}
use Rattle.live_gate.specs.Step.{IsWriterStep}
use Rattle.wal_follow.specs.declared.answer.Next.{Next}
use Rattle.wal_follow.specs.declared.fault.FollowFault.{FollowFault}
use Rattle.wal_follow.specs.declared.following.Following.{Following}
use Rattle.wal_follow.specs.Answers.{FindsRest, Answers}
use Rattle.wal_follow.specs.Following.{Fits}

-- how many pages of this size so many bytes are, the last of them maybe in part, and at least one
abbrev pub pages_in : ℕ → ℕ → ℕ
pages_in size bytes = max 1 ((bytes + (size - 1)) / size)

-- asking of the database file changes nothing else of what was asked
pub record AsksOfTheFile (old new : Asked) : Type 0 where
  pub head : new.head ≡ old.head
  pub wal_size : new.wal_size ≡ old.wal_size
  pub taken : new.taken ≡ old.taken
  pub passes_asked : new.passes_asked ≡ old.passes_asked
  pub passes_done : new.passes_done ≡ old.passes_done

-- what was gathered is nothing
pub record HasNothing (f : Following) : Type 0 where
  pub fresh : f.fresh ≡ true
  pub empty : (number : ℕ) → get f.newer.offsets number ≡ None
  pub found : f.found ≡ None

pub record AnswersAtRest
    (size : ℕ) (f after : Following) (result : Result Next FollowFault) (old new : LiveRecord) : Type 0 where
  pub step : IsWriterStep old.database new.database
  pub asked : AsksOfTheFile old.asked new.asked
  pub awake : IsOk result → new.database.stopped ≡ false
  pub answers : (first : Database) → FindsRest first old.database size → Answers f result first new.database
  pub fits : (first : Database) → FindsRest first old.database size → HasNothing f
      → Fits f old.database → new.database.stopped ≡ false → Fits after new.database
