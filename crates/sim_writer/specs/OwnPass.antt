-- A pass: a checkpoint that a run makes itself.
use Rattle.std.specs.Prelude.{◌≡◌, false, [], Some}
use Rattle.ls_base.specs.declared.mark.Mark.{Mark}
use Rattle.ls_base.specs.declared.place.Place.{Place}
use Rattle.wal_frames.specs.Marks.{place_of, last_mark_of}
use Rattle.checkpointer.specs.Backfill.{IsCopied}
use Rattle.live_gate.specs.Coincidence.{CountsTwins}
use Rattle.live_gate.specs.LiveCalls.{TakesPlace}
use Rattle.sim_writer.specs.declared.machine.Machine.{Machine}
use Rattle.sim_writer.specs.Emptying.{IsNextHead}
use Rattle.sim_writer.specs.Sound.{database_of, log_of}

-- the last mark has this place, and the gate is held there
pub record CanPass (place : Place) (m : Machine) : Type 0 where
  pub mark : Mark
  pub last : last_mark_of m.committed ≡ Some mark
  pub at_place : place_of mark ≡ place
  pub held : m.held ≡ Some mark.end

-- All frames were copied into the file, a log of no bytes is left, and the gate is held at no mark. The next log keeps
-- the second salt.
pub record TakesPass (place : Place) (old new : Machine) : Type 0 where
  pub takes : TakesPlace place (database_of old) (database_of new)
  pub twins : CountsTwins (database_of old) (database_of new)
  pub mark : Mark
  pub last : last_mark_of old.committed ≡ Some mark
  pub copies : IsCopied old.head mark old.file old.committed new.file
  pub head : IsNextHead old.head.salt2 old.head new.head
  pub log : log_of new ≡ []
  pub headed : new.headed ≡ false
  pub refuses : new.refuses ≡ old.refuses
  pub stopped : new.stopped ≡ old.stopped
