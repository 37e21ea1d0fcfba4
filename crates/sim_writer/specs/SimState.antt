-- What a contract sees of the scripted writer.
use Rattle.std.specs.Prelude.{◌≡◌, ◌≢◌, ℕ, List, [], length, Bool, true, false, Option, Some, None, Result}
use Rattle.std.specs.Prelude.{Ok, Err}
use Rattle.std.specs.List.{AllByRecursion, concat, slice_get}
use Rattle.ls_base.specs.declared.memory.Memory.{Memory}
use Rattle.ls_sums.specs.declared.order.Order.{Order}
use Rattle.wal_frames.specs.WalFormat.{HasFields}
use Rattle.live_gate.specs.LiveRecord.{Asked, Attachment, LiveRecord}
use Rattle.live_gate.specs.Legal.{IsLegal}
use Rattle.live_gate.specs.Step.{IsWriterStep}
use Rattle.live_gate.specs.Coincidence.{CountsTwins}
use Rattle.ls_base.specs.declared.entry.Entry.{Entry}
use Rattle.wal_frames.specs.declared.header.WalHeader.{WalHeader}
use Rattle.sim_writer.specs.declared.act.Act.{Act}
use Rattle.sim_writer.specs.declared.act.Act.TheVariants.{Commit, Loose, Backfill, Restart, Cut, Stop, Refuse, Fault}
use Rattle.sim_writer.specs.declared.machine.Machine.{Machine}
use Rattle.sim_writer.specs.CommitFrames.{SaysSize, IsCommit}
use Rattle.sim_writer.specs.Commits.{Commits, counted}
use Rattle.sim_writer.specs.Copying.{CanBackfill, Backfills}
use Rattle.sim_writer.specs.Emptying.{CanEmpty, BeginsAnew, CutsLog}
use Rattle.sim_writer.specs.Loose.{PutsLoose}
use Rattle.sim_writer.specs.Questions.{nothing_asked}
use Rattle.sim_writer.specs.Sound.{database_of, fresh}
use Rattle.sim_writer.specs.Stopping.{CanStop, StopsAt}

-- its name, its database and log, what was asked, to what it is attached, whether the next call is to fail, and its
-- counts
pub record SimState : Type 0 where
  pub name : List ℕ
  pub machine : Machine
  pub asked : Asked
  pub attached : Option Attachment
  pub fails : Bool
  pub faults : ℕ
  pub skipped : ℕ
  pub starved : ℕ

-- what is told
abbrev pub record_of : SimState → LiveRecord
record_of s = record { database = database_of s.machine; asked = s.asked }

-- ---- the beginning

-- there is a page, each has the page size, and the first says no other
pub record IsFirst (size : ℕ) (pages : List (List ℕ)) : Type 0 where
  pub some : pages ≢ []
  pub sized : AllByRecursion (λ page. length page ≡ size) pages
  pub says : (page : List ℕ) → slice_get pages 0 ≡ Some page → SaysSize size page

-- A legal database with these pages as its file, a log of no bytes and one entry. No coincidence is counted, nothing
-- was asked, and no act was skipped.
pub record Begins (name : List ℕ) (size : ℕ) (order : Order) (salts : ℕ × ℕ) (pages : List (List ℕ)) (new : SimState)
    : Type 0 where
  pub legal : IsLegal (database_of new.machine)
  pub head : WalHeader
  pub fields : HasFields head order size 0 salts.0 salts.1
  pub entry : Entry
  pub is : new ≡ record {
    name = name;
    machine = fresh head (concat pages) entry;
    asked = nothing_asked;
    attached = None;
    fails = false;
    faults = 0;
    skipped = 0;
    starved = 0;
  }

-- ---- acts

-- what makes the act legal
abbrev pub IsLegalAct : Act → SimState → Type 0
IsLegalAct (Commit pages size) s = IsCommit s.machine.head.size pages size
IsLegalAct (Loose bytes) s = Unit {0}
IsLegalAct (Backfill mark) s = CanBackfill mark s.machine
IsLegalAct (Restart salt2) s = CanEmpty s.machine
IsLegalAct Cut s = CanEmpty s.machine
IsLegalAct (Stop mark tail) s = CanStop mark s.machine
IsLegalAct (Refuse refuses) s = Unit {0}
IsLegalAct Fault s = Unit {0}

-- what it does
abbrev pub Does : Act → SimState → SimState → Type 0
Does (Commit pages size) old new =
    Commits pages size old.machine new.machine × (new ≡ record old { machine = new.machine })
Does (Loose bytes) old new = PutsLoose bytes old.machine new.machine × (new ≡ record old { machine = new.machine })
Does (Backfill mark) old new =
    Backfills mark old.machine new.machine × (new ≡ record old { machine = new.machine })
Does (Restart salt2) old new =
    BeginsAnew salt2 old.machine new.machine × (new ≡ record old { machine = new.machine })
Does Cut old new = CutsLog old.machine new.machine × (new ≡ record old { machine = new.machine })
Does (Stop mark tail) old new =
    StopsAt mark tail old.machine new.machine × (new ≡ record old { machine = new.machine })
Does (Refuse refuses) old new = new ≡ record old { machine = record old.machine { refuses = refuses } }
Does Fault old new = new ≡ record old { fails = true }

-- It is done exactly where it is legal; else it is counted, and nothing else changes.
abbrev pub ActsAs : Act → Result Bool Memory → SimState → SimState → Type 0
ActsAs act (Ok true) old new =
    IsLegalAct act old × Does act old new × IsWriterStep (database_of old.machine) (database_of new.machine)
    × CountsTwins (database_of old.machine) (database_of new.machine)
ActsAs act (Ok false) old new = (IsLegalAct act old → ⊥) × (new ≡ record old { skipped = counted old.skipped })
ActsAs act (Err memory) old new = new ≡ old
