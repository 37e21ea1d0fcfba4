-- What each call of a live database does to what it tells.
use Rattle.std.specs.Prelude.{◌≡◌, ℕ, ◌+◌, ◌-◌, ◌^◌, ◌<◌, ◌≤◌, ◌==◌, min, List, [], ◌∷◌, ◌++◌, length, take, drop, Bool}
use Rattle.std.specs.Prelude.{true, false, Option, Some, None, Result, Ok, Err, IsOk, IfOk, OnOk, OnErr, ◌⊎◌}
use Rattle.ls_base.specs.declared.entry.Entry.{Entry}
use Rattle.ls_base.specs.declared.mark.Mark.{Mark}
use Rattle.ls_base.specs.declared.place.Place.{Place}
use Rattle.ls_base.specs.Fault.{Rose}
use Rattle.ls_base.specs.History.{state_of}
use Rattle.wal_frames.specs.Marks.{last_mark_of, place_of}
use Rattle.wal_frames.specs.View.{file_page}
use Rattle.live_gate.specs.declared.answer.Attached.{Attached}
use Rattle.live_gate.specs.declared.answer.Attached.TheVariants.{Found, Absent}
use Rattle.live_gate.specs.declared.answer.Pass.{Pass}
use Rattle.live_gate.specs.declared.answer.Pass.TheVariants.{Passed, Kept}
use Rattle.live_gate.specs.declared.fault.LiveFault.{LiveFault}
use Rattle.live_gate.specs.declared.fault.PassFault.{PassFault}
use Rattle.live_gate.specs.LiveRecord.{Database, LiveRecord, Attachment, IsPrefix}
use Rattle.live_gate.specs.Legal.{IsLegal, IsMarkEnd}
use Rattle.live_gate.specs.Step.{IsWriterStep, IsStepButHold, IsStepButAttached}
use Rattle.live_gate.specs.Coincidence.{IsReadByChecksums, AddsNoTwins, CountsTwins}

-- a count that stays at the last value of a u64
abbrev pub capped : ℕ → ℕ
capped n = min n (2 ^ 64 - 1)

-- what a live database is attached to stays, and at which paths a database is
pub record Keeps
    (attached_before attached_now : Option Attachment) (there_before there_now : List ℕ → Bool) : Type 0 where
  pub attached : attached_now ≡ attached_before
  pub there : there_now ≡ there_before

-- what each call keeps to that leaves the hold: the writer's moves before it, and that each call on a machine that
-- stopped is a fault
pub record IsCall {T E : Type 0} (result : Result T E) (old new : Database) : Type 0 where
  pub step : IsWriterStep old new
  pub twins : CountsTwins old new
  pub awake : IsOk result → new.stopped ≡ false

-- ---- the gate

-- a database is found exactly where one is
abbrev pub found_at : Bool → Attached
found_at true = Found
found_at false = Absent

-- The older hold is given up. After a fault or for want of memory it may be given up, or be as before.
pub record Attaches (result : Result Attached PassFault) (old new : LiveRecord) : Type 0 where
  pub step : IsStepButAttached old.database new.database
  pub twins : CountsTwins old.database new.database
  pub ok : OnOk result ((new.database.held ≡ None) × (new.database.stopped ≡ false))
  pub err : OnErr result ((new.database.held ≡ old.database.held) ⊎ (new.database.held ≡ None))
  pub asked : new.asked ≡ old.asked

-- the gate is held at the copied mark
pub record Enters (result : Result (Unit {0}) LiveFault) (old new : LiveRecord) : Type 0 where
  pub step : IsStepButHold old.database new.database
  pub twins : CountsTwins old.database new.database
  pub awake : IsOk result → new.database.stopped ≡ false
  pub ok : OnOk result (new.database.held ≡ Some new.database.copied)
  pub err : OnErr result (IsWriterStep old.database new.database)
  pub asked : new.asked ≡ old.asked

-- where no coincidence is counted, the hold may move to a mark at or past the held one
abbrev pub MayAdvance : ℕ → Database → Type 0
MayAdvance end d = d.chances ≡ 0 → (held : ℕ) × (d.held ≡ Some held) × (held ≤ end) × IsMarkEnd d.committed end

-- the gate is held at the mark that ends there; after a coincidence the hold may stay
pub record Advances (end : ℕ) (result : Result (Unit {0}) LiveFault) (old new : LiveRecord) : Type 0 where
  pub step : IsStepButHold old.database new.database
  pub twins : CountsTwins old.database new.database
  pub awake : IsOk result → new.database.stopped ≡ false
  pub ok : OnOk result
      ((new.database.held ≡ Some end) ⊎ ((old.database.chances ≡ 0 → ⊥) × IsWriterStep old.database new.database))
  pub err : OnErr result (IsWriterStep old.database new.database)
  pub asked : new.asked ≡ old.asked

-- the gate is given up; after a fault it may be, or be as before
pub record Leaves (result : Result (Unit {0}) LiveFault) (old new : LiveRecord) : Type 0 where
  pub step : IsStepButHold old.database new.database
  pub twins : CountsTwins old.database new.database
  pub awake : IsOk result → new.database.stopped ≡ false
  pub ok : OnOk result (new.database.held ≡ None)
  pub err : OnErr result ((new.database.held ≡ old.database.held) ⊎ (new.database.held ≡ None))
  pub asked : new.asked ≡ old.asked

-- ---- the database file

-- the first 100 bytes of the file, or as many as it has
pub record GivesHead (result : Result ℕ LiveFault) (into : List ℕ) (old new : LiveRecord) : Type 0 where
  pub call : IsCall result old.database new.database
  pub value : IfOk result
      (λ n. (n ≡ length (take 100 new.database.file)) × (take n into ≡ take 100 new.database.file))
  pub ok : OnOk result (new.asked ≡ record old.asked { head = Some (take 100 new.database.file) })
  pub err : OnErr result (new.asked ≡ old.asked)

pub record GivesDbSize (result : Result ℕ LiveFault) (old new : LiveRecord) : Type 0 where
  pub call : IsCall result old.database new.database
  pub value : IfOk result (λ n. n ≡ length new.database.file)
  pub ok : IfOk result (λ n. new.asked ≡ record old.asked { db_size = Some n })
  pub err : OnErr result (new.asked ≡ old.asked)

-- the page of this number, with zeros past the end of the file
pub record GivesPage
    (size number : ℕ) (result : Result (Unit {0}) LiveFault) (into : List ℕ) (old new : LiveRecord) : Type 0 where
  pub call : IsCall result old.database new.database
  pub value : OnOk result (into ≡ file_page size new.database.file number)
  pub asked : new.asked ≡ old.asked

-- ---- the log

-- no less than the length of the committed part
pub record GivesLogSize (result : Result ℕ LiveFault) (old new : LiveRecord) : Type 0 where
  pub call : IsCall result old.database new.database
  pub value : IfOk result (λ n. length new.database.committed ≤ n)
  pub ok : IfOk result (λ n. new.asked ≡ record old.asked { wal_size = Some n })
  pub err : OnErr result (new.asked ≡ old.asked)

pub record Aims (at : ℕ) (result : Result (Unit {0}) LiveFault) (old new : LiveRecord) : Type 0 where
  pub call : IsCall result old.database new.database
  pub ok : OnOk result (new.asked ≡ record old.asked { aimed = at; answered = [] })
  pub err : OnErr result (new.asked ≡ old.asked)

-- the bytes are the same as far as both lists go
abbrev pub AgreeInFront : List ℕ → List ℕ → Type 0
AgreeInFront xs ys = take (length xs) ys ≡ take (length ys) xs

-- the offset from which the next `read` answers
abbrev pub read_offset : LiveRecord → ℕ
read_offset r = r.asked.aimed + length r.asked.answered

-- These bytes were answered: inside the committed part its own, and at least one. Past it any may come.
pub record Answers (got : List ℕ) (old new : LiveRecord) : Type 0 where
  pub asked : new.asked ≡ record old.asked {
    answered = old.asked.answered ++ got;
    gave_none = length got == 0;
    taken = capped (old.asked.taken + length got);
  }
  pub some : read_offset old < length new.database.committed → 1 ≤ length got
  pub agrees : AgreeInFront got (drop (read_offset old) new.database.committed)
  -- bytes that aren't committed pass for such only where a coincidence was counted
  pub chance : IsReadByChecksums new ⊎ Rose old.database.chances new.database.chances
  pub twins : Rose old.database.chances new.database.chances ⊎ AddsNoTwins old.database.history new.database.history
  pub calm : IsReadByChecksums new → AddsNoTwins old.database.history new.database.history
      → new.database.chances ≡ old.database.chances

pub record Reads (result : Result ℕ LiveFault) (into : List ℕ) (old new : LiveRecord) : Type 0 where
  pub step : IsWriterStep old.database new.database
  pub awake : IsOk result → new.database.stopped ≡ false
  pub ok : IfOk result (λ n. Answers (take n into) old new)
  pub err : OnErr result ((new.asked ≡ old.asked) × CountsTwins old.database new.database)

-- ---- a pass

-- The history ends with an entry of this place and the entry at rest of the same state.
pub record EndsAtRest (place : Place) (d : Database) : Type 0 where
  pub earlier : List Entry
  pub entry : Entry
  pub rest : Entry
  pub split : d.history ≡ earlier ++ entry ∷ rest ∷ []
  pub at_place : entry.place ≡ place
  pub same : state_of rest ≡ state_of entry

-- the gate is held at a mark of this place
abbrev pub IsHeldAt : Place → Option ℕ → Type 0
IsHeldAt place held = (mark : Mark) × (place_of mark ≡ place) × (held ≡ Some mark.end)

-- All frames were copied into the database file, and the log is empty. The gate was held at the last mark, and is held
-- at no mark.
pub record TakesPlace (place : Place) (old new : Database) : Type 0 where
  pub legal : IsLegal old → IsLegal new
  pub history : IsPrefix old.history new.history
  pub chances : old.chances ≤ new.chances
  pub was_held : IsHeldAt place old.held
  pub emptied : new.committed ≡ []
  pub held : new.held ≡ Some 0
  pub ends : EndsAtRest place new

-- why a pass changes nothing
abbrev pub IsKept : Place → Bool → Database → Type 0
IsKept place at_rest d =
    (d.refuses ≡ true)
    ⊎ ((at_rest ≡ false)
    ⊎ ((mark : Mark) → last_mark_of d.committed ≡ Some mark → place_of mark ≡ place → d.held ≡ Some mark.end → ⊥))

-- what `pass` did
abbrev pub Passes : Place → Bool → Result Pass PassFault → LiveRecord → LiveRecord → Type 0
Passes place at_rest (Ok Passed) old new =
    TakesPlace place old.database new.database × CountsTwins old.database new.database
    × (at_rest ≡ true) × (new.database.stopped ≡ false)
    × (new.asked ≡ record old.asked {
      passes_asked = capped (old.asked.passes_asked + 1);
      passes_done = capped (old.asked.passes_done + 1);
    })
Passes place at_rest (Ok Kept) old new =
    IsCall {T = Pass} {E = PassFault} (Ok Kept) old.database new.database × IsKept place at_rest new.database
    × (new.asked ≡ record old.asked { passes_asked = capped (old.asked.passes_asked + 1) })
Passes place at_rest (Err fault) old new =
    (TakesPlace place old.database new.database ⊎ IsWriterStep old.database new.database)
    × CountsTwins old.database new.database
    × (new.asked ≡ record old.asked { passes_asked = capped (old.asked.passes_asked + 1) })
