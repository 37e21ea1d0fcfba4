-- How the calls of the scripted writer begin, and what `read` notes.
use Rattle.std.specs.Prelude.{◌≡◌, ℕ, ◌+◌, ◌≤◌, ◌⊎◌, ◌==◌, List, ◌++◌, length, Bool, true, false, Result, Ok, Err}
use Rattle.ls_base.specs.declared.memory.Memory.{Memory}
use Rattle.ls_base.specs.declared.place.Place.{Place}
use Rattle.live_gate.specs.declared.answer.Pass.{Pass}
use Rattle.live_gate.specs.declared.answer.Pass.TheVariants.{Passed, Kept}
use Rattle.live_gate.specs.LiveCalls.{capped}
use Rattle.live_gate.specs.LiveRecord.{is_at_rest}
use Rattle.sim_writer.specs.Commits.{counted}
use Rattle.sim_writer.specs.OwnPass.{CanPass, TakesPass}
use Rattle.sim_writer.specs.Passing.{IsReadFrom}
use Rattle.sim_writer.specs.SimState.{SimState}

-- a fault stood for the call, or a stop where it isn't `attach`; it was counted
pub record Fails (attaches : Bool) (old new : SimState) : Type 0 where
  pub why : (old.fails ≡ true) ⊎ ((old.machine.stopped ≡ true) × (attaches ≡ false))
  pub is : new ≡ record old { fails = false; faults = counted old.faults }

-- none stood, and nothing changed
pub record Goes (attaches : Bool) (old new : SimState) : Type 0 where
  pub no_fault : old.fails ≡ false
  pub runs : attaches ≡ false → old.machine.stopped ≡ false
  pub is : new ≡ old

-- The bytes were answered. It is counted exactly where they pass for committed ones by chance.
pub record Notes (got : List ℕ) (old new : SimState) : Type 0 where
  pub chance : IsReadFrom old.machine.committed old.asked.aimed (old.asked.answered ++ got)
      ⊎ (new.machine.chances ≡ counted old.machine.chances)
  pub calm : IsReadFrom old.machine.committed old.asked.aimed (old.asked.answered ++ got)
      → new.machine.chances ≡ old.machine.chances
  pub later : old.machine.chances ≤ new.machine.chances
  pub is : new ≡ record old {
    machine = record old.machine { chances = new.machine.chances };
    asked = record old.asked {
      answered = old.asked.answered ++ got;
      gave_none = length got == 0;
      taken = capped (old.asked.taken + length got);
    };
  }

-- why a pass is kept: it is refused, or the last mark hasn't the place or the gate isn't held there
abbrev pub IsKeptNow : Place → SimState → Type 0
IsKeptNow place s =
    ((s.machine.refuses ≡ true) ⊎ (is_at_rest s.attached ≡ false)) ⊎ (CanPass place s.machine → ⊥)

-- what makes it take place
pub record MayPass (place : Place) (s : SimState) : Type 0 where
  pub refuses : s.machine.refuses ≡ false
  pub at_rest : is_at_rest s.attached ≡ true
  pub can : CanPass place s.machine

-- A pass takes place exactly where it may. Where it is kept, and for want of memory, nothing changes.
abbrev pub PassesNow : Place → Result Pass Memory → SimState → SimState → Type 0
PassesNow place (Ok Passed) old new =
    MayPass place old × TakesPass place old.machine new.machine
    × (new ≡ record old {
      machine = new.machine;
      asked = record old.asked { passes_done = counted old.asked.passes_done };
    })
PassesNow place (Ok Kept) old new = IsKeptNow place old × (new ≡ old)
PassesNow place (Err memory) old new = new ≡ old
