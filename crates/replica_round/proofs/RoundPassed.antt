-- The database goes on while a pass is asked.
use Rattle.std.proofs.Common.{Bool, true, false, Result, Ok, Err, sym, subst, inl, inr}
use Rattle.std.specs.Prelude.{◌⊎◌}
use Rattle.ls_base.specs.declared.place.Place.{Place}
use Rattle.live_gate.specs.declared.fault.PassFault.{PassFault}
use Rattle.live_gate.specs.LiveRecord.{Database, LiveRecord}
use Rattle.live_gate.specs.LiveCalls.{TakesPlace}
use Rattle.live_gate.specs.Step.{IsWriterStep}
use Rattle.live_gate.proofs.StepLemmas.{step_itself}
use Rattle.wal_follow.specs.declared.following.Following.{Following}
use Rattle.replica_round.specs.Later.{IsLater}
use Rattle.replica_round.specs.Passing.{PassesWhenLong, WasAsked}
use Rattle.replica_round.proofs.LaterLemmas.{later_step}

later_pass : (place : Place) (old new : Database) → TakesPlace place old new → IsLater old new
later_pass place old new took = record { legal = took.legal; history = took.history; chances = took.chances }

later_either : (place : Place) (old new : Database) → TakesPlace place old new ⊎ IsWriterStep old new → IsLater old new
later_either place old new (inl took) = later_pass place old new took
later_either place old new (inr step) = later_step old new step

later_asked : (f after : Following) (at_rest : Bool) (result : Result Bool PassFault) (old new : LiveRecord)
    → WasAsked f after at_rest result old new → IsLater old.database new.database
later_asked f after at_rest (Ok true) old new (asked, is) =
    later_pass asked.place old.database new.database asked.passes.0
later_asked f after at_rest (Ok false) old new (asked, is) =
    later_step old.database new.database asked.passes.0.step
later_asked f after at_rest (Err fault) old new (asked, is) =
    later_either asked.place old.database new.database asked.passes.0

-- whatever a pass answered
pub later_by : (f after : Following) (at_rest : Bool) (result : Result Bool PassFault) (old new : LiveRecord)
    → PassesWhenLong f after at_rest result old new → IsLater old.database new.database
later_by f after at_rest result old new (inl (long, asked)) = later_asked f after at_rest result old new asked
later_by f after at_rest (Ok true) old new (inr (short, unasked)) = absurd unasked
later_by f after at_rest (Err fault) old new (inr (short, unasked)) = absurd unasked
later_by f after at_rest (Ok false) old new (inr (short, unasked)) =
    subst (λ (x : LiveRecord). IsLater old.database x.database) (sym unasked.1)
    (later_step old.database old.database (step_itself old.database))
