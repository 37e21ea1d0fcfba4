-- What a round does to what a live database tells, at its exits behind the pass.
use Rattle.std.proofs.Common.{◌≡◌, ℕ, ◌+◌, Bool, true, false, Option, Some, None, Result, Ok, Err, refl, sym, ap, subst}
use Rattle.std.proofs.Common.{◌∙◌, inl, inr, arith}
use Rattle.std.specs.Prelude.{if◌then◌else◌, ◌⊎◌}
use Rattle.ls_base.specs.declared.place.Place.{Place}
use Rattle.ls_base.specs.declared.place.Place.TheVariants.{Wal, Rest}
use Rattle.live_gate.specs.declared.fault.PassFault.{PassFault}
use Rattle.live_gate.specs.declared.fault.PassFault.TheVariants as pass
use Rattle.live_gate.specs.LiveRecord.{Asked, Database, LiveRecord, Told, GoesOn, IfTold}
use Rattle.live_gate.specs.LiveCalls.{capped}
use Rattle.live_gate.specs.Legal.{IsLegal}
use Rattle.live_gate.specs.Step.{IsWriterStep, KeepsHold, HasStopped}
use Rattle.round_line.specs.declared.round.Round.{Round}
use Rattle.round_line.specs.declared.round.Synced.{Synced}
use Rattle.wal_follow.specs.declared.following.Following.{Following}
use Rattle.wal_follow.specs.Following.{Fits}
use Rattle.replica_upkeep.specs.declared.answer.UpkeepStop.{UpkeepStop}
use Rattle.replica_upkeep.specs.declared.answer.UpkeepStop.TheVariants as upkeep
use Rattle.replica_round.specs.declared.changing.Changed.{Changed}
use Rattle.replica_round.specs.ChangesLive.{ChangesLive, IsHeldAt}
use Rattle.replica_round.specs.Later.{IsLater}
use Rattle.replica_round.specs.LiveSide.{GoesBehind, HasRoundedLive, PassFails, UpkeepStops, ShowsRound, Rounds}
use Rattle.replica_round.specs.Passing.{IsLong, PassesWhenLong, WasAsked}
use Rattle.replica_round.specs.Stop.{MayHavePassed, stop_of_pass, stop_of_upkeep}
use Rattle.replica_round.proofs.LaterLemmas.{later_then, later_hold}
use Rattle.replica_round.proofs.RoundPassed.{later_by}

never : false ≡ true → ⊥
never e = cc

-- two steps, behind the second of which a fact holds
pub goes_fitting : (a b c : Told) (P Q R : LiveRecord → LiveRecord → Type 0) (F : LiveRecord → Type 0) → GoesOn a b P
    → GoesOn b c Q → IfTold c F
    → ((r mid after : LiveRecord) → P r mid → Q mid after → F after → R r after) → GoesOn a c R
goes_fitting a b c P Q R F first second fits each = record {
  told = λ r is.
      let mid = first.told r is in
      let after = second.told mid.0 mid.1 in
      (after.0, after.1, each r mid.0 after.0 mid.2 after.2 (fits after.0 after.1));
  silent = λ is. second.silent (first.silent is);
}

-- ---- the counts of passes

asked_once : (f after : Following) (at_rest : Bool) (result : Result Bool PassFault) (old new : LiveRecord)
    → WasAsked f after at_rest result old new → new.asked.passes_asked ≡ capped (old.asked.passes_asked + 1)
asked_once f after at_rest (Ok true) old new (asked, is) = ap (λ (a : Asked). a.passes_asked) asked.passes.4
asked_once f after at_rest (Ok false) old new (asked, is) = ap (λ (a : Asked). a.passes_asked) asked.passes.2
asked_once f after at_rest (Err fault) old new (asked, is) = ap (λ (a : Asked). a.passes_asked) asked.passes.2

not_asked : (f after : Following) (at_rest : Bool) (result : Result Bool PassFault) (old new : LiveRecord)
    → (IsLong f → ⊥) → PassesWhenLong f after at_rest result old new
    → new.asked.passes_asked ≡ old.asked.passes_asked
not_asked f after at_rest result old new short (inl (long, asked)) = absurd (short long)
not_asked f after at_rest (Ok true) old new short (inr (also, unasked)) = absurd unasked
not_asked f after at_rest (Err fault) old new short (inr (also, unasked)) = absurd unasked
not_asked f after at_rest (Ok false) old new short (inr (also, unasked)) =
    ap (λ (x : LiveRecord). x.asked.passes_asked) unasked.1

was_asked : (f after : Following) (at_rest : Bool) (result : Result Bool PassFault) (old new : LiveRecord) → IsLong f
    → PassesWhenLong f after at_rest result old new
    → new.asked.passes_asked ≡ capped (old.asked.passes_asked + 1)
was_asked f after at_rest result old new long (inl (also, asked)) = asked_once f after at_rest result old new asked
was_asked f after at_rest result old new long (inr (short, unasked)) = absurd (short long)

was_done : (f after : Following) (at_rest : Bool) (passed : Bool) (old new : LiveRecord)
    → PassesWhenLong f after at_rest (Ok passed) old new
    → new.asked.passes_done ≡ (if passed then capped (old.asked.passes_done + 1) else old.asked.passes_done)
was_done f after at_rest true old new (inl (long, (asked, is))) = ap (λ (a : Asked). a.passes_done) asked.passes.4
was_done f after at_rest false old new (inl (long, (asked, is))) = ap (λ (a : Asked). a.passes_done) asked.passes.2
was_done f after at_rest true old new (inr (short, unasked)) = absurd unasked
was_done f after at_rest false old new (inr (short, unasked)) =
    ap (λ (x : LiveRecord). x.asked.passes_done) unasked.1

-- ---- the hold

kept_hold : (end : ℕ) (old new : Database) → new.stopped ≡ false → KeepsHold end old new ⊎ HasStopped new
    → new.held ≡ Some end
kept_hold end old new awake (inl keeps) = keeps.held
kept_hold end old new awake (inr stops) = absurd (never (sym awake ∙ stops.stopped))

held_on : (passed : Bool) (place : Option Place) (old new : Database) → IsWriterStep old new → new.stopped ≡ false
    → IsHeldAt passed place old → IsHeldAt passed place new
held_on true place old new step awake is = kept_hold 0 old new awake (step.hold 0 is)
held_on false (Some (Wal a b end s0 s1)) old new step awake is = kept_hold end old new awake (step.hold end is)
held_on false (Some (Rest sum)) old new step awake is = kept_hold 0 old new awake (step.hold 0 is)
held_on false None old new step awake is = tt

-- what holds of the follower and the database behind a pass that was answered Ok
module _ (f after : Following) (at_rest : Bool) (old new : LiveRecord) (was_awake : old.database.stopped ≡ false) where
  awake_by : (passed : Bool) → PassesWhenLong f after at_rest (Ok passed) old new → new.database.stopped ≡ false
  awake_by true (inl (long, (asked, is))) = asked.passes.3
  awake_by false (inl (long, (asked, is))) = asked.passes.0.awake refl
  awake_by true (inr (short, unasked)) = absurd unasked
  awake_by false (inr (short, unasked)) = ap (λ (x : LiveRecord). x.database.stopped) unasked.1 ∙ was_awake

  hold_by : (passed : Bool) → PassesWhenLong f after at_rest (Ok passed) old new
      → IsHeldAt f.passed f.place old.database → IsHeldAt after.passed after.place new.database
  hold_by true (inl (long, (asked, is))) held =
      subst (λ (x : Following). IsHeldAt x.passed x.place new.database) (sym is) asked.passes.0.held
  hold_by false (inl (long, (asked, is))) held =
      subst (λ (x : Following). IsHeldAt x.passed x.place new.database) (sym is)
      (held_on f.passed f.place old.database new.database asked.passes.0.step (asked.passes.0.awake refl) held)
  hold_by true (inr (short, unasked)) held = absurd unasked
  hold_by false (inr (short, unasked)) held =
      subst (λ (x : Following). IsHeldAt x.passed x.place new.database) (sym unasked.0)
      (subst (λ (x : LiveRecord). IsHeldAt f.passed f.place x.database) (sym unasked.1) held)

-- ---- the exits

module _ (f kept after : Following) (at_rest : Bool) (changed : Changed) (old mid new : LiveRecord)
    (changes : ChangesLive f kept (Ok changed) old mid) where
  module _ (passed : Result Bool PassFault) (passes : PassesWhenLong kept after at_rest passed mid new) where
    went : GoesBehind at_rest f after changed.sync passed old new
    went = record {
      kept = kept;
      mid = mid;
      syncs = changes.shows;
      passes = passes;
      asked = λ long. was_asked kept after at_rest passed mid new long passes
          ∙ ap (λ (n : ℕ). capped (n + 1)) changes.passes.0;
      unasked = λ short. not_asked kept after at_rest passed mid new short passes ∙ changes.passes.0;
    }

    later : IsLater old.database new.database
    later = later_then old.database mid.database new.database
        (later_hold old.database mid.database changes.step) (later_by kept after at_rest passed mid new passes)

    legal : IsLegal new.database
    legal = (later_by kept after at_rest passed mid new passes).legal changes.legal

  -- the pass is refused
  shows_unpassed : (fault : PassFault) → PassFails at_rest f after fault old new
      → ShowsRound at_rest f after (Err (stop_of_pass fault)) old new
  shows_unpassed (pass.Live cause) is = inr (inr is)
  shows_unpassed pass.Memory is = inr (inr (inl is))

  may_have : (fault : PassFault) → MayHavePassed (stop_of_pass fault)
  may_have (pass.Live cause) = tt
  may_have pass.Memory = tt

  pub unpassed_rounds : (fault : PassFault) → PassesWhenLong kept after at_rest (Err fault) mid new
      → Rounds at_rest f after (Err (stop_of_pass fault)) old new
  unpassed_rounds fault passes = record {
    later = later (Err fault) passes;
    legal = legal (Err fault) passes;
    awake = λ ok. absurd (never ok);
    fits = λ sure. absurd (sure (may_have fault));
    hold = λ ok. absurd (never ok);
    shows = shows_unpassed fault (record { synced = changed.sync; behind = went (Err fault) passes });
  }

  module _ (passed : Bool) (passes : PassesWhenLong kept after at_rest (Ok passed) mid new)
      (fits : Fits after new.database) where
    rounded : HasRoundedLive at_rest f after changed.sync passed old new
    rounded = record {
      behind = went (Ok passed) passes;
      done = was_done kept after at_rest passed mid new passes
          ∙ ap (λ (n : ℕ). if passed then capped (n + 1) else n) changes.passes.1;
    }

    -- the upkeep is
    shows_unkept : (cause : UpkeepStop) → UpkeepStops at_rest f after old new
        → ShowsRound at_rest f after (Err (stop_of_upkeep cause)) old new
    shows_unkept (upkeep.Damaged name damage) is = inr is
    shows_unkept (upkeep.PageMissing name number) is = is
    shows_unkept (upkeep.Store cause) is = inr (inr is)
    shows_unkept upkeep.Memory is = inr (inr (inr is))

    pub unkept_rounds : (cause : UpkeepStop) → Rounds at_rest f after (Err (stop_of_upkeep cause)) old new
    unkept_rounds cause = record {
      later = later (Ok passed) passes;
      legal = legal (Ok passed) passes;
      awake = λ ok. absurd (never ok);
      fits = λ sure awake. fits;
      hold = λ ok. absurd (never ok);
      shows = shows_unkept cause (record { synced = changed.sync; passed = passed; rounded = rounded });
    }

    -- all is done
    pub done_rounds : (round : Round) → round.sync ≡ changed.sync → round.passed ≡ passed
        → Rounds at_rest f after (Ok round) old new
    done_rounds round sync_same passed_same = record {
      later = later (Ok passed) passes;
      legal = legal (Ok passed) passes;
      awake = λ ok. awake_by kept after at_rest mid new (changes.awake refl) passed passes;
      fits = λ sure awake. fits;
      hold = λ ok calm. hold_by kept after at_rest mid new (changes.awake refl) passed passes
          (changes.hold refl (calm_before calm));
      shows = subst (λ (one : Synced). HasRoundedLive at_rest f after one round.passed old new) (sym sync_same)
          (subst (λ (b : Bool). HasRoundedLive at_rest f after changed.sync b old new) (sym passed_same) rounded);
    }
      where
        calm_before : new.database.chances ≡ 0 → mid.database.chances ≡ 0
        calm_before calm =
            let up = (later_by kept after at_rest (Ok passed) mid new passes).chances in omega (arith, up, calm)
