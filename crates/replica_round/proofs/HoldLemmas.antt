-- A follower that fits goes on fitting once the hold has moved to its place.
use Rattle.std.proofs.Common.{◌≡◌, ℕ, Bool, true, false, Option, Some, None, Result, Ok, Err}
use Rattle.std.proofs.Common.{refl, sym, subst, ◌∙◌, inl, inr, arith}
use Rattle.ls_base.specs.declared.place.Place.{Place}
use Rattle.ls_base.specs.declared.place.Place.TheVariants.{Wal, Rest}
use Rattle.live_gate.specs.declared.fault.LiveFault.{LiveFault}
use Rattle.live_gate.specs.LiveRecord.{Database, LiveRecord}
use Rattle.live_gate.specs.LiveCalls.{Advances, MayAdvance}
use Rattle.live_gate.specs.Step.{IsWriterStep, IsStepButHold}
use Rattle.live_gate.proofs.StepLemmas.{step_itself, step_join}
use Rattle.wal_follow.specs.declared.following.Following.{Following}
use Rattle.wal_follow.specs.declared.following.Target.{Target}
use Rattle.wal_follow.specs.Following.{Fits, FitsRecorded}
use Rattle.wal_follow.specs.LogEnd.{log_end_at, log_end_of}
use Rattle.wal_follow.proofs.FitsLemmas.{fits_stays}
use Rattle.replica_sync.specs.LiveSide.{MayAdvanceTo}
use Rattle.replica_round.specs.ChangesLive.{IsHeldAt}
use Rattle.replica_round.specs.Steps.{MovesHold, HoldsAt}

-- ---- steps

-- a step is one whose hold is as it became
pub but_hold : (old new : Database) → IsWriterStep old new → IsStepButHold old new
but_hold old new step = record { held = new.held; step = step; legal = step.legal }

pub step_but_hold : (old mid new : Database) → IsWriterStep old mid → IsStepButHold mid new → IsStepButHold old new
step_but_hold old mid new first on = record {
  held = on.held;
  step = step_join old mid (record new { held = on.held }) first on.step;
  legal = λ is. on.legal (first.legal is);
}

-- ---- the hold was moved

-- a place in the log stands there wherever the gate is held
held_elsewhere : (f : Following) (old new : Database) → f.passed ≡ false → f.found ≡ None → IsStepButHold old new
    → new.stopped ≡ false → (end : ℕ) → new.held ≡ Some end → Fits f old → Fits f new
held_elsewhere f old new stays none moved awake end held fits =
    let between : Database = record new { held = moved.held } in
    let at : Fits f between = fits_stays f old between moved.step awake fits in
    record {
      gate = (end, held);
      calm = λ calm.
          let c = at.calm calm in
          record {
            passed = λ is. absurd (apart (sym is ∙ stays));
            recorded = λ a b in_log.
                let r : FitsRecorded f between = c.recorded a b in_log in
                record {
                  h = r.h;
                  mark = r.mark;
                  accepted = r.accepted;
                  is_mark = r.is_mark;
                  place = r.place;
                  pages = r.pages;
                  head = r.head;
                  offsets = r.offsets;
                };
            learned = c.learned;
            found = λ target is. absurd (nothing target (sym none ∙ is));
          };
    }
  where
    apart : true ≡ false → ⊥
    apart e = cc

    nothing : (target : Target) → ◌≡◌ {A = Option Target} None (Some target) → ⊥
    nothing target e = cc

module _ (f : Following) (old new : LiveRecord) (none : f.found ≡ None) (fits : Fits f old.database)
    (moved : IsStepButHold old.database new.database) (awake : new.database.stopped ≡ false) where
  fits_at : (passed : Bool) (end : Option ℕ) → f.passed ≡ passed → log_end_of f passed ≡ end → MovesHold end old new
      → Fits f new.database
  fits_at passed None is at same = subst (λ (r : LiveRecord). Fits f r.database) (sym same) fits
  fits_at true (Some end) is at moves = absurd (differ at)
    where
      differ : ◌≡◌ {A = Option ℕ} None (Some end) → ⊥
      differ e = cc
  fits_at false (Some end) is at (inl held) =
      held_elsewhere f old.database new.database is none moved awake end held fits
  fits_at false (Some end) is at (inr stayed) = fits_stays f old.database new.database stayed.1 awake fits

  pub fits_moved : MovesHold (log_end_of f f.passed) old new → Fits f new.database
  fits_moved moves = fits_at f.passed (log_end_of f f.passed) refl refl moves

-- where the gate is then held
module _ (f : Following) (old new : LiveRecord) (may : f.passed ≡ false → MayAdvanceTo f.place old.database)
    (moved : IsStepButHold old.database new.database) (fits : Fits f new.database) (calm : new.database.chances ≡ 0)
  where
    calm_before : old.database.chances ≡ 0
    calm_before = let more = moved.step.chances in omega (arith, more, calm)

    at_place : (place : Option Place) → f.passed ≡ false → f.place ≡ place → MovesHold (log_end_at place) old new
        → IsHeldAt false place new.database
    at_place None is at moves = tt
    at_place (Some (Rest sum)) is at same =
        subst (λ (r : LiveRecord). r.database.held ≡ Some 0) (sym same)
        (subst (λ (p : Option Place). MayAdvanceTo p old.database) at (may is) calm_before)
    at_place (Some (Wal a b end s0 s1)) is at (inl held) = held
    at_place (Some (Wal a b end s0 s1)) is at (inr stayed) = absurd (stayed.0 calm_before)

    held_at : (passed : Bool) → f.passed ≡ passed → MovesHold (log_end_of f passed) old new
        → IsHeldAt passed f.place new.database
    held_at true is moves = ((fits.calm calm).passed is).held
    held_at false is moves = at_place f.place is refl moves

    pub held_moved : MovesHold (log_end_of f f.passed) old new → IsHeldAt f.passed f.place new.database
    held_moved moves = held_at f.passed refl moves

-- ---- the call

pub holds_there : (end : ℕ) (result : Result (Unit {0}) LiveFault) (old new : LiveRecord) → Advances end result old new
    → HoldsAt (Some end) result old new
holds_there end (Ok done) old new is =
    record { step = is.step; awake = λ ok was. is.awake ok; ok = λ ok. is.ok; err = tt; asked = is.asked }
holds_there end (Err fault) old new is =
    record {
      step = is.step;
      awake = λ ok was. is.awake ok;
      ok = λ ok. absurd (never ok);
      err = is.err;
      asked = is.asked;
    }
  where
    never : false ≡ true → ⊥
    never e = cc

-- nothing is asked where there is no place in the log
pub holds_nowhere : (r : LiveRecord) → HoldsAt None (Ok tt) r r
holds_nowhere r = record {
  step = but_hold r.database r.database (step_itself r.database);
  awake = λ ok was. was;
  ok = λ ok. refl;
  err = tt;
  asked = refl;
}

-- the hold may move to the end of a place in the log
may_advance : (place : Option Place) (end : ℕ) (d : Database) → log_end_at place ≡ Some end → MayAdvanceTo place d
    → MayAdvance end d
may_advance None end d is may = absurd (differ is)
  where
    differ : ◌≡◌ {A = Option ℕ} None (Some end) → ⊥
    differ e = cc
may_advance (Some (Rest sum)) end d is may = absurd (differ is)
  where
    differ : ◌≡◌ {A = Option ℕ} None (Some end) → ⊥
    differ e = cc
may_advance (Some (Wal a b e s0 s1)) end d is may = subst (λ (n : ℕ). MayAdvance n d) (same is) may
  where
    same : ◌≡◌ {A = Option ℕ} (Some e) (Some end) → e ≡ end
    same e = cc

pub may_advance_to : (f : Following) (end : ℕ) (d : Database) → log_end_of f f.passed ≡ Some end
    → (f.passed ≡ false → MayAdvanceTo f.place d) → MayAdvance end d
may_advance_to f end d is may = by f.passed refl is
  where
    none : ◌≡◌ {A = Option ℕ} None (Some end) → ⊥
    none e = cc

    by : (passed : Bool) → f.passed ≡ passed → log_end_of f passed ≡ Some end → MayAdvance end d
    by true stays ends = absurd (none ends)
    by false stays ends = may_advance f.place end d ends (may stays)
