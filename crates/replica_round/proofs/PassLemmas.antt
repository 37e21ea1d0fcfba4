-- A pass that is asked where the log is long.
use Rattle.std.proofs.Common.{◌≡◌, ℕ, ◌≤◌, Bool, true, false, Option, Some, None, Result, Ok, Err, refl, sym, subst}
use Rattle.std.proofs.Common.{inl, arith}
use Rattle.ls_base.specs.declared.place.Place.{Place}
use Rattle.ls_base.specs.declared.place.Place.TheVariants.{Wal, Rest}
use Rattle.live_gate.specs.declared.answer.Pass.{Pass}
use Rattle.live_gate.specs.declared.answer.Pass.TheVariants.{Passed, Kept}
use Rattle.live_gate.specs.declared.fault.PassFault.{PassFault}
use Rattle.live_gate.specs.LiveCalls.{Passes}
use Rattle.live_gate.specs.LiveRecord.{Told, GoesOn, IfTold}
use Rattle.live_gate.specs.Legal.{IsLegal}
use Rattle.wal_follow.specs.declared.following.Following.{Following}
use Rattle.wal_follow.specs.Calls.{frames_of, frames_at}
use Rattle.wal_follow.specs.Following.{Fits, is_in_log}
use Rattle.wal_follow.proofs.FitsLemmas.{fits_stays}
use Rattle.wal_follow.proofs.GoesOnLemmas.{goes_map}
use Rattle.wal_follow.proofs.PassedLemmas.{passed_fits}
use Rattle.replica_sync.proofs.ReadingLemmas.{live_now}
use Rattle.replica_round.specs.Passing.{HasPages, IsLong, PassesWhenLong}

-- a place up to which frames stand is in the log
long_in_log : (place : Place) (size : Option ℕ) → 1000 ≤ frames_at (Some place) size → is_in_log (Some place) ≡ true
long_in_log (Wal a b end s0 s1) size long = refl
long_in_log (Rest sum) size long = absurd (omega (arith, long))

module _ (f : Following) (place : Place) (at_rest : Bool) (at : f.place ≡ Some place) (long : IsLong f) where
  -- where the log is long, the place is in it
  in_log : is_in_log (Some place) ≡ true
  in_log = by f.passed long
    where
      by : (passed : Bool) → 1000 ≤ frames_of f passed → is_in_log (Some place) ≡ true
      by true more = absurd (omega (arith, more))
      by false more =
          long_in_log place f.size (subst (λ (p : Option Place). 1000 ≤ frames_at p f.size) at more)

  module _ (old new : Told) where
    -- a fault, or want of memory
    pub pass_fails : (result : Result Bool PassFault) (fault : PassFault) → result ≡ Err fault
        → GoesOn old new (Passes place at_rest (Err fault)) → GoesOn old new (PassesWhenLong f f at_rest result)
    pass_fails result fault is goes =
        subst (λ (r : Result Bool PassFault). GoesOn old new (PassesWhenLong f f at_rest r)) (sym is)
        (goes_map old new _ _ goes (λ r after passes.
        inl (long, (record { place = place; is_place = at; passes = passes }, refl))))

    -- the answer is known
    known_as : (answer known : Pass) → answer ≡ known → GoesOn old new (Passes place at_rest (Ok answer))
        → GoesOn old new (Passes place at_rest (Ok known))
    known_as answer known is goes =
        subst (λ (one : Pass). GoesOn old new (Passes place at_rest (Ok one))) is goes

    -- nothing was changed
    pub pass_keeps : (answer : Pass) → answer ≡ Kept → GoesOn old new (Passes place at_rest (Ok answer))
        → GoesOn old new (PassesWhenLong f f at_rest (Ok false))
    pass_keeps answer is goes =
        goes_map old new _ _ (known_as answer Kept is goes) (λ r after passes.
        inl (long, (record { place = place; is_place = at; passes = passes }, refl)))

    module _ (fits : IfTold old (λ r. Fits f r.database)) where
      pub kept_fits : (answer : Pass) → answer ≡ Kept → GoesOn old new (Passes place at_rest (Ok answer))
          → IfTold new (λ r. Fits f r.database)
      kept_fits answer is goes =
          live_now old new _ (λ r. Fits f r.database) (λ r. Fits f r.database) (known_as answer Kept is goes) fits
          (λ x y was passes. fits_stays f x.database y.database passes.0.step (passes.0.awake refl) was)

      -- it took place, and the follower was told
      pub passed_now : (after : Following) → after ≡ record f { passed = true; found = None } → HasPages f
          → IfTold old (λ r. IsLegal r.database) → (answer : Pass) → answer ≡ Passed
          → GoesOn old new (Passes place at_rest (Ok answer)) → IfTold new (λ r. Fits after r.database)
      passed_now after is pages legal answer took goes =
          let many = pages long in
          let passed : Following = record f { passed = true; found = None } in
          subst (λ (k : Following). IfTold new (λ r. Fits k r.database)) (sym is)
          (live_now old new _ (λ r. IsLegal r.database × Fits f r.database) (λ r. Fits passed r.database)
          (known_as answer Passed took goes) (λ r told. (legal r told, fits r told))
          (λ x y was passes.
          passed_fits f x.database y.database place many.0 was.0 passes.0 at in_log many.1 was.1))
