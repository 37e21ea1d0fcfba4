-- A live database that is ready for a round, and stays so.
use Rattle.std.proofs.Common.{◌≡◌, Bool, Option, Some, None, Result, Ok, refl, sym, subst, ◌∙◌}
use Rattle.live_gate.specs.declared.fault.LiveFault.{LiveFault}
use Rattle.live_gate.specs.LiveRecord.{LiveRecord, Told, IfTold, GoesOn}
use Rattle.live_gate.specs.Legal.{IsLegal}
use Rattle.live_gate.specs.LiveCalls.{Enters}
use Rattle.round_line.specs.declared.round.Round.{Round}
use Rattle.wal_follow.specs.declared.following.Following.{Following}
use Rattle.wal_follow.specs.Following.{Fits}
use Rattle.replica_round.specs.LiveSide.{Rounds}
use Rattle.round_tests.specs.Ready.{IsReady}

none_told : (r : LiveRecord) → ◌≡◌ {A = Option LiveRecord} None (Some r) → ⊥
none_told r e = cc

one_told : (a b : LiveRecord) → ◌≡◌ {A = Option LiveRecord} (Some a) (Some b) → a ≡ b
one_told a b e = cc

-- what holds of the record now, by that before
told_now : (old new : Told) (P : LiveRecord → LiveRecord → Type 0) (A Q : LiveRecord → Type 0) → GoesOn old new P
    → IfTold old A → ((x y : LiveRecord) → A x → P x y → Q y) → IfTold new Q
told_now None new P A Q goes was implies r told = absurd (none_told r (sym (goes.silent refl) ∙ told))
told_now (Some before) new P A Q goes was implies r told =
    let went = goes.told before refl in
    subst Q (one_told went.0 r (sym went.1 ∙ told)) (implies before went.0 (was before refl) went.2)

pub entered : (old new : Told) (done : Unit {0}) → IfTold old (λ r. IsLegal r.database)
    → GoesOn old new (Enters (Ok done)) → IfTold new (λ r. IsReady r.database)
entered old new done legal goes =
    told_now old new (Enters (Ok done)) (λ r. IsLegal r.database) (λ r. IsReady r.database) goes legal
    (λ x y is entering. record { legal = entering.step.legal is; gate = (y.database.copied, entering.ok) })

module _ (at_rest : Bool) (f after : Following) (round : Round) (old new : Told)
    (was : IfTold old (λ r. IsReady r.database)) (goes : GoesOn old new (Rounds at_rest f after (Ok round))) where
  pub still_legal : IfTold new (λ r. IsLegal r.database)
  still_legal =
      told_now old new (Rounds at_rest f after (Ok round)) (λ r. IsReady r.database) (λ r. IsLegal r.database) goes was
      (λ x y is rounds. rounds.legal)

  pub still_fits : IfTold new (λ r. Fits after r.database)
  still_fits =
      told_now old new (Rounds at_rest f after (Ok round)) (λ r. IsReady r.database) (λ r. Fits after r.database) goes
      was (λ x y is rounds. rounds.fits tt (rounds.awake refl))
