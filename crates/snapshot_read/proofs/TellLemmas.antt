-- What is told, call after call.
use Rattle.std.proofs.Common.{◌≡◌, ℕ, List, Bool, true, false, Option, Some, Result, Ok, Err, ◌∙◌, inl, inr}
use Rattle.std.specs.Prelude.{◌⊎◌, IsErrAnd}
use Rattle.live_gate.specs.LiveRecord.{Database, LiveRecord, Told, Attachment, GoesOn, IsPrefix}
use Rattle.live_gate.specs.LiveCalls.{Keeps}
use Rattle.live_gate.specs.Step.{KeepsHold, HasStopped, IsWriterStep}
use Rattle.snapshot_read.specs.Reading.{IsUnderGate}

-- ---- one call after another

pub goes_then : (a b c : Told) (P Q R : LiveRecord → LiveRecord → Type 0) → GoesOn a b P → GoesOn b c Q
    → ((x y z : LiveRecord) → P x y → Q y z → R x z) → GoesOn a c R
goes_then a b c P Q R first second joins = record {
  told = λ r is.
      let f = first.told r is in
      let s = second.told f.0 f.1 in
      (s.0, s.1, joins r f.0 s.0 f.2 s.2);
  silent = λ is. second.silent (first.silent is);
}

pub goes_weaker : (a b : Told) (P Q : LiveRecord → LiveRecord → Type 0) → GoesOn a b P
    → ((x y : LiveRecord) → P x y → Q x y) → GoesOn a b Q
goes_weaker a b P Q goes implies = record {
  told = λ r is. let g = goes.told r is in (g.0, g.1, implies r g.0 g.2);
  silent = goes.silent;
}

pub goes_nowhere : (a : Told) (P : LiveRecord → LiveRecord → Type 0) → ((x : LiveRecord) → P x x) → GoesOn a a P
goes_nowhere a P holds = record { told = λ r is. (r, is, holds r); silent = λ is. is }

pub keeps_then : (a b c : Option Attachment) (x y z : List ℕ → Bool) → Keeps a b x y → Keeps b c y z → Keeps a c x z
keeps_then a b c x y z first second = record {
  attached = second.attached ∙ first.attached;
  there = second.there
      ∙ first.there;
}

-- ---- under the gate

true_false : (b : Bool) → b ≡ false → b ≡ true → ⊥
true_false true is other = absurd cc
true_false false is other = absurd cc

goes_on_held : (end : ℕ) (old new : Database) → new.stopped ≡ false → KeepsHold end old new ⊎ HasStopped new
    → KeepsHold end old new
goes_on_held end old new awake (inl kept) = kept
goes_on_held end old new awake (inr over) = absurd (true_false new.stopped awake over.stopped)

-- where the machine is awake, the hold is kept
pub kept_hold : (end : ℕ) (old new : Database) → IsWriterStep old new → new.stopped ≡ false → old.held ≡ Some end
    → KeepsHold end old new
kept_hold end old new step awake held = goes_on_held end old new awake (step.hold end held)

pub grown : (old new : Database) → IsWriterStep old new → new.stopped ≡ false → IsUnderGate old
    → IsPrefix old.committed new.committed
grown old new step awake gate = (kept_hold gate.0 old new step awake gate.1).committed

-- ---- results

pub err_of : {T E : Type 0} (r : Result T E) (e : E) → IsErrAnd r (λ x. x ≡ e) → r ≡ Err e
err_of (Ok x) e is = absurd is
err_of {T} {E} (Err x) e is = let same : x ≡ e = is in cc
