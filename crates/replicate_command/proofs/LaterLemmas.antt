-- How databases and replicas go on.
use Rattle.std.proofs.Common.{◌≡◌, ℕ, ◌≤◌, Option, Some, None, refl, sym, subst, ◌∙◌, arith}
use Rattle.ls_base.specs.Fault.{Rose}
use Rattle.live_gate.specs.LiveRecord.{Database, LiveRecord, Told, GoesOn}
use Rattle.live_gate.specs.Step.{IsStepButAttached}
use Rattle.replica_round.specs.Later.{IsLater}
pub use Rattle.replica_round.proofs.LaterLemmas.{later_itself, later_then, later_step, later_hold}

pub later_attached : (a b : Database) → IsStepButAttached a b → IsLater a b
later_attached a b moved = record { legal = moved.legal; history = moved.step.history; chances = moved.step.chances }

-- ---- what is told

pub same_told : {A : Type 0} (x y : A) → ◌≡◌ {A = Option A} (Some x) (Some y) → x ≡ y
same_told x y e = cc

pub never_told : {A P : Type 0} (x : A) → ◌≡◌ {A = Option A} None (Some x) → P
never_told x e = absurd cc

pub live_itself : (told : Told) (P : LiveRecord → LiveRecord → Type 0) → ((r : LiveRecord) → P r r) → GoesOn told told P
live_itself told P p = record { told = λ r is. (r, is, p r); silent = λ e. e }

pub live_then : (a b c : Told) (P Q R : LiveRecord → LiveRecord → Type 0) → GoesOn a b P → GoesOn b c Q
    → ((x y z : LiveRecord) → P x y → Q y z → R x z) → GoesOn a c R
live_then a b c P Q R first second join = record {
  told = λ r is.
      let mid = first.told r is in
      let last = second.told mid.0 mid.1 in
      (last.0, last.1, join r mid.0 last.0 mid.2 last.2);
  silent = λ e. second.silent (first.silent e);
}

pub live_weaker : (a b : Told) (P Q : LiveRecord → LiveRecord → Type 0) → GoesOn a b P
    → ((x y : LiveRecord) → P x y → Q x y) → GoesOn a b Q
live_weaker a b P Q goes weaken = record {
  told = λ r is. let next = goes.told r is in (next.0, next.1, weaken r next.0 next.2);
  silent = goes.silent;
}

-- what is told now was told before
pub told_before : (a b : Told) (P : LiveRecord → LiveRecord → Type 0) → GoesOn a b P → (r : LiveRecord) → b ≡ Some r
    → (x : LiveRecord) × (a ≡ Some x) × P x r
told_before None b P goes r is = never_told r (sym (goes.silent refl) ∙ is)
told_before (Some x) b P goes r is =
    let next = goes.told x refl in
    (x, refl, subst (λ (y : LiveRecord). P x y) (same_told next.0 r (sym next.1 ∙ is)) next.2)

-- ---- counts

pub rose_since : (a b c : ℕ) → a ≤ b → Rose b c → Rose a c
rose_since a b c below rose = record { least = omega (arith, below, rose.least) }

pub rose_until : (a b c : ℕ) → b ≤ c → Rose a b → Rose a c
rose_until a b c below rose = record { least = omega (arith, below, rose.least) }
