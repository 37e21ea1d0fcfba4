-- How the count of bytes given rises.
use Rattle.std.proofs.Common.{◌≡◌, ℕ, ◌+◌, ◌-◌, ◌^◌, ◌≤◌, min, Option, Some, None, refl, ap, ◌∙◌, inl, inr, arith}
use Rattle.std.specs.Prelude.{◌⊎◌}
use Rattle.crash_disk.specs.Told.{gives}
use Rattle.replica_store.specs.Given.{GaveAtMost}

pub gave_nothing : (most : ℕ) (before now : Option ℕ) → now ≡ before → GaveAtMost most before now
gave_nothing most before now same = record { more = 0; within = omega arith; is = inl same }

pub gave_some : (most n : ℕ) (before now : Option ℕ) → n ≤ most → now ≡ gives before n → GaveAtMost most before now
gave_some most n before now within is = record { more = n; within = within; is = inr is }

gives_twice : (before : Option ℕ) (a b : ℕ) → gives (gives before a) b ≡ gives before (a + b)
gives_twice None a b = refl
gives_twice (Some n) a b =
    let same : min (min (n + a) (2 ^ 64 - 1) + b) (2 ^ 64 - 1) ≡ min (n + (a + b)) (2 ^ 64 - 1) = omega arith in
    ap (λ k. Some k) same

module _ (a b : ℕ) (x y z : Option ℕ) (m n : ℕ) (low : m ≤ a) (high : n ≤ b) where
  in_turn : (y ≡ x) ⊎ (y ≡ gives x m) → (z ≡ y) ⊎ (z ≡ gives y n) → GaveAtMost (a + b) x z
  in_turn (inl first) (inl second) = gave_nothing (a + b) x z (second ∙ first)
  in_turn (inl first) (inr second) = gave_some (a + b) n x z (omega arith) (second ∙ ap (λ g. gives g n) first)
  in_turn (inr first) (inl second) = gave_some (a + b) m x z (omega arith) (second ∙ first)
  in_turn (inr first) (inr second) = gave_some (a + b) (m + n) x z (omega arith)
      (second ∙ ap (λ g. gives g n) first ∙ gives_twice x m n)

-- some bytes, and then some more
pub gave_then : (a b : ℕ) (x y z : Option ℕ) → GaveAtMost a x y → GaveAtMost b y z → GaveAtMost (a + b) x z
gave_then a b x y z first second = in_turn a b x y z first.more second.more first.within second.within first.is
    second.is

pub gave_within : (a b : ℕ) (x y : Option ℕ) → a ≤ b → GaveAtMost a x y → GaveAtMost b x y
gave_within a b x y below gave = record { more = gave.more; within = omega (arith, gave.within); is = gave.is }
