-- Which name each stretch falls to: where no young name spans it, the last old one in list order that does.
use Rattle.std.specs.Prelude.{◌≡◌, ℕ, ◌<◌, ◌≤◌, ◌⊎◌, List, length, Some, slice_get}
use Rattle.replica_store.specs.declared.dated_names.Dated.{Dated}
use Rattle.retention.specs.declared.stretch.Stretch.{Stretch}
use Rattle.retention.specs.declared.claim.Claim.{Claim}
use Rattle.retention.specs.Stretch.{stretch_at, Spans}
use Rattle.retention.specs.Painting.{IsPainted}

-- the name at a place is one that isn't before the cut, and spans the stretch at a place
pub record YoungSpans (dated : List Dated) (cut : ℕ) (stretches : List Stretch) (i k : ℕ) : Type 0 where
  pub one : Dated
  pub there : slice_get dated i ≡ Some one
  pub young : cut ≤ one.moment
  pub spans : Spans one.name (stretch_at stretches k)

-- the name at a place is one before the cut, and spans the stretch at a place
pub record OldSpans (dated : List Dated) (cut : ℕ) (stretches : List Stretch) (i k : ℕ) : Type 0 where
  pub one : Dated
  pub there : slice_get dated i ≡ Some one
  pub old : one.moment < cut
  pub spans : Spans one.name (stretch_at stretches k)

-- the stretches up to a place that weren't painted fall to the name at a place, behind the claims that there were
pub record AreClaimed (from to name : ℕ) (skips : List ℕ) (claims later : List Claim) : Type 0 where
  pub count : length claims ≤ length later
  pub same : (p : ℕ) → p < length claims → slice_get later p ≡ slice_get claims p
  pub each : (p : ℕ) (claim : Claim) → length claims ≤ p → slice_get later p ≡ Some claim
      → (claim.name ≡ name) × (from ≤ claim.stretch) × (claim.stretch < to) × (IsPainted skips claim.stretch → ⊥)
  pub all : (k : ℕ) → from ≤ k → k < to → (IsPainted skips k → ⊥)
      → (p : ℕ) × (slice_get later p ≡ Some (record { name = name; stretch = k }))

-- the claim is of an old name that spans its stretch, which no young one does and no later old one
pub record IsClaim (dated : List Dated) (cut : ℕ) (stretches : List Stretch) (claim : Claim) : Type 0 where
  pub low : claim.stretch < length stretches
  pub spans : OldSpans dated cut stretches claim.name claim.stretch
  pub no_young : (i : ℕ) → YoungSpans dated cut stretches i claim.stretch → ⊥
  pub last : (i : ℕ) → claim.name < i → OldSpans dated cut stretches i claim.stretch → ⊥

-- the claims on all stretches that no young name spans, those of the last names first
pub record AreClaims (dated : List Dated) (cut : ℕ) (stretches : List Stretch) (claims : List Claim) : Type 0 where
  pub each : (p : ℕ) (claim : Claim) → slice_get claims p ≡ Some claim → IsClaim dated cut stretches claim
  pub falls : (p q : ℕ) (one other : Claim) → p ≤ q → slice_get claims p ≡ Some one
      → slice_get claims q ≡ Some other → other.name ≤ one.name
  pub all : (k i : ℕ) → k < length stretches → OldSpans dated cut stretches i k
      → ((j : ℕ) × YoungSpans dated cut stretches j k)
      ⊎ ((p : ℕ) × (claim : Claim) × (slice_get claims p ≡ Some claim) × (claim.stretch ≡ k))
