-- The names that are kept so that each stretch stays spanned.
use Rattle.std.specs.Prelude.{◌≡◌, ℕ, ◌<◌, ◌≤◌, Bool, true, List, length, Some, slice_get}
use Rattle.replica_store.specs.declared.dated_names.Dated.{Dated}
use Rattle.retention.specs.declared.stretch.Stretch.{Stretch}
use Rattle.retention.specs.declared.claim.Claim.{Claim}
use Rattle.retention.specs.Claims.{OldSpans}

-- the name at a place is kept
abbrev pub IsKept : List Bool → ℕ → Type 0
IsKept kept i = slice_get kept i ≡ Some true

-- a kept old name, no later than the one that the stretch falls to, spans it
pub record IsHeld (dated : List Dated) (cut : ℕ) (stretches : List Stretch) (kept : List Bool) (claim : Claim)
    : Type 0 where
  pub place : ℕ
  pub early : place ≤ claim.name
  pub is_kept : IsKept kept place
  pub spans : OldSpans dated cut stretches place claim.stretch

-- a stretch falls to the name that no kept old one before it spans
pub record IsNeeded (dated : List Dated) (cut : ℕ) (stretches : List Stretch) (claims : List Claim) (kept : List Bool)
    (from i : ℕ) : Type 0 where
  pub place : ℕ
  pub claim : Claim
  pub late : from ≤ place
  pub there : slice_get claims place ≡ Some claim
  pub mine : claim.name ≡ i
  pub alone : (j : ℕ) → j < i → IsKept kept j → OldSpans dated cut stretches j claim.stretch → ⊥

-- each young name is kept, and as many old ones as hold each stretch, of which each is needed
pub record AreKept (dated : List Dated) (cut : ℕ) (stretches : List Stretch) (claims : List Claim) (kept : List Bool)
    : Type 0 where
  pub count : length kept ≡ length dated
  pub young : (i : ℕ) (one : Dated) → slice_get dated i ≡ Some one → cut ≤ one.moment → IsKept kept i
  pub held : (p : ℕ) (claim : Claim) → slice_get claims p ≡ Some claim → IsHeld dated cut stretches kept claim
  pub needed : (i : ℕ) (one : Dated) → slice_get dated i ≡ Some one → one.moment < cut → IsKept kept i
      → IsNeeded dated cut stretches claims kept 0 i
