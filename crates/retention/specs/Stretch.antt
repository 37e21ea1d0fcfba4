-- The stretches between neighbouring retained transactions, and the files that span them. Each protected
-- transaction stays retained in a part of the files exactly where each stretch is spanned by one of that part.
use Rattle.std.specs.Prelude.{◌≡◌, ℕ, ◌+◌, ◌<◌, ◌≤◌, ◌⊎◌, List, length, slice_index, slice_index_or, zero, suc}
use Rattle.std.specs.List.Sorted.{IsNonDecreasingBy}
use Rattle.replica_store.specs.declared.dated_names.Dated.{Dated}
use Rattle.replica_store.specs.declared.file_name.FileName.{FileName}
use Rattle.replica_store.specs.Chain.{IsRetained, names_of}
use Rattle.retention.specs.declared.stretch.Stretch.{Stretch}
use Rattle.retention.specs.Protected.{IsProtected}

-- the stretch at a place
abbrev pub stretch_at : List Stretch → ℕ → Stretch
stretch_at stretches k = slice_index_or stretches k (record { before = 0; end = 0; goal = 0 })

-- the file leads over the stretch, and not past its goal
pub record Spans (name : FileName) (stretch : Stretch) : Type 0 where
  pub begins : name.min ≤ stretch.before + 1
  pub reaches : stretch.end ≤ name.max
  pub within : name.max ≤ stretch.goal

-- each stretch ends at a retained transaction, the next above the end of the one before. Its goal is the least
-- protected transaction from there on.
pub record AreStretches (dated : List Dated) (cut : ℕ) (stretches : List Stretch) : Type 0 where
  pub first : 0 < length stretches → (stretch_at stretches 0).before ≡ 0
  pub joined : (k : ℕ) → k + 1 < length stretches → (stretch_at stretches (k + 1)).before ≡ (stretch_at stretches k).end
  pub rises : (k : ℕ) → k < length stretches → (stretch_at stretches k).before < (stretch_at stretches k).end
  pub between : (k t : ℕ) → k < length stretches → IsRetained (names_of dated) t
      → (t ≤ (stretch_at stretches k).before) ⊎ ((stretch_at stretches k).end ≤ t)
  pub goals : (k : ℕ) → k < length stretches → IsProtected dated cut (stretch_at stretches k).goal
  pub ahead : (k : ℕ) → k < length stretches → (stretch_at stretches k).end ≤ (stretch_at stretches k).goal
  pub same_goal : (k : ℕ) → k + 1 < length stretches
      → ((stretch_at stretches k).goal ≡ (stretch_at stretches k).end)
      ⊎ ((stretch_at stretches k).goal ≡ (stretch_at stretches (k + 1)).goal)
  pub each : (t : ℕ) → IsProtected dated cut t
      → (k : ℕ) × (k < length stretches) × ((stretch_at stretches k).end ≡ t) × ((stretch_at stretches k).goal ≡ t)

-- where a stretch begins: at the transaction before, or at 0
abbrev pub before_of : List ℕ → ℕ → ℕ
before_of ts zero = 0
before_of ts (suc k) = slice_index ts k

-- a stretch to each transaction, with its goal
pub record AreBetween (ts goals : List ℕ) (stretches : List Stretch) : Type 0 where
  pub count : length stretches ≡ length ts
  pub each : (k : ℕ) → k < length ts
      → stretch_at stretches k ≡ record { before = before_of ts k; end = slice_index ts k; goal = slice_index goals k }

-- beginnings, ends and goals don't fall
pub record AreOrdered (stretches : List Stretch) : Type 0 where
  pub before : IsNonDecreasingBy (λ (stretch : Stretch). stretch.before) stretches
  pub end : IsNonDecreasingBy (λ (stretch : Stretch). stretch.end) stretches
  pub goal : IsNonDecreasingBy (λ (stretch : Stretch). stretch.goal) stretches

-- the places of the stretches that the file spans are those from one to another
pub record AreSpanned (name : FileName) (stretches : List Stretch) (from to : ℕ) : Type 0 where
  pub within : to ≤ length stretches
  pub each : (k : ℕ) → k < length stretches → from ≤ k → k < to → Spans name (stretch_at stretches k)
  pub only : (k : ℕ) → k < length stretches → Spans name (stretch_at stretches k) → (from ≤ k) × (k < to)
