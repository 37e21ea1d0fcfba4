-- Which names are dropped: they are decided on one after the other, in list order. This project's rule.
use Rattle.std.specs.Prelude.{◌≡◌, ◌↔◌, ℕ, ◌≤◌, Bool, true, false, if◌then◌else◌, Some}
use Rattle.std.specs.Prelude.{List, [], ◌∷◌, ◌++◌, length, take, slice_get}
use Rattle.replica_store.specs.declared.dated_names.Dated.{Dated}
use Rattle.replica_store.specs.declared.file_name.FileName.{FileName}
use Rattle.replica_store.specs.Chain.{names_of}
use Rattle.retention.specs.Protected.{IsOld, KeepsProtected}

-- the names that stand once the first of them were decided on: of these the kept ones, and all behind them
abbrev pub standing : List Bool → List Dated → List FileName
standing [] dated = names_of dated
standing (keep ∷ kept) [] = []
standing (keep ∷ kept) (one ∷ dated) = if keep then one.name ∷ standing kept dated else standing kept dated

-- the names that were decided on and aren't kept
abbrev pub dropped : List Bool → List Dated → List FileName
dropped [] dated = []
dropped (keep ∷ kept) [] = []
dropped (keep ∷ kept) (one ∷ dated) = if keep then dropped kept dated else one.name ∷ dropped kept dated

-- what would stand if the name at this place went next
abbrev pub standing_without : List Bool → ℕ → List Dated → List FileName
standing_without kept i dated = standing (take i kept ++ false ∷ []) dated

-- for each name whether it is kept. A young name is. An old one goes exactly where each protected transaction stays
-- retained without it and without those that went before.
pub record IsWalk (dated : List Dated) (cut : ℕ) (kept : List Bool) : Type 0 where
  pub count : length kept ≡ length dated
  pub young : (i : ℕ) (one : Dated) → slice_get dated i ≡ Some one → cut ≤ one.moment → slice_get kept i ≡ Some true
  pub old : (i : ℕ) (one : Dated) → slice_get dated i ≡ Some one → IsOld cut one
      → slice_get kept i ≡ Some false ↔ KeepsProtected dated cut (standing_without kept i dated)
