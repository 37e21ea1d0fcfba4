-- The transactions that retention keeps. This project's rule.
use Rattle.std.specs.Prelude.{ℕ, ◌<◌, ◌≤◌, ◌⊎◌, List}
use Rattle.std.specs.Option.{IsSomeAnd}
use Rattle.replica_store.specs.declared.dated_names.Dated.{Dated}
use Rattle.replica_store.specs.declared.file_name.FileName.{FileName}
use Rattle.replica_store.specs.Chain.{IsRetained, names_of, moment_of}

-- a name whose moment is before the cut
abbrev pub IsOld : ℕ → Dated → Type 0
IsOld cut dated = dated.moment < cut

-- a transaction whose moment isn't before the cut
abbrev pub IsYoung : List Dated → ℕ → ℕ → Type 0
IsYoung dated cut t = IsSomeAnd (moment_of dated t) (λ own. cut ≤ own)

-- no transaction above this one is retained
abbrev pub IsGreatest : List FileName → ℕ → Type 0
IsGreatest names t = (other : ℕ) → IsRetained names other → other ≤ t

-- a retained transaction that no drop may lose: a young one, or the greatest
pub record IsProtected (dated : List Dated) (cut t : ℕ) : Type 0 where
  pub retained : IsRetained (names_of dated) t
  pub why : IsYoung dated cut t ⊎ IsGreatest (names_of dated) t

-- each of them is retained in these names
abbrev pub KeepsProtected : List Dated → ℕ → List FileName → Type 0
KeepsProtected dated cut names = (t : ℕ) → IsProtected dated cut t → IsRetained names t
