-- The chain that a restore takes. This project's rule.
use Rattle.std.specs.Prelude.{◌≡◌, ℕ, ◌≤◌, List, [], ◌∷◌}
use Rattle.std.specs.List.{Contains}
use Rattle.replica_store.specs.declared.file_name.FileName.{FileName}
use Rattle.replica_store.specs.Chain.{MayComeNext}
use Rattle.restore_plan.specs.Choice.{IsAsGood}

-- the file may come next on the way to t: it doesn't end beyond t
pub record MayLead (names : List FileName) (t after : ℕ) (name : FileName) : Type 0 where
  pub there : Contains names name
  pub next : MayComeNext after name
  pub within : name.max ≤ t

-- the best of these files
pub record IsBestNext (names : List FileName) (t after : ℕ) (name : FileName) : Type 0 where
  pub leads : MayLead names t after name
  pub best : (other : FileName) → MayLead names t after other → IsAsGood name other

-- the chain takes the best file at each step, from a transaction to another, on the way to t
abbrev pub IsChosenBetween : List FileName → ℕ → ℕ → List FileName → ℕ → Type 0
IsChosenBetween names t from [] to = from ≡ to
IsChosenBetween names t from (name ∷ chain) to =
    IsBestNext names t from name × IsChosenBetween names t name.max chain to

-- the chosen chain to t
abbrev pub IsChosenChain : List FileName → ℕ → List FileName → Type 0
IsChosenChain names t chain = IsChosenBetween names t 0 chain t

-- the chosen chain to t begins with this file
pub record BeginsChosenChain (names : List FileName) (t : ℕ) (first : FileName) : Type 0 where
  pub rest : List FileName
  pub chosen : IsChosenChain names t (first ∷ rest)
