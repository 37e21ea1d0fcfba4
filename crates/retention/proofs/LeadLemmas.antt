-- Chains of the files of a part of a list.
use Rattle.std.proofs.Common.{ℕ, ◌≤◌, List, [], ◌∷◌, ◌++◌, refl, sym, subst, arith}
use Rattle.std.specs.List.{Contains}
use Rattle.replica_store.specs.declared.file_name.FileName.{FileName}
use Rattle.replica_store.specs.Chain.{MayComeNext, LeadsBy, IsRetained}

-- a transaction that is retained in the part
pub record Reaches (P : FileName → Type 0) (t : ℕ) : Type 0 where
  pub positive : 1 ≤ t
  pub chain : List FileName
  pub leads : LeadsBy P 0 chain t

-- a chain ends no earlier than it begins
pub leads_up : (P : FileName → Type 0) (from : ℕ) (chain : List FileName) (to : ℕ) → LeadsBy P from chain to → from ≤ to
leads_up P from [] to leads = omega (arith, leads)
leads_up P from (name ∷ chain) to leads = omega (arith, leads.1.goes_on, leads_up P name.max chain to leads.2)

pub leads_more : (P : FileName → Type 0) (from : ℕ) (chain : List FileName) (after : ℕ) (name : FileName)
    → LeadsBy P from chain after → P name → MayComeNext after name
    → LeadsBy P from (chain ++ name ∷ []) name.max
leads_more P from [] after name leads there next = (there, subst (λ n. MayComeNext n name) (sym leads) next, refl)
leads_more P from (first ∷ chain) after name leads there next =
    (leads.0, leads.1, leads_more P first.max chain after name leads.2 there next)

-- a larger part has the same chains
pub leads_larger : (P Q : FileName → Type 0) → ((name : FileName) → P name → Q name)
    → (from : ℕ) (chain : List FileName) (to : ℕ) → LeadsBy P from chain to → LeadsBy Q from chain to
leads_larger P Q into from [] to leads = leads
leads_larger P Q into from (name ∷ chain) to leads =
    (into name leads.0, leads.1, leads_larger P Q into name.max chain to leads.2)

pub reaches_larger : (P Q : FileName → Type 0) → ((name : FileName) → P name → Q name) → (t : ℕ) → Reaches P t
    → Reaches Q t
reaches_larger P Q into t is = record
    { positive = is.positive; chain = is.chain; leads = leads_larger P Q into 0 is.chain t is.leads }

pub reaches : (names : List FileName) (t : ℕ) → IsRetained names t → Reaches (Contains names) t
reaches names t is = record { positive = is.positive; chain = is.chain; leads = is.leads }

pub retained : (names : List FileName) (t : ℕ) → Reaches (Contains names) t → IsRetained names t
retained names t is = record { positive = is.positive; chain = is.chain; leads = is.leads }

-- a larger list retains more
pub retained_larger : (names more : List FileName) → ((name : FileName) → Contains names name → Contains more name)
    → (t : ℕ) → IsRetained names t → IsRetained more t
retained_larger names more into t is = retained more t
    (reaches_larger (Contains names) (Contains more) into t (reaches names t is))
