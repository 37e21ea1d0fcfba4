-- Chains of files that lead to a transaction. This project's rule.
use Rattle.std.specs.Prelude.{◌≡◌, ℕ, ◌+◌, ◌<◌, ◌≤◌, ◌==◌, List, [], ◌∷◌, map, Option, Some, None, if◌then◌else◌}
use Rattle.std.specs.List.{Contains, AllByRecursion}
use Rattle.std.specs.List.Sorted.{IsSorted}
use Rattle.std.specs.Ordering.{nat_cmp, ordering_then}
use Rattle.std.specs.declared.cmp.Ordering.{Ordering}
use Rattle.replica_store.specs.declared.dated_names.Dated.{Dated}
use Rattle.replica_store.specs.declared.file_name.FileName.{FileName}

-- list order: by level, then by the first transaction, then by the last
abbrev pub list_order : FileName → FileName → Ordering
list_order a b = ordering_then (nat_cmp a.level b.level) (ordering_then (nat_cmp a.min b.min) (nat_cmp a.max b.max))

abbrev pub IsListOrdered : List FileName → Type 0
IsListOrdered names = IsSorted list_order names

-- the names alone
abbrev pub names_of : List Dated → List FileName
names_of dated = map (λ d. d.name) dated

-- the file may come next after a transaction: it begins at most one past it, and ends beyond it
pub record MayComeNext (after : ℕ) (name : FileName) : Type 0 where
  pub begins : name.min ≤ after + 1
  pub goes_on : after < name.max

-- the chain leads from a transaction to another by files that are there, each from where the one before it ends
abbrev pub LeadsBy : (FileName → Type 0) → ℕ → List FileName → ℕ → Type 0
LeadsBy IsThere from [] t = from ≡ t
LeadsBy IsThere from (name ∷ chain) t = IsThere name × MayComeNext from name × LeadsBy IsThere name.max chain t

-- the same by files of these names
abbrev pub LeadsTo : List FileName → ℕ → List FileName → ℕ → Type 0
LeadsTo names from chain t = LeadsBy (Contains names) from chain t

-- a chain to t, of these names: it leads there from nothing, which is transaction 0
abbrev pub IsChain : List FileName → ℕ → List FileName → Type 0
IsChain names t chain = LeadsTo names 0 chain t

-- none of the files but the first begins with the first transaction
abbrev pub BeginsOnce : List FileName → Type 0
BeginsOnce [] = Unit {0}
BeginsOnce (first ∷ rest) = AllByRecursion (λ name. 1 < name.min) rest

-- a retained transaction: a chain leads to it
pub record IsRetained (names : List FileName) (t : ℕ) : Type 0 where
  pub positive : 1 ≤ t
  pub chain : List FileName
  pub leads : IsChain names t chain

-- the moment of a transaction: that of the first name in the list that ends with it
abbrev pub moment_of : List Dated → ℕ → Option ℕ
moment_of [] t = None
moment_of (dated ∷ rest) t = if dated.name.max == t then Some dated.moment else moment_of rest t
