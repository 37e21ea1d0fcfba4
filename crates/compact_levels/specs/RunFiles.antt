-- Finding the files of a run among its names.
use Rattle.std.specs.Prelude.{◌≡◌, ℕ, List, IfSome, slice_get}
use Rattle.std.specs.List.{All}
use Rattle.replica_store.specs.declared.file_name.FileName.{FileName}
use Rattle.compact_levels.specs.Run.{GoesOnFrom, IsGapless}
use Rattle.compact_levels.specs.declared.merge_fault.MergeFault.{MergeFault}
use Rattle.compact_levels.specs.declared.merge_fault.MergeFault.TheVariants.{Damaged, PageMissing, Store, Memory}

-- a file of the level that begins with this transaction
pub record BeginsWith (level min : ℕ) (name : FileName) : Type 0 where
  pub of_level : name.level ≡ level
  pub begins : name.min ≡ min

-- the first of these names doesn't go on from this transaction
abbrev pub EndsAt : ℕ → ℕ → List FileName → Type 0
EndsAt level to behind = IfSome (slice_get behind 0) (λ name. GoesOnFrom level to name → ⊥)

-- the first file that begins with the transaction, and those behind it up to another transaction
pub record IsPileBehind (level min : ℕ) (before : List FileName) (first : FileName) (rest : List FileName) (to : ℕ)
    : Type 0 where
  pub earlier : All (λ name. BeginsWith level min name → ⊥) before
  pub begins : BeginsWith level min first
  pub gapless : IsGapless level first.max rest to

-- there was no memory
abbrev pub IsMemory : MergeFault → Type 0
IsMemory (Damaged name damage) = ⊥
IsMemory (PageMissing name number) = ⊥
IsMemory (Store fault) = ⊥
IsMemory Memory = Unit {0}
