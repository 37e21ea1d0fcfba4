-- The files of a run.
use Rattle.std.proofs.Common.{arith, ◌≡◌, ◌≢◌, ◌⊎◌, inl, inr, ℕ, ◌-◌, ◌<◌, ◌≤◌, List, Option, Some, None, refl, sym}
use Rattle.std.proofs.Common.{ap, ◌∙◌, subst}
use Rattle.std.specs.List.{Contains, All}
use Rattle.std.specs.Prelude.{IfSome}
use Rattle.std.specs.Option.{IsSomeAnd, IfNone}
use Rattle.replica_store.specs.declared.file_name.FileName.{FileName}
use Rattle.compact_levels.specs.Level.{IsMergeLevel, IsEndOf}
use Rattle.compact_levels.specs.Run.{BeginsBeyond, IsPile, IsWholeChain, IsRunOf}
use Rattle.compact_levels.specs.Pile.{AreFilesFor, PilesUp, LeadsToNewest, IsSameName}
use Rattle.compact_levels.specs.declared.files.Files.{Files}
use Rattle.compact_levels.specs.declared.run.Run.{Run}
use Rattle.compact_levels.proofs.MomentLemmas.{one_end}
use Rattle.compact_levels.proofs.PileLemmas.{first_there, gapless_up, nothing_piled, same_pile}
use Rattle.compact_levels.proofs.WholeLemmas.{same_beginning}

pub nine_or_not : (level : ℕ) → IsMergeLevel level → (level ≡ 9) ⊎ (level ≢ 9)
nine_or_not level (inl one) = inr (λ nine. absurd (omega (arith, one, nine)))
nine_or_not level (inr (inl two)) = inr (λ nine. absurd (omega (arith, two, nine)))
nine_or_not level (inr (inr (inl three))) = inr (λ nine. absurd (omega (arith, three, nine)))
nine_or_not level (inr (inr (inr nine))) = inl nine

-- the files of a run are those for its level
pub files_of_run : (names : List FileName) (level after : ℕ) (run : Run) (first : FileName) (rest : List FileName)
    → IsEndOf names level after → run.level ≡ level → IsRunOf names run first rest
    → AreFilesFor names level after (record { first = first; end = run.max })
files_of_run names level after run first rest end own files =
    let same : files.after ≡ after =
    one_end names level files.after after (subst (λ l. IsEndOf names l files.after) own files.end) end in
    record {
      rest = rest;
      piled = λ other. subst (λ l. IsPile names (l - 1) after first rest run.max) own
          (subst (λ n. IsPile names (run.level - 1) n first rest run.max) same
          (files.piled (λ nine. other (sym own ∙ nine))));
      whole = λ nine. subst (λ n. IsWholeChain names n first rest run.max) same (files.whole (own ∙ nine));
    }

-- and the files for a level make a run
pub run_of_files : (names : List FileName) (level after : ℕ) (run : Run) (files : Files)
    → IsMergeLevel level → IsEndOf names level after → run.level ≡ level → run.min ≡ files.first.min
    → run.max ≡ files.end → (are : AreFilesFor names level after files) → IsRunOf names run files.first are.rest
run_of_files names level after run files merges end own min max are = record {
  level = subst IsMergeLevel (sym own) merges;
  begins = sym min;
  after = after;
  end = subst (λ l. IsEndOf names l after) (sym own) end;
  piled = λ other. subst (λ t. IsPile names (run.level - 1) after files.first are.rest t) (sym max)
      (subst (λ l. IsPile names (l - 1) after files.first are.rest files.end) (sym own)
      (are.piled (λ nine. other (own ∙ nine))));
  whole = λ nine. subst (λ t. IsWholeChain names after files.first are.rest t) (sym max)
      (are.whole (sym own ∙ nine));
}

-- its first file is among the names, its transactions are in order, and it ends beyond its level's own files
pub first_among : (names : List FileName) (level after : ℕ) (files : Files) → IsMergeLevel level
    → AreFilesFor names level after files → Contains names files.first
first_among names level after files merges are = elim (nine_or_not level merges) [
  | inl nine ↦ (are.whole nine).chain.0.leads.there
  | inr other ↦ first_there names (level - 1) after files (record { rest = are.rest; pile = are.piled other })
]

pub ends_beyond : (names : List FileName) (level after : ℕ) (files : Files) → IsMergeLevel level
    → AreFilesFor names level after files → after < files.end
ends_beyond names level after files merges are = elim (nine_or_not level merges) [
  | inl nine ↦ (are.whole nine).beyond
  | inr other ↦
      let pile = are.piled other in
      omega (
        arith,
        pile.begins.begins,
        files.first.in_order,
        gapless_up (level - 1) files.first.max are.rest files.end pile.gapless,
      )
]

pub in_order : (names : List FileName) (level after : ℕ) (files : Files) → IsMergeLevel level
    → AreFilesFor names level after files → files.first.min ≤ files.end
in_order names level after files merges are = elim (nine_or_not level merges) [
  | inl nine ↦ omega (arith, files.first.in_order, (are.whole nine).chain.0.leads.within)
  | inr other ↦
      omega (
        arith,
        files.first.in_order,
        gapless_up (level - 1) files.first.max are.rest files.end (are.piled other).gapless,
      )
]

-- at level 9 it begins with the first transaction
pub begins_with_one : (names : List FileName) (after : ℕ) (files : Files) → 1 ≤ files.first.min
    → AreFilesFor names 9 after files → files.first.min ≡ 1
begins_with_one names after files positive are =
    omega (arith, positive, (are.whole refl).chain.0.leads.next.begins)

-- no other files are those for the level
pub only_chain : (names : List FileName) (level after : ℕ) (found : Option Files) → level ≡ 9
    → IfSome found (LeadsToNewest names after)
    → IfNone found ((files : Files) → LeadsToNewest names after files → ⊥)
    → (other : Files) → AreFilesFor names level after other
    → IsSomeAnd found (λ files. IsSameName files.first other.first)
only_chain names level after None nine some none other are =
    absurd (none other (record { rest = are.rest; chain = are.whole nine }))
only_chain names level after (Some files) nine some none other are =
    same_beginning names after files other some (record { rest = are.rest; chain = are.whole nine })

pub only_pile : (names : List FileName) (level after : ℕ) (found : Option Files) → level ≢ 9
    → IfSome found (PilesUp names (level - 1) after)
    → IfNone found (All (λ name. BeginsBeyond (level - 1) after name → ⊥) names)
    → (other : Files) → AreFilesFor names level after other
    → IsSomeAnd found (λ files. IsSameName files.first other.first)
only_pile names level after None apart some none other are =
    absurd (nothing_piled names (level - 1) after other none (record { rest = are.rest; pile = are.piled apart }))
only_pile names level after (Some files) apart some none other are =
    let piled : PilesUp names (level - 1) after other = record { rest = are.rest; pile = are.piled apart } in
    let same = same_pile names (level - 1) after files other some piled in
    record {
      level = ap (λ (name : FileName). name.level) same;
      min = ap (λ (name : FileName). name.min) same;
      max = ap (λ (name : FileName). name.max) same;
    }
