-- When no run is due, and when one is.
use Rattle.std.proofs.Common.{arith, ◌≡◌, ℕ, ◌<◌, ◌≤◌, ◌/◌, inl, inr, IsTrue, List, Option, Some, None, refl, sym}
use Rattle.std.proofs.Common.{ap, ◌∙◌, subst}
use Rattle.std.specs.Prelude.{unwrap_or}
use Rattle.std.proofs.lemmas.Bool.{cases_lt}
use Rattle.replica_store.specs.declared.dated_names.Dated.{Dated}
use Rattle.replica_store.specs.declared.file_name.FileName.{FileName}
use Rattle.replica_store.specs.Chain.{names_of}
use Rattle.replica_store.specs.NameText.{is_level}
use Rattle.compact_levels.specs.Level.{IsMergeLevel, IsEndOf, interval}
use Rattle.compact_levels.specs.Due.{file_moment, WaitsSince, IsDue}
use Rattle.compact_levels.specs.Pile.{AreFilesFor, IsLastSoFar, IsSameName}
use Rattle.compact_levels.specs.declared.files.Files.{Files}
use Rattle.compact_levels.specs.declared.run.Run.{Run}
use Rattle.compact_levels.proofs.MomentLemmas.{waits_since, waits_told}
use Rattle.compact_levels.proofs.RunLemmas.{files_of_run, run_of_files}

abbrev is_told : Option ℕ → ℕ
is_told None = 0
is_told (Some moment) = 1

not_none : {moment : ℕ} → None ≡ Some moment → ⊥
not_none e = let one : 0 ≡ 1 = ap is_told e in absurd (omega (arith, one))

-- where the level has no files to take
pub no_files : (dated : List Dated) (level now after : ℕ) → IsEndOf (names_of dated) level after
    → ((other : Files) → AreFilesFor (names_of dated) level after other → ⊥)
    → (run : Run) → run.level ≡ level → IsDue dated now run → ⊥
no_files dated level now after end none run own due =
    none (record { first = due.first; end = run.max })
    (files_of_run (names_of dated) level after run due.first due.rest end own due.files)

module _ (dated : List Dated) (level now after : ℕ) (last : Option FileName) (first : FileName)
    (end : IsEndOf (names_of dated) level after) (so_far : IsLastSoFar (names_of dated) level last)
    (only : (other : Files) → AreFilesFor (names_of dated) level after other → IsSameName first other.first) where
  -- the moment of a run that is due
  told : (run : Run) → run.level ≡ level → (due : IsDue dated now run)
      → file_moment dated (unwrap_or last first) ≡ Some due.moment
  told run own due =
      waits_told dated level last first due.first due.moment so_far
      (only (record { first = due.first; end = run.max })
      (files_of_run (names_of dated) level after run due.first due.rest end own due.files))
      (subst (λ l. WaitsSince dated l due.first due.moment) own due.waits)

  -- where it isn't told
  pub no_moment : file_moment dated (unwrap_or last first) ≡ None
      → (run : Run) → run.level ≡ level → IsDue dated now run → ⊥
  no_moment none run own due = not_none (sym none ∙ told run own due)

  -- where it is no earlier than the interval that holds now
  pub not_late : (moment : ℕ) → file_moment dated (unwrap_or last first) ≡ Some moment
      → now / interval level ≤ moment / interval level
      → (run : Run) → run.level ≡ level → IsDue dated now run → ⊥
  not_late moment is early run own due =
      let same : moment ≡ due.moment = ap (λ o. unwrap_or o 0) (sym is ∙ told run own due) in
      let low = subst (λ m. now / interval level ≤ m / interval level) same early in
      let late = subst (λ l. due.moment / interval l < now / interval l) own due.late in
      omega (arith, low, late)

-- the files that were found make a run that is due
pub is_due : (dated : List Dated) (level now after : ℕ) (last : Option FileName) (files : Files) (moment : ℕ)
    (run : Run)
    → IsMergeLevel level → IsEndOf (names_of dated) level after → IsLastSoFar (names_of dated) level last
    → AreFilesFor (names_of dated) level after files
    → file_moment dated (unwrap_or last files.first) ≡ Some moment
    → moment / interval level < now / interval level
    → run.level ≡ level → run.min ≡ files.first.min → run.max ≡ files.end → IsDue dated now run
is_due dated level now after last files moment run merges end so_far are is late own min max = record {
  first = files.first;
  rest = are.rest;
  files = run_of_files (names_of dated) level after run files merges end own min max are;
  moment = moment;
  waits = subst (λ l. WaitsSince dated l files.first moment) (sym own)
      (waits_since dated level last files.first moment so_far is);
  late = subst (λ l. moment / interval l < now / interval l) (sym own) late;
}

-- a level that files are merged into is one
pub is_known : (level : ℕ) → IsMergeLevel level → IsTrue (is_level level)
is_known level (inl one) = subst (λ l. IsTrue (is_level l)) (sym one) refl
is_known level (inr (inl two)) = subst (λ l. IsTrue (is_level l)) (sym two) refl
is_known level (inr (inr (inl three))) = subst (λ l. IsTrue (is_level l)) (sym three) refl
is_known level (inr (inr (inr nine))) = subst (λ l. IsTrue (is_level l)) (sym nine) refl

pub not_below : (a b : ℕ) → (a < b → ⊥) → b ≤ a
not_below a b not = elim (cases_lt a b) [ inl below ↦ absurd (not below) | inr within ↦ within ]
