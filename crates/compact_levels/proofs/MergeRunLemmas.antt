-- What the merge of a run's files says of the run.
use Rattle.std.proofs.Common.{◌≡◌, ℕ, List, ◌∷◌, refl, sym, ap, subst, ◌∙◌, inl, inr}
use Rattle.std.specs.Prelude.{◌⊎◌}
use Rattle.crash_disk.specs.declared.event.Event.{Event}
use Rattle.crash_disk.specs.Files.{files_after}
use Rattle.crash_disk.specs.GoesOn.{GoesOn}
use Rattle.crash_disk.specs.Told.{Told}
use Rattle.crash_disk.proofs.GoesOnLemmas.{goes_on-same, goes_on-weaker}
use Rattle.page_cursors.specs.PlanFiles.{IsFirstDamaged, IsFirstMissing}
use Rattle.replica_store.specs.declared.file_name.FileName.{FileName}
use Rattle.replica_store.specs.Listing.{path_of}
use Rattle.replica_store.specs.NameText.{file_path}
use Rattle.replica_store.specs.Putting.{KeepsOthers, Puts, HasPut}
use Rattle.replica_store.proofs.ImageLemmas.{others_start}
use Rattle.compact_levels.specs.declared.merge_fault.MergeFault.{MergeFault}
use Rattle.compact_levels.specs.declared.merge_fault.MergeFault.TheVariants.{Damaged, PageMissing, Store, Memory}
use Rattle.compact_levels.specs.declared.run.Run.{Run}
use Rattle.compact_levels.specs.Merged.{AreRunFiles, HasMerged, HasMergedPlan, IsMergeOfPlan, IsNameOf, LeavesPlan}
use Rattle.compact_levels.specs.Merged.{LeavesUnmerged}
use Rattle.compact_levels.specs.Merged.{MayHaveMerged, MayHaveMergedPlan, Merges, Spans, run_path}
use Rattle.compact_levels.specs.RunFiles.{IsMemory}
use Rattle.compact_levels.proofs.RunOfLemmas.{spans}

path_is : (run : Run) (name : FileName) → IsNameOf run name → path_of name ≡ run_path run
path_is run name named =
    ap (λ (l : ℕ). file_path l name.min name.max) named.level ∙ ap (λ (m : ℕ). file_path run.level m name.max) named.min
    ∙ ap (λ (m : ℕ). file_path run.level run.min m) named.max

-- no memory for the files' names
pub no_files : (told : Told) (names : List FileName) (run : Run) (fault : MergeFault) → IsMemory fault
    → GoesOn told told (LeavesUnmerged names run fault)
no_files told names run (Damaged name damage) of = absurd of
no_files told names run (PageMissing name number) of = absurd of
no_files told names run (Store fault) of = absurd of
no_files told names run Memory of = goes_on-same told told (LeavesUnmerged names run Memory) refl
    (λ events. others_start (run_path run) events)

pub run_spans : (names : List FileName) (run : Run) (plan : List FileName) (name : FileName)
    → AreRunFiles names run plan
    → IsNameOf run name → Spans plan name.min name.max
run_spans names run plan name are named =
    subst (λ (m : ℕ). Spans plan m name.max) (sym named.min)
    (subst (λ (m : ℕ). Spans plan run.min m) (sym named.max) (spans names run plan are))

module _ (names : List FileName) (run : Run) (plan : List FileName) (name : FileName) (are : AreRunFiles names run plan)
    (named : IsNameOf run name) where
  merges_run : (events : List Event) (bytes : List ℕ) → IsMergeOfPlan (files_after events) plan bytes
      → Merges (files_after events) names run bytes
  merges_run events bytes merge = record {
    of = are.of;
    merge = subst (λ (ns : List FileName). IsMergeOfPlan (files_after events) ns bytes) are.is merge;
  }

  path : path_of name ≡ run_path run
  path = path_is run name named

  pub has_merged_run : (begun now : Told) → GoesOn begun now (HasMergedPlan plan (path_of name))
      → GoesOn begun now (HasMerged names run)
  has_merged_run begun now put =
      goes_on-weaker begun now (HasMergedPlan plan (path_of name)) (HasMerged names run) put (λ x y has. record {
        bytes = has.bytes;
        merges = merges_run x has.bytes has.merge;
        put = subst (λ (p : List ℕ). HasPut p has.bytes x y) path has.put;
      })

  may_have : (x y : List Event) → KeepsOthers (path_of name) x y ⊎ MayHaveMergedPlan plan (path_of name) x y
      → KeepsOthers (run_path run) x y ⊎ MayHaveMerged names run x y
  may_have x y (inl kept) = inl (subst (λ (p : List ℕ). KeepsOthers p x y) path kept)
  may_have x y (inr has) = inr (record {
    bytes = has.bytes;
    merges = merges_run x has.bytes has.merge;
    put = subst (λ (p : List ℕ). Puts p has.bytes x y) path has.put;
  })

  kept_run : (x y : List Event) → KeepsOthers (path_of name) x y → KeepsOthers (run_path run) x y
  kept_run x y kept = subst (λ (p : List ℕ). KeepsOthers p x y) path kept

  pub leaves_unmerged : (begun now : Told) (fault : MergeFault)
      → GoesOn begun now (LeavesPlan name.min plan (path_of name) fault)
      → GoesOn begun now (LeavesUnmerged names run fault)
  leaves_unmerged begun now (Damaged bad damage) leaves =
      goes_on-weaker begun now (LeavesPlan name.min plan (path_of name) (Damaged bad damage))
      (LeavesUnmerged names run (Damaged bad damage)) leaves
      (λ x y is. (
        record {
          of = are.of;
          damaged = subst (λ (ns : List FileName). IsFirstDamaged (files_after x) ns bad damage) are.is is.0;
        },
        kept_run x y is.1,
      ))
  leaves_unmerged begun now (PageMissing bad number) leaves =
      goes_on-weaker begun now (LeavesPlan name.min plan (path_of name) (PageMissing bad number))
      (LeavesUnmerged names run (PageMissing bad number))
      leaves
      (λ x y is. (
        record {
          of = are.of;
          from_first = sym named.min ∙ is.0;
          missing = subst (λ (ns : List FileName). IsFirstMissing (files_after x) ns bad number) are.is is.1;
        },
        kept_run x y is.2,
      ))
  leaves_unmerged begun now (Store fault) leaves =
      goes_on-weaker begun now (LeavesPlan name.min plan (path_of name) (Store fault))
      (LeavesUnmerged names run (Store fault)) leaves may_have
  leaves_unmerged begun now Memory leaves =
      goes_on-weaker begun now (LeavesPlan name.min plan (path_of name) Memory) (LeavesUnmerged names run Memory)
      leaves kept_run
