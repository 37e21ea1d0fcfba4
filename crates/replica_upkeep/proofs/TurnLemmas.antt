-- What the turn of a level does, for each way in which it ends.
use Rattle.std.proofs.Common.{◌≡◌, ℕ, List, ◌∷◌, refl, sym, ap, subst, ◌∙◌, inl, inr, arith}
use Rattle.std.specs.Prelude.{◌⊎◌}
use Rattle.std.proofs.lemmas.List.Sorted.{length_permutation}
use Rattle.std.proofs.lemmas.Option.{none-some}
use Rattle.crash_disk.specs.declared.event.Event.{Event}
use Rattle.crash_disk.specs.Files.{Files, files_after}
use Rattle.crash_disk.specs.GoesOn.{GoesOn, IsGrown}
use Rattle.crash_disk.specs.Told.{Told, IfTold}
use Rattle.crash_disk.proofs.GoesOnLemmas.{goes_on-same, told_now}
use Rattle.ltx_format.specs.declared.header.LtxHeader.{LtxHeader}
use Rattle.ltx_format.proofs.FrontLemmas.{no_header_fault, same_header}
use Rattle.compact_levels.specs.Merged.{HasMerged, LeavesUnmerged, MayHaveMerged, Merges, run_path}
use Rattle.compact_levels.specs.Merged.{IsDamagedRun, IsLackingRun}
use Rattle.compact_levels.specs.declared.merge_fault.MergeFault.{MergeFault}
use Rattle.compact_levels.specs.declared.merge_fault.MergeFault.TheVariants as merge
use Rattle.compact_levels.specs.declared.run.Run.{Run}
use Rattle.replica_store.specs.declared.dated_names.Dated.{Dated}
use Rattle.replica_store.specs.declared.error.Damage.{Damage}
use Rattle.replica_store.specs.declared.error.Damage.TheVariants.{File, NameDiffers, SizeDiffers}
use Rattle.replica_store.specs.declared.error.StoreError.{StoreError}
use Rattle.replica_store.specs.declared.error.StoreError.TheVariants as header
use Rattle.replica_store.specs.declared.file_name.FileName.{FileName}
use Rattle.replica_store.specs.Chain.{names_of}
use Rattle.replica_store.specs.Dating.{ExplainsHeader, IsHeaderDamage, IsHeaderUnder, TellsHeader}
use Rattle.replica_store.specs.Listing.{bytes_under, path_of}
use Rattle.replica_store.specs.Putting.{HasPut, KeepsOthers, Puts}
use Rattle.replica_upkeep.specs.declared.answer.UpkeepStop.{UpkeepStop}
use Rattle.replica_upkeep.specs.declared.answer.UpkeepStop.TheVariants.{Damaged, Store, Memory}
use Rattle.replica_upkeep.specs.Answers.{IsDueAt, stop_at, stop_of}
use Rattle.replica_upkeep.specs.Kept.{AreFiles}
use Rattle.replica_upkeep.specs.Levels.{IsWith, LacksDue}
use Rattle.replica_upkeep.specs.Turn.{Adds, HasTurned, StopsTurn}
use Rattle.replica_upkeep.proofs.FaithLemmas.{kept_adds, put_adds, put_settles, same_adds, same_settles}
use Rattle.replica_upkeep.proofs.ListedLemmas.{IsMore, files_more}
use Rattle.replica_upkeep.proofs.MergedLemmas.{IsDueRun, dated_run, header_under, is_absent, merge_under, merged_truth}
use Rattle.replica_upkeep.proofs.MergedLemmas.{more_by_put, path_is, run_path_valid, valid_name}
use Rattle.replica_upkeep.proofs.MomentLemmas.{one_header}

-- ---- what is told

-- where the disk tells what held before, and what holds now
pub goes_on_given : (old new : Told) (F G : List Event → Type 0) (P Q : List Event → List Event → Type 0)
    → IfTold old F → IfTold new G
    → GoesOn old new P → ((x y : List Event) → IsGrown x y → F x → G y → P x y → Q x y) → GoesOn old new Q
goes_on_given old new F G P Q before now goes implies = record {
  told = λ events is.
      let g = goes.told events is in
      (g.0, g.1, implies events g.0 g.3 (before events is) (now g.0 g.1) g.2, g.3);
  silent = goes.silent;
}

abbrev pub Always : List Event → Type 0
Always events = Unit {0}

pub always : (told : Told) → IfTold told Always
always told events is = tt

abbrev pub Tells : List Dated → List Event → Type 0
Tells dated events = AreFiles (files_after events) dated

-- ---- no run is due

pub none_due : (told : Told) (level now : ℕ) (dated : List Dated) → IfTold told (Tells dated) → LacksDue level now dated
    → GoesOn told told (HasTurned level now dated dated 0)
none_due told level now dated files lacks =
    goes_on_given told told (Tells dated) Always (λ x y. y ≡ x) (HasTurned level now dated dated 0) files (always told)
    (goes_on-same told told (λ x y. y ≡ x) refl (λ events. refl))
    (λ x y grown are _ same.
    subst (λ (z : List Event). HasTurned level now dated dated 0 x z) (sym same) (record {
      merges = inl (lacks, refl);
      counts = omega arith;
      files = are;
      adds = same_adds x;
      settles = same_settles x;
    }))

pub no_memory : (told : Told) (level now : ℕ) (dated : List Dated) → GoesOn told told (StopsTurn level now dated Memory)
no_memory told level now dated =
    goes_on-same told told (StopsTurn level now dated Memory) refl
    (λ events. record { blames = tt; adds = same_adds events })

-- ---- a run is due

module _ (level now : ℕ) (dated : List Dated) (run : Run) (name : FileName) (is : IsDueRun dated level now run name)
  where
    abbrev names : List FileName
    names = names_of dated

    abbrev put_at_name : (x y : List Event) (bytes : List ℕ) → Puts (run_path run) bytes x y
        → Puts (path_of name) bytes x y
    put_at_name x y bytes puts = subst (λ (p : List ℕ). Puts p bytes x y) (sym (path_is run name is.named)) puts

    by_put : (x y : List Event) (bytes : List ℕ) → Tells dated x → Merges (files_after x) names run bytes
        → Puts (run_path run) bytes x y → Adds x y
    by_put x y bytes are merges puts =
        put_adds name bytes x y (valid_name run name is.valid is.named) (is_absent x dated level now run name are is)
        (merge_under (files_after x) dated run name bytes are merges is.named y)
        (merged_truth (files_after x) dated run name bytes are merges is.named is.valid)
        (put_at_name x y bytes puts)

    pub merged_adds : (x y : List Event) → AreFiles (files_after x) dated → HasMerged names run x y → Adds x y
    merged_adds x y are merged = by_put x y merged.bytes are merged.merges merged.put.puts

    kept_path : (x y : List Event) → KeepsOthers (run_path run) x y → Adds x y
    kept_path x y kept = kept_adds (run_path run) x y (run_path_valid run is.valid) kept

    -- the merged file has the header
    merged_header : (x y : List Event) (are : AreFiles (files_after x) dated) (merged : HasMerged names run x y)
        → IsHeaderUnder (files_after y) name merged.merges.merge.merge.header
    merged_header x y are merged =
        header_under (files_after x) dated run name merged.bytes are merged.merges is.named (files_after y)
        (put_at_name x y merged.bytes merged.put.puts).file

    module _ (x y : List Event) (are : AreFiles (files_after x) dated) (merged : HasMerged names run x y) (one : Dated)
        (longer : List Dated) (header : LtxHeader) (under : IsHeaderUnder (files_after y) name header)
        (named : one.name ≡ name)
        (moment : one.moment ≡ header.moment) (with : IsWith dated one longer) where
      same_moment : header.moment ≡ merged.merges.merge.merge.header.moment
      same_moment =
          let own = merged_header x y are merged in
          ap (λ (h : LtxHeader). h.moment) (one_header (files_after y) name header _ under own)

      path_put : HasPut (path_of name) merged.bytes x y
      path_put = subst (λ (p : List ℕ). HasPut p merged.bytes x y) (sym (path_is run name is.named)) merged.put

      turned : HasTurned level now dated longer 1 x y
      turned = record {
        merges = inr (record {
          run = run;
          at_level = is.at_level;
          due = is.due;
          one = one;
          dates = dated_run (files_after x) dated run name merged.bytes are merged.merges is.named one named
              (moment ∙ same_moment);
          joins = with;
        });
        counts = omega (arith, length_permutation (one ∷ dated) longer with.same);
        files = files_more (files_after x) (files_after y) one merged.bytes dated longer
            (subst (λ (n : FileName). IsMore (files_after x) (files_after y) n merged.bytes) (sym named)
            (more_by_put x y name merged.bytes (valid_name run name is.valid is.named)
            (is_absent x dated level now run name are is)
            path_put.puts))
            are with header (subst (λ (n : FileName). IsHeaderUnder (files_after y) n header) (sym named) under)
            (sym moment);
        adds = merged_adds x y are merged;
        settles = put_settles name merged.bytes x y (valid_name run name is.valid is.named)
            (is_absent x dated level now run name are is)
            (merge_under (files_after x) dated run name merged.bytes are merged.merges is.named y)
            (merged_truth (files_after x) dated run name merged.bytes are merged.merges is.named is.valid) path_put.puts
            path_put;
      }

    pub has_turned : (old new : Told) (one : Dated) (longer : List Dated) (h : LtxHeader) → IfTold old (Tells dated)
        → GoesOn old new (HasMerged names run) → TellsHeader new name h → one.name ≡ name
        → one.moment ≡ h.moment
        → IsWith dated one longer → GoesOn old new (HasTurned level now dated longer 1)
    has_turned old new one longer header files goes tells named moment with =
        goes_on_given old new (Tells dated) (λ events. IsHeaderUnder (files_after events) name header)
        (HasMerged names run)
        (HasTurned level now dated longer 1) files tells goes
        (λ x y grown are under merged. turned x y are merged one longer header under named moment with)

    -- ---- a refusal

    abbrev Stops : UpkeepStop → List Event → List Event → Type 0
    Stops stop = StopsTurn level now dated stop

    due_at : (files : Files) (Holds : Files → List FileName → Run → Type 0) → Holds files names run
        → IsDueAt level now dated files Holds
    due_at files Holds holds = record { run = run; at_level = is.at_level; due = is.due; holds = holds }

    may_have : (x y : List Event) → AreFiles (files_after x) dated
        → KeepsOthers (run_path run) x y ⊎ MayHaveMerged names run x y
        → Adds x y
    may_have x y are (inl kept) = kept_path x y kept
    may_have x y are (inr may) = by_put x y may.bytes are may.merges may.put

    unmerged : (fault : MergeFault) (x y : List Event) → AreFiles (files_after x) dated
        → LeavesUnmerged names run fault x y
        → Stops (stop_of fault) x y
    unmerged (merge.Damaged bad damage) x y are (damaged, kept) = record {
      blames = due_at (files_after x) (λ files names run. IsDamagedRun files names run bad damage) damaged;
      adds = kept_path x y kept;
    }
    unmerged (merge.PageMissing bad number) x y are (lacking, kept) = record {
      blames = due_at (files_after x) (λ files names run. IsLackingRun files names run bad number) lacking;
      adds = kept_path x y kept;
    }
    unmerged (merge.Store fault) x y are left = record { blames = tt; adds = may_have x y are left }
    unmerged merge.Memory x y are kept = record { blames = tt; adds = kept_path x y kept }

    pub stops_unmerged : (old new : Told) (fault : MergeFault) → IfTold old (Tells dated)
        → GoesOn old new (LeavesUnmerged names run fault)
        → GoesOn old new (Stops (stop_of fault))
    stops_unmerged old new fault files goes =
        goes_on_given old new (Tells dated) Always (LeavesUnmerged names run fault) (Stops (stop_of fault)) files
        (always new) goes
        (λ x y grown are _ left. unmerged fault x y are left)

    pub stops_behind : (old new : Told) → IfTold old (Tells dated) → GoesOn old new (HasMerged names run)
        → GoesOn old new (Stops Memory)
    stops_behind old new files goes =
        goes_on_given old new (Tells dated) Always (HasMerged names run) (Stops Memory) files (always new) goes
        (λ x y grown are _ merged. record { blames = tt; adds = merged_adds x y are merged })

    -- no merged file has a damaged header
    not_damaged : (x y : List Event) (damage : Damage) → AreFiles (files_after x) dated → HasMerged names run x y
        → IsHeaderDamage (files_after y) name damage → ⊥
    not_damaged x y (File fault) are merged is-damaged =
        none-some fault (sym (no_header_fault _ _ (merged_header x y are merged).has) ∙ is-damaged)
    not_damaged x y NameDiffers are merged others =
        let own = merged_header x y are merged in
        let same = same_header (bytes_under (files_after y) (path_of name)) _ others.header own.has others.has in
        elim others.differs [
          | inl min ↦ min (sym (ap (λ (h : LtxHeader). h.min) same) ∙ own.from_min)
          | inr max ↦ max (sym (ap (λ (h : LtxHeader). h.max) same) ∙ own.to_max)
        ]
    not_damaged x y SizeDiffers are merged never = never

    pub stops_at_header : (old new : Told) (error : StoreError) → IfTold old (Tells dated)
        → GoesOn old new (HasMerged names run)
        → ExplainsHeader new name error → GoesOn old new (Stops (stop_at error))
    stops_at_header old new (header.Store fault) files goes explained =
        goes_on_given old new (Tells dated) Always (HasMerged names run) (Stops (Store fault)) files (always new) goes
        (λ x y grown are _ merged. record { blames = tt; adds = merged_adds x y are merged })
    stops_at_header old new (header.Damaged other damage) files goes (same, tells) =
        goes_on_given old new (Tells dated) (λ events. IsHeaderDamage (files_after events) name damage)
        (HasMerged names run)
        (Stops (Damaged other damage)) files tells goes
        (λ x y grown are bad merged. absurd (not_damaged x y damage are merged bad))
    stops_at_header old new header.Memory files goes explained = absurd explained

-- the files behind the turn
pub turned_files : (old new : Told) (level now : ℕ) (dated longer : List Dated) (count : ℕ)
    → GoesOn old new (HasTurned level now dated longer count) → IfTold new (Tells longer)
turned_files old new level now dated longer count goes =
    told_now old new (HasTurned level now dated longer count) (Tells longer) goes (λ x y turned. turned.files)
