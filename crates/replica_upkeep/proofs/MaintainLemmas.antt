-- What the whole upkeep does.
use Rattle.std.proofs.Common.{◌≡◌, ℕ, ◌+◌, ◌-◌, List, length, refl, sym, ap, subst, ◌∙◌}
use Rattle.crash_disk.specs.GoesOn.{GoesOn}
use Rattle.crash_disk.specs.Told.{Told, IfTold}
use Rattle.crash_disk.proofs.GoesOnLemmas.{goes_on-then, goes_on-then_grown, goes_on-weaker}
use Rattle.replica_store.specs.declared.dated_names.Dated.{Dated}
use Rattle.replica_store.specs.declared.file_name.FileName.{FileName}
use Rattle.replica_store.specs.Dropping.{MayDropAll}
use Rattle.replica_store.specs.Listing.{paths_of}
use Rattle.retention.specs.Drops.{AreDrops}
use Rattle.retention.specs.Pruning.{HasPruned}
use Rattle.replica_upkeep.specs.declared.answer.Upkeep.{Upkeep}
use Rattle.replica_upkeep.specs.declared.answer.UpkeepStop.{UpkeepStop}
use Rattle.replica_upkeep.specs.Answers.{Explains, IsSound}
use Rattle.replica_upkeep.specs.Faith.{KeepsFaith, Settles}
use Rattle.replica_upkeep.specs.Kept.{KeepsFiles}
use Rattle.replica_upkeep.specs.Levels.{merge_levels}
use Rattle.replica_upkeep.specs.Maintained.{HasMaintained}
use Rattle.replica_upkeep.specs.Turn.{HaveTurned, StopsTurns}
use Rattle.replica_upkeep.specs.Maintained.{left}
use Rattle.replica_upkeep.proofs.DropFaithLemmas.{drops_keep_faith, drops_keep_files, drops_settle}
use Rattle.replica_upkeep.proofs.FaithLemmas.{adds_keep, faith_then, settles_then}
use Rattle.replica_upkeep.proofs.LeftLemmas.{left_files}

-- ---- a refusal of a turn

module _ (now : ℕ) (dated : List Dated) (stop : UpkeepStop) (a b : Told)
    (stops : GoesOn a b (StopsTurns now dated stop)) (cut : ℕ) where
  pub stopped_files : GoesOn a b (KeepsFiles cut)
  stopped_files = goes_on-weaker a b (StopsTurns now dated stop) (KeepsFiles cut) stops
      (λ x y is. adds_keep cut x y is.adds.adds)

  pub stopped_faith : GoesOn a b (KeepsFaith cut)
  stopped_faith = goes_on-weaker a b (StopsTurns now dated stop) (KeepsFaith cut) stops (λ x y is. is.adds.faith cut)

  pub stopped_explained : IfTold a (Explains dated now stop)
  stopped_explained events told = (stops.told events told).2.explained

  pub stopped_sound : IfTold a (IsSound stop)
  stopped_sound events told = (stops.told events told).2.sound

-- ---- behind the turns

-- the drops are those of the list behind the turns, with the cut
pub drops_at : (seen merged : List Dated) (cut at : ℕ) (names : List FileName) (lost : List ℕ)
    → AreDrops seen cut names lost
    → seen ≡ merged → cut ≡ at → AreDrops merged at names lost
drops_at seen merged cut at names lost drops same cut_is =
    subst (λ (n : ℕ). AreDrops merged n names lost) cut_is (subst (λ (ds : List Dated). AreDrops ds cut names lost)
    same drops)

pub turned_at : (levels : List ℕ) (now : ℕ) (seen dated merged : List Dated) (count : ℕ) (a b : Told)
    → GoesOn a b (HaveTurned levels now seen merged count) → seen ≡ dated
    → GoesOn a b (HaveTurned levels now dated merged count)
turned_at levels now seen dated merged count a b turned same =
    subst (λ (ds : List Dated). GoesOn a b (HaveTurned levels now ds merged count)) same turned

module _ (now : ℕ) (dated merged : List Dated) (count : ℕ) (a b : Told)
    (turned : GoesOn a b (HaveTurned merge_levels now dated merged count)) where
  pub turned_files_kept : (cut : ℕ) → GoesOn a b (KeepsFiles cut)
  turned_files_kept cut =
      goes_on-weaker a b (HaveTurned merge_levels now dated merged count) (KeepsFiles cut) turned
      (λ x y is. adds_keep cut x y is.adds.adds)

  pub turned_faith_kept : (cut : ℕ) → GoesOn a b (KeepsFaith cut)
  turned_faith_kept cut =
      goes_on-weaker a b (HaveTurned merge_levels now dated merged count) (KeepsFaith cut) turned
      (λ x y is. is.adds.faith cut)

  module _ (cut : ℕ) (c : Told) (names : List FileName) (lost : List ℕ) (drops : AreDrops merged cut names lost) where
    pub dropped_files : GoesOn b c (MayDropAll (paths_of names)) → GoesOn a c (KeepsFiles cut)
    dropped_files may =
        goes_on-then a b c (HaveTurned merge_levels now dated merged count) (MayDropAll (paths_of names))
        (KeepsFiles cut) turned may
        (λ x y z is gone. drops_keep_files cut y z merged names lost is.files drops gone x is.adds.adds)

    pub dropped_faith : GoesOn b c (MayDropAll (paths_of names)) → GoesOn a c (KeepsFaith cut)
    dropped_faith may =
        goes_on-then_grown a b c (HaveTurned merge_levels now dated merged count) (MayDropAll (paths_of names))
        (KeepsFaith cut) turned may
        (λ x y z start rest is gone.
        faith_then cut x y z start rest (is.adds.faith cut) is.settles
        (drops_keep_faith cut y z merged names lost is.files drops gone))

    pub dropped_settles : GoesOn b c (HasPruned names) → GoesOn a c Settles
    dropped_settles pruned =
        goes_on-then a b c (HaveTurned merge_levels now dated merged count) (HasPruned names) Settles turned pruned
        (λ x y z is gone.
        settles_then x y z is.settles (drops_settle cut y z merged names lost is.files drops gone.others gone))

  pub has_maintained : (keep : ℕ) (c : Told) (names : List FileName) (lost : List ℕ) (upkeep : Upkeep)
      → AreDrops merged (now - keep) names lost → upkeep.merged ≡ count → upkeep.dropped ≡ length names
      → upkeep.lost ≡ length lost
      → GoesOn b c (HasPruned names) → GoesOn a c (HasMaintained dated keep now upkeep)
  has_maintained keep c names lost upkeep drops merges gone losses pruned =
      goes_on-then a b c (HaveTurned merge_levels now dated merged count) (HasPruned names)
      (HasMaintained dated keep now upkeep)
      turned pruned
      (λ x y z is went. record {
        later = left drops.kept merged;
        maintained = record {
          merged = merged;
          merges = is.merges;
          added = is.counts ∙ ap (λ (n : ℕ). length dated + n) (sym merges);
          names = names;
          lost = lost;
          drops = drops;
          left_over = refl;
          gone = gone;
          losses = losses;
        };
        files = left_files (now - keep) y z merged names lost is.files drops went;
      })
