-- The turns of levels, one after another.
use Rattle.std.proofs.Common.{◌≡◌, ℕ, ◌+◌, List, [], ◌∷◌, ◌++◌, refl, sym, subst, arith}
use Rattle.crash_disk.specs.declared.event.Event.{Event}
use Rattle.crash_disk.specs.Files.{Files, files_after}
use Rattle.crash_disk.specs.GoesOn.{GoesOn, IsGrown}
use Rattle.crash_disk.specs.Told.{Told, IfTold}
use Rattle.crash_disk.proofs.GoesOnLemmas.{goes_on-same, goes_on-then_grown}
use Rattle.compact_levels.specs.Merged.{IsDamagedRun, IsLackingRun}
use Rattle.compact_levels.specs.declared.run.Run.{Run}
use Rattle.compact_levels.proofs.FaithSoundLemmas.{runs_are_sound, runs_are_whole}
use Rattle.replica_store.specs.declared.dated_names.Dated.{Dated}
use Rattle.replica_store.specs.declared.file_name.FileName.{FileName}
use Rattle.replica_store.specs.Chain.{names_of}
use Rattle.replica_upkeep.specs.declared.answer.UpkeepStop.{UpkeepStop}
use Rattle.replica_upkeep.specs.declared.answer.UpkeepStop.TheVariants.{Damaged, PageMissing, Store, Memory}
use Rattle.replica_upkeep.specs.Answers.{Explains, IsDueAt, IsDueThen, IsSound}
use Rattle.replica_upkeep.specs.Levels.{MergesLevel, MergesLevels, merge_levels}
use Rattle.replica_upkeep.specs.Turn.{BlamesRun, HasTurned, HaveTurned, StopsTurn, StopsTurns}
use Rattle.replica_upkeep.proofs.FaithLemmas.{all_then, same_adds, same_settles, settles_then}
use Rattle.replica_upkeep.proofs.MergedLemmas.{all_in}
use Rattle.replica_upkeep.proofs.TurnLemmas.{Always, Tells, always, goes_on_given}

merges_more : (levels : List ℕ) (level now : ℕ) (dated mid longer : List Dated) → MergesLevels levels now dated mid
    → MergesLevel level now mid longer → MergesLevels (levels ++ level ∷ []) now dated longer
merges_more [] level now dated mid longer is turn =
    (longer, subst (λ (ds : List Dated). MergesLevel level now ds longer) is turn, refl)
merges_more (first ∷ levels) level now dated mid longer merges turn =
    (merges.0, merges.1, merges_more levels level now merges.0 mid longer merges.2 turn)

-- before the first turn
pub none_turned : (told : Told) (now : ℕ) (dated : List Dated) → IfTold told (Tells dated)
    → GoesOn told told (HaveTurned [] now dated dated 0)
none_turned told now dated files =
    goes_on_given told told (Tells dated) Always (λ x y. y ≡ x) (HaveTurned [] now dated dated 0) files (always told)
    (goes_on-same told told (λ x y. y ≡ x) refl (λ events. refl))
    (λ x y grown are _ same.
    subst (λ (z : List Event). HaveTurned [] now dated dated 0 x z) (sym same) (record {
      merges = refl;
      counts = omega arith;
      files = are;
      adds = same_adds x;
      settles = same_settles x;
    }))

module _ (levels : List ℕ) (now : ℕ) (dated mid : List Dated) (count level : ℕ) (a b c : Told)
    (so_far : GoesOn a b (HaveTurned levels now dated mid count)) where
  joins : (longer : List Dated) (more : ℕ) (x y z : List Event) → IsGrown x y → IsGrown y z
      → HaveTurned levels now dated mid count x y → HasTurned level now mid longer more y z
      → HaveTurned (levels ++ level ∷ []) now dated longer (count + more) x z
  joins longer more x y z start rest before turn = record {
    merges = merges_more levels level now dated mid longer before.merges turn.merges;
    counts = omega (arith, before.counts, turn.counts);
    files = turn.files;
    adds = all_then x y z start rest before.adds before.settles turn.adds;
    settles = settles_then x y z before.settles turn.settles;
  }

  pub one_more_turned : (longer : List Dated) (more : ℕ) → GoesOn b c (HasTurned level now mid longer more)
      → GoesOn a c (HaveTurned (levels ++ level ∷ []) now dated longer (count + more))
  one_more_turned longer more turn =
      goes_on-then_grown a b c (HaveTurned levels now dated mid count) (HasTurned level now mid longer more)
      (HaveTurned (levels ++ level ∷ []) now dated longer (count + more)) so_far turn (joins longer more)

  -- ---- a refusal

  module _ (others : List ℕ) (order : merge_levels ≡ levels ++ level ∷ others) where
    due_then : (x y : List Event) (Holds : Files → List FileName → Run → Type 0)
        → HaveTurned levels now dated mid count x y
        → IsDueAt level now mid (files_after y) Holds → IsDueThen dated now x Holds
    due_then x y Holds before due = record {
      first = levels;
      level = level;
      others = others;
      order = order;
      longer = mid;
      merges = before.merges;
      mid = y;
      adds = before.adds.adds;
      files = before.files;
      due_then = due;
    }

    explains : (stop : UpkeepStop) (x y : List Event) → HaveTurned levels now dated mid count x y
        → BlamesRun level now mid stop y
        → Explains dated now stop x
    explains (Damaged name damage) x y before blames =
        due_then x y (λ files names run. IsDamagedRun files names run name damage) before blames
    explains (PageMissing name number) x y before blames =
        due_then x y (λ files names run. IsLackingRun files names run name number) before blames
    explains (Store fault) x y before blames = tt
    explains Memory x y before blames = tt

    sound : (stop : UpkeepStop) (x y : List Event) → HaveTurned levels now dated mid count x y
        → BlamesRun level now mid stop y
        → IsSound stop x
    sound (Damaged name damage) x y before blames history log faithful =
        runs_are_sound (files_after y) history log (names_of mid) blames.run name damage
        (before.adds.read history log faithful)
        (all_in (files_after y) mid before.files) blames.holds
    sound (PageMissing name number) x y before blames history log faithful =
        runs_are_whole (files_after y) history log (names_of mid) blames.run name number
        (before.adds.read history log faithful)
        (all_in (files_after y) mid before.files) blames.holds
    sound (Store fault) x y before blames history log faithful = tt
    sound Memory x y before blames history log faithful = tt

    pub stops_then : (stop : UpkeepStop) → GoesOn b c (StopsTurn level now mid stop)
        → GoesOn a c (StopsTurns now dated stop)
    stops_then stop stops =
        goes_on-then_grown a b c (HaveTurned levels now dated mid count) (StopsTurn level now mid stop)
        (StopsTurns now dated stop)
        so_far stops
        (λ x y z start rest before turn. record {
          explained = explains stop x y before turn.blames;
          sound = sound stop x y before turn.blames;
          adds = all_then x y z start rest before.adds before.settles turn.adds;
        })

-- the first turn
pub first_turned : (now : ℕ) (dated longer : List Dated) (level count : ℕ) (a b : Told) → IfTold a (Tells dated)
    → GoesOn a b (HasTurned level now dated longer count) → GoesOn a b (HaveTurned (level ∷ []) now dated longer count)
first_turned now dated longer level count a b files turn =
    let same : 0 + count ≡ count = omega arith in
    subst (λ (n : ℕ). GoesOn a b (HaveTurned (level ∷ []) now dated longer n)) same
    (one_more_turned [] now dated dated 0 level a a b (none_turned a now dated files) longer count turn)
