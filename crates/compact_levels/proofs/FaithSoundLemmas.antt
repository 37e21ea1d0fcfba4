-- No file of a run that tells the truth is damaged, and no page is missing in it.
use Rattle.std.proofs.Common.{◌≡◌, ℕ, zero, suc, ◌+◌, ◌-◌, ◌<◌, ◌≤◌, List, [], ◌∷◌, ◌++◌, Option, Some, None, refl, sym}
use Rattle.std.proofs.Common.{ap, subst, ◌∙◌, inl, inr, arith}
use Rattle.std.specs.Prelude.{map, ◌⊎◌, IsSome}
use Rattle.std.specs.List.{AllByRecursion, Contains}
use Rattle.crash_disk.specs.Files.{Files}
use Rattle.ls_base.specs.Change.{Change, IsApplicable, apply}
use Rattle.ls_base.specs.History.{History}
use Rattle.ls_base.specs.State.{State, empty_state}
use Rattle.ls_base.specs.SyncLog.{SyncLog, recorded_state}
use Rattle.ltx_format.specs.declared.fault.LtxFault.{LtxFault}
use Rattle.ltx_format.specs.declared.file.LtxFile.{LtxFile}
use Rattle.ltx_format.specs.declared.header.LtxHeader.{LtxHeader}
use Rattle.ltx_format.specs.FirstFault.{first_fault}
use Rattle.ltx_format.specs.LtxFormat.{IsLtxFile, change_of}
use Rattle.ltx_format.proofs.FileFaults.{no_fault}
use Rattle.ltx_format.proofs.Theorems.{same_value}
use Rattle.page_cursors.specs.PlanFiles.{IsFirstDamaged, IsFirstMissing}
use Rattle.replica_store.specs.declared.error.Damage.{Damage}
use Rattle.replica_store.specs.declared.error.Damage.TheVariants.{File, NameDiffers, SizeDiffers}
use Rattle.replica_store.specs.declared.file_name.FileName.{FileName}
use Rattle.replica_store.specs.Applying.{AppliesTo}
use Rattle.replica_store.specs.Chain.{LeadsTo}
use Rattle.replica_store.specs.Faithful.{MayFollow, IsFaithful, IsFaithfulFile}
use Rattle.replica_store.specs.FileOf.{AreFilesUnder, HavePageSize, IsDamage, IsFileUnder}
use Rattle.replica_store.specs.Listing.{IsIn, path_of, bytes_under}
use Rattle.restore_plan.proofs.ChainLemmas.{chosen_leads, begins_once}
use Rattle.compact_levels.specs.Merged.{IsDamagedRun, IsLackingRun}
use Rattle.compact_levels.specs.MergeLaws.{AreIn, FaithfulRunsAreSound, FaithfulRunsAreWhole}
use Rattle.compact_levels.specs.Run.{IsGapless, IsRunOf}
use Rattle.compact_levels.specs.declared.run.Run.{Run}
use Rattle.compact_levels.proofs.FaithMergeLemmas.{run_in}
use Rattle.compact_levels.proofs.FaithRunLemmas.{IsTrue, is_true, there_bytes}
use Rattle.compact_levels.proofs.RunLemmas.{nine_or_not}

-- each of the files may be applied to the state behind the one before
abbrev pub FollowFrom : ℕ → List FileName → Type 0
FollowFrom from [] = Unit {0}
FollowFrom from (name ∷ plan) = MayFollow name.min name.max from × FollowFrom name.max plan

-- ---- the files of a run do

gapless_follow : (files : Files) (level end to : ℕ) (rest : List FileName) → AreIn files rest → 1 ≤ end
    → IsGapless level end rest to
    → FollowFrom end rest
gapless_follow files level end to [] there some gapless = tt
gapless_follow files level end to (name ∷ rest) there some (goes, gapless) =
    let valid = (there name (0, omega arith, refl)).valid in
    let min = goes.begins in
    let order = valid.in_order in (
      inr (omega (arith, min, some), omega (arith, min), omega (arith, min, order)),
      gapless_follow files level name.max to rest (λ n has. there n (suc has.0, omega (arith, has.1), has.2))
          (omega (arith, valid.from_first, order)) gapless,
    )

chain_follow : (names : List FileName) (from to : ℕ) (chain : List FileName) → LeadsTo names from chain to
    → AllByRecursion (λ name. 1 < name.min) chain → FollowFrom from chain
chain_follow names from to [] leads later = tt
chain_follow names from to (name ∷ chain) (there, next, leads) (late, later) = (
  inr (late, next.begins, omega (arith, next.goes_on)),
  chain_follow names name.max to chain leads later,
)

first_follows : (min max : ℕ) → 1 ≤ min → min ≤ max → MayFollow min max (min - 1)
first_follows zero max some order = absurd (omega (arith, some))
first_follows (suc zero) max some order = inl (refl, refl)
first_follows (suc (suc n)) max some order = inr (omega arith, omega arith, omega (arith, order))

run_follows : (files : Files) (names : List FileName) (run : Run) (first : FileName) (rest : List FileName)
    → AreIn files names
    → IsRunOf names run first rest → FollowFrom (first.min - 1) (first ∷ rest)
run_follows files names run first rest all is =
    let there = run_in files names run first rest all is in
    let valid = (there first (0, omega arith, refl)).valid in
    let later : AreIn files rest = λ n has. there n (suc has.0, omega (arith, has.1), has.2) in (
      first_follows first.min first.max valid.from_first valid.in_order,
      elim (nine_or_not run.level is.level) [
        | inl nine ↦
            let chosen = (is.whole nine).chain in
            chain_follow names first.max run.max rest (chosen_leads names run.max 0 (first ∷ rest) run.max chosen).2
            (begins_once names run.max (first ∷ rest) chosen)
        | inr other ↦ gapless_follow files (run.level - 1) first.max run.max rest later
            (omega (arith, valid.from_first, valid.in_order)) (is.piled other).gapless
      ],
    )

-- ---- what they hold

abbrev file_made : LtxHeader → Change → LtxFile
file_made h c = record { header = h; pages = c.pages }

same_change : (bytes : List ℕ) (h : LtxHeader) (c : Change) → IsLtxFile bytes h c → c ≡ change_of (file_made h c)
same_change bytes h c is =
    ap (λ (size : ℕ). record { page_size = size; commit = c.commit; pages = c.pages }) is.same_size
    ∙ ap (λ (commit : ℕ). record { page_size = h.size; commit = commit; pages = c.pages }) is.same_commit

same_state : (a b : State) → ◌≡◌ {A = Option State} (Some a) (Some b) → a ≡ b
same_state a b e = cc

same_size : (a b : ℕ) → ◌≡◌ {A = Option ℕ} (Some a) (Some b) → a ≡ b
same_size a b e = cc

module _ (files : Files) (history : History) (log : SyncLog) (faithful : IsFaithful files history log) where
  -- the file under a name that is there
  file_of : (name : FileName) → IsIn files name → (file : LtxFile) × IsFileUnder files name file
  file_of name there =
      let bytes = bytes_under files (path_of name) in
      let own = faithful.each name bytes there.valid (there_bytes _ there.there) in (
        file_made own.header own.change,
        record {
          file = subst (IsLtxFile bytes own.header) (same_change bytes own.header own.change own.file.file)
              own.file.file;
          from_min = own.file.from_min;
          to_max = own.file.to_max;
        },
      )

  -- a file applied to the recorded state before it
  record Applied (name : FileName) (file : LtxFile) (before : State) : Type 0 where
    fits : IsApplicable before (change_of file)
    after : recorded_state history log name.max ≡ Some (apply before (change_of file))

  applied : (name : FileName) (file : LtxFile) (from : ℕ) (before : State) → IsIn files name
      → IsFileUnder files name file
      → MayFollow name.min name.max from → recorded_state history log from ≡ Some before → Applied name file before
  applied name file from before there is follows recorded =
      let true = is_true files history log faithful name file there is in
      let turns = true.own.leads from follows in
      let state = same_state turns.before before (sym turns.recorded ∙ recorded) in
      record {
        fits = subst (IsApplicable before) true.change
            (subst (λ (s : State). IsApplicable s true.own.change) state turns.fits);
        after = turns.after ∙ ap (λ (s : State). Some (apply s true.own.change)) state
            ∙ ap (λ (c : Change). Some (apply before c)) true.change;
      }

  -- the recorded state of the transaction before a file
  state_before : (name : FileName) (from : ℕ) → IsIn files name → MayFollow name.min name.max from
      → (before : State) × (recorded_state history log from ≡ Some before)
  state_before name from there follows =
      let found = file_of name there in
      let turns = (is_true files history log faithful name found.0 there found.1).own.leads from follows in
      (turns.before, turns.recorded)

  record Sized (plan : List FileName) (size : ℕ) : Type 0 where
    read : List LtxFile
    are : AreFilesUnder files plan read
    sized : HavePageSize size read

  -- behind a state all have its page size
  sized_behind : (plan : List FileName) (from size : ℕ) (before : State) → AreIn files plan → FollowFrom from plan
      → recorded_state history log from ≡ Some before → before.page_size ≡ Some size → Sized plan size
  sized_behind [] from size before there follows recorded is = record { read = []; are = tt; sized = tt }
  sized_behind (name ∷ plan) from size before there (own, follows) recorded is =
      let here = there name (0, omega arith, refl) in
      let found = file_of name here in
      let one = applied name found.0 from before here found.1 own recorded in
      let same = one.fits.same_size size is in
      let rest = sized_behind plan name.max size (apply before (change_of found.0))
      (λ n has. there n (suc has.0, omega (arith, has.1), has.2)) follows one.after
      (ap (λ (n : ℕ). Some n) (sym same)) in
      record { read = found.0 ∷ rest.read; are = (found.1, rest.are); sized = (sym same, rest.sized) }

  sized_run : (first : FileName) (rest : List FileName) → AreIn files (first ∷ rest)
      → FollowFrom (first.min - 1) (first ∷ rest)
      → (size : ℕ) × Sized (first ∷ rest) size
  sized_run first rest there (own, follows) =
      let here = there first (0, omega arith, refl) in
      let found = file_of first here in
      let before = state_before first (first.min - 1) here own in
      let one = applied first found.0 (first.min - 1) before.0 here found.1 own before.1 in
      let behind = sized_behind rest first.max found.0.header.size (apply before.0 (change_of found.0))
      (λ n has. there n (suc has.0, omega (arith, has.1), has.2)) follows one.after refl in (
        found.0.header.size,
        record { read = found.0 ∷ behind.read; are = (found.1, behind.are); sized = (refl, behind.sized) },
      )

  -- ---- no file is damaged

  -- the file at a place of a plan
  file_amid : (before after : List FileName) (name : FileName) (size : ℕ) (read : List LtxFile)
      → AreFilesUnder files (before ++ name ∷ after) read → HavePageSize size read
      → (file : LtxFile) × IsFileUnder files name file × (file.header.size ≡ size)
  file_amid [] after name size [] are sized = absurd are
  file_amid [] after name size (file ∷ read) are sized = (file, are.0, sized.0)
  file_amid (first ∷ before) after name size [] are sized = absurd are
  file_amid (first ∷ before) after name size (file ∷ read) are sized = file_amid before after name size read are.1
      sized.1

  one_size : (name : FileName) (rest other : List FileName) (a b : ℕ) (x y : List LtxFile)
      → AreFilesUnder files (name ∷ rest) x
      → AreFilesUnder files (name ∷ other) y → HavePageSize a x → HavePageSize b y → a ≡ b
  one_size name rest other a b [] y arex arey ofa ofb = absurd arex
  one_size name rest other a b (f ∷ x) [] arex arey ofa ofb = absurd arey
  one_size name rest other a b (f ∷ x) (k ∷ y) arex arey ofa ofb =
      let same = same_value (bytes_under files (path_of name)) f.header k.header (change_of f) (change_of k)
      arex.0.file arey.0.file in
      sym ofa.0 ∙ ap (λ (h : LtxHeader). h.size) same.0 ∙ ofb.0

  not_damaged : (name : FileName) (file : LtxFile) (size : ℕ) (damage : Damage) → IsFileUnder files name file
      → (damage ≡ SizeDiffers → file.header.size ≡ size) → IsDamage (bytes_under files (path_of name)) name size
      damage → ⊥
  not_damaged name file size (File fault) is sized damaged =
      let none = no_fault (bytes_under files (path_of name)) file.header (change_of file) is.file in absurd cc
  not_damaged name file size NameDiffers is sized damaged =
      let same = (same_value (bytes_under files (path_of name)) damaged.header file.header damaged.change
      (change_of file) damaged.file
      is.file).0 in
      elim damaged.differs [
        | inl min ↦ absurd (min (ap (λ (h : LtxHeader). h.min) same ∙ is.from_min))
        | inr max ↦ absurd (max (ap (λ (h : LtxHeader). h.max) same ∙ is.to_max))
      ]
  not_damaged name file size SizeDiffers is sized damaged =
      let same = (same_value (bytes_under files (path_of name)) damaged.header file.header damaged.change
      (change_of file)
      damaged.file.file is.file).0 in
      damaged.differs (ap (λ (h : LtxHeader). h.size) same ∙ sized refl)

  size_known : (before after : List FileName) (name : FileName) (size own : ℕ) (read earlier : List LtxFile)
      → AreFilesUnder files (before ++ name ∷ after) read → HavePageSize size read → AreFilesUnder files before earlier
      → HavePageSize own earlier → (before ≡ [] → ⊥) → size ≡ own
  size_known [] after name size own read earlier are sized early given some = absurd (some refl)
  size_known (first ∷ before) after name size own read earlier are sized early given some =
      one_size first (before ++ name ∷ after) before size own read earlier are early sized given

  pub sound : (first : FileName) (rest : List FileName) (name : FileName) (damage : Damage) → AreIn files (first ∷ rest)
      → FollowFrom (first.min - 1) (first ∷ rest) → IsFirstDamaged files (first ∷ rest) name damage → ⊥
  sound first rest name damage there follows is =
      let all = sized_run first rest there follows in
      let are = subst (λ (ns : List FileName). AreFilesUnder files ns all.1.read) is.split all.1.are in
      let found = file_amid is.before is.after name all.0 all.1.read are all.1.sized in
      not_damaged name found.0 is.size damage found.1
      (λ differs. found.2 ∙ size_known is.before is.after name all.0 is.size all.1.read is.read are all.1.sized is.are
      is.one_size
      (λ none. is.first none differs)) is.damaged

  -- ---- no page is missing

  fits_behind : (before after : List FileName) (name : FileName) (from : ℕ) (s state : State) (read : List LtxFile)
      (file : LtxFile)
      → AreIn files (before ++ name ∷ after) → FollowFrom from (before ++ name ∷ after)
      → recorded_state history log from ≡ Some s
      → AreFilesUnder files before read → AppliesTo s (map change_of read) state → IsFileUnder files name file
      → IsApplicable state (change_of file)
  fits_behind [] after name from s state [] file there follows recorded are applies is =
      subst (λ (t : State). IsApplicable t (change_of file)) applies
      (applied name file from s (there name (0, omega arith, refl)) is follows.0 recorded).fits
  fits_behind [] after name from s state (r ∷ read) file there follows recorded are applies is = absurd are
  fits_behind (first ∷ before) after name from s state [] file there follows recorded are applies is = absurd are
  fits_behind (first ∷ before) after name from s state (r ∷ read) file there follows recorded are applies is =
      let one = applied first r from s (there first (0, omega arith, refl)) are.0 follows.0 recorded in
      fits_behind before after name first.max (apply s (change_of r)) state read file
      (λ n has. there n (suc has.0, omega (arith, has.1), has.2)) follows.1 one.after are.1 applies.1 is

  pub whole : (first : FileName) (rest : List FileName) (name : FileName) (number : ℕ) → AreIn files (first ∷ rest)
      → FollowFrom (first.min - 1) (first ∷ rest) → first.min ≡ 1 → IsFirstMissing files (first ∷ rest) name number → ⊥
  whole first rest name number there follows one is =
      let from : first.min - 1 ≡ 0 = omega (arith, one) in
      let begun = subst (λ (n : ℕ). FollowFrom n (first ∷ rest)) from follows in
      let fits = fits_behind is.before is.after name 0 empty_state is.state is.read_before is.file
      (subst (AreIn files) is.split there) (subst (FollowFrom 0) is.split begun) refl is.are_before is.makes is.is in
      let some = fits.each number is.lacks.positive is.lacks.within in
      let none = is.lacks.missing in
      absurd (subst (λ (o : Option (List ℕ)). IsSome o → ⊥) (sym none) (λ is. absurd cc) some)

pub runs_are_sound : FaithfulRunsAreSound
runs_are_sound files history log names run name damage faithful all is =
    let first = is.of.first in
    let rest = is.of.rest in
    sound files history log faithful first rest name damage (run_in files names run first rest all is.of.files)
    (run_follows files names run first rest all is.of.files) is.damaged

pub runs_are_whole : FaithfulRunsAreWhole
runs_are_whole files history log names run name number faithful all is =
    let first = is.of.first in
    let rest = is.of.rest in
    whole files history log faithful first rest name number (run_in files names run first rest all is.of.files)
    (run_follows files names run first rest all is.of.files) (is.of.files.begins ∙ is.from_first) is.missing
