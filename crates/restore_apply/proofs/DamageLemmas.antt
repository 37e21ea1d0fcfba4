-- A plan makes one state. Where it makes one, none of its files is damaged and no page is missing.
use Rattle.std.proofs.Common.{◌≡◌, ℕ, List, [], ◌∷◌, ◌++◌, map, Some, None, refl, sym, ap, subst, ◌∙◌, ⊎_elim}
use Rattle.std.specs.Prelude.{Option, IsSome}
use Rattle.crash_disk.specs.Files.{Files}
use Rattle.ls_base.specs.Change.{Change, IsApplicable, apply, page_after}
use Rattle.ls_base.specs.State.{State, empty_state}
use Rattle.ltx_format.specs.declared.file.LtxFile.{LtxFile}
use Rattle.ltx_format.specs.declared.fault.LtxFault.{LtxFault}
use Rattle.ltx_format.specs.LtxFormat.{change_of}
use Rattle.ltx_format.proofs.FileFaults.{no_fault}
use Rattle.ltx_format.proofs.Theorems.{same_value}
use Rattle.replica_store.specs.declared.error.Damage.{Damage}
use Rattle.replica_store.specs.declared.error.Damage.TheVariants.{File, NameDiffers, SizeDiffers}
use Rattle.replica_store.specs.declared.file_name.FileName.{FileName}
use Rattle.replica_store.specs.Applying.{AppliesTo, LacksPage}
use Rattle.replica_store.specs.FileOf.{IsDamage, IsFileUnder, AreFilesUnder, HavePageSize}
use Rattle.replica_store.specs.Listing.{path_of, bytes_under}
use Rattle.page_cursors.specs.PlanFiles.{ArePlanFiles, Makes, IsFirstDamaged, IsFirstMissing}

both_ways : (found : Option LtxFault) (fault : LtxFault) → found ≡ None → found ≡ Some fault → ⊥
both_ways found fault none some = cc

-- two files under one name are one file
pub same_file : (files : Files) (name : FileName) (file other : LtxFile) → IsFileUnder files name file
    → IsFileUnder files name other
    → (file.header ≡ other.header) × (change_of file ≡ change_of other)
same_file files name file other is its =
    same_value (bytes_under files (path_of name)) file.header other.header (change_of file) (change_of other) is.file
    its.file

-- ---- one state

same_changes : (files : Files) (plan : List FileName) (a b : List LtxFile) → AreFilesUnder files plan a
    → AreFilesUnder files plan b
    → map change_of a ≡ map change_of b
same_changes files [] [] [] are its = refl
same_changes files [] [] (other ∷ b) are its = absurd its
same_changes files [] (file ∷ a) b are its = absurd are
same_changes files (name ∷ plan) [] b are its = absurd are
same_changes files (name ∷ plan) (file ∷ a) [] are its = absurd its
same_changes files (name ∷ plan) (file ∷ a) (other ∷ b) (is, are) (one, its) =
    let same = (same_file files name file other is one).1 in
    let rest = same_changes files plan a b are its in
    ap (λ (c : Change). c ∷ map change_of a) same ∙ ap (λ (cs : List Change). change_of other ∷ cs) rest

ends_once : (s : State) (changes : List Change) (a b : State) → AppliesTo s changes a → AppliesTo s changes b → a ≡ b
ends_once s [] a b ends other = sym ends ∙ other
ends_once s (change ∷ changes) a b (fits, ends) (its, other) = ends_once (apply s change) changes a b ends other

pub one_state : (files : Files) (plan : List FileName) (a b : State) → Makes files plan a → Makes files plan b → a ≡ b
one_state files plan a b makes other =
    let same = same_changes files plan makes.read other.read makes.are.are other.are.are in
    ends_once empty_state (map change_of other.read) a b
    (subst (λ (cs : List Change). AppliesTo empty_state cs a) same makes.makes) other.makes

-- ---- damage

-- what is there under the name isn't damaged
sound : (files : Files) (name : FileName) (file : LtxFile) (size wanted : ℕ) (damage : Damage)
    → IsFileUnder files name file → file.header.size ≡ size
    → (damage ≡ SizeDiffers → wanted ≡ size) → IsDamage (bytes_under files (path_of name)) name wanted damage → ⊥
sound files name file size wanted (File fault) is sized same damaged =
    both_ways _ fault (no_fault (bytes_under files (path_of name)) file.header (change_of file) is.file) damaged
sound files name file size wanted NameDiffers is sized same damaged =
    let header = (same_value (bytes_under files (path_of name)) file.header damaged.header (change_of file)
    damaged.change is.file damaged.file).0 in
    ⊎_elim (λ differs. differs (ap (λ h. h.min) (sym header) ∙ is.from_min))
    (λ differs. differs (ap (λ h. h.max) (sym header) ∙ is.to_max)) damaged.differs
sound files name file size wanted SizeDiffers is sized same damaged =
    let header = (same_value (bytes_under files (path_of name)) file.header damaged.header (change_of file)
    damaged.change is.file damaged.file.file).0 in
    damaged.differs (ap (λ h. h.size) (sym header) ∙ sized ∙ sym (same refl))

-- the page size of the files before is that of the plan
before_size : (files : Files) (name : FileName) (before rest : List FileName) (read other : List LtxFile)
    (size wanted : ℕ)
    → AreFilesUnder files (name ∷ rest) read → HavePageSize size read → AreFilesUnder files (name ∷ before) other
    → HavePageSize wanted other → wanted ≡ size
before_size files name before rest [] other size wanted are sized its sizes = absurd are
before_size files name before rest (file ∷ read) [] size wanted are sized its sizes = absurd its
before_size files name before rest (file ∷ read) (one ∷ other) size wanted (is, are) (here, sized) (its, them)
    (first, sizes) =
    sym first ∙ ap (λ h. h.size) (sym (same_file files name file one is its).0) ∙ here

-- the file at a place of the plan
damaged_at : (files : Files) (name : FileName) (before after : List FileName) (read : List LtxFile) (size wanted : ℕ)
    (damage : Damage)
    → AreFilesUnder files (before ++ name ∷ after) read → HavePageSize size read
    → (damage ≡ SizeDiffers → wanted ≡ size)
    → IsDamage (bytes_under files (path_of name)) name wanted damage → ⊥
damaged_at files name [] after [] size wanted damage are sized same damaged = absurd are
damaged_at files name [] after (file ∷ read) size wanted damage (is, are) (here, sized) same damaged = sound files
    name file size wanted damage is here same damaged
damaged_at files name (first ∷ before) after [] size wanted damage are sized same damaged = absurd are
damaged_at files name (first ∷ before) after (file ∷ read) size wanted damage (is, are) (here, sized) same damaged =
    damaged_at files name before after read size wanted damage are sized same damaged

wanted_size : (files : Files) (name : FileName) (before after : List FileName) (read other : List LtxFile)
    (size wanted : ℕ) (damage : Damage)
    → AreFilesUnder files (before ++ name ∷ after) read → HavePageSize size read → AreFilesUnder files before other
    → HavePageSize wanted other
    → (before ≡ [] → damage ≡ SizeDiffers → ⊥) → damage ≡ SizeDiffers → wanted ≡ size
wanted_size files name [] after read other size wanted damage are sized its sizes first differs = absurd
    (first refl differs)
wanted_size files name (one ∷ before) after read other size wanted damage are sized its sizes first differs =
    before_size files one before (before ++ name ∷ after) read other size wanted are sized its sizes

-- no file of a plan that was read is damaged
pub unspoilt : (files : Files) (plan : List FileName) (read : List LtxFile) (name : FileName) (damage : Damage)
    → ArePlanFiles files plan read
    → IsFirstDamaged files plan name damage → ⊥
unspoilt files plan read name damage of first =
    let are = subst (λ (names : List FileName). AreFilesUnder files names read) first.split of.are in
    damaged_at files name first.before first.after read of.size first.size damage are of.one_size
    (wanted_size files name first.before first.after read first.read of.size first.size damage are of.one_size
    first.are first.one_size first.first) first.damaged

-- ---- pages

some_none : (page : Option (List ℕ)) → IsSome page → page ≡ None → ⊥
some_none None some none = absurd cc
some_none (Some bytes) some none = absurd cc

fits_page : (s : State) (c d : Change) (number : ℕ) → IsApplicable s c → c ≡ d → LacksPage s d number → ⊥
fits_page s c d number fits same lacks =
    let each = subst (IsApplicable s) same fits in some_none (page_after s d number)
    (each.each number lacks.positive lacks.within) lacks.missing

missing_at : (files : Files) (name : FileName) (before after : List FileName) (read other : List LtxFile)
    (s state reached : State) (file : LtxFile) (number : ℕ)
    → AreFilesUnder files (before ++ name ∷ after) read → AreFilesUnder files before other
    → AppliesTo s (map change_of read) state
    → AppliesTo s (map change_of other) reached → IsFileUnder files name file
    → LacksPage reached (change_of file) number → ⊥
missing_at files name [] after [] other s state reached file number are its applies so_far is lacks = absurd are
missing_at files name [] after (own ∷ read) [] s state reached file number (one, are) its (fits, applies) so_far is
    lacks =
    fits_page reached (change_of own) (change_of file) number
    (subst (λ (t : State). IsApplicable t (change_of own)) so_far fits)
    (same_file files name own file one is).1 lacks
missing_at files name [] after (own ∷ read) (one ∷ other) s state reached file number are its applies so_far is lacks
    = absurd its
missing_at files name (first ∷ before) after [] other s state reached file number are its applies so_far is lacks =
    absurd are
missing_at files name (first ∷ before) after (own ∷ read) [] s state reached file number are its applies so_far is
    lacks = absurd its
missing_at files name (first ∷ before) after (own ∷ read) (one ∷ other) s state reached file number (head, are)
    (its_head, its) (fits, applies) (fit, so_far) is lacks =
    let same = (same_file files first own one head its_head).1 in
    missing_at files name before after read other (apply s (change_of own)) state reached file number are its applies
    (subst (λ (c : Change). AppliesTo (apply s c) (map change_of other) reached) (sym same) so_far) is lacks

pub complete : (files : Files) (plan : List FileName) (state : State) (name : FileName) (number : ℕ)
    → Makes files plan state
    → IsFirstMissing files plan name number → ⊥
complete files plan state name number makes first =
    let are = subst (λ (names : List FileName). AreFilesUnder files names makes.read) first.split makes.are.are in
    missing_at files name first.before first.after makes.read first.read_before empty_state state first.state
    first.file number are
    first.are_before makes.makes first.makes first.is first.lacks
