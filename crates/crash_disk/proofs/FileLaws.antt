-- What each change leaves at each name: what follows from the definition of the files, for those that reason about
-- them.
use Rattle.std.proofs.Common.{◌≡◌, ◌≢◌, ℕ, List, [], ◌∷◌, ◌++◌, Bool, true, false, cond, Option, Some, None}
use Rattle.std.proofs.Common.{option_map, is_some, IsSome, refl, ap, sym, ◌∙◌}
use Rattle.std.specs.declared.cmp.Ordering.TheVariants.{Less, Equal, Greater}
use Rattle.std.specs.Ordering.{nat_cmp, eq_by_cmp, is_eq}
use Rattle.std.specs.Cmp.{eq_by_cmp_equiv}
use Rattle.std.specs.Cmp.Lexicographic.{slice_cmp, nat_list_cmp_total}
use Rattle.std.specs.FinMap.{get, remove, get-empty, get-insert, get-remove, get_tied, nat_cmp-IsAntisymmetric}
use Rattle.std.specs.FinMap.{slice_cmp-IsAntisymmetric}
use Rattle.crash_disk.specs.declared.event.Event.{Event}
use Rattle.crash_disk.specs.declared.event.Event.TheVariants.{Placed, Created, Appended, Wrote, Cut, Synced, Renamed}
use Rattle.crash_disk.specs.declared.event.Event.TheVariants.{Removed, NamesSynced}
use Rattle.crash_disk.specs.Files.{Files, is_name, changed, moved, files_after, file_at, with_bytes_at, with_length}
use Rattle.crash_disk.specs.Files.{IsThere}

-- a name is itself
pub is_name-same : (name : List ℕ) → is_name name name ≡ true
is_name-same name = (eq_by_cmp_equiv nat_list_cmp_total).refl name

-- another name isn't
pub is_name-other : (q name : List ℕ) → q ≢ name → is_name q name ≡ false
is_name-other q name apart =
    elim (slice_cmp nat_cmp q name) as (λ r. slice_cmp nat_cmp q name ≡ r → is_eq r ≡ false) [
      | Less ↦ λ _. refl
      | Equal ↦ λ e. absurd (apart (slice_cmp-IsAntisymmetric nat_cmp-IsAntisymmetric q name e))
      | Greater ↦ λ _. refl
    ] refl

-- at the name itself
pub at_name : {A : Type 0} (name : List ℕ) (new old : A) → cond (is_name name name) new old ≡ new
at_name name new old = ap (λ b. cond b new old) (is_name-same name)

-- at another name
pub at_other : {A : Type 0} (q name : List ℕ) (new old : A) → q ≢ name → cond (is_name q name) new old ≡ old
at_other q name new old apart = ap (λ b. cond b new old) (is_name-other q name apart)

-- a choice by a test of names, by the two cases
pub by_name_test : (q name : List ℕ) (old new : Option (List ℕ)) → (slice_cmp nat_cmp q name ≡ Equal → new ≡ old)
    → cond (is_name q name) new old ≡ old
by_name_test q name old new same =
    elim (slice_cmp nat_cmp q name) as (λ r. slice_cmp nat_cmp q name ≡ r → cond (is_eq r) new old ≡ old)
    [ Less ↦ λ _. refl | Equal ↦ λ e. same e | Greater ↦ λ _. refl ] refl

get-changed_by : (files : Files) (name : List ℕ) (file : Option (List ℕ)) (f : List ℕ → List ℕ) (q : List ℕ)
    → get files name ≡ file
    → get (changed files name file f) q ≡ cond (is_name q name) (option_map f file) (get files q)
get-changed_by files name None f q e =
    sym (by_name_test q name (get files q) None (λ tied. sym e ∙ get_tied nat_list_cmp_total files q name tied))
get-changed_by files name (Some old) f q e = get-insert nat_list_cmp_total files name (f old) q

-- a changed file at each name
pub get-changed : (files : Files) (name : List ℕ) (f : List ℕ → List ℕ) (q : List ℕ)
    → get (changed files name (get files name) f) q ≡ cond (is_name q name) (option_map f (get files name))
    (get files q)
get-changed files name f q = get-changed_by files name (get files name) f q refl

-- the same at the name itself, of a file that is there
pub get-changed-here : (files : Files) (name : List ℕ) (f : List ℕ → List ℕ) (old : List ℕ)
    → get files name ≡ Some old → get (changed files name (get files name) f) name ≡ Some (f old)
get-changed-here files name f old there = get-changed files name f name ∙ at_name name _ _ ∙ ap (option_map f) there

-- the same at another name
pub get-changed-other : (files : Files) (name : List ℕ) (f : List ℕ → List ℕ) (q : List ℕ) → q ≢ name
    → get (changed files name (get files name) f) q ≡ get files q
get-changed-other files name f q apart = get-changed files name f q ∙ at_other q name _ _ apart

-- a moved file at each name
pub get-moved : (files : Files) (from to bytes q : List ℕ) → get files from ≡ Some bytes
    → get (moved files from to (get files from)) q ≡ cond (is_name q to) (Some bytes)
    (cond (is_name q from) None (get files q))
get-moved files from to bytes q there =
    ap (λ file. get (moved files from to file) q) there ∙ get-insert nat_list_cmp_total (remove files from) to bytes q
    ∙ ap (λ old. cond (is_name q to) (Some bytes) old) (get-remove nat_list_cmp_total files from q)

-- before any change there is no file
pub file_at-beginning : (q : List ℕ) → file_at [] q ≡ None
unfolding files_after
file_at-beginning q = get-empty (slice_cmp nat_cmp) q

module _ (events : List Event) where
  pub file_at-Placed : (name bytes q : List ℕ) → file_at (Placed name bytes ∷ events) q ≡ cond (is_name q name)
      (Some bytes) (file_at events q)
  unfolding files_after
  file_at-Placed name bytes q = get-insert nat_list_cmp_total (files_after events) name bytes q

  pub file_at-Created : (name q : List ℕ) → file_at (Created name ∷ events) q ≡ cond (is_name q name) (Some [])
      (file_at events q)
  unfolding files_after
  file_at-Created name q = get-insert nat_list_cmp_total (files_after events) name [] q

  pub file_at-Appended : (name bytes q : List ℕ) → file_at (Appended name bytes ∷ events) q ≡ cond (is_name q name)
      (option_map (λ old. old ++ bytes) (file_at events name)) (file_at events q)
  unfolding files_after
  file_at-Appended name bytes q = get-changed (files_after events) name (λ old. old ++ bytes) q

  pub file_at-Wrote : (name : List ℕ) (at : ℕ) (bytes q : List ℕ)
      → file_at (Wrote name at bytes ∷ events) q ≡ cond (is_name q name)
      (option_map (with_bytes_at at bytes) (file_at events name)) (file_at events q)
  unfolding files_after
  file_at-Wrote name at bytes q = get-changed (files_after events) name (with_bytes_at at bytes) q

  pub file_at-Cut : (name : List ℕ) (size : ℕ) (q : List ℕ) → file_at (Cut name size ∷ events) q ≡ cond
      (is_name q name) (option_map (with_length size) (file_at events name)) (file_at events q)
  unfolding files_after
  file_at-Cut name size q = get-changed (files_after events) name (with_length size) q

  pub file_at-Synced : (name q : List ℕ) → file_at (Synced name ∷ events) q ≡ file_at events q
  unfolding files_after
  file_at-Synced name q = refl

  pub file_at-Renamed : (from to bytes q : List ℕ) → file_at events from ≡ Some bytes
      → file_at (Renamed from to ∷ events) q ≡ cond (is_name q to) (Some bytes)
      (cond (is_name q from) None (file_at events q))
  unfolding files_after
  file_at-Renamed from to bytes q there = get-moved (files_after events) from to bytes q there

  -- where there is no file to rename, nothing changes
  pub file_at-Renamed-absent : (from to q : List ℕ) → file_at events from ≡ None
      → file_at (Renamed from to ∷ events) q ≡ file_at events q
  unfolding files_after
  file_at-Renamed-absent from to q absent = ap (λ file. get (moved (files_after events) from to file) q) absent

  pub file_at-Removed : (name q : List ℕ) → file_at (Removed name ∷ events) q ≡ cond (is_name q name) None
      (file_at events q)
  unfolding files_after
  file_at-Removed name q = get-remove nat_list_cmp_total (files_after events) name q

  pub file_at-NamesSynced : (q : List ℕ) → file_at (NamesSynced ∷ events) q ≡ file_at events q
  unfolding files_after
  file_at-NamesSynced q = refl

  -- at the name that the change speaks of
  pub file_at-Placed-here : (name bytes : List ℕ) → file_at (Placed name bytes ∷ events) name ≡ Some bytes
  file_at-Placed-here name bytes = file_at-Placed name bytes name ∙ at_name name _ _

  pub file_at-Created-here : (name : List ℕ) → file_at (Created name ∷ events) name ≡ Some []
  file_at-Created-here name = file_at-Created name name ∙ at_name name _ _

  pub file_at-Appended-here : (name bytes old : List ℕ) → file_at events name ≡ Some old
      → file_at (Appended name bytes ∷ events) name ≡ Some (old ++ bytes)
  file_at-Appended-here name bytes old there = file_at-Appended name bytes name ∙ at_name name _ _
      ∙ ap (option_map (λ b. b ++ bytes)) there

  pub file_at-Wrote-here : (name : List ℕ) (at : ℕ) (bytes old : List ℕ) → file_at events name ≡ Some old
      → file_at (Wrote name at bytes ∷ events) name ≡ Some (with_bytes_at at bytes old)
  file_at-Wrote-here name at bytes old there = file_at-Wrote name at bytes name ∙ at_name name _ _
      ∙ ap (option_map (with_bytes_at at bytes)) there

  pub file_at-Cut-here : (name : List ℕ) (size : ℕ) (old : List ℕ) → file_at events name ≡ Some old
      → file_at (Cut name size ∷ events) name ≡ Some (with_length size old)
  file_at-Cut-here name size old there = file_at-Cut name size name ∙ at_name name _ _
      ∙ ap (option_map (with_length size)) there

  pub file_at-Removed-here : (name : List ℕ) → file_at (Removed name ∷ events) name ≡ None
  file_at-Removed-here name = file_at-Removed name name ∙ at_name name _ _

  -- at the name that a file was renamed to, and at the one that it had
  pub file_at-Renamed-to : (from to bytes : List ℕ) → file_at events from ≡ Some bytes
      → file_at (Renamed from to ∷ events) to ≡ Some bytes
  file_at-Renamed-to from to bytes there = file_at-Renamed from to bytes to there ∙ at_name to _ _

  pub file_at-Renamed-from : (from to bytes : List ℕ) → from ≢ to → file_at events from ≡ Some bytes
      → file_at (Renamed from to ∷ events) from ≡ None
  file_at-Renamed-from from to bytes apart there = file_at-Renamed from to bytes from there
      ∙ at_other from to _ _ apart ∙ at_name from _ _

  -- at any other name nothing changes
  pub file_at-Placed-other : (name bytes q : List ℕ) → q ≢ name
      → file_at (Placed name bytes ∷ events) q ≡ file_at events q
  file_at-Placed-other name bytes q apart = file_at-Placed name bytes q ∙ at_other q name _ _ apart

  pub file_at-Created-other : (name q : List ℕ) → q ≢ name → file_at (Created name ∷ events) q ≡ file_at events q
  file_at-Created-other name q apart = file_at-Created name q ∙ at_other q name _ _ apart

  pub file_at-Appended-other : (name bytes q : List ℕ) → q ≢ name
      → file_at (Appended name bytes ∷ events) q ≡ file_at events q
  file_at-Appended-other name bytes q apart = file_at-Appended name bytes q ∙ at_other q name _ _ apart

  pub file_at-Wrote-other : (name : List ℕ) (at : ℕ) (bytes q : List ℕ) → q ≢ name
      → file_at (Wrote name at bytes ∷ events) q ≡ file_at events q
  file_at-Wrote-other name at bytes q apart = file_at-Wrote name at bytes q ∙ at_other q name _ _ apart

  pub file_at-Cut-other : (name : List ℕ) (size : ℕ) (q : List ℕ) → q ≢ name
      → file_at (Cut name size ∷ events) q ≡ file_at events q
  file_at-Cut-other name size q apart = file_at-Cut name size q ∙ at_other q name _ _ apart

  pub file_at-Removed-other : (name q : List ℕ) → q ≢ name → file_at (Removed name ∷ events) q ≡ file_at events q
  file_at-Removed-other name q apart = file_at-Removed name q ∙ at_other q name _ _ apart

  renamed_other : (file : Option (List ℕ)) (from to q : List ℕ) → file_at events from ≡ file → q ≢ from → q ≢ to
      → file_at (Renamed from to ∷ events) q ≡ file_at events q
  renamed_other None from to q e apart-from apart-to = file_at-Renamed-absent from to q e
  renamed_other (Some bytes) from to q e apart-from apart-to = file_at-Renamed from to bytes q e
      ∙ at_other q to _ _ apart-to ∙ at_other q from _ _ apart-from

  pub file_at-Renamed-other : (from to q : List ℕ) → q ≢ from → q ≢ to
      → file_at (Renamed from to ∷ events) q ≡ file_at events q
  file_at-Renamed-other from to q apart-from apart-to = renamed_other (file_at events from) from to q refl apart-from
      apart-to

some_changed : (file : Option (List ℕ)) (f : List ℕ → List ℕ) → IsSome file → IsSome (option_map f file)
some_changed None f h = h
some_changed (Some old) f h = refl

-- what shows that a file is there, at the changes that leave one under the name
module _ (events : List Event) where
  pub IsThere-Placed : (name bytes : List ℕ) → IsThere (Placed name bytes ∷ events) name
  IsThere-Placed name bytes = record { there = ap is_some (file_at-Placed-here events name bytes) }

  pub IsThere-Created : (name : List ℕ) → IsThere (Created name ∷ events) name
  IsThere-Created name = record { there = ap is_some (file_at-Created-here events name) }

  pub IsThere-Appended : (name bytes : List ℕ) → IsThere events name → IsThere (Appended name bytes ∷ events) name
  IsThere-Appended name bytes is = record {
    there = ap is_some (file_at-Appended events name bytes name ∙ at_name name _ _)
        ∙ some_changed (file_at events name) (λ old. old ++ bytes) is.there;
  }

  pub IsThere-Synced : (name q : List ℕ) → IsThere events q → IsThere (Synced name ∷ events) q
  IsThere-Synced name q is = record { there = ap is_some (file_at-Synced events name q) ∙ is.there }

  pub IsThere-NamesSynced : (q : List ℕ) → IsThere events q → IsThere (NamesSynced ∷ events) q
  IsThere-NamesSynced q is = record { there = ap is_some (file_at-NamesSynced events q) ∙ is.there }

-- for `search`, at a goal that a file is there
pub ruleset there = (IsThere-Placed, IsThere-Created, IsThere-Appended, IsThere-Synced, IsThere-NamesSynced)
