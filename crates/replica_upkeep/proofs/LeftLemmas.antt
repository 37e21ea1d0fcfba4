-- The names that are left behind the drops, and their files.
use Rattle.std.proofs.Common.{◌≡◌, ℕ, zero, suc, ◌+◌, ◌<◌, List, [], ◌∷◌, length, get_or, slice_get, Bool, true, false}
use Rattle.std.proofs.Common.{Option, Some, None, refl, sym, ap, subst, ◌∙◌, inl, inr, arith}
use Rattle.std.specs.Prelude.{◌⊎◌, IsSome, is_some}
use Rattle.std.specs.List.{AllByRecursion, Contains, IsDistinct}
use Rattle.std.specs.Ordering.{is_lt}
use Rattle.std.proofs.lemmas.List.Elements.{Contains-get_or}
use Rattle.std.proofs.lemmas.List.Sorted.{ranks_by, sorted_far}
use Rattle.crash_disk.specs.declared.event.Event.{Event}
use Rattle.crash_disk.specs.Files.{Files, files_after, file_at, is_name}
use Rattle.replica_store.specs.declared.dated_names.Dated.{Dated}
use Rattle.replica_store.specs.declared.file_name.FileName.{FileName}
use Rattle.replica_store.specs.Chain.{IsListOrdered, list_order, names_of}
use Rattle.replica_store.specs.Dating.{HaveMoments}
use Rattle.replica_store.specs.Listing.{IsFilePath, IsIn, path_of, paths_of}
use Rattle.replica_store.proofs.FaithLemmas.{is_path}
use Rattle.retention.specs.Drops.{AreDrops}
use Rattle.retention.specs.Pruning.{HasPruned}
use Rattle.retention.specs.Walk.{dropped, standing}
use Rattle.replica_upkeep.proofs.StandingLemmas.{contained_at, contains_at}
use Rattle.replica_upkeep.proofs.StandingLemmas.{in_standing}
use Rattle.replica_upkeep.specs.Kept.{AreFiles}
use Rattle.replica_upkeep.specs.Maintained.{left}
use Rattle.replica_upkeep.proofs.AddingLemmas.{InOrder, order_total}
use Rattle.replica_upkeep.proofs.DropFaithLemmas.{standing_in}
use Rattle.replica_upkeep.proofs.DropLemmas.{name_of_path}
use Rattle.replica_upkeep.proofs.FaithLemmas.{none_is_some}
use Rattle.replica_upkeep.proofs.ListedLemmas.{moments_kept, path_in}

-- ---- parts of a list

names_left : (kept : List Bool) (dated : List Dated) → names_of (left kept dated) ≡ standing kept dated
names_left [] dated = refl
names_left (keep ∷ kept) [] = refl
names_left (true ∷ kept) (d ∷ dated) = ap (λ (ns : List FileName). d.name ∷ ns) (names_left kept dated)
names_left (false ∷ kept) (d ∷ dated) = names_left kept dated

left_moments : (files : Files) (kept : List Bool) (dated : List Dated) → HaveMoments files dated
    → HaveMoments files (left kept dated)
left_moments files [] dated has = has
left_moments files (keep ∷ kept) [] has = tt
left_moments files (true ∷ kept) (d ∷ dated) has = (has.0, left_moments files kept dated has.1)
left_moments files (false ∷ kept) (d ∷ dated) has = left_moments files kept dated has.1

left_all : (P : FileName → Type 0) (kept : List Bool) (dated : List Dated) → AllByRecursion P (names_of dated)
    → AllByRecursion P (names_of (left kept dated))
left_all P [] dated all = all
left_all P (keep ∷ kept) [] all = tt
left_all P (true ∷ kept) (d ∷ dated) all = (all.0, left_all P kept dated all.1)
left_all P (false ∷ kept) (d ∷ dated) all = left_all P kept dated all.1

left_apart : (P : List ℕ → Type 0) (kept : List Bool) (dated : List Dated)
    → AllByRecursion P (paths_of (names_of dated))
    → AllByRecursion P (paths_of (names_of (left kept dated)))
left_apart P [] dated all = all
left_apart P (keep ∷ kept) [] all = tt
left_apart P (true ∷ kept) (d ∷ dated) all = (all.0, left_apart P kept dated all.1)
left_apart P (false ∷ kept) (d ∷ dated) all = left_apart P kept dated all.1

left_distinct : (kept : List Bool) (dated : List Dated) → IsDistinct is_name (paths_of (names_of dated))
    → IsDistinct is_name (paths_of (names_of (left kept dated)))
unfolding IsDistinct
left_distinct [] dated once = once
left_distinct (keep ∷ kept) [] once = tt
left_distinct (true ∷ kept) (d ∷ dated) once =
    (left_apart (λ y. is_name (path_of d.name) y ≡ false) kept dated once.0, left_distinct kept dated once.1)
left_distinct (false ∷ kept) (d ∷ dated) once = left_distinct kept dated once.1

-- ---- order

-- each name stands before all behind it
Ascends : List FileName → Type 0
Ascends [] = Unit {0}
Ascends (x ∷ xs) = AllByRecursion (InOrder x) xs × Ascends xs

all_behind : (x : FileName) (xs : List FileName) → ((j : ℕ) (d : FileName) → j < length xs → InOrder x (get_or xs j d))
    → AllByRecursion (InOrder x) xs
all_behind x [] order = tt
all_behind x (y ∷ ys) order =
    (order 0 y (omega arith), all_behind x ys (λ j d within. order (suc j) d (omega (arith, within))))

ascends : (xs : List FileName)
    → ((i j : ℕ) (d : FileName) → i < j → j < length xs → InOrder (get_or xs i d) (get_or xs j d)) → Ascends xs
unfolding Ascends
ascends [] order = tt
ascends (x ∷ xs) order = (
  all_behind x xs (λ j d within. order 0 (suc j) d (omega arith) (omega (arith, within))),
  ascends xs (λ i j d before within. order (suc i) (suc j) d (omega (arith, before)) (omega (arith, within))),
)

ordered_ascends : (names : List FileName) → IsListOrdered names → Ascends names
ordered_ascends names ordered =
    ascends names (λ i j d before within.
    sorted_far (λ x y. is_lt (list_order x y)) (ranks_by order_total (λ (n : FileName). n)) names ordered i j d
    (omega (arith, before)) within)

left_ascends : (kept : List Bool) (dated : List Dated) → Ascends (names_of dated) → Ascends (names_of (left kept dated))
unfolding Ascends
left_ascends [] dated up = up
left_ascends (keep ∷ kept) [] up = tt
left_ascends (true ∷ kept) (d ∷ dated) up = (left_all (InOrder d.name) kept dated up.0, left_ascends kept dated up.1)
left_ascends (false ∷ kept) (d ∷ dated) up = left_ascends kept dated up.1

next_behind : (xs : List FileName) (k : ℕ) (d : FileName) → Ascends xs → k + 1 < length xs
    → InOrder (get_or xs k d) (get_or xs (k + 1) d)
unfolding Ascends
next_behind [] k d up low = absurd (omega (arith, low))
next_behind (x ∷ []) k d up low = absurd (omega (arith, low))
next_behind (x ∷ y ∷ ys) zero d up low = up.0.0
next_behind (x ∷ y ∷ ys) (suc k) d up low =
    let next : suc k + 1 ≡ suc (k + 1) = omega arith in
    subst (λ (j : ℕ). InOrder (get_or (x ∷ y ∷ ys) (suc k) d) (get_or (x ∷ y ∷ ys) j d)) (sym next)
    (next_behind (y ∷ ys) k d up.1 (omega (arith, low)))

-- ---- places

one_named : (dated : List Dated) (k : ℕ) (name : FileName) → slice_get (names_of dated) k ≡ Some name
    → (d : Dated) × (slice_get dated k ≡ Some d) × (d.name ≡ name)
one_named [] k name is = absurd cc
one_named (d ∷ dated) zero name is = (d, refl, cc)
one_named (d ∷ dated) (suc k) name is = one_named dated k name is

in_dropped : (kept : List Bool) (dated : List Dated) (k : ℕ) (d : Dated) → slice_get dated k ≡ Some d
    → slice_get kept k ≡ Some false → Contains (dropped kept dated) d.name
in_dropped [] dated k d there gone = absurd cc
in_dropped (keep ∷ kept) [] k d there gone = absurd cc
in_dropped (true ∷ kept) (e ∷ dated) zero d there gone = absurd cc
in_dropped (false ∷ kept) (e ∷ dated) zero d there gone = let is : e ≡ d = (cc) in
    (zero, omega arith, ap (λ (x : Dated). x.name) is)
in_dropped (true ∷ kept) (e ∷ dated) (suc k) d there gone = in_dropped kept dated k d there gone
in_dropped (false ∷ kept) (e ∷ dated) (suc k) d there gone =
    let rest = in_dropped kept dated k d there gone in (suc rest.0, omega (arith, rest.1), rest.2)

kept_or_not : (o : Option Bool) → (o ≡ Some false) ⊎ (o ≡ Some false → ⊥)
kept_or_not None = inr (λ e. absurd cc)
kept_or_not (Some true) = inr (λ e. absurd cc)
kept_or_not (Some false) = inl refl

-- ---- the files

module _ (cut : ℕ) (mid now : List Event) (dated : List Dated) (names : List FileName) (lost : List ℕ)
    (are : AreFiles (files_after mid) dated) (drops : AreDrops dated cut names lost) (pruned : HasPruned names mid now)
  where
    abbrev rest : List Dated
    rest = left drops.kept dated

    in_standing_of : (name : FileName) → Contains (names_of rest) name → Contains (standing drops.kept dated) name
    in_standing_of name has = subst (λ (ns : List FileName). Contains ns name) (names_left drops.kept dated) has

    -- its bytes are as they were
    same_bytes : (name : FileName) → Contains (names_of rest) name
        → file_at now (path_of name) ≡ file_at mid (path_of name)
    same_bytes name has =
        let without = standing_in cut (files_after mid) dated names lost are drops name (in_standing_of name has) in
        elim (pruned.others.files (path_of name)) [ inl same ↦ same | inr gone ↦ absurd (without.left gone.0) ]

    is_in : (name : FileName) → Contains (names_of rest) name → IsIn (files_after now) name
    is_in name has =
        let without = standing_in cut (files_after mid) dated names lost are drops name (in_standing_of name has) in
        record { valid = without.there.valid; there = ap is_some (same_bytes name has) ∙ without.there.there }

    to_files : (q : List ℕ) → Contains (paths_of (names_of rest)) q → IsFilePath q × IsSome (file_at now q)
    to_files q has =
        let at = contained_at (paths_of (names_of rest)) q has in
        let name = name_of_path (names_of rest) at.0 q at.1 in
        let there = is_in name.0 (contains_at (names_of rest) at.0 name.0 name.1) in (
          subst IsFilePath name.2 (is_path name.0 there.valid),
          subst (λ (r : List ℕ). IsSome (file_at now r)) name.2 there.there,
        )

    from_mid : (q : List ℕ) → IsSome (file_at now q) → Contains (paths_of (names_of dated)) q
        → Contains (paths_of (names_of rest)) q
    from_mid q some has =
        let at = contained_at (paths_of (names_of dated)) q has in
        let name = name_of_path (names_of dated) at.0 q at.1 in
        let one = one_named dated at.0 name.0 name.1 in
        let path : path_of one.0.name ≡ q = ap path_of one.2 ∙ name.2 in
        elim (kept_or_not (slice_get drops.kept at.0)) [
          | inl gone ↦
              let among = subst (λ (ns : List FileName). Contains ns one.0.name) (sym drops.drops)
              (in_dropped drops.kept dated at.0 one.0 one.1 gone) in
              absurd (none_is_some (file_at now q) (subst (λ (r : List ℕ). file_at now r ≡ None) path
              (pruned.gone one.0.name among)) some)
          | inr stays ↦
              let stands = in_standing drops.kept dated at.0 one.0 one.1 stays in
              subst (Contains (paths_of (names_of rest))) path
              (path_in (names_of rest) one.0.name
              (subst (λ (ns : List FileName). Contains ns one.0.name) (sym (names_left drops.kept dated)) stands))
        ]

    from_files : (q : List ℕ) → IsFilePath q → IsSome (file_at now q) → Contains (paths_of (names_of rest)) q
    from_files q is some = elim (pruned.others.files q) [
      | inl same ↦ from_mid q some ((are.listed.each q).1 (is, ap is_some (sym same) ∙ some))
      | inr gone ↦ absurd (none_is_some (file_at now q) gone.1 some)
    ]

    pub left_files : AreFiles (files_after now) rest
    left_files = record {
      listed = record {
        ordered = λ k d from within.
            next_behind (names_of rest) k d (left_ascends drops.kept dated
            (ordered_ascends (names_of dated) are.listed.ordered)) within;
        valid = λ k d low. (is_in (get_or (names_of rest) k d) (Contains-get_or (names_of rest) k d low)).valid;
        once = left_distinct drops.kept dated are.listed.once;
        each = λ q. (to_files q, λ is. from_files q is.0 is.1);
      };
      moments = moments_kept (files_after mid) (files_after now) rest same_bytes
          (left_moments (files_after mid) drops.kept dated are.moments);
    }
