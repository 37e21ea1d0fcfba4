-- What the steps of writing an output leave where the machine stops.
use Rattle.std.proofs.Common.{◌≡◌, ◌≢◌, ℕ, ◌≤◌, List, [], ◌∷◌, ◌++◌, length, Option, Some, None, refl, sym, ap, subst}
use Rattle.std.proofs.Common.{◌∙◌, append_assoc, inl, inr, arith}
use Rattle.std.specs.Prelude.{IfSome}
use Rattle.std.specs.List.{concat}
use Rattle.std.specs.FinMap.{get}
use Rattle.std.proofs.lemmas.List.{append-nil}
use Rattle.crash_disk.specs.declared.event.Event.{Event}
use Rattle.crash_disk.specs.declared.event.Event.TheVariants.{Synced, Renamed, Removed, NamesSynced}
use Rattle.crash_disk.specs.CrashLaws.{joined, drafted}
use Rattle.crash_disk.specs.Images.{IsCrashImage, WasCrashImageSince}
use Rattle.crash_disk.proofs.ImageSteps.{MayStandAt-Removed-other}
use Rattle.crash_disk.proofs.Moments.{since_now, since_more, since_start}
use Rattle.crash_disk.proofs.PutTheorem.{image_with, since_drafted, since_whole, since_named, put_leaves, put_is_safe}
use Rattle.restore_apply.specs.Staging.{appended, MayBegin, Fills, Names, MayName, Began, Synchronized, Named}
use Rattle.restore_apply.specs.Staging.{LeavesNothingSince}
use Rattle.crash_disk.specs.Stop.{LeavesNothing, LeavesAtMost, Leaves}

-- nothing is at most anything
pub some_if_none : (file : Option (List ℕ)) (P : List ℕ → Type 0) → file ≡ None → IfSome file P
some_if_none file P none = subst (λ f. IfSome f P) (sym none) tt

pub some_weaker : (file : Option (List ℕ)) (P Q : List ℕ → Type 0) → ((bytes : List ℕ) → P bytes → Q bytes)
    → IfSome file P → IfSome file Q
some_weaker None P Q implies is = tt
some_weaker (Some bytes) P Q implies is = implies bytes is

-- the pieces that were appended, in the order of a record
drafted_again : (name : List ℕ) (pieces older : List (List ℕ)) (base : List Event)
    → (all : List (List ℕ)) × (appended name pieces (drafted name older base) ≡ drafted name all base)
    × (joined all ≡ joined older ++ concat pieces)
drafted_again name [] older base = (older, refl, sym (append-nil (joined older)))
drafted_again name (piece ∷ pieces) older base =
    let next = drafted_again name pieces (piece ∷ older) base in
    (next.0, next.1, next.2 ∙ append_assoc (joined older) piece (concat pieces))

drafted_longer : (name : List ℕ) (all : List (List ℕ)) (base : List Event)
    → length base ≤ length (drafted name all base)
drafted_longer name [] base = omega arith
drafted_longer name (piece ∷ pieces) base = let before = drafted_longer name pieces base in omega (arith, before)

-- nothing was changed
pub stop_same : (name : List ℕ) (P : List ℕ → Type 0) (x y : List Event) → y ≡ x → LeavesNothing name x
    → LeavesAtMost name P x y
stop_same name P x y same nothing image was =
    some_if_none (get image name) P
    (nothing image (since_start x image
    (subst (λ (es : List Event). WasCrashImageSince es (length x) image) same was)))

module _ (temporary name bytes : List ℕ) (x : List Event) (apart : name ≢ temporary) (nothing : LeavesNothing name x)
  where
    abbrev IsWhole : List ℕ → Type 0
    IsWhole found = found ≡ bytes

    stop_begun : (y : List Event) → MayBegin temporary x y → LeavesAtMost name IsWhole x y
    stop_begun y (inl same) = stop_same name IsWhole x y same nothing
    stop_begun y (inr begins) = λ image was.
        let all = drafted_again temporary begins.pieces [] x in
        some_if_none (get image name) IsWhole
        (since_drafted temporary name x apart nothing all.0 image
        (subst (λ (es : List Event). WasCrashImageSince es (length x) image) (begins.record_is ∙ all.1) was))

    -- the record of a filled file, and its bytes, in the order of a record
    filled_as : (filled : List Event) → Fills temporary bytes x filled → (all : List (List ℕ))
        × (filled ≡ drafted temporary all x) × (joined all ≡ bytes)
    filled_as filled fills = let all = drafted_again temporary fills.pieces [] x in
        (all.0, fills.record_is ∙ all.1, all.2 ∙ fills.whole)

    stop_synced : (filled y : List Event) → Fills temporary bytes x filled → y ≡ Synced temporary ∷ filled
        → LeavesAtMost name IsWhole x y
    stop_synced filled y fills is image was =
        let all = filled_as filled fills in
        some_if_none (get image name) IsWhole
        (since_whole temporary name x apart nothing all.0 image
        (subst (λ (es : List Event). WasCrashImageSince es (length x) image)
        (is ∙ ap (λ (es : List Event). Synced temporary ∷ es) all.1) was))

    named_as : (y : List Event) (names : Names temporary name bytes x y) → (all : List (List ℕ))
        × (y ≡ Renamed temporary name ∷ Synced temporary ∷ drafted temporary all x) × (joined all ≡ bytes)
    named_as y names = let all = filled_as names.filled names.fills in
        (all.0, names.record_is ∙ ap (λ (es : List Event). Renamed temporary name ∷ Synced temporary ∷ es) all.1, all.2)

    stop_named : (y : List Event) → Names temporary name bytes x y → LeavesAtMost name IsWhole x y
    stop_named y names image was =
        let all = named_as y names in
        some_weaker (get image name) (λ found. found ≡ joined all.0) IsWhole (λ found same. same ∙ all.2)
        (since_named temporary name x apart nothing all.0 image
        (subst (λ (es : List Event). WasCrashImageSince es (length x) image) all.1 was))

    pub stop_may_name : (y : List Event) → MayName temporary name bytes x y → LeavesAtMost name IsWhole x y
    stop_may_name y (Began begun) = stop_begun y begun
    stop_may_name y (Synchronized filled fills is) = stop_synced filled y fills is
    stop_may_name y (Named names) = stop_named y names

    -- the names were synced as well
    pub stop_settled : (y named : List Event) → Names temporary name bytes x named → y ≡ NamesSynced ∷ named
        → LeavesAtMost name IsWhole x y
    stop_settled y named names is image was =
        let all = named_as named names in
        let record_is = is ∙ ap (λ (es : List Event). NamesSynced ∷ es) all.1 in
        some_weaker (get image name) (λ found. found ≡ joined all.0) IsWhole (λ found same. same ∙ all.2)
        ((put_is_safe temporary name x apart nothing all.0 image).0
        (subst (λ (es : List Event). WasCrashImageSince es (length x) image) record_is was))

    pub settled_stays : (y named : List Event) → Names temporary name bytes x named → y ≡ NamesSynced ∷ named
        → Leaves name bytes y
    settled_stays y named names is image crash =
        let all = named_as named names in
        let record_is = is ∙ ap (λ (es : List Event). NamesSynced ∷ es) all.1 in
        put_leaves temporary name x apart nothing all.0 image
        (subst (λ (es : List Event). IsCrashImage es image) record_is crash) ∙ ap (λ b. Some b) all.2

    -- the record only grew
    later : (left : List Event) → MayName temporary name bytes x left → length x ≤ length left
    later left (Began (inl same)) = omega (arith, ap length same)
    later left (Began (inr begins)) = let all = drafted_again temporary begins.pieces [] x in omega
        (arith, drafted_longer temporary all.0 x, ap length (begins.record_is ∙ all.1))
    later left (Synchronized filled fills is) = let all = filled_as filled fills in omega
        (arith, drafted_longer temporary all.0 x, ap length all.1, ap length is)
    later left (Named names) = let all = named_as left names in omega
        (arith, drafted_longer temporary all.0 x, ap length all.1)

    -- the temporary file was removed after it all
    pub stop_cleared : (y left : List Event) → MayName temporary name bytes x left → y ≡ Removed temporary ∷ left
        → LeavesAtMost name IsWhole x y
    stop_cleared y left may is image was =
        let past = later left may in
        let before = stop_may_name left may in
        let here : IsCrashImage (Removed temporary ∷ left) image → IfSome (get image name) IsWhole
        = λ crash.
        let found = image_with left name (get image name)
        (MayStandAt-Removed-other left temporary name (get image name) apart (crash.each name)) in
        subst (λ file. IfSome file IsWhole) found.1 (before _ (since_now left (length x) _ past found.0)) in
        elim (since_more (Removed temporary) left (length x) image
        (subst (λ (es : List Event). WasCrashImageSince es (length x) image) is was)) [
          | inl now ↦ here now
          | inr earlier ↦ before image earlier
        ]

    -- ---- where nothing gets the name

    pub none_begun : (y : List Event) → MayBegin temporary x y → LeavesNothingSince name x y
    none_begun y (inl same) image was =
        nothing image (since_start x image (subst (λ (es : List Event). WasCrashImageSince es (length x) image) same was))
    none_begun y (inr begins) image was =
        let all = drafted_again temporary begins.pieces [] x in
        since_drafted temporary name x apart nothing all.0 image
        (subst (λ (es : List Event). WasCrashImageSince es (length x) image) (begins.record_is ∙ all.1) was)

    -- and the temporary file was removed
    pub none_cleared : (y left : List Event) → MayBegin temporary x left → y ≡ Removed temporary ∷ left
        → LeavesNothingSince name x y
    none_cleared y left begun is image was =
        let past = later left (Began begun) in
        let before = none_begun left begun in
        let here : IsCrashImage (Removed temporary ∷ left) image → get image name ≡ None
        = λ crash.
        let found = image_with left name (get image name) (MayStandAt-Removed-other left temporary name (get image name)
        apart (crash.each name)) in
        sym found.1 ∙ before _ (since_now left (length x) _ past found.0) in
        elim (since_more (Removed temporary) left (length x) image (subst (λ (es : List Event). WasCrashImageSince es
        (length x) image) is was)) [
          | inl now ↦ here now
          | inr earlier ↦ before image earlier
        ]
