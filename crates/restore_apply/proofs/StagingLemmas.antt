-- How the record of a disk goes on while an output is staged.
use Rattle.std.proofs.Common.{◌≡◌, ◌≢◌, ℕ, List, [], ◌∷◌, ◌++◌, take, Option, Some, None, refl, sym, ap, subst, ◌∙◌}
use Rattle.std.proofs.Common.{append_assoc, inl, inr}
use Rattle.std.specs.Prelude.{option_map, IsSome, is_some, Result, Ok, Err, OnOk, OnErr}
use Rattle.std.specs.List.{concat}
use Rattle.std.proofs.lemmas.List.{append-nil}
use Rattle.crash_disk.specs.declared.event.Event.{Event}
use Rattle.crash_disk.specs.declared.event.Event.TheVariants.{Created, Appended, Synced, Renamed, Removed, NamesSynced}
use Rattle.crash_disk.specs.Told.{Told, gains, IfTold, GainsOrNot, GainsPrefixOrNot}
use Rattle.crash_disk.specs.Files.{IsThere, file_at}
use Rattle.crash_disk.proofs.FileLaws.{file_at-Created-here, file_at-Appended-here, file_at-Appended-other}
use Rattle.crash_disk.proofs.FileLaws.{file_at-Synced}
use Rattle.crash_disk.specs.GoesOn.{GoesOn}
use Rattle.crash_disk.proofs.GoesOnLemmas.{goes_on-gains, goes_on-same, goes_on-then, goes_on-weaker}
use Rattle.restore_apply.specs.Staging.{appended, OnlyAppends, AppendsGathered, temporary_name, MayBegin, Fills, Names}
use Rattle.restore_apply.specs.Staging.{MayName, Began, Synchronized, Named, Settles, MaySettle, Left, Cleared}

-- two more
goes_on-gains_two : (old mid new : Told) (first second : Event) → mid ≡ gains old first → new ≡ gains mid second
    → GoesOn old new (λ x y. y ≡ second ∷ first ∷ x)
goes_on-gains_two old mid new first second is_first is_second = record {
  told = λ events told. (
    second ∷ first ∷ events,
    is_second ∙ ap (option_map (λ es. second ∷ es))
        (is_first ∙ ap (option_map (λ es. first ∷ es)) told),
    refl,
    record { more = second ∷ first ∷ []; is = refl },
  );
  silent = λ silent. is_second ∙ ap (option_map (λ es. second ∷ es))
      (is_first ∙ ap (option_map (λ es. first ∷ es)) silent);
}

-- what was gathered is appended
pub append_gathered : (old new : Told) (name bytes before : List ℕ) → bytes ≡ before
    → new ≡ gains old (Appended name bytes) → GoesOn old new (AppendsGathered name before [] [])
append_gathered old new name bytes before same is = goes_on-gains old new (Appended name bytes)
    (AppendsGathered name before [] []) is (λ events. record {
      pieces = bytes ∷ [];
      record_is = refl;
      bytes = append-nil before ∙ sym same ∙ sym (append-nil bytes) ∙ sym (append-nil (bytes ++ []));
    })

-- or a front of it, where the call failed
pub append_failed : (old new : Told) (name bytes : List ℕ) → GainsPrefixOrNot old new name bytes
    → GoesOn old new (OnlyAppends name)
append_failed old new name bytes (inl same) = goes_on-same old new (OnlyAppends name) same
    (λ events. record { pieces = []; record_is = refl })
append_failed old new name bytes (inr (k, is)) = goes_on-gains old new (Appended name (take k bytes))
    (OnlyAppends name) is (λ events. record { pieces = take k bytes ∷ []; record_is = refl })

appended-append : (name : List ℕ) (first second : List (List ℕ)) (events : List Event)
    → appended name (first ++ second) events ≡ appended name second (appended name first events)
appended-append name [] second events = refl
appended-append name (piece ∷ first) second events = appended-append name first second (Appended name piece ∷ events)

-- lists of pieces, one after the other
pub concat-append : (first second : List (List ℕ)) → concat (first ++ second) ≡ concat first ++ concat second
concat-append [] second = refl
concat-append (x ∷ first) second = ap (λ rest. x ++ rest) (concat-append first second)
    ∙ sym (append_assoc x (concat first) (concat second))

-- two parts of the gathering, one after the other
pub gathers-then : (name before more middle most after : List ℕ) (x y z : List Event)
    → AppendsGathered name before more middle x y → AppendsGathered name middle most after y z
    → AppendsGathered name before (more ++ most) after x z
gathers-then name before more middle most after x y z first second = record {
  pieces = first.pieces ++ second.pieces;
  record_is = second.record_is ∙ ap (appended name second.pieces) first.record_is
      ∙ sym (appended-append name first.pieces second.pieces x);
  bytes = sym (append_assoc before more most) ∙ ap (λ front. front ++ most) first.bytes
      ∙ append_assoc (concat first.pieces) middle most
      ∙ ap (λ rest. concat first.pieces ++ rest) second.bytes
      ∙ sym (append_assoc (concat first.pieces) (concat second.pieces) after)
      ∙ ap (λ front. front ++ after) (sym (concat-append first.pieces second.pieces));
}

-- more bytes gathered, with no change of the disk
pub gathers_more : (name before more middle most : List ℕ) (x y : List Event)
    → AppendsGathered name before more middle x y → AppendsGathered name before (more ++ most) (middle ++ most) x y
gathers_more name before more middle most x y first = record {
  pieces = first.pieces;
  record_is = first.record_is;
  bytes = sym (append_assoc before more most) ∙ ap (λ front. front ++ most) first.bytes
      ∙ append_assoc (concat first.pieces) middle most;
}

-- the gathering only appends
pub only_appends : (name before more now : List ℕ) (x y : List Event) → AppendsGathered name before more now x y
    → OnlyAppends name x y
only_appends name before more now x y gathers = record { pieces = gathers.pieces; record_is = gathers.record_is }

pub only_appends-then : (name : List ℕ) (x y z : List Event) → OnlyAppends name x y → OnlyAppends name y z
    → OnlyAppends name x z
only_appends-then name x y z first second = record {
  pieces = first.pieces ++ second.pieces;
  record_is = second.record_is ∙ ap (appended name second.pieces) first.record_is
      ∙ sym (appended-append name first.pieces second.pieces x);
}

-- ---- the files

-- a file that is appended to has the pieces behind what it had
pub file_at-appended-here : (name : List ℕ) (pieces : List (List ℕ)) (events : List Event) (old : List ℕ)
    → file_at events name ≡ Some old → file_at (appended name pieces events) name ≡ Some (old ++ concat pieces)
file_at-appended-here name [] events old there = there ∙ ap (λ bytes. Some bytes) (sym (append-nil old))
file_at-appended-here name (piece ∷ pieces) events old there =
    file_at-appended-here name pieces (Appended name piece ∷ events) (old ++ piece)
    (file_at-Appended-here events name piece old there) ∙ ap (λ bytes. Some bytes)
    (append_assoc old piece (concat pieces))

-- and each other file is as it was
pub file_at-appended-other : (name q : List ℕ) (pieces : List (List ℕ)) (events : List Event) → q ≢ name
    → file_at (appended name pieces events) q ≡ file_at events q
file_at-appended-other name q [] events apart = refl
file_at-appended-other name q (piece ∷ pieces) events apart = file_at-appended-other name q pieces
    (Appended name piece ∷ events) apart ∙ file_at-Appended-other events name piece q apart

none_is_some : (events : List Event) → ◌≡◌ {A = Told} None (Some events) → ⊥
none_is_some events e = cc

some_same : (a b : List Event) → ◌≡◌ {A = Told} (Some a) (Some b) → a ≡ b
some_same a b e = cc

-- what an option has
pub there_is : (o : Option (List ℕ)) → IsSome o → (x : List ℕ) × (o ≡ Some x)
there_is None h = absurd cc
there_is (Some x) h = (x, refl)

some_is_some : (o : Option (List ℕ)) (x : List ℕ) → o ≡ Some x → IsSome o
some_is_some o x e = ap is_some e

-- a file that is there is there after it was appended to
pub still_there : (old new : Told) (name : List ℕ) → GoesOn old new (OnlyAppends name) → IfTold old
    (λ events. IsThere events name) → IfTold new (λ events. IsThere events name)
still_there None new name goes there events told = absurd (none_is_some events (sym (goes.silent refl) ∙ told))
still_there (Some before) new name goes there events told =
    let went = goes.told before refl in
    let same : went.0 ≡ events = some_same went.0 events (sym went.1 ∙ told) in
    let file = there_is (file_at before name) (there before refl).there in
    subst (λ (es : List Event). IsThere es name) same (record {
      there = some_is_some _ _ (ap (λ (es : List Event). file_at es name) went.2.record_is
          ∙ file_at-appended-here name went.2.pieces before file.0 file.1);
    })

-- what an error leaves
pub err_leaves : {T E : Type 0} (r : Result T E) (P : Type 0) → P → OnErr r P
err_leaves (Ok x) P holds = tt
err_leaves (Err e) P holds = holds

-- ---- the file made anew and filled

-- after a file was made it is there
pub there_once_created : (old new : Told) (name : List ℕ) → new ≡ gains old (Created name) → IfTold new
    (λ events. IsThere events name)
there_once_created None new name is events told = absurd (none_is_some events (sym is ∙ told))
there_once_created (Some before) new name is events told =
    subst (λ (es : List Event). IsThere es name) (some_same _ events (sym is ∙ told))
    (record { there = ap is_some (file_at-Created-here before name) })

pub filled : (old made put new : Told) (name bytes left : List ℕ) → made ≡ gains old (Created name)
    → GoesOn made put (AppendsGathered name [] bytes left) → GoesOn put new (AppendsGathered name left [] [])
    → GoesOn old new (Fills name bytes)
filled old made put new name bytes left is first second =
    let begin = goes_on-gains old made (Created name) (λ x y. y ≡ Created name ∷ x) is (λ events. refl) in
    let both = goes_on-then made put new _ _ (AppendsGathered name [] (bytes ++ []) []) first second
    (λ x y z. gathers-then name [] bytes left [] [] x y z) in
    goes_on-then old made new _ _ (Fills name bytes) begin both (λ x y z y-is all. record {
      pieces = all.pieces;
      record_is = all.record_is ∙ ap (appended name all.pieces) y-is;
      whole = sym (append-nil (concat all.pieces)) ∙ sym all.bytes ∙ append-nil bytes;
    })

-- the ways in which that may end early
pub begun-not_created : (old new : Told) (name : List ℕ) → GainsOrNot old new (Created name)
    → GoesOn old new (MayBegin name)
begun-not_created old new name (inl same) = goes_on-same old new (MayBegin name) same (λ events. inl refl)
begun-not_created old new name (inr is) = goes_on-gains old new (Created name) (MayBegin name) is
    (λ events. inr (record { pieces = []; record_is = refl }))

pub begun-only_appends : (old made new : Told) (name : List ℕ) → made ≡ gains old (Created name)
    → GoesOn made new (OnlyAppends name) → GoesOn old new (MayBegin name)
begun-only_appends old made new name is appends =
    let begin = goes_on-gains old made (Created name) (λ x y. y ≡ Created name ∷ x) is (λ events. refl) in
    goes_on-then old made new _ _ (MayBegin name) begin appends
    (λ x y z y-is only. inr (record
    { pieces = only.pieces; record_is = only.record_is ∙ ap (appended name only.pieces) y-is }))

-- a filled file is there
pub there_once_filled : (old new : Told) (name bytes : List ℕ) → GoesOn old new (Fills name bytes) → IfTold new
    (λ events. IsThere events name)
there_once_filled None new name bytes goes events told = absurd (none_is_some events (sym (goes.silent refl) ∙ told))
there_once_filled (Some before) new name bytes goes events told =
    let went = goes.told before refl in
    subst (λ (es : List Event). IsThere es name) (some_same went.0 events (sym went.1 ∙ told)) (record {
      there = ap is_some (ap (λ (es : List Event). file_at es name) went.2.record_is
          ∙ file_at-appended-here name went.2.pieces (Created name ∷ before) [] (file_at-Created-here before name));
    })

-- and it stays there when it is synced
pub there_once_synced : (old new : Told) (name : List ℕ) → new ≡ gains old (Synced name) → IfTold old
    (λ events. IsThere events name) → IfTold new (λ events. IsThere events name)
there_once_synced None new name is there events told = absurd (none_is_some events (sym is ∙ told))
there_once_synced (Some before) new name is there events told =
    subst (λ (es : List Event). IsThere es name) (some_same _ events (sym is ∙ told))
    (record { there = ap is_some (file_at-Synced before name name) ∙ (there before refl).there })

-- ---- the file named

pub named : (old filled synced new : Told) (temporary name bytes : List ℕ) → GoesOn old filled (Fills temporary bytes)
    → synced ≡ gains filled (Synced temporary) → new ≡ gains synced (Renamed temporary name)
    → GoesOn old new (Names temporary name bytes)
named old filled synced new temporary name bytes fills is_synced is_renamed =
    goes_on-then old filled new _ (λ x y. y ≡ Renamed temporary name ∷ Synced temporary ∷ x)
    (Names temporary name bytes) fills
    (goes_on-gains_two filled synced new (Synced temporary) (Renamed temporary name) is_synced is_renamed)
    (λ x y z fill is. record { filled = y; fills = fill; record_is = is })

pub not_synced : (old filled new : Told) (temporary name bytes : List ℕ) → GoesOn old filled (Fills temporary bytes)
    → new ≡ filled → GoesOn old new (MayName temporary name bytes)
not_synced old filled new temporary name bytes fills same =
    goes_on-then old filled new _ (λ x y. y ≡ x) (MayName temporary name bytes) fills
    (goes_on-same filled new (λ x y. y ≡ x) same (λ events. refl))
    (λ x y z fill is. Began (inr (record { pieces = fill.pieces; record_is = is ∙ fill.record_is })))

pub not_filled : (old new : Told) (temporary name bytes : List ℕ) → GoesOn old new (MayBegin temporary)
    → GoesOn old new (MayName temporary name bytes)
not_filled old new temporary name bytes begun = goes_on-weaker old new _ _ begun (λ x y began. Began began)

pub maybe_named : (old filled synced new : Told) (temporary name bytes : List ℕ)
    → GoesOn old filled (Fills temporary bytes) → synced ≡ gains filled (Synced temporary)
    → GainsOrNot synced new (Renamed temporary name) → GoesOn old new (MayName temporary name bytes)
maybe_named old filled synced new temporary name bytes fills is_synced (inl same) =
    goes_on-then old filled new _ (λ x y. y ≡ Synced temporary ∷ x) (MayName temporary name bytes) fills
    (goes_on-gains filled new (Synced temporary) (λ x y. y ≡ Synced temporary ∷ x) (same ∙ is_synced) (λ events. refl))
    (λ x y z fill is. Synchronized y fill is)
maybe_named old filled synced new temporary name bytes fills is_synced (inr is) =
    goes_on-weaker old new _ _ (named old filled synced new temporary name bytes fills is_synced is)
    (λ x y names. Named names)

-- ---- the names synced

pub settled : (old named new : Told) (name bytes : List ℕ) → GoesOn old named (Names (temporary_name name) name bytes)
    → new ≡ gains named NamesSynced → GoesOn old new (Settles name bytes)
settled old named new name bytes names is =
    goes_on-then old named new _ (λ x y. y ≡ NamesSynced ∷ x) (Settles name bytes) names
    (goes_on-gains named new NamesSynced (λ x y. y ≡ NamesSynced ∷ x) is (λ events. refl))
    (λ x y z one z-is. record { named = y; names = one; record_is = z-is })

pub not_settled : (old named new : Told) (name bytes : List ℕ)
    → GoesOn old named (Names (temporary_name name) name bytes) → new ≡ named → GoesOn old new (MaySettle name bytes)
not_settled old named new name bytes names same =
    goes_on-then old named new _ (λ x y. y ≡ x) (MaySettle name bytes) names
    (goes_on-same named new (λ x y. y ≡ x) same (λ events. refl))
    (λ x y z one z-is. Left (Named
    (record { filled = one.filled; fills = one.fills; record_is = z-is ∙ one.record_is })))

pub cleared : (old left new : Told) (name bytes : List ℕ) → GoesOn old left (MayName (temporary_name name) name bytes)
    → GainsOrNot left new (Removed (temporary_name name)) → GoesOn old new (MaySettle name bytes)
cleared old left new name bytes may (inl same) =
    goes_on-then old left new _ (λ x y. y ≡ x) (MaySettle name bytes) may
    (goes_on-same left new (λ x y. y ≡ x) same (λ events. refl))
    (λ x y z one z-is. Left (subst (λ (es : List Event). MayName (temporary_name name) name bytes x es) (sym z-is) one))
cleared old left new name bytes may (inr is) =
    goes_on-then old left new _ (λ x y. y ≡ Removed (temporary_name name) ∷ x) (MaySettle name bytes) may
    (goes_on-gains left new (Removed (temporary_name name)) (λ x y. y ≡ Removed (temporary_name name) ∷ x) is
    (λ events. refl))
    (λ x y z one z-is. Cleared y one z-is)

-- a change that was tried, whatever the call answered
pub tried : {T E : Type 0} (r : Result T E) (old new : Told) (event : Event) → OnOk r (new ≡ gains old event)
    → OnErr r (GainsOrNot old new event) → GainsOrNot old new event
tried (Ok x) old new event ok err = inr ok
tried (Err e) old new event ok err = err
