-- How the calls of a put go on with what it has done.
use Rattle.std.proofs.Common.{◌≡◌, ◌≢◌, ℕ, List, [], ◌∷◌, ◌++◌, take, Some, None, refl, sym, ap, subst, ◌∙◌, inl, inr}
use Rattle.std.proofs.Common.{arith}
use Rattle.std.specs.Prelude.{is_some, Result, Ok, Err, OnOk, OnErr}
use Rattle.crash_disk.specs.declared.event.Event.{Event}
use Rattle.crash_disk.specs.declared.event.Event.TheVariants.{Created, Appended, Synced, Renamed, Removed, NamesSynced}
use Rattle.crash_disk.specs.Files.{file_at, IsThere}
use Rattle.crash_disk.proofs.FileLaws.{file_at-Synced, file_at-NamesSynced, file_at-Renamed-to, file_at-Renamed-from}
use Rattle.crash_disk.proofs.FileLaws.{file_at-Renamed-other, file_at-Removed-here}
use Rattle.crash_disk.specs.Told.{Told, gains, IfTold, GainsOrNot, GainsPrefixOrNot}
use Rattle.crash_disk.specs.GoesOn.{GoesOn}
use Rattle.crash_disk.proofs.GoesOnLemmas.{goes_on-gains, goes_on-same, goes_on-either, goes_on-then, goes_on-weaker}
use Rattle.replica_store.specs.Putting.{draft_path, IsAbsent, IsPutting, KeepsOthers, Puts, MayPut, HasPut}
use Rattle.replica_store.proofs.ImageLemmas.{apart, others_start, others_removed, others_synced, begun, more_put}
use Rattle.replica_store.proofs.ImageLemmas.{stood_named, stood_settled, settled_stays}
use Rattle.replica_store.proofs.SettleLemmas.{leaves_the_names}

-- ---- begin

pub begins : (old cleared new : Told) (path : List ℕ) → cleared ≡ gains old (Removed (draft_path path))
    → new ≡ gains cleared (Created (draft_path path)) → GoesOn old new (IsPutting path [])
begins old cleared new path first second =
    goes_on-then old cleared new (λ x y. y ≡ Removed (draft_path path) ∷ x)
    (λ y z. z ≡ Created (draft_path path) ∷ y) (IsPutting path [])
    (goes_on-gains old cleared (Removed (draft_path path)) _ first (λ events. refl))
    (goes_on-gains cleared new (Created (draft_path path)) _ second (λ events. refl))
    (λ x y z y-is z-is. subst (IsPutting path [] x)
    (sym (z-is ∙ ap (λ (es : List Event). Created (draft_path path) ∷ es) y-is)) (begun path x))

pub not_cleared : (old new : Told) (path : List ℕ) → GainsOrNot old new (Removed (draft_path path))
    → GoesOn old new (KeepsOthers path)
not_cleared old new path may = goes_on-either old new (Removed (draft_path path)) (KeepsOthers path) may
    (λ events. others_start path events) (λ events. others_removed path events events (others_start path events))

pub not_created : (old cleared new : Told) (path : List ℕ) → cleared ≡ gains old (Removed (draft_path path))
    → GainsOrNot cleared new (Created (draft_path path)) → GoesOn old new (KeepsOthers path)
not_created old cleared new path first (inl same) = not_cleared old new path (inr (same ∙ first))
not_created old cleared new path first (inr is) = goes_on-weaker old new _ (KeepsOthers path)
    (begins old cleared new path first is) (λ x y putting. putting.others)

-- ---- append

pub appended : (begin old new : Told) (path before bytes : List ℕ) → GoesOn begin old (IsPutting path before)
    → new ≡ gains old (Appended (draft_path path) bytes) → GoesOn begin new (IsPutting path (before ++ bytes))
appended begin old new path before bytes putting is =
    goes_on-then begin old new (IsPutting path before) (λ y z. z ≡ Appended (draft_path path) bytes ∷ y)
    (IsPutting path (before ++ bytes)) putting
    (goes_on-gains old new (Appended (draft_path path) bytes) _ is (λ events. refl))
    (λ x y z p z-is. subst (IsPutting path (before ++ bytes) x) (sym z-is) (more_put path x y before p bytes))

pub not_appended : (begin old new : Told) (path before bytes : List ℕ) → GoesOn begin old (IsPutting path before)
    → GainsPrefixOrNot old new (draft_path path) bytes → GoesOn begin new (KeepsOthers path)
not_appended begin old new path before bytes putting (inl same) =
    goes_on-then begin old new (IsPutting path before) (λ y z. z ≡ y) (KeepsOthers path) putting
    (goes_on-same old new _ same (λ events. refl))
    (λ x y z p z-is. subst (λ (es : List Event). KeepsOthers path x es) (sym z-is) p.others)
not_appended begin old new path before bytes putting (inr (k, is)) =
    goes_on-weaker begin new _ (KeepsOthers path) (appended begin old new path before (take k bytes) putting is)
    (λ x y p. p.others)

-- ---- finish

none_is_some : (events : List Event) → ◌≡◌ {A = Told} None (Some events) → ⊥
none_is_some events e = cc

some_same : (a b : List Event) → ◌≡◌ {A = Told} (Some a) (Some b) → a ≡ b
some_same a b e = cc

-- a synced file is there as before
pub there_once_synced : (old new : Told) (name : List ℕ) → new ≡ gains old (Synced name) → IfTold old
    (λ events. IsThere events name) → IfTold new (λ events. IsThere events name)
there_once_synced None new name is there events told = absurd (none_is_some events (sym is ∙ told))
there_once_synced (Some before) new name is there events told =
    subst (λ (es : List Event). IsThere es name) (some_same _ events (sym is ∙ told))
    (record { there = ap is_some (file_at-Synced before name name) ∙ (there before refl).there })

module _ (path : List ℕ) (base now : List Event) (bytes : List ℕ) (p : IsPutting path bytes base now) where
  abbrev draft : List ℕ
  draft = draft_path path

  abbrev synced : List Event
  synced = Synced draft ∷ now

  whole : file_at synced draft ≡ Some bytes
  whole = file_at-Synced now draft draft ∙ p.draft

  named_others : (q : List ℕ) → q ≢ path → q ≢ draft → file_at (Renamed draft path ∷ synced) q ≡ file_at base q
  named_others q elsewhere other = file_at-Renamed-other synced draft path q other elsewhere
      ∙ file_at-Synced now draft q ∙ p.others.files q other

  puts_named : Puts path bytes base (Renamed draft path ∷ synced)
  puts_named = record {
    later = omega (arith, p.others.later);
    file = file_at-Renamed-to synced draft path bytes whole;
    others = named_others;
    at_a_stop = stood_named path base now bytes p;
  }

  has_settled : HasPut path bytes base (NamesSynced ∷ Renamed draft path ∷ synced)
  has_settled =
      let named = Renamed draft path ∷ synced in
      record {
        puts = record {
          later = omega (arith, p.others.later);
          file = file_at-NamesSynced named path ∙ file_at-Renamed-to synced draft path bytes whole;
          others = λ q elsewhere other. file_at-NamesSynced named q ∙ named_others q elsewhere other;
          at_a_stop = stood_settled path base now bytes p;
        };
        draft = file_at-NamesSynced named draft ∙ file_at-Renamed-from synced draft path bytes
            (λ same. apart path (sym same)) whole;
        stays = settled_stays path base now bytes p;
        names = leaves_the_names named;
      }

pub not_synced : (begin old new : Told) (path bytes : List ℕ) → GoesOn begin old (IsPutting path bytes) → new ≡ old
    → GoesOn begin new (MayPut path bytes)
not_synced begin old new path bytes putting same =
    goes_on-then begin old new (IsPutting path bytes) (λ y z. z ≡ y) (MayPut path bytes) putting
    (goes_on-same old new _ same (λ events. refl))
    (λ x y z p z-is. inl (subst (λ (es : List Event). KeepsOthers path x es) (sym z-is) p.others))

module _ (begin old synced : Told) (path bytes : List ℕ) (putting : GoesOn begin old (IsPutting path bytes))
    (is-synced : synced ≡ gains old (Synced (draft_path path))) where
  -- what holds behind the sync, by the draft that was synced
  synced_with : (P : List Event → List Event → Type 0)
      → ((x y : List Event) → IsPutting path bytes x y → P x (Synced (draft_path path) ∷ y)) → GoesOn begin synced P
  synced_with P holds =
      goes_on-then begin old synced (IsPutting path bytes) (λ y z. z ≡ Synced (draft_path path) ∷ y) P putting
      (goes_on-gains old synced (Synced (draft_path path)) _ is-synced (λ events. refl))
      (λ x y z p z-is. subst (P x) (sym z-is) (holds x y p))

  -- and behind the rename
  renamed_with : (new : Told) → new ≡ gains synced (Renamed (draft_path path) path)
      → (P : List Event → List Event → Type 0)
      → ((x y : List Event) → IsPutting path bytes x y → P x
      (Renamed (draft_path path) path ∷ Synced (draft_path path) ∷ y)) → GoesOn begin new P
  renamed_with new is P holds =
      goes_on-then begin synced new (λ x y. P x (Renamed (draft_path path) path ∷ y))
      (λ y z. z ≡ Renamed (draft_path path) path ∷ y) P
      (synced_with (λ x y. P x (Renamed (draft_path path) path ∷ y)) holds)
      (goes_on-gains synced new (Renamed (draft_path path) path) _ is (λ events. refl))
      (λ x y z p z-is. subst (P x) (sym z-is) p)

  pub not_renamed : (new : Told) → GainsOrNot synced new (Renamed (draft_path path) path)
      → GoesOn begin new (MayPut path bytes)
  not_renamed new (inl same) = subst (λ (t : Told). GoesOn begin t (MayPut path bytes)) (sym same)
      (synced_with (MayPut path bytes) (λ x y p. inl (others_synced path x y bytes p)))
  not_renamed new (inr is) = renamed_with new is (MayPut path bytes) (λ x y p. inr (puts_named path x y bytes p))

  pub not_settled : (renamed new : Told) → renamed ≡ gains synced (Renamed (draft_path path) path) → new ≡ renamed
      → GoesOn begin new (MayPut path bytes)
  not_settled renamed new is same = renamed_with new (same ∙ is) (MayPut path bytes)
      (λ x y p. inr (puts_named path x y bytes p))

  pub settled : (renamed new : Told) → renamed ≡ gains synced (Renamed (draft_path path) path)
      → new ≡ gains renamed NamesSynced → GoesOn begin new (HasPut path bytes)
  settled renamed new is settle =
      goes_on-then begin renamed new (λ x y. HasPut path bytes x (NamesSynced ∷ y))
      (λ y z. z ≡ NamesSynced ∷ y) (HasPut path bytes)
      (renamed_with renamed is (λ x y. HasPut path bytes x (NamesSynced ∷ y)) (λ x y p. has_settled path x y bytes p))
      (goes_on-gains renamed new NamesSynced _ settle (λ events. refl))
      (λ x y z p z-is. subst (HasPut path bytes x) (sym z-is) p)

-- ---- abandon

pub absent : (old new : Told) (path : List ℕ) → new ≡ gains old (Removed (draft_path path)) → IfTold new
    (λ events. IsAbsent events (draft_path path))
absent None new path is events told = absurd (none_is_some events (sym is ∙ told))
absent (Some before) new path is events told = subst (λ (es : List Event). IsAbsent es (draft_path path))
    (some_same _ events (sym is ∙ told)) (file_at-Removed-here before (draft_path path))

pub removed : (begin old new : Told) (path : List ℕ) → GoesOn begin old (KeepsOthers path)
    → GainsOrNot old new (Removed (draft_path path)) → GoesOn begin new (KeepsOthers path)
removed begin old new path kept (inl same) = subst (λ (t : Told). GoesOn begin t (KeepsOthers path)) (sym same) kept
removed begin old new path kept (inr is) =
    goes_on-then begin old new (KeepsOthers path) (λ y z. z ≡ Removed (draft_path path) ∷ y) (KeepsOthers path) kept
    (goes_on-gains old new (Removed (draft_path path)) _ is (λ events. refl))
    (λ x y z k z-is. subst (KeepsOthers path x) (sym z-is) (others_removed path x y k))

-- ---- results

-- what an error leaves
pub err_leaves : {T E : Type 0} (r : Result T E) (P : Type 0) → P → OnErr r P
err_leaves (Ok x) P holds = tt
err_leaves (Err e) P holds = holds

-- a change that was tried, whatever the call answered
pub tried : {T E : Type 0} (r : Result T E) (old new : Told) (event : Event) → OnOk r (new ≡ gains old event)
    → OnErr r (GainsOrNot old new event) → GainsOrNot old new event
tried (Ok x) old new event ok err = inr ok
tried (Err e) old new event ok err = err
