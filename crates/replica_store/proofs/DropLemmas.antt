-- What a crash leaves where names are settled, or one is dropped.
use Rattle.std.proofs.Common.{◌≡◌, ℕ, List, ◌∷◌, length, Option, Some, None, refl, sym, subst, inl, inr, ⊎_elim}
use Rattle.std.specs.Prelude.{◌⊎◌}
use Rattle.std.specs.FinMap.{get}
use Rattle.crash_disk.specs.declared.event.Event.{Event}
use Rattle.crash_disk.specs.declared.event.Event.TheVariants.{Removed, NamesSynced}
use Rattle.crash_disk.proofs.FileLaws.{at_name, file_at-NamesSynced, file_at-Removed-here, file_at-Removed-other}
use Rattle.crash_disk.specs.FileState.{SomeOf}
use Rattle.crash_disk.specs.Images.{IsImageOf, MayStandAt}
use Rattle.crash_disk.proofs.ImageSteps.{SomeOf-weaken, same_image, MayStandAt-Removed-other, MayStandAt-NamesSynced}
use Rattle.crash_disk.proofs.Moments.{since_more, since_start}
use Rattle.crash_disk.proofs.NumberLaws.{by_names}
use Rattle.crash_disk.specs.Numbers.{numbers_at, file_of}
use Rattle.crash_disk.specs.Told.{Told, gains, GainsOrNot}
use Rattle.crash_disk.specs.GoesOn.{GoesOn}
use Rattle.crash_disk.proofs.GoesOnLemmas.{goes_on-gains, goes_on-either}
use Rattle.replica_store.specs.Putting.{HasSyncedNames, MayDrop, HasDropped}
use Rattle.replica_store.proofs.SettleLemmas.{leaves_the_names}

pub settled : (old new : Told) → new ≡ gains old NamesSynced → GoesOn old new HasSyncedNames
settled old new is = goes_on-gains old new NamesSynced HasSyncedNames is (λ events. record {
  files = λ q. file_at-NamesSynced events q;
  at_a_stop = λ image was q. elim (since_more NamesSynced events (length events) image was) [
    | inl now ↦ MayStandAt-NamesSynced events q (get image q) (now.each q)
    | inr before ↦ (since_start events image before).each q
  ];
  names = leaves_the_names events;
})

nothing : (events : List Event) (file : Option (List ℕ)) → IsImageOf events None file → file ≡ None
nothing events None is = refl
nothing events (Some bytes) is = absurd is

-- a removed name may be gone
removed_here : (events : List Event) (path : List ℕ) (file : Option (List ℕ))
    → MayStandAt (Removed path ∷ events) path file → MayStandAt events path file ⊎ (file ≡ None)
unfolding numbers_at file_of
removed_here events path file is =
    let now = Removed path ∷ events in
    let one = subst (SomeOf (λ number. IsImageOf now number file))
    (at_name path (None ∷ numbers_at events path) (numbers_at events path)) is.one in
    ⊎_elim (λ gone. inr (nothing now file gone))
    (λ old. inl (record {
      one = SomeOf-weaken (λ number. IsImageOf now number file)
          (λ number. IsImageOf events number file) (numbers_at events path)
          (λ number _ image. same_image now events number file (λ n _. refl) image) old;
    })) one

removed_stands : (events : List Event) (path q : List ℕ) (file : Option (List ℕ))
    → MayStandAt (Removed path ∷ events) q file → MayStandAt events q file ⊎ ((q ≡ path) × (file ≡ None))
removed_stands events path q file is =
    by_names q path
    (λ same. ⊎_elim (λ old. inl (subst (λ x. MayStandAt events x file) (sym same) old))
    (λ none. inr (same, none)) (removed_here events path file
    (subst (λ x. MayStandAt (Removed path ∷ events) x file) same is)))
    (λ other. inl (MayStandAt-Removed-other events path q file other is))

not_dropped : (path : List ℕ) (events : List Event) → MayDrop path events events
not_dropped path events = record {
  file = inl refl;
  others = λ q other. refl;
  at_a_stop = λ image was q. inl ((since_start events image was).each q);
}

has_dropped : (path : List ℕ) (events : List Event) → HasDropped path events (Removed path ∷ events)
has_dropped path events = record {
  file = file_at-Removed-here events path;
  may = record {
    file = inr (file_at-Removed-here events path);
    others = λ q other. file_at-Removed-other events path q other;
    at_a_stop = λ image was q. elim (since_more (Removed path) events (length events) image was) [
      | inl now ↦ removed_stands events path q (get image q) (now.each q)
      | inr before ↦ inl ((since_start events image before).each q)
    ];
  };
}

pub dropped : (old new : Told) (path : List ℕ) → new ≡ gains old (Removed path) → GoesOn old new (HasDropped path)
dropped old new path is = goes_on-gains old new (Removed path) (HasDropped path) is (has_dropped path)

pub may_drop : (old new : Told) (path : List ℕ) → GainsOrNot old new (Removed path) → GoesOn old new (MayDrop path)
may_drop old new path may = goes_on-either old new (Removed path) (MayDrop path) may (not_dropped path)
    (λ events. (has_dropped path events).may)
