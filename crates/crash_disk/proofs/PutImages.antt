-- What a crash may leave during a crash-safe put.
use Rattle.std.proofs.Common.{◌≡◌, ◌≢◌, ℕ, ◌⊎◌, inl, inr, ⊎_elim, List, ◌∷◌, Option, Some, None, refl, ap, subst, ◌∙◌}
use Rattle.crash_disk.specs.declared.event.Event.{Event}
use Rattle.crash_disk.specs.declared.event.Event.TheVariants.{NamesSynced}
use Rattle.crash_disk.specs.FileState.{SomeOf, IsFileImage, synced_file}
use Rattle.crash_disk.specs.Numbers.{numbers_at, file_of}
use Rattle.crash_disk.specs.Images.{IsImageOf, MayStandAt}
use Rattle.crash_disk.proofs.SettledLaws.{IsFileImage-settled}
use Rattle.crash_disk.proofs.ImageSteps.{SomeOf-weaken, same_image, MayStandAt-NamesSynced}
use Rattle.crash_disk.proofs.PutLaws.{IsDraft, IsNamed}

-- where the name had the same numbers and none of them is the draft's, a crash may leave what it might have left
kept_images : (base events : List Event) (number : ℕ) (q : List ℕ) (file : Option (List ℕ))
    → numbers_at events q ≡ numbers_at base q → (SomeOf (λ other. other ≡ Some number) (numbers_at base q) → ⊥)
    → ((n : ℕ) → (n ≡ number → ⊥) → file_of events n ≡ file_of base n) → MayStandAt events q file
    → MayStandAt base q file
kept_images base events number q file same alone same_files is = record {
  one = SomeOf-weaken (λ other. IsImageOf events other file) (λ other. IsImageOf base other file) (numbers_at base q)
      (λ other there image. same_image events base other file
      (λ n is-n. same_files n (λ e. alone
      (subst (λ x. SomeOf (λ y. y ≡ x) (numbers_at base q)) (is-n ∙ ap Some e) there))) image)
      (subst (SomeOf (λ other. IsImageOf events other file)) same is.one);
}

-- an image of a number whose file is synced is its bytes
whole_image : (events : List Event) (number : ℕ) (bytes : List ℕ) (file : Option (List ℕ))
    → file_of events number ≡ synced_file bytes → IsImageOf events (Some number) file → file ≡ Some bytes
whole_image events number bytes None synced image = absurd image
whole_image events number bytes (Some found) synced image =
    ap Some (IsFileImage-settled (synced_file bytes) found refl (subst (λ f. IsFileImage f found) synced image))

no_image : (events : List Event) (file : Option (List ℕ)) → IsImageOf events None file → file ≡ None
no_image events None image = refl
no_image events (Some bytes) image = absurd image

module _ (Kept : List ℕ → Type 0) (base events : List Event) (draft : List ℕ) (number : ℕ) (bytes : List ℕ) where
  -- while the draft is written a crash may leave at each kept name what it might have left before
  pub draft_images : (q : List ℕ) (file : Option (List ℕ)) → Kept q → IsDraft Kept base events draft number bytes
      → MayStandAt events q file → MayStandAt base q file
  draft_images q file kept is image = kept_images base events number q file (is.same_numbers q kept) (is.alone q kept)
      is.same_files image

  module _ (name : List ℕ) (is : IsNamed Kept base events draft name number bytes) where
    -- after the rename as well, at another name
    pub named_images-other : (q : List ℕ) (file : Option (List ℕ)) → Kept q → q ≢ name → MayStandAt events q file
        → MayStandAt base q file
    named_images-other q file kept other image = kept_images base events number q file (is.same_numbers q kept other)
        (is.alone q kept) is.same_files image

    -- and at the final name the whole file, or what it might have left before
    pub named_images : (file : Option (List ℕ)) → Kept name → MayStandAt events name file → (file ≡ Some bytes)
        ⊎ MayStandAt base name file
    named_images file kept image =
        ⊎_elim (λ new. inl (whole_image events number bytes file is.synced new))
        (λ old. inr (record {
          one = SomeOf-weaken (λ other. IsImageOf events other file)
              (λ other. IsImageOf base other file) (numbers_at base name)
              (λ other there found. same_image events base other file
              (λ n is-n. is.same_files n (λ e. is.alone name kept
              (subst (λ x. SomeOf (λ y. y ≡ x) (numbers_at base name)) (is-n ∙ ap Some e) there))) found) old;
        }))
        (subst (SomeOf (λ other. IsImageOf events other file)) is.numbers image.one)

    -- after the sync of the names it is there whole
    pub put_images : (file : Option (List ℕ)) → MayStandAt (NamesSynced ∷ events) name file → file ≡ Some bytes
    unfolding numbers_at file_of
    put_images file image =
        ⊎_elim (λ new. whole_image (NamesSynced ∷ events) number bytes file is.synced
        (subst (λ other. IsImageOf (NamesSynced ∷ events) other file) is.there new)) (λ none. absurd none) image.one

    -- the draft name is gone for good
    pub put_images-draft : (file : Option (List ℕ)) → MayStandAt (NamesSynced ∷ events) draft file → file ≡ None
    unfolding numbers_at
    put_images-draft file image = ⊎_elim
        (λ found. no_image (NamesSynced ∷ events) file
        (subst (λ other. IsImageOf (NamesSynced ∷ events) other file) is.gone found)) (λ none. absurd none) image.one

    -- and a crash may leave at another name what it might have left before
    pub put_images-other : (q : List ℕ) (file : Option (List ℕ)) → Kept q → q ≢ name
        → MayStandAt (NamesSynced ∷ events) q file → MayStandAt base q file
    put_images-other q file kept other image = named_images-other q file kept other
        (MayStandAt-NamesSynced events q file image)
