-- A put is safe at every moment.
use Rattle.std.proofs.Common.{◌≡◌, ◌≢◌, ℕ, ⊎_elim, List, [], ◌∷◌, length, cond, Option, Some, None, IfSome, refl, sym}
use Rattle.std.proofs.Common.{subst, ◌∙◌}
use Rattle.std.proofs.lemmas.Option.{none-some}
use Rattle.std.specs.FinMap.{get, insert, remove, get-insert, get-remove}
use Rattle.std.specs.Cmp.Lexicographic.{nat_list_cmp_total}
use Rattle.crash_disk.specs.declared.event.Event.{Event}
use Rattle.crash_disk.specs.declared.event.Event.TheVariants.{Created, Appended, Synced, Renamed, NamesSynced}
use Rattle.crash_disk.specs.Files.{Files, files_after, is_name}
use Rattle.crash_disk.proofs.FileLaws.{at_name, at_other}
use Rattle.crash_disk.specs.FileState.{SomeOf}
use Rattle.crash_disk.specs.Numbers.{numbers_at, file_of}
use Rattle.crash_disk.proofs.NumberLaws.{by_names}
use Rattle.crash_disk.specs.Images.{IsImageOf, MayStandAt, IsCrashImage, WasCrashImageSince}
use Rattle.crash_disk.proofs.ImageLaws.{image_of_number, MayStandAt-reads}
use Rattle.crash_disk.proofs.ImageSteps.{SomeOf-weaken}
use Rattle.crash_disk.proofs.Moments.{since_more, since_start}
use Rattle.crash_disk.proofs.PutLaws.{IsDraft, IsWhole, IsNamed, draft_number, IsDraft-Created, IsDraft-Appended}
use Rattle.crash_disk.proofs.PutLaws.{IsWhole-Synced, IsNamed-Renamed}
use Rattle.crash_disk.proofs.PutImages.{draft_images, named_images, put_images}
use Rattle.crash_disk.specs.CrashLaws.{joined, drafted, put}

-- the files as they read, but for one name
abbrev with_file : Files → List ℕ → Option (List ℕ) → Files
with_file files name None = remove files name
with_file files name (Some bytes) = insert files name bytes

get-with_file : (files : Files) (name : List ℕ) (file : Option (List ℕ)) (q : List ℕ)
    → get (with_file files name file) q ≡ cond (is_name q name) file (get files q)
get-with_file files name None q = get-remove nat_list_cmp_total files name q
get-with_file files name (Some bytes) q = get-insert nat_list_cmp_total files name bytes q

-- what may stand at one name stands there in an image
pub image_with : (events : List Event) (name : List ℕ) (file : Option (List ℕ)) → MayStandAt events name file
    → IsCrashImage events (with_file (files_after events) name file)
    × (get (with_file (files_after events) name file) name ≡ file)
image_with events name file is =
    let files = files_after events in
    let here : get (with_file files name file) name ≡ file = get-with_file files name file name
    ∙ at_name name file (get files name) in (
      record {
        each = λ q. by_names q name
            (λ same. subst (λ x. MayStandAt events x (get (with_file files name file) x)) (sym same)
            (subst (MayStandAt events name) (sym here) is))
            (λ apart. subst (MayStandAt events q)
            (sym (get-with_file files name file q ∙ at_other q name file (get files q) apart))
            (MayStandAt-reads events q));
      },
      here,
    )

module _ (draft name : List ℕ) (base : List Event) (apart : name ≢ draft)
    (absent : (image : Files) → IsCrashImage base image → get image name ≡ None) where
  nothing_there : (file : Option (List ℕ)) → MayStandAt base name file → file ≡ None
  nothing_there file is = let image = image_with base name file is in sym image.1 ∙ absent _ image.0

  no_number : (n : ℕ) → SomeOf (λ other. other ≡ Some n) (numbers_at base name) → ⊥
  no_number n there =
      let bytes = (file_of base n).bytes in
      let found : MayStandAt base name (Some bytes) = record {
        one = SomeOf-weaken (λ other. other ≡ Some n) (λ other. IsImageOf base other (Some bytes))
            (numbers_at base name)
            (λ other _ is. subst (λ x. IsImageOf base x (Some bytes)) (sym is) (image_of_number base (Some n))) there;
      } in
      none-some bytes (sym (nothing_there (Some bytes) found))

  abbrev Kept : List ℕ → Type 0
  Kept q = q ≡ name

  number : ℕ
  number = draft_number Kept base draft

  is_drafted : (pieces : List (List ℕ)) → IsDraft Kept base (drafted draft pieces base) draft number (joined pieces)
  unfolding number
  is_drafted [] = IsDraft-Created Kept base draft (λ q same. subst (λ x. x ≢ draft) (sym same) apart)
      (λ q same. subst (λ x. SomeOf (λ other. other ≡ Some (draft_number Kept base draft)) (numbers_at base x) → ⊥)
      (sym same) (no_number (draft_number Kept base draft)))
  is_drafted (piece ∷ pieces) = IsDraft-Appended Kept base draft (drafted draft pieces base) number (joined pieces)
      piece (is_drafted pieces)

  is_whole : (pieces : List (List ℕ)) → IsWhole Kept base (Synced draft ∷ drafted draft pieces base) draft number
      (joined pieces)
  is_whole pieces = IsWhole-Synced Kept base draft (drafted draft pieces base) number (joined pieces)
      (is_drafted pieces)

  is_named : (pieces : List (List ℕ)) → IsNamed Kept base
      (Renamed draft name ∷ Synced draft ∷ drafted draft pieces base) draft name number (joined pieces)
  is_named pieces = IsNamed-Renamed Kept base draft (Synced draft ∷ drafted draft pieces base) number (joined pieces)
      name refl (is_whole pieces)

  none_of : (file : Option (List ℕ)) (P : List ℕ → Type 0) → file ≡ None → IfSome file P
  none_of None P none = tt
  none_of (Some bytes) P none = absurd (none-some bytes (sym none))

  some_of : (file : Option (List ℕ)) (bytes : List ℕ) → file ≡ Some bytes → IfSome file (λ found. found ≡ bytes)
  some_of file bytes is = subst (λ f. IfSome f (λ found. found ≡ bytes)) (sym is) refl

  -- while the draft is written the name is absent
  absent_then : (events : List Event) (bytes : List ℕ) (image : Files) → IsDraft Kept base events draft number bytes
      → IsCrashImage events image → get image name ≡ None
  absent_then events bytes image is crash = nothing_there (get image name)
      (draft_images Kept base events draft number bytes name (get image name) refl is (crash.each name))

  pub since_drafted : (pieces : List (List ℕ)) (image : Files)
      → WasCrashImageSince (drafted draft pieces base) (length base) image → get image name ≡ None
  since_drafted [] image was = ⊎_elim (λ now. absent_then _ _ image (is_drafted []) now)
      (λ before. absent image (since_start base image before)) (since_more (Created draft) base (length base) image was)
  since_drafted (piece ∷ pieces) image was =
      ⊎_elim (λ now. absent_then _ _ image (is_drafted (piece ∷ pieces)) now)
      (λ before. since_drafted pieces image before)
      (since_more (Appended draft piece) (drafted draft pieces base) (length base) image was)

  pub since_whole : (pieces : List (List ℕ)) (image : Files)
      → WasCrashImageSince (Synced draft ∷ drafted draft pieces base) (length base) image → get image name ≡ None
  since_whole pieces image was =
      let whole = is_whole pieces in
      ⊎_elim (λ now. absent_then _ _ image whole.begun now) (λ before. since_drafted pieces image before)
      (since_more (Synced draft) (drafted draft pieces base) (length base) image was)

  pub put_leaves : (pieces : List (List ℕ)) (image : Files) → IsCrashImage (put draft name pieces base) image
      → get image name ≡ Some (joined pieces)
  put_leaves pieces image crash =
      put_images Kept base (Renamed draft name ∷ Synced draft ∷ drafted draft pieces base) draft number
      (joined pieces) name (is_named pieces) (get image name) (crash.each name)

  pub since_named : (pieces : List (List ℕ)) (image : Files)
      → WasCrashImageSince (Renamed draft name ∷ Synced draft ∷ drafted draft pieces base) (length base) image
      → IfSome (get image name) (λ bytes. bytes ≡ joined pieces)
  since_named pieces image was =
      let events = Synced draft ∷ drafted draft pieces base in
      ⊎_elim
      (λ now. ⊎_elim (λ whole. some_of (get image name) (joined pieces) whole)
      (λ old. none_of (get image name) (λ bytes. bytes ≡ joined pieces) (nothing_there (get image name) old))
      (named_images Kept base (Renamed draft name ∷ events) draft number (joined pieces) name (is_named pieces)
      (get image name) refl (now.each name)))
      (λ before. none_of (get image name) (λ bytes. bytes ≡ joined pieces) (since_whole pieces image before))
      (since_more (Renamed draft name) events (length base) image was)

  -- nothing or the whole at any moment, and the whole afterwards
  pub put_is_safe : (pieces : List (List ℕ)) (image : Files)
      → (WasCrashImageSince (put draft name pieces base) (length base) image → IfSome (get image name)
      (λ bytes. bytes ≡ joined pieces))
      × (IsCrashImage (put draft name pieces base) image → get image name ≡ Some (joined pieces))
  put_is_safe pieces image = (
    λ was. ⊎_elim (λ now. some_of (get image name) (joined pieces) (put_leaves pieces image now))
        (λ before. since_named pieces image before)
        (since_more NamesSynced (Renamed draft name ∷ Synced draft ∷ drafted draft pieces base) (length base) image
        was),
    put_leaves pieces image,
  )
