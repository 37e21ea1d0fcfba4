-- What a crash at any moment of a put may leave.
use Rattle.std.proofs.Common.{◌≡◌, ◌≢◌, ℕ, ◌≤◌, List, [], ◌∷◌, ◌++◌, length, Option, Some, None, refl, sym, ap, subst}
use Rattle.std.proofs.Common.{◌∙◌, inl, inr, ⊎_elim, arith}
use Rattle.std.specs.FinMap.{get}
use Rattle.crash_disk.specs.declared.event.Event.{Event}
use Rattle.crash_disk.specs.declared.event.Event.TheVariants.{Created, Appended, Synced, Renamed, Removed, NamesSynced}
use Rattle.crash_disk.specs.Files.{Files, file_at}
use Rattle.crash_disk.proofs.DistinctNumbers.{same_number}
use Rattle.crash_disk.proofs.FileLaws.{file_at-Created-here, file_at-Created-other, file_at-Appended-here}
use Rattle.crash_disk.proofs.FileLaws.{file_at-Appended-other, file_at-Removed-other, file_at-Synced}
use Rattle.crash_disk.specs.FileState.{FileState, SomeOf}
use Rattle.crash_disk.specs.Images.{MayStandAt, IsCrashImage, WasCrashImageSince}
use Rattle.crash_disk.proofs.ImageSteps.{MayStandAt-Removed-other, MayStandAt-NamesSynced}
use Rattle.crash_disk.proofs.Moments.{since_now, since_more, since_start}
use Rattle.crash_disk.proofs.NumberLaws.{by_names, number_at-Removed-here}
use Rattle.crash_disk.specs.Numbers.{number_at, numbers_at, file_of}
use Rattle.crash_disk.proofs.PutLaws.{IsDraft, IsWhole, IsNamed, IsDraft-fresh, IsDraft-Appended, IsWhole-Synced}
use Rattle.crash_disk.proofs.PutLaws.{IsNamed-Renamed}
use Rattle.crash_disk.proofs.PutImages.{draft_images, named_images, named_images-other, put_images}
use Rattle.crash_disk.proofs.PutTheorem.{image_with}
use Rattle.crash_disk.proofs.ReadFiles.{bytes_by, file_at-numbered}
use Rattle.replica_store.specs.Putting.{draft_path, IsAlone, IsPutting, KeepsOthers, KeptOrPut}

longer : (path : List ℕ) → length path ≡ length (draft_path path) → ⊥
longer [] same = absurd (omega (arith, same))
longer (c ∷ path) same = longer path (omega (arith, same))

-- a name isn't its temporary name
pub apart : (path : List ℕ) → path ≢ draft_path path
apart path same = longer path (ap length same)

-- what holds of each name but one that a crash at some moment since may have left
module _ (draft : List ℕ) (base : List Event) (Q : List ℕ → Option (List ℕ) → Type 0) where
  abbrev pub Stands : List Event → Type 0
  Stands events = (q : List ℕ) (file : Option (List ℕ)) → q ≢ draft → MayStandAt events q file → Q q file

  abbrev pub Stood : List Event → Type 0
  Stood events = (image : Files) → WasCrashImageSince events (length base) image → (q : List ℕ) → q ≢ draft
      → Q q (get image q)

  pub stood_more : (event : Event) (events : List Event) → Stands (event ∷ events) → Stood events
      → Stood (event ∷ events)
  stood_more event events stands stood image was q other =
      ⊎_elim (λ now. stands q (get image q) other (now.each q))
      (λ before. stood image before q other) (since_more event events (length base) image was)

  -- and so of each that a crash now may leave
  pub stands_of : (events : List Event) → length base ≤ length events → Stood events → Stands events
  stands_of events later stood q file other is =
      let image = image_with events q file is in
      subst (Q q) image.1 (stood _ (since_now events (length base) _ later image.0) q other)

module _ (path : List ℕ) (base : List Event) where
  abbrev draft : List ℕ
  draft = draft_path path

  abbrev Before : List ℕ → Option (List ℕ) → Type 0
  Before q file = MayStandAt base q file

  pub others_start : KeepsOthers path base base
  others_start = record {
    later = omega arith;
    files = λ q other. refl;
    at_a_stop = λ image was q other. (since_start base image was).each q;
  }

  pub others_more : (event : Event) (events : List Event) → KeepsOthers path base events
      → ((q : List ℕ) → q ≢ draft → file_at (event ∷ events) q ≡ file_at events q)
      → Stands draft base Before (event ∷ events)
      → KeepsOthers path base (event ∷ events)
  others_more event events kept same stands = record {
    later = omega (arith, kept.later);
    files = λ q other. same q other ∙ kept.files q other;
    at_a_stop = stood_more draft base Before event events stands kept.at_a_stop;
  }

  -- the removal of the temporary file
  pub others_removed : (events : List Event) → KeepsOthers path base events
      → KeepsOthers path base (Removed draft ∷ events)
  others_removed events kept =
      others_more (Removed draft) events kept (λ q other. file_at-Removed-other events draft q other)
      (λ q file other is. stands_of draft base Before events kept.later kept.at_a_stop q file other
      (MayStandAt-Removed-other events draft q file other is))

  abbrev cleared : List Event
  cleared = Removed draft ∷ base

  abbrev Kept : List ℕ → Type 0
  Kept q = q ≢ draft

  -- a temporary file of its own number
  alone_of : (events from : List Event) (number : ℕ) (bytes : List ℕ) → IsDraft Kept from events draft number bytes
      → IsAlone events draft
  alone_of events from number bytes is = record {
    apart = λ n here q other there.
        let same : n ≡ number = same_number n number (sym here ∙ is.here) in
        is.alone q other (subst (λ (x : ℕ). SomeOf (λ y. y ≡ Some x) (numbers_at from q)) same
        (subst (SomeOf (λ y. y ≡ Some n)) (is.same_numbers q other) there));
  }

  -- the temporary file is made anew
  pub begun : IsPutting path [] base (Created draft ∷ cleared)
  begun =
      let fresh = IsDraft-fresh Kept cleared draft (λ q other. other) (number_at-Removed-here base draft) in
      record {
        draft = file_at-Created-here cleared draft;
        alone = alone_of (Created draft ∷ cleared) cleared _ [] fresh;
        others = others_more (Created draft) cleared (others_removed base others_start)
            (λ q other. file_at-Created-other cleared draft q other)
            (λ q file other is. MayStandAt-Removed-other base draft q file other
            (draft_images Kept cleared (Created draft ∷ cleared) draft _ [] q file other fresh is));
      }

  has_number : (files : ℕ → FileState) (number : Option ℕ) (bytes : List ℕ) → bytes_by files number ≡ Some bytes
      → (n : ℕ) × (number ≡ Some n) × ((files n).bytes ≡ bytes)
  has_number files None bytes e = let no : ◌≡◌ {A = Option (List ℕ)} None (Some bytes) = e in absurd cc
  has_number files (Some n) bytes e = let same : Some (files n).bytes ≡ Some bytes = e in (n, refl, cc)

  module _ (now : List Event) (bytes : List ℕ) (p : IsPutting path bytes base now) where
    numbered : (n : ℕ) × (number_at now draft ≡ Some n) × ((file_of now n).bytes ≡ bytes)
    numbered = has_number (file_of now) (number_at now draft) bytes (sym (file_at-numbered now draft) ∙ p.draft)

    abbrev number : ℕ
    number = numbered.0

    is_draft : IsDraft Kept now now draft number bytes
    is_draft = record {
      apart = λ q other. other;
      here = numbered.1;
      reads = numbered.2;
      alone = λ q other there. p.alone.apart number numbered.1 q other there;
      same_now = λ q other. refl;
      same_numbers = λ q other. refl;
      same_files = λ n other. refl;
    }

    -- what may stand beside the temporary file might have stood there before
    before_put : Stands draft base Before now
    before_put = stands_of draft base Before now p.others.later p.others.at_a_stop

    -- more bytes are put into it
    pub more_put : (more : List ℕ) → IsPutting path (bytes ++ more) base (Appended draft more ∷ now)
    more_put more =
        let grown = IsDraft-Appended Kept now draft now number bytes more is_draft in
        record {
          draft = file_at-Appended-here now draft more bytes p.draft;
          alone = alone_of (Appended draft more ∷ now) now number (bytes ++ more) grown;
          others = others_more (Appended draft more) now p.others
              (λ q other. file_at-Appended-other now draft more q other)
              (λ q file other is. before_put q file other
              (draft_images Kept now (Appended draft more ∷ now) draft number (bytes ++ more) q file other grown
              is));
        }

    abbrev synced : List Event
    synced = Synced draft ∷ now

    abbrev named : List Event
    named = Renamed draft path ∷ synced

    is_whole : IsWhole Kept now synced draft number bytes
    is_whole = IsWhole-Synced Kept now draft now number bytes is_draft

    is_named : IsNamed Kept now named draft path number bytes
    is_named = IsNamed-Renamed Kept now draft synced number bytes path (apart path) is_whole

    -- it is synced
    pub others_synced : KeepsOthers path base synced
    others_synced =
        others_more (Synced draft) now p.others (λ q other. file_at-Synced now draft q)
        (λ q file other is. before_put q file other
        (draft_images Kept now synced draft number bytes q file other is_whole.begun is))

    -- and from then on
    abbrev Put : List ℕ → Option (List ℕ) → Type 0
    Put q file = KeptOrPut path bytes base q file

    named_stands : Stands draft base Put named
    named_stands q file other is =
        by_names q path
        (λ same. ⊎_elim (λ whole. inr (same, whole))
        (λ old. inl (subst (λ x. MayStandAt base x file) (sym same) (before_put path file (apart path) old)))
        (named_images Kept now named draft number bytes path is_named file (apart path)
        (subst (λ x. MayStandAt named x file) same is)))
        (λ elsewhere. inl (before_put q file other
        (named_images-other Kept now named draft number bytes path is_named q file other elsewhere is)))

    pub stood_named : Stood draft base Put named
    stood_named = stood_more draft base Put (Renamed draft path) synced named_stands
        (λ image was q other. inl (others_synced.at_a_stop image was q other))

    pub stood_settled : Stood draft base Put (NamesSynced ∷ named)
    stood_settled = stood_more draft base Put NamesSynced named
        (λ q file other is. named_stands q file other (MayStandAt-NamesSynced named q file is)) stood_named

    pub settled_stays : (image : Files) → IsCrashImage (NamesSynced ∷ named) image → get image path ≡ Some bytes
    settled_stays image crash = put_images Kept now named draft number bytes path is_named (get image path)
        (crash.each path)
