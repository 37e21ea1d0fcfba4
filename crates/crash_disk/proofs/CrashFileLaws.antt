-- What `crash` leaves is a crash image.
use Rattle.std.proofs.Common.{◌≡◌, ℕ, List, [], ◌∷◌, length, eqb, Bool, true, false, cond, Option, Some, None}
use Rattle.std.proofs.Common.{option_map, inl, inr, refl, sym, subst}
use Rattle.std.specs.Prelude.{◌||◌}
use Rattle.std.specs.FinMap.{get}
use Rattle.crash_disk.specs.declared.event.Event.{Event}
use Rattle.crash_disk.specs.declared.event.Event.TheVariants.{Placed, Created, Appended, Wrote, Cut, Synced, Renamed}
use Rattle.crash_disk.specs.declared.event.Event.TheVariants.{Removed, NamesSynced}
use Rattle.crash_disk.specs.Files.{Files, is_name}
use Rattle.crash_disk.specs.FileState.{FileState, SomeOf, IsFileImage, synced_file, appended, written, resized}
use Rattle.crash_disk.specs.Numbers.{number_at, numbers_at, file_of, is_number}
use Rattle.crash_disk.proofs.NumberLaws.{on_cond}
use Rattle.crash_disk.specs.Images.{IsImageOf, MayStandAt, IsCrashImage}
use Rattle.crash_disk.proofs.ImageLaws.{numbers_at-now, reads_as_image}
use Rattle.crash_disk.specs.declared.remnant.Remnant.{Remnant}
use Rattle.crash_disk.specs.declared.remnant.Remnant.TheVariants.{OfTheSync, AsRead, Torn, OfEarlierLength}
use Rattle.crash_disk.specs.Remnant.{takes_names, remnant_at, bytes_left}
use Rattle.crash_disk.specs.Crash.{synced_number_at, file_left}
use Rattle.crash_disk.proofs.TornLaws.{torn_as_image, shorter_as_image}

-- since its last sync the file had the length that it had then
abbrev HadSyncedLength : FileState → Type 0
HadSyncedLength file = SomeOf (λ size. length file.synced ≡ size) file.lengths

had_synced_length : (events : List Event) (n : ℕ) → HadSyncedLength (file_of events n)
unfolding file_of
had_synced_length [] n = inl refl
had_synced_length (Placed name bytes ∷ events) n = on_cond HadSyncedLength (eqb n (length events)) (synced_file bytes)
    (file_of events n) (inl refl) (had_synced_length events n)
had_synced_length (Created name ∷ events) n = on_cond HadSyncedLength (is_number n (number_at events name))
    (resized 0 (file_of events n)) (file_of events n) (inr (had_synced_length events n)) (had_synced_length events n)
had_synced_length (Appended name bytes ∷ events) n =
    on_cond HadSyncedLength (is_number n (number_at events name)) (appended bytes (file_of events n))
    (file_of events n) (inr (had_synced_length events n)) (had_synced_length events n)
had_synced_length (Wrote name at bytes ∷ events) n =
    on_cond HadSyncedLength (is_number n (number_at events name)) (written at bytes (file_of events n))
    (file_of events n) (inr (had_synced_length events n)) (had_synced_length events n)
had_synced_length (Cut name size ∷ events) n =
    on_cond HadSyncedLength (is_number n (number_at events name)) (resized size (file_of events n)) (file_of events n)
    (inr (had_synced_length events n)) (had_synced_length events n)
had_synced_length (Synced name ∷ events) n =
    on_cond HadSyncedLength (is_number n (number_at events name)) (synced_file (file_of events n).bytes)
    (file_of events n) (inl refl) (had_synced_length events n)
had_synced_length (Renamed from to ∷ events) n = had_synced_length events n
had_synced_length (Removed name ∷ events) n = had_synced_length events n
had_synced_length (NamesSynced ∷ events) n = had_synced_length events n

-- the bytes at the last sync are an image
synced_as_image : (events : List Event) (n : ℕ) → IsFileImage (file_of events n) (file_of events n).synced
synced_as_image events n = record { had_length = had_synced_length events n; kept = λ place _ _ _. refl }

module _ (P : Option ℕ → Type 0) where
  with_more : (b : Bool) (x : Option ℕ) (ys : List (Option ℕ)) → SomeOf P ys → SomeOf P (cond b (x ∷ ys) ys)
  with_more true x ys some = inr some
  with_more false x ys some = some

  only_or : (b : Bool) (x y : Option ℕ) (ys : List (Option ℕ)) → P (cond b x y) → (P y → SomeOf P ys)
      → SomeOf P (cond b (x ∷ []) ys)
  only_or true x y ys p f = inl p
  only_or false x y ys p f = f p

  -- the number at the last sync of the names is one of those that the name had since
  numbers_at-synced : (events : List Event) (q : List ℕ) → P (synced_number_at events q)
      → SomeOf P (numbers_at events q)
  unfolding numbers_at synced_number_at
  numbers_at-synced [] q p = inl p
  numbers_at-synced (Placed name bytes ∷ events) q p = only_or (is_name q name) (Some (length events))
      (synced_number_at events q) (numbers_at events q) p (numbers_at-synced events q)
  numbers_at-synced (Created name ∷ events) q p = with_more (is_name q name) _ (numbers_at events q)
      (numbers_at-synced events q p)
  numbers_at-synced (Appended name bytes ∷ events) q p = numbers_at-synced events q p
  numbers_at-synced (Wrote name at bytes ∷ events) q p = numbers_at-synced events q p
  numbers_at-synced (Cut name size ∷ events) q p = numbers_at-synced events q p
  numbers_at-synced (Synced name ∷ events) q p = numbers_at-synced events q p
  numbers_at-synced (Renamed from to ∷ events) q p = with_more (is_name q to || is_name q from) _
      (numbers_at events q) (numbers_at-synced events q p)
  numbers_at-synced (Removed name ∷ events) q p = with_more (is_name q name) None (numbers_at events q)
      (numbers_at-synced events q p)
  numbers_at-synced (NamesSynced ∷ events) q p = inl p

-- what is left of a file is an image of it
left_as_image : (remnant : Remnant) (events : List Event) (n : ℕ)
    → IsFileImage (file_of events n) (bytes_left remnant (file_of events n))
left_as_image OfTheSync events n = synced_as_image events n
left_as_image AsRead events n = reads_as_image events n
left_as_image Torn events n = torn_as_image (file_of events n) (reads_as_image events n)
left_as_image OfEarlierLength events n = shorter_as_image (file_of events n) (reads_as_image events n)

image_of_left : (events : List Event) (remnant : Remnant) (number : Option ℕ)
    → IsImageOf events number (option_map (λ n. bytes_left remnant (file_of events n)) number)
image_of_left events remnant None = tt
image_of_left events remnant (Some n) = left_as_image remnant events n

left_stands : (events : List Event) (q : List ℕ) (names : Bool) (remnant : Remnant)
    → MayStandAt events q (option_map (λ n. bytes_left remnant (file_of events n))
    (cond names (number_at events q) (synced_number_at events q)))
left_stands events q true remnant = record
    { one = numbers_at-now _ events q (image_of_left events remnant (number_at events q)) }
left_stands events q false remnant = record
    { one = numbers_at-synced _ events q (image_of_left events remnant (synced_number_at events q)) }

-- what a choice leaves at a name may stand there
pub MayStandAt-left : (choice : ℕ) (events : List Event) (q : List ℕ) → MayStandAt events q (file_left choice events q)
MayStandAt-left choice events q = left_stands events q (takes_names choice q) (remnant_at choice q)

-- and so the files that it leaves are a crash image
pub IsCrashImage-left : (choice : ℕ) (events : List Event) (image : Files)
    → ((q : List ℕ) → get image q ≡ file_left choice events q) → IsCrashImage events image
IsCrashImage-left choice events image is = record
    { each = λ q. subst (MayStandAt events q) (sym (is q)) (MayStandAt-left choice events q) }
