-- What a crash may leave: the files as they read, and nothing else once all is synced.
use Rattle.std.proofs.Common.{ℕ, List, [], ◌∷◌, length, eqb, Bool, true, false, cond, Option, Some, None, inl, sym}
use Rattle.std.proofs.Common.{subst}
use Rattle.std.specs.Prelude.{◌||◌}
use Rattle.crash_disk.specs.declared.event.Event.{Event}
use Rattle.crash_disk.specs.declared.event.Event.TheVariants.{Placed, Created, Appended, Wrote, Cut, Synced, Renamed}
use Rattle.crash_disk.specs.declared.event.Event.TheVariants.{Removed, NamesSynced}
use Rattle.crash_disk.specs.Files.{files_after, file_at, is_name}
use Rattle.crash_disk.specs.FileState.{FileState, SomeOf, IsFileImage, synced_file, appended, written, resized}
use Rattle.crash_disk.proofs.FileStateLaws.{IsFileImage-synced, IsFileImage-appended, IsFileImage-written}
use Rattle.crash_disk.proofs.FileStateLaws.{IsFileImage-resized}
use Rattle.crash_disk.specs.Numbers.{number_at, numbers_at, file_of, is_number}
use Rattle.crash_disk.proofs.NumberLaws.{on_cond}
use Rattle.crash_disk.proofs.ReadFiles.{bytes_by, file_at-numbered}
use Rattle.crash_disk.specs.Images.{IsImageOf, MayStandAt, IsCrashImage}

-- the bytes of a file are one of its images
abbrev ReadsAsImage : FileState → Type 0
ReadsAsImage file = IsFileImage file file.bytes

-- of each file that was made
pub reads_as_image : (events : List Event) (n : ℕ) → IsFileImage (file_of events n) (file_of events n).bytes
unfolding file_of
reads_as_image [] n = IsFileImage-synced []
reads_as_image (Placed name bytes ∷ events) n = on_cond ReadsAsImage (eqb n (length events)) (synced_file bytes)
    (file_of events n) (IsFileImage-synced bytes) (reads_as_image events n)
reads_as_image (Created name ∷ events) n =
    on_cond ReadsAsImage (is_number n (number_at events name)) (resized 0 (file_of events n)) (file_of events n)
    (IsFileImage-resized 0 (file_of events n) (reads_as_image events n)) (reads_as_image events n)
reads_as_image (Appended name bytes ∷ events) n =
    on_cond ReadsAsImage (is_number n (number_at events name)) (appended bytes (file_of events n)) (file_of events n)
    (IsFileImage-appended bytes (file_of events n) (reads_as_image events n)) (reads_as_image events n)
reads_as_image (Wrote name at bytes ∷ events) n =
    on_cond ReadsAsImage (is_number n (number_at events name)) (written at bytes (file_of events n))
    (file_of events n) (IsFileImage-written at bytes (file_of events n) (reads_as_image events n))
    (reads_as_image events n)
reads_as_image (Cut name size ∷ events) n =
    on_cond ReadsAsImage (is_number n (number_at events name)) (resized size (file_of events n)) (file_of events n)
    (IsFileImage-resized size (file_of events n) (reads_as_image events n)) (reads_as_image events n)
reads_as_image (Synced name ∷ events) n =
    on_cond ReadsAsImage (is_number n (number_at events name)) (synced_file (file_of events n).bytes)
    (file_of events n) (IsFileImage-synced (file_of events n).bytes) (reads_as_image events n)
reads_as_image (Renamed from to ∷ events) n = reads_as_image events n
reads_as_image (Removed name ∷ events) n = reads_as_image events n
reads_as_image (NamesSynced ∷ events) n = reads_as_image events n

module _ (P : Option ℕ → Type 0) where
  both_chosen : (b : Bool) (x y : Option ℕ) (xs ys : List (Option ℕ)) → P (cond b x y) → (P x → SomeOf P xs)
      → (P y → SomeOf P ys) → SomeOf P (cond b xs ys)
  both_chosen true x y xs ys p f g = f p
  both_chosen false x y xs ys p f g = g p

  put_first : (b : Bool) (x y : Option ℕ) (ys : List (Option ℕ)) → P (cond b x y) → (P y → SomeOf P ys)
      → SomeOf P (cond b (x ∷ ys) ys)
  put_first true x y ys p g = inl p
  put_first false x y ys p g = g p

  put_first_made : (b : Bool) (x y : Option ℕ) (ys : List (Option ℕ)) → P (cond b x y) → (P y → SomeOf P ys)
      → SomeOf P (cond b (cond b x y ∷ ys) ys)
  put_first_made true x y ys p g = inl p
  put_first_made false x y ys p g = g p

  put_first_moved : (b c : Bool) (x y : Option ℕ) (ys : List (Option ℕ)) → P (cond b x (cond c None y))
      → (P y → SomeOf P ys) → SomeOf P (cond (b || c) (cond b x (cond c None y) ∷ ys) ys)
  put_first_moved true c x y ys p g = inl p
  put_first_moved false true x y ys p g = inl p
  put_first_moved false false x y ys p g = g p

  -- the number that stands at a name is one of those that it had
  pub numbers_at-now : (events : List Event) (q : List ℕ) → P (number_at events q) → SomeOf P (numbers_at events q)
  unfolding number_at numbers_at
  numbers_at-now [] q p = inl p
  numbers_at-now (Placed name bytes ∷ events) q p = both_chosen (is_name q name) _ (number_at events q)
      (Some (length events) ∷ []) (numbers_at events q) p (λ h. inl h) (numbers_at-now events q)
  numbers_at-now (Created name ∷ events) q p = put_first_made (is_name q name) _ (number_at events q)
      (numbers_at events q) p (numbers_at-now events q)
  numbers_at-now (Appended name bytes ∷ events) q p = numbers_at-now events q p
  numbers_at-now (Wrote name at bytes ∷ events) q p = numbers_at-now events q p
  numbers_at-now (Cut name size ∷ events) q p = numbers_at-now events q p
  numbers_at-now (Synced name ∷ events) q p = numbers_at-now events q p
  numbers_at-now (Renamed from to ∷ events) q p = put_first_moved (is_name q to) (is_name q from) _
      (number_at events q) (numbers_at events q) p (numbers_at-now events q)
  numbers_at-now (Removed name ∷ events) q p = put_first (is_name q name) None (number_at events q)
      (numbers_at events q) p (numbers_at-now events q)
  numbers_at-now (NamesSynced ∷ events) q p = inl p

pub image_of_number : (events : List Event) (number : Option ℕ)
    → IsImageOf events number (bytes_by (file_of events) number)
image_of_number events None = tt
image_of_number events (Some n) = reads_as_image events n

-- what reads at a name may be left there
pub MayStandAt-reads : (events : List Event) (q : List ℕ) → MayStandAt events q (file_at events q)
MayStandAt-reads events q = record {
  one = numbers_at-now (λ number. IsImageOf events number (file_at events q)) events q
      (subst (IsImageOf events (number_at events q)) (sym (file_at-numbered events q))
      (image_of_number events (number_at events q)));
}

-- a crash may leave the files as they read
pub IsCrashImage-reads : (events : List Event) → IsCrashImage events (files_after events)
IsCrashImage-reads events = record { each = MayStandAt-reads events }
