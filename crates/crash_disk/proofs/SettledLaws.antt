-- Once a file and its name are synced, a crash leaves it as it reads.
use Rattle.std.proofs.Common.{◌≡◌, ℕ, ◌<◌, List, [], ◌∷◌, ◌++◌, map, length, eqb, Bool, true, false, cond, Option, Some}
use Rattle.std.proofs.Common.{None, IfSome, IsSome, is_some, inl, inr, ⊎_elim, refl, ap, sym, subst, ◌∙◌}
use Rattle.std.proofs.lemmas.List.{same_lists}
use Rattle.std.proofs.lemmas.Grind.{get_or_default_zero}
use Rattle.std.specs.Cmp.Lexicographic.{nat_list_cmp_total}
use Rattle.std.specs.FinMap.{get, same_map, nat_cmp-IsAntisymmetric, slice_cmp-IsAntisymmetric}
use Rattle.crash_disk.specs.declared.event.Event.{Event}
use Rattle.crash_disk.specs.declared.event.Event.TheVariants.{Placed, Created, Appended, Wrote, Cut, Synced, Renamed}
use Rattle.crash_disk.specs.declared.event.Event.TheVariants.{Removed, NamesSynced}
use Rattle.crash_disk.specs.Files.{Files, files_after, file_at, is_name}
use Rattle.crash_disk.specs.FileState.{FileState, SomeOf, IsFileImage, synced_file}
use Rattle.crash_disk.specs.Numbers.{number_at, numbers_at, file_of, is_number}
use Rattle.crash_disk.proofs.NumberLaws.{on_cond}
use Rattle.crash_disk.proofs.NumberedFiles.{changed_at-here}
use Rattle.crash_disk.proofs.ReadFiles.{bytes_by, file_at-numbered}
use Rattle.crash_disk.specs.Images.{IsImageOf, MayStandAt, IsCrashImage, IsSettledAt, ArePlaced}

-- an image of a synced file is its bytes
pub IsFileImage-settled : (file : FileState) (bytes : List ℕ) → file ≡ synced_file file.bytes → IsFileImage file bytes
    → bytes ≡ file.bytes
IsFileImage-settled file bytes settled is =
    let there : IsFileImage (synced_file file.bytes) bytes = subst (λ f. IsFileImage f bytes) settled is in
    let size : length bytes ≡ length file.bytes = ⊎_elim (λ e. e) (λ none. absurd none) there.had_length in
    same_lists bytes file.bytes size (λ place d below.
    let below_there : place < length file.bytes = subst (λ n. place < n) size below in
    get_or_default_zero bytes place d below ∙ there.kept place below below_there (λ none. none)
    ∙ sym (get_or_default_zero file.bytes place d below_there))

settled_image : (events : List Event) (number : Option ℕ) (file : Option (List ℕ)) → IfSome number
    (λ n. file_of events n ≡ synced_file (file_of events n).bytes) → IsImageOf events number file
    → file ≡ bytes_by (file_of events) number
settled_image events None None settled is = refl
settled_image events None (Some bytes) settled is = absurd is
settled_image events (Some n) None settled is = absurd is
settled_image events (Some n) (Some bytes) settled is = ap Some
    (IsFileImage-settled (file_of events n) bytes settled is)

-- what is settled is left as it reads
pub IsSettledAt-only : (events : List Event) (q : List ℕ) (file : Option (List ℕ)) → IsSettledAt events q
    → MayStandAt events q file → file ≡ file_at events q
IsSettledAt-only events q file settled is =
    let one : SomeOf (λ number. IsImageOf events number file) (number_at events q ∷ []) =
    subst (SomeOf (λ number. IsImageOf events number file)) settled.number is.one in
    ⊎_elim (λ image. settled_image events (number_at events q) file settled.synced image) (λ none. absurd none) one
    ∙ sym (file_at-numbered events q)

-- where each name is settled, a crash leaves the files as they read
pub all_settled : (events : List Event) (image : Files) → ((q : List ℕ) → IsSettledAt events q)
    → IsCrashImage events image → image ≡ files_after events
all_settled events image settled is =
    same_map nat_list_cmp_total (slice_cmp-IsAntisymmetric nat_cmp-IsAntisymmetric) image (files_after events)
    (λ q. IsSettledAt-only events q (get image q) (settled q) (is.each q))

-- a file whose bytes are all synced
abbrev IsSynced : FileState → Type 0
IsSynced file = file ≡ synced_file file.bytes

placed_file : (events : List Event) (n : ℕ) → ArePlaced events → IsSynced (file_of events n)
unfolding file_of
placed_file [] n placed = refl
placed_file (Placed name bytes ∷ events) n placed = on_cond IsSynced (eqb n (length events)) (synced_file bytes)
    (file_of events n) refl (placed_file events n placed)
placed_file (Created name ∷ events) n placed = absurd placed
placed_file (Appended name bytes ∷ events) n placed = absurd placed
placed_file (Wrote name at bytes ∷ events) n placed = absurd placed
placed_file (Cut name size ∷ events) n placed = absurd placed
placed_file (Synced name ∷ events) n placed = absurd placed
placed_file (Renamed from to ∷ events) n placed = absurd placed
placed_file (Removed name ∷ events) n placed = absurd placed
placed_file (NamesSynced ∷ events) n placed = absurd placed

one_number : (b : Bool) (x y : Option ℕ) (ys : List (Option ℕ)) → ys ≡ y ∷ [] → cond b (x ∷ []) ys ≡ cond b x y ∷ []
one_number true x y ys e = refl
one_number false x y ys e = e

placed_name : (events : List Event) (q : List ℕ) → ArePlaced events → numbers_at events q ≡ number_at events q ∷ []
unfolding number_at numbers_at
placed_name [] q placed = refl
placed_name (Placed name bytes ∷ events) q placed = one_number (is_name q name) (Some (length events))
    (number_at events q) (numbers_at events q) (placed_name events q placed)
placed_name (Created name ∷ events) q placed = absurd placed
placed_name (Appended name bytes ∷ events) q placed = absurd placed
placed_name (Wrote name at bytes ∷ events) q placed = absurd placed
placed_name (Cut name size ∷ events) q placed = absurd placed
placed_name (Synced name ∷ events) q placed = absurd placed
placed_name (Renamed from to ∷ events) q placed = absurd placed
placed_name (Removed name ∷ events) q placed = absurd placed
placed_name (NamesSynced ∷ events) q placed = absurd placed

if_some : (number : Option ℕ) (P : ℕ → Type 0) → ((n : ℕ) → number ≡ Some n → P n) → IfSome number P
if_some None P each = tt
if_some (Some n) P each = each n refl

-- placed files are settled
pub ArePlaced-settled : (events : List Event) (q : List ℕ) → ArePlaced events → IsSettledAt events q
ArePlaced-settled events q placed = record {
  number = placed_name events q placed;
  synced = if_some (number_at events q) (λ n. IsSynced (file_of events n)) (λ n _. placed_file events n placed);
}

-- a sync leaves the numbers
module _ (events : List Event) where
  synced_number : (names : List (List ℕ)) (q : List ℕ) → number_at (map Synced names ++ events) q ≡ number_at events q
  unfolding number_at
  synced_number [] q = refl
  synced_number (name ∷ names) q = synced_number names q

  synced_file_of : (names : List (List ℕ)) (q : List ℕ) (n : ℕ) → number_at events q ≡ Some n → SomeOf
      (λ name. name ≡ q) names → IsSynced (file_of (map Synced names ++ events) n)
  unfolding file_of
  synced_file_of [] q n there none = absurd none
  synced_file_of (name ∷ names) q n there (inl same) =
      let before = map Synced names ++ events in
      let here : number_at before name ≡ Some n = ap (number_at before) same ∙ synced_number names q ∙ there in
      subst IsSynced (sym (changed_at-here (number_at before name)
      (λ file. synced_file file.bytes) n (file_of before n) here)) refl
  synced_file_of (name ∷ names) q n there (inr later) =
      let before = map Synced names ++ events in
      on_cond IsSynced (is_number n (number_at before name)) (synced_file (file_of before n).bytes) (file_of before n)
      refl (synced_file_of names q n there later)

  names_synced : (names : List (List ℕ)) (q : List ℕ) → numbers_at (NamesSynced ∷ (map Synced names ++ events)) q
      ≡ number_at (NamesSynced ∷ (map Synced names ++ events)) q ∷ []
  unfolding number_at numbers_at
  names_synced names q = refl

  synced_after : (names : List (List ℕ)) (q : List ℕ) → (IsSome (number_at events q) → SomeOf (λ name. name ≡ q) names)
      → IfSome (number_at (NamesSynced ∷ (map Synced names ++ events)) q)
      (λ n. IsSynced (file_of (NamesSynced ∷ (map Synced names ++ events)) n))
  unfolding number_at file_of
  synced_after names q all =
      rw (synced_number names q) (if_some (number_at events q)
      (λ n. IsSynced (file_of (map Synced names ++ events) n))
      (λ n there. synced_file_of names q n there (all (ap is_some there))))

some_there : (events : List Event) (q : List ℕ) → IsSome (number_at events q) → IsSome (file_at events q)
some_there events q there = ap is_some (file_at-numbered events q) ∙ some_bytes (number_at events q) there
  where
    some_bytes : (number : Option ℕ) → IsSome number → IsSome (bytes_by (file_of events) number)
    some_bytes None h = h
    some_bytes (Some n) h = refl

files_synced : (events : List Event) (names : List (List ℕ))
    → files_after (NamesSynced ∷ (map Synced names ++ events)) ≡ files_after events
unfolding files_after
files_synced events [] = refl
files_synced events (name ∷ names) = files_synced events names

-- after a sync of each file that is there, and of the names, a crash leaves the files as they read
pub all_synced : (events : List Event) (names : List (List ℕ)) (image : Files)
    → ((q : List ℕ) → IsSome (file_at events q) → SomeOf (λ name. name ≡ q) names)
    → IsCrashImage (NamesSynced ∷ (map Synced names ++ events)) image → image ≡ files_after events
all_synced events names image all is =
    all_settled (NamesSynced ∷ (map Synced names ++ events)) image
    (λ q. record {
      number = names_synced events names q;
      synced = synced_after events names q
          (λ there. all q (some_there events q there));
    }) is
    ∙ files_synced events names
