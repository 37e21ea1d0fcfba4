-- A log that is synced, and a database file that is long enough in what a crash leaves.
use Rattle.std.proofs.Common.{◌≡◌, ◌≢◌, ℕ, Bool, true, false, cond, List, ◌∷◌, length, map, Option, Some, None}
use Rattle.std.proofs.Common.{get_or, sym, ap, subst, refl, arith}
use Rattle.std.specs.List.{range_with_len}
use Rattle.std.specs.FinMap.{get}
use Rattle.std.proofs.lemmas.List.FromFn.{length-map-range_with_len, get_or-map-range_with_len}
use Rattle.ls_base.specs.declared.mark.Mark.{Mark}
use Rattle.crash_disk.specs.declared.event.Event.{Event}
use Rattle.crash_disk.specs.declared.event.Event.TheVariants.{Synced}
use Rattle.crash_disk.specs.Files.{Files}
use Rattle.crash_disk.specs.FileState.{FileState, SomeOf, synced_file, IsFileImage}
use Rattle.crash_disk.specs.Numbers.{number_at, numbers_at, file_of, is_number}
use Rattle.crash_disk.specs.Images.{IsImageOf, MayStandAt, IsCrashImage}
use Rattle.crash_disk.proofs.ImageLaws.{reads_as_image}
use Rattle.crash_disk.proofs.ImageSteps.{SomeOf-weaken}
use Rattle.crash_disk.proofs.SettledLaws.{IsFileImage-settled}
use Rattle.wal_frames.specs.Marks.{last_mark_of}
use Rattle.checkpointer.specs.PairState.{bytes_at, ArePagesWhole}
use Rattle.checkpointer.proofs.PairLemmas.{HasPair, old_image}
use Rattle.checkpointer.proofs.ViewOfPair.{IsKept}
use Rattle.checkpointer.proofs.RunLemmas.{IsLong}

-- ---- a sync takes images away and adds none

synced_image : (events : List Event) (n : ℕ) (here : Bool) (bytes : List ℕ)
    → IsFileImage (cond here (synced_file (file_of events n).bytes) (file_of events n)) bytes
    → IsFileImage (file_of events n) bytes
synced_image events n true bytes image =
    subst (λ (xs : List ℕ). IsFileImage (file_of events n) xs)
    (sym (IsFileImage-settled (synced_file (file_of events n).bytes) bytes refl image)) (reads_as_image events n)
synced_image events n false bytes image = image

synced_left : (events : List Event) (name : List ℕ) (number : Option ℕ) (left : Option (List ℕ))
    → IsImageOf (Synced name ∷ events) number left → IsImageOf events number left
unfolding file_of
synced_left events name None None image = image
synced_left events name None (Some bytes) image = image
synced_left events name (Some n) None image = image
synced_left events name (Some n) (Some bytes) image = synced_image events n (is_number n (number_at events name))
    bytes image

synced_stands : (events : List Event) (name q : List ℕ) (left : Option (List ℕ))
    → MayStandAt (Synced name ∷ events) q left → MayStandAt events q left
unfolding numbers_at
synced_stands events name q left is = record {
  one = SomeOf-weaken (λ number. IsImageOf (Synced name ∷ events) number left)
      (λ number. IsImageOf events number left) (numbers_at events q)
      (λ number _ image. synced_left events name number left image) is.one;
}

pub synced_was : (events : List Event) (name : List ℕ) (image : Files) → IsCrashImage (Synced name ∷ events) image
    → IsCrashImage events image
synced_was events name image is = record { each = λ q. synced_stands events name q (get image q) (is.each q) }

-- ---- the places that are kept

-- a file of some length that it had since its last sync, with its synced bytes
module _ (old : FileState) (n : ℕ) (had : SomeOf (λ size. n ≡ size) old.lengths) where
  abbrev kept_bytes : List ℕ
  kept_bytes = map (λ place. get_or old.synced place 0) (range_with_len 0 n)

  length-kept : length kept_bytes ≡ n
  length-kept = length-map-range_with_len (λ place. get_or old.synced place 0) 0 n

  kept_image : IsFileImage old kept_bytes
  kept_image = record {
    had_length = subst (λ (k : ℕ). SomeOf (λ size. k ≡ size) old.lengths) (sym length-kept) had;
    kept = λ place below synced free.
        get_or-map-range_with_len (λ k. get_or old.synced k 0) 0 n place place 0 (omega (arith, below, length-kept))
        (omega arith);
  }

-- where the pages that the last mark leaves to the file are whole, none of their places is past its end
pub is_long : (db wal : List ℕ) (before : List Event) (old w : FileState) (last : Mark) → db ≢ wal
    → HasPair before db wal old w → last_mark_of (bytes_at before wal) ≡ Some last → ArePagesWhole db wal before
    → IsLong (IsKept (bytes_at before wal) last) db wal (bytes_at before wal) old
is_long db wal before old w last apart pair e whole n had place kept =
    let bytes = kept_bytes old n had in
    let o = old_image before db wal old w bytes apart pair (kept_image old n had) in
    let enough = whole last e kept.p kept.page o.files o.is in
    let many : length (kept_bytes old n had) ≡ n = length-kept old n had in
    let is = ap (λ (xs : List ℕ). length xs) o.database in
    omega (arith, kept.before, enough, many, is)
