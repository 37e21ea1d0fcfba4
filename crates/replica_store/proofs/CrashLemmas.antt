-- Replicas that are faithful whatever a crash leaves.
use Rattle.std.proofs.Common.{◌≡◌, ℕ, ◌+◌, ◌-◌, ◌≤◌, List, ◌++◌, length, drop, false, true, Option, Some, None, refl}
use Rattle.std.proofs.Common.{sym, ap, subst, ◌∙◌, inl, inr, length-append, arith}
use Rattle.std.specs.Prelude.{◌⊎◌, ◌↔◌, IsSome, is_some}
use Rattle.std.specs.FinMap.{get}
use Rattle.std.proofs.Math.Seq.{drop-append-add}
use Rattle.std.proofs.lemmas.Bool.{cases_lt}
use Rattle.crash_disk.specs.declared.event.Event.{Event}
use Rattle.crash_disk.specs.Files.{Files, files_after, file_at}
use Rattle.crash_disk.specs.GoesOn.{IsGrown}
use Rattle.crash_disk.specs.Images.{MayStandAt, IsCrashImage, WasCrashImageSince}
use Rattle.crash_disk.proofs.ImageLaws.{IsCrashImage-reads}
use Rattle.crash_disk.proofs.Moments.{since_now}
use Rattle.crash_disk.proofs.PutTheorem.{image_with}
use Rattle.ls_base.specs.History.{History}
use Rattle.ls_base.specs.SyncLog.{SyncLog}
use Rattle.replica_store.specs.CrashFaithful.{LeavesAsRead, IsSettled}
use Rattle.replica_store.specs.Faithful.{IsFaithful}
use Rattle.replica_store.specs.Listing.{IsFilePath}
use Rattle.replica_store.proofs.FaithLemmas.{same_bytes, same_faithful, whole_front}

pub both_or_none : (found read : Option (List ℕ)) → IsSome found ↔ IsSome read
    → ((a b : List ℕ) → found ≡ Some a → read ≡ Some b → a ≡ b) → found ≡ read
both_or_none None None both same = refl
both_or_none None (Some b) both same = let e : false ≡ true = both.1 refl in absurd cc
both_or_none (Some a) None both same = let e : false ≡ true = both.0 refl in absurd cc
both_or_none (Some a) (Some b) both same = ap (λ bytes. Some bytes) (same a b refl refl)

pub as_read : (events : List Event) (history : History) (log : SyncLog) → IsSettled events history log
    → LeavesAsRead events
as_read events history log settled path is file stands =
    let image = image_with events path file stands in
    sym image.1
    ∙ both_or_none _ (file_at events path) (settled.names _ image.0 path is)
    (λ found bytes left read. settled.faithful.stable path bytes found is read _ image.0 left)

-- so each image reads as the files
pub image_reads : (events : List Event) (image : Files) → LeavesAsRead events → IsCrashImage events image
    → (path : List ℕ) → IsFilePath path → get image path ≡ file_at events path
image_reads events image leaves crash path is = leaves path is (get image path) (crash.each path)

pub settled_by : (events : List Event) (history : History) (log : SyncLog)
    → IsFaithful (files_after events) history log → LeavesAsRead events → IsSettled events history log
settled_by events history log faithful leaves = record {
  faithful = record {
    files = faithful;
    images = λ image crash. whole_front image history log 0 (omega arith)
        (same_faithful (files_after events) image history log (image_reads events image leaves crash) faithful);
    stable = λ path bytes found is read image crash left. same_bytes found bytes
        (sym left ∙ image_reads events image leaves crash path is ∙ read);
  };
  names = λ image crash path is.
      let same = image_reads events image leaves crash path is in
      (λ there. ap is_some (sym same) ∙ there, λ there. ap is_some same ∙ there);
}

-- ---- moments

-- an image since is one since a later moment, or one up to it
module _ (mid now : List Event) (moment : ℕ) (image : Files) (grown : IsGrown mid now)
    (was : WasCrashImageSince now moment image) where
  abbrev fresh : ℕ
  fresh = length grown.more

  total : length now ≡ fresh + length mid
  total = ap length grown.is ∙ length-append grown.more mid

  later_on : was.ago ≤ fresh → WasCrashImageSince now (length mid) image
  later_on few = record { ago = was.ago; since = omega (arith, total, few); was = was.was }

  earlier_on : fresh ≤ was.ago → WasCrashImageSince mid moment image
  earlier_on many =
      let back : was.ago ≡ fresh + (was.ago - fresh) = omega (arith, many) in
      record {
        ago = was.ago - fresh;
        since = omega (arith, total, many, was.since);
        was = subst (λ (events : List Event). IsCrashImage events image)
            (ap (λ events. drop was.ago events) grown.is ∙ ap (λ n. drop n (grown.more ++ mid)) back
            ∙ drop-append-add grown.more mid (was.ago - fresh)) was.was;
      }

  pub since_split : WasCrashImageSince now (length mid) image ⊎ WasCrashImageSince mid moment image
  since_split = elim (cases_lt was.ago fresh)
      [ inl few ↦ inl (later_on (omega (arith, few))) | inr many ↦ inr (earlier_on many) ]

-- what reads is an image since each moment
pub read_since : (events : List Event) (moment : ℕ) → moment ≤ length events
    → WasCrashImageSince events moment (files_after events)
read_since events moment past = since_now events moment (files_after events) past (IsCrashImage-reads events)

pub grown_longer : (before now : List Event) → IsGrown before now → length before ≤ length now
grown_longer before now grown = let total : length now ≡ length grown.more + length before = ap length grown.is
    ∙ length-append grown.more before in omega (arith, total)
