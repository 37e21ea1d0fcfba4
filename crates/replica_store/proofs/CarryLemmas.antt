-- A replica that goes on: nothing done, and one step after another.
use Rattle.std.proofs.Common.{◌≡◌, ℕ, ◌<◌, ◌≤◌, List, length, sym, subst, inl, inr, ⊎_elim, arith}
use Rattle.std.specs.Prelude.{◌⊎◌}
use Rattle.std.proofs.lemmas.Bool.{cases_lt}
use Rattle.crash_disk.specs.declared.event.Event.{Event}
use Rattle.crash_disk.specs.Files.{Files, files_after}
use Rattle.crash_disk.specs.GoesOn.{IsGrown}
use Rattle.crash_disk.specs.Images.{WasCrashImageSince}
use Rattle.crash_disk.proofs.Moments.{since_start}
use Rattle.ls_base.specs.History.{History}
use Rattle.ls_base.specs.SyncLog.{SyncLog}
use Rattle.replica_store.specs.declared.file_name.FileName.{FileName}
use Rattle.replica_store.specs.CarriesOn.{IsYoung, IsLonger, CarriesOn}
use Rattle.replica_store.specs.CrashFaithful.{IsSettled}
use Rattle.replica_store.specs.Faithful.{IsFaithful, IsFaithfulToFront}
use Rattle.replica_store.specs.Listing.{IsIn}
use Rattle.replica_store.specs.Retained.{IsRetainedIn}
use Rattle.replica_store.proofs.CrashLemmas.{as_read, image_reads, since_split, read_since, grown_longer}
use Rattle.replica_store.proofs.FaithLemmas.{in_same, same_faithful, whole_front, retained_more}
use Rattle.replica_store.proofs.LogLemmas.{longer_by, longer_same, longer_then, take-longer, young_longer, line_within}

-- nothing is new where the log is as it was
pub none_new : {P : Type 0} (log : SyncLog) (t : ℕ) → length log < t → t ≤ length log → P
none_new log t above within = absurd (omega (arith, above, within))

-- a front of a log is one of the longer log
pub front_of_longer : (files : Files) (history : History) (log later : SyncLog) (least fewer : ℕ) → IsLonger log later
    → fewer ≤ least → IsFaithfulToFront files history log least → IsFaithfulToFront files history later fewer
front_of_longer files history log later least fewer longer below front =
    let up = longer_by log later longer in
    record {
      lines = front.lines;
      enough = omega (arith, below, front.enough);
      within = omega (arith, up, front.within);
      faithful = subst (λ (lines : SyncLog). IsFaithful files history lines)
          (sym (take-longer log later front.lines longer front.within)) front.faithful;
    }

pub fewer_lines : (files : Files) (history : History) (log : SyncLog) (least fewer : ℕ) → fewer ≤ least
    → IsFaithfulToFront files history log least → IsFaithfulToFront files history log fewer
fewer_lines files history log least fewer below front = record {
  lines = front.lines;
  enough = omega (arith, below, front.enough);
  within = front.within;
  faithful =
      front.faithful;
}

-- a settled disk to which nothing is done
pub carries_on_itself : (history : History) (cut : ℕ) (events : List Event) (log : SyncLog)
    → IsSettled events history log → CarriesOn history cut events events log log
carries_on_itself history cut events log settled =
    let leaves = as_read events history log settled in
    let reads = λ (image : Files) (was : WasCrashImageSince events (length events) image). image_reads events image
    leaves (since_start events image was) in
    record {
      lines = longer_same log;
      images = λ image was. whole_front image history log (length log) (omega arith)
          (same_faithful (files_after events) image history log (reads image was) settled.faithful.files);
      kept = λ image was t young retained. retained_more (files_after events) image t
          (in_same (files_after events) image (reads image was)) retained;
      stays = λ name there young. there;
      told = λ t above within. none_new log t above within;
    }

module _ (history : History) (cut : ℕ) (a b c : List Event) (log mid later : SyncLog) (start : IsGrown a b)
    (rest : IsGrown b c) (first : CarriesOn history cut a b log mid) (second : CarriesOn history cut b c mid later)
  where
    -- what was young stays so
    still_young : (t : ℕ) → IsYoung log cut t → IsYoung mid cut t
    still_young t young = young_longer log mid cut t first.lines (line_within log t young.line young.is).1 young

    abbrev by_moment : (image : Files) → WasCrashImageSince c (length a) image → WasCrashImageSince c (length b) image
        ⊎ WasCrashImageSince b (length a) image
    by_moment image was = since_split b c (length a) image rest was

    images : (image : Files) → WasCrashImageSince c (length a) image → IsFaithfulToFront image history later (length log)
    images image was =
        ⊎_elim
        (λ after. fewer_lines image history later (length mid) (length log) (longer_by log mid first.lines)
        (second.images image after))
        (λ before. front_of_longer image history mid later (length log) (length log) second.lines (omega arith)
        (first.images image before))
        (by_moment image was)

    kept : (image : Files) → WasCrashImageSince c (length a) image → (t : ℕ) → IsYoung log cut t
        → IsRetainedIn (files_after a) t → IsRetainedIn image t
    kept image was t young retained =
        ⊎_elim
        (λ after. second.kept image after t (still_young t young)
        (first.kept (files_after b) (read_since b (length a) (grown_longer a b start)) t young retained))
        (λ before. first.kept image before t young retained)
        (by_moment image was)

    told : (t : ℕ) → length log < t → t ≤ length later → IsYoung later cut t
        × ((name : FileName) × IsIn (files_after c) name × (name.max ≡ t))
    told t above within =
        elim (cases_lt (length mid) t) [
          | inl new ↦ second.told t new within
          | inr old ↦
              let was = first.told t above old in
              let name = was.1.0 in
              let young = was.0 in (
                young_longer mid later cut t second.lines old young,
                (name, second.stays name was.1.1 (subst (IsYoung mid cut) (sym was.1.2) young), was.1.2),
              )
        ]

    -- one step after another
    pub carries_on_then : CarriesOn history cut a c log later
    carries_on_then = record {
      lines = longer_then log mid later first.lines second.lines;
      images = images;
      kept = kept;
      stays = λ name there young. second.stays name (first.stays name there young) (still_young name.max young);
      told = told;
    }
