-- A replica goes on where files are dropped, where names are brought to the disk, and after a crash.
use Rattle.std.proofs.Common.{◌≡◌, ◌≢◌, ℕ, ◌≤◌, List, length, take, Option, Some, None, refl, sym, ap, subst, ◌∙◌, inl}
use Rattle.std.proofs.Common.{inr, ⊎_elim, arith}
use Rattle.std.specs.Prelude.{◌⊎◌, is_some}
use Rattle.std.specs.FinMap.{get}
use Rattle.std.specs.List.{Contains}
use Rattle.std.proofs.lemmas.Option.{none-some}
use Rattle.crash_disk.specs.declared.event.Event.{Event}
use Rattle.crash_disk.specs.Files.{Files, files_after, file_at}
use Rattle.crash_disk.specs.GoesOn.{IsGrown}
use Rattle.crash_disk.specs.Images.{MayStandAt, IsCrashImage, WasCrashImageSince, ArePlaced}
use Rattle.crash_disk.proofs.Moments.{since_now, since_start}
use Rattle.crash_disk.proofs.NumberLaws.{by_names}
use Rattle.crash_disk.proofs.PutTheorem.{image_with}
use Rattle.crash_disk.proofs.SettledLaws.{ArePlaced-settled, IsSettledAt-only}
use Rattle.ls_base.specs.History.{History}
use Rattle.ls_base.specs.SyncLog.{SyncLog}
use Rattle.replica_store.specs.declared.file_name.FileName.{FileName}
use Rattle.replica_store.specs.CarriesOn.{IsYoung, CarriesOn}
use Rattle.replica_store.specs.CrashFaithful.{LeavesAsRead, IsCrashFaithful, IsSettled}
use Rattle.replica_store.specs.Dropping.{MayDropAll, IsInWithout, MayGo}
use Rattle.replica_store.specs.Faithful.{IsFaithful, IsFaithfulToFront}
use Rattle.replica_store.specs.Listing.{path_of, IsFilePath, IsIn}
use Rattle.replica_store.specs.Putting.{IsAbsent, HasSyncedNames, MayDrop}
use Rattle.replica_store.specs.Retained.{IsRetainedIn}
use Rattle.replica_store.proofs.CarryLemmas.{none_new, fewer_lines}
use Rattle.replica_store.proofs.CrashLemmas.{as_read, image_reads, both_or_none, settled_by, since_split, grown_longer}
use Rattle.replica_store.proofs.FaithLemmas.{is_path, same_bytes, in_same, same_faithful, part_faithful, whole_front}
use Rattle.replica_store.proofs.FaithLemmas.{leads_more}
use Rattle.replica_store.proofs.LogLemmas.{longer_same}

-- ---- one more is dropped

pub none_dropped : (paths : List (List ℕ)) (events : List Event) → MayDropAll paths events events
none_dropped paths events = record {
  later = omega arith;
  files = λ q. inl refl;
  at_a_stop = λ image was q. inl ((since_start events image was).each q);
}

module _ (paths : List (List ℕ)) (path : List ℕ) (before mid now : List Event) (grown : IsGrown mid now)
    (is : Contains paths path) (all : MayDropAll paths before mid) (one : MayDrop path mid now) where
  reads : (q : List ℕ) → (q ≡ path) ⊎ (q ≢ path) → (file_at now path ≡ file_at mid path) ⊎ IsAbsent now path
      → (file_at now q ≡ file_at before q) ⊎ (Contains paths q × IsAbsent now q)
  reads q (inl same) (inl kept) = ⊎_elim
      (λ old. inl (ap (file_at now) same ∙ kept ∙ sym (ap (file_at mid) same) ∙ old))
      (λ gone. inr (gone.0, ap (file_at now) same ∙ kept ∙ sym (ap (file_at mid) same) ∙ gone.1)) (all.files q)
  reads q (inl same) (inr gone) = inr (subst (Contains paths) (sym same) is, ap (file_at now) same ∙ gone)
  reads q (inr other) file = ⊎_elim (λ old. inl (one.others q other ∙ old))
      (λ gone. inr (gone.0, one.others q other ∙ gone.1)) (all.files q)

  -- what may stand in between might have stood before, or is gone
  in_between : (q : List ℕ) (file : Option (List ℕ)) → MayStandAt mid q file → MayStandAt before q file
      ⊎ (Contains paths q × (file ≡ None))
  in_between q file stands =
      let image = image_with mid q file stands in
      subst (λ (f : Option (List ℕ)). MayStandAt before q f ⊎ (Contains paths q × (f ≡ None))) image.1
      (all.at_a_stop _ (since_now mid (length before) _ all.later image.0) q)

  pub one_more_dropped : MayDropAll paths before now
  one_more_dropped = record {
    later = omega (arith, all.later, grown_longer mid now grown);
    files = λ q. reads q (by_names q path (λ same. inl same) (λ other. inr other)) one.file;
    at_a_stop = λ image was q.
        ⊎_elim
        (λ after. ⊎_elim (λ stands. in_between q (get image q) stands)
        (λ gone. inr (subst (Contains paths) (sym gone.0) is, gone.1)) (one.at_a_stop image after q))
        (λ earlier. all.at_a_stop image earlier q) (since_split mid now (length before) image grown was);
  }

-- ---- all of them are dropped

module _ (history : History) (cut : ℕ) (before now : List Event) (log : SyncLog) (paths : List (List ℕ))
    (settled : IsSettled before history log) (go : MayGo (files_after before) log cut paths)
    (drops : MayDropAll paths before now) where
  abbrev Mixed : Files → Type 0
  Mixed files = (q : List ℕ) → IsFilePath q → (get files q ≡ file_at before q)
      ⊎ (Contains paths q × (get files q ≡ None))

  mixed : (image : Files) → WasCrashImageSince now (length before) image → Mixed image
  mixed image was q is = ⊎_elim (λ stands. inl (as_read before history log settled q is (get image q) stands))
      (λ gone. inr gone) (drops.at_a_stop image was q)

  mixed_now : Mixed (files_after now)
  mixed_now q is = drops.files q

  -- what is under none of the paths stays
  stays_in : (files : Files) → Mixed files → (name : FileName) → IsInWithout (files_after before) paths name
      → IsIn files name
  stays_in files mix name there = record {
    valid = there.there.valid;
    there = ⊎_elim (λ same. ap is_some same ∙ there.there.there)
        (λ gone. absurd (there.left gone.0)) (mix (path_of name) (is_path name there.there.valid));
  }

  part : (files : Files) → Mixed files → IsFaithful files history log
  part files mix =
      part_faithful (files_after before) files history log settled.faithful.files
      (λ q is. ⊎_elim (λ same. inl same) (λ gone. inr gone.1) (mix q is))
      (λ some. let last = go.newest some in (last.0, stays_in files mix last.0 last.1, last.2))

  front : (image : Files) → WasCrashImageSince now (length before) image
      → IsFaithfulToFront image history log (length log)
  front image was = whole_front image history log (length log) (omega arith) (part image (mixed image was))

  kept : (image : Files) → WasCrashImageSince now (length before) image → (t : ℕ) → IsYoung log cut t
      → IsRetainedIn (files_after before) t → IsRetainedIn image t
  kept image was t young retained =
      let without = go.kept t young retained in
      record {
        positive = without.positive;
        chain = without.chain;
        leads = leads_more (IsInWithout (files_after before) paths) (IsIn image) (stays_in image (mixed image was)) 0
            without.chain t without.leads;
      }

  pub drops_carry_on : CarriesOn history cut before now log log
  drops_carry_on = record {
    lines = longer_same log;
    images = front;
    kept = kept;
    stays = λ name there young. stays_in (files_after now) mixed_now name
        (record { there = there; left = λ has. go.old name there has young });
    told = λ t above within. none_new log t above within;
  }

  gone_or_same : (q found read : List ℕ) (image : Files) → get image q ≡ Some found → file_at now q ≡ Some read
      → (get image q ≡ file_at before q) ⊎ (Contains paths q × (get image q ≡ None))
      → (file_at now q ≡ file_at before q) ⊎ (Contains paths q × IsAbsent now q) → found ≡ read
  gone_or_same q found read image left reads (inl a) (inl b) = same_bytes found read (sym left ∙ a ∙ sym b ∙ reads)
  gone_or_same q found read image left reads (inr gone) b = absurd (none-some found (sym gone.1 ∙ left))
  gone_or_same q found read image left reads (inl a) (inr gone) = absurd (none-some read (sym gone.1 ∙ reads))

  pub drops_crash_faithful : IsCrashFaithful now history log
  drops_crash_faithful =
      let since = λ (image : Files) (crash : IsCrashImage now image). since_now now (length before) image drops.later
      crash in
      record {
        files = part (files_after now) mixed_now;
        images = λ image crash. fewer_lines image history log (length log) 0 (omega arith)
            (front image (since image crash));
        stable = λ q read found is reads image crash left. gone_or_same q found read image left reads
            (mixed image (since image crash) q is) (mixed_now q is);
      }

-- ---- the names are brought to the disk

pub no_new_image : (old new : List Event) (image : Files) → HasSyncedNames old new
    → WasCrashImageSince new (length old) image → IsCrashImage old image
no_new_image old new image synced was = record { each = λ q. synced.at_a_stop image was q }

pub synced_settles : (history : History) (old new : List Event) (log : SyncLog) → IsGrown old new
    → IsCrashFaithful old history log → HasSyncedNames old new → IsSettled new history log
synced_settles history old new log grown faithful synced =
    settled_by new history log (same_faithful (files_after old) (files_after new) history log
    (λ q is. synced.files q) faithful.files)
    (λ q is file stands.
    let image = image_with new q file stands in
    let before = no_new_image old new _ synced (since_now new (length old) _ (grown_longer old new grown) image.0) in
    sym image.1
    ∙ both_or_none _ (file_at new q) (synced.names _ image.0 q)
    (λ found read left reads. faithful.stable q read found is (sym (synced.files q) ∙ reads) _ before left))

pub synced_carries_on : (history : History) (cut : ℕ) (before now after : List Event) (log later : SyncLog)
    → IsGrown before now → IsGrown now after → CarriesOn history cut before now log later → HasSyncedNames now after
    → CarriesOn history cut before after log later
synced_carries_on history cut before now after log later start rest first synced =
    let up = grown_longer before now start in
    let back : (image : Files) → WasCrashImageSince after (length before) image
    → WasCrashImageSince now (length before) image
    = λ image was. ⊎_elim (λ new. since_now now (length before) image up (no_new_image now after image synced new))
    (λ old. old) (since_split now after (length before) image rest was) in
    let in_after = in_same (files_after now) (files_after after) (λ q is. synced.files q) in
    record {
      lines = first.lines;
      images = λ image was. first.images image (back image was);
      kept = λ image was. first.kept image (back image was);
      stays = λ name there young. in_after name (first.stays name there young);
      told = λ t above within. let new = first.told t above within in
          (new.0, (new.1.0, in_after new.1.0 new.1.1, new.1.2));
    }

-- ---- a crash

placed_as_read : (after : List Event) → ArePlaced after → LeavesAsRead after
placed_as_read after placed q is file stands = IsSettledAt-only after q file (ArePlaced-settled after q placed) stands

pub crashes_settle : (history : History) (events after : List Event) (log : SyncLog)
    → IsCrashFaithful events history log → IsCrashImage events (files_after after) → ArePlaced after
    → (lines : ℕ) × (lines ≤ length log) × IsSettled after history (take lines log)
crashes_settle history events after log faithful crash placed =
    let front = faithful.images (files_after after) crash in (
      front.lines,
      front.within,
      settled_by after history (take front.lines log) front.faithful
          (placed_as_read after placed),
    )

pub crashes_lose_nothing_settled : (history : History) (events after : List Event) (log : SyncLog)
    → IsSettled events history log → IsCrashImage events (files_after after) → ArePlaced after
    → IsSettled after history log
crashes_lose_nothing_settled history events after log settled crash placed =
    settled_by after history log (same_faithful (files_after events) (files_after after) history log
    (image_reads events (files_after after) (as_read events history log settled) crash) settled.faithful.files)
    (placed_as_read after placed)

pub placed_settled : (after : List Event) (history : History) (log : SyncLog) → ArePlaced after
    → IsFaithful (files_after after) history log → IsSettled after history log
placed_settled after history log placed faithful = settled_by after history log faithful (placed_as_read after placed)
