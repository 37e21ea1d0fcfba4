-- A replica goes on where a faithful file is put.
use Rattle.std.proofs.Common.{◌≡◌, ◌≢◌, ℕ, ◌+◌, ◌<◌, ◌≤◌, List, length, codes, Some, None, sym, ap, subst, ◌∙◌, inl}
use Rattle.std.proofs.Common.{inr, ⊎_elim, length-append, arith}
use Rattle.std.specs.Prelude.{◌⊎◌, IsSome, is_some}
use Rattle.std.specs.FinMap.{get}
use Rattle.std.specs.List.{AllByRecursion}
use Rattle.std.proofs.lemmas.Option.{none-some}
use Rattle.crash_disk.specs.declared.event.Event.{Event}
use Rattle.crash_disk.specs.Files.{Files, files_after, file_at}
use Rattle.crash_disk.specs.Images.{IsCrashImage, WasCrashImageSince}
use Rattle.crash_disk.proofs.Moments.{since_now}
use Rattle.crash_disk.proofs.NumberLaws.{by_names}
use Rattle.crash_disk.proofs.PutTheorem.{image_with}
use Rattle.ls_base.specs.History.{History, state_at}
use Rattle.ls_base.specs.SyncLog.{SyncLog, IsSyncLog}
use Rattle.replica_store.specs.declared.file_name.FileName.{FileName}
use Rattle.replica_store.specs.CarriesOn.{IsYoung, IsLonger, CarriesOn}
use Rattle.replica_store.specs.CrashFaithful.{LeavesAsRead, IsCrashFaithful, IsSettled}
use Rattle.replica_store.specs.Faithful.{IsFaithfulFile, IsFaithful, IsFaithfulToFront}
use Rattle.replica_store.specs.Listing.{path_of, IsFilePath, IsValid, IsIn}
use Rattle.replica_store.specs.Putting.{draft_path, KeepsOthers, Puts}
use Rattle.replica_store.proofs.CarryLemmas.{none_new, front_of_longer, fewer_lines}
use Rattle.replica_store.proofs.CrashLemmas.{as_read, settled_by}
use Rattle.replica_store.proofs.FaithLemmas.{is_path, is_there, same_bytes, same_faithful, whole_front, put_faithful}
use Rattle.replica_store.proofs.FaithLemmas.{retained_more}
use Rattle.replica_store.proofs.LogLemmas.{longer_same, longer_by}
use Rattle.replica_store.proofs.PathLemmas.{length-file_path}

path_length : (q : List ℕ) → IsFilePath q → length q ≡ 43
path_length q is = ap length is.is ∙ length-file_path is.level is.min is.max

-- no path of a name is a temporary name of another
pub not_draft : (q path : List ℕ) → IsFilePath q → IsFilePath path → q ≢ draft_path path
not_draft q path is is-path same =
    let longer : length (draft_path path) ≡ 47 = length-append path (codes ".tmp")
    ∙ ap (λ n. n + 4) (path_length path is-path) in
    let e : 43 ≡ 47 = sym (path_length q is) ∙ ap length same ∙ longer in absurd (omega (arith, e))

module _ (history : History) (cut : ℕ) (before now : List Event) (log : SyncLog)
    (settled : IsSettled before history log) where
  abbrev leaves : LeavesAsRead before
  leaves = as_read before history log settled

  -- nothing but a temporary file changed
  module _ (path : List ℕ) (is : IsFilePath path) (kept : KeepsOthers path before now) where
    as_before : (image : Files) → WasCrashImageSince now (length before) image → (q : List ℕ) → IsFilePath q
        → get image q ≡ file_at before q
    as_before image was q is-q = leaves q is-q (get image q) (kept.at_a_stop image was q (not_draft q path is-q is))

    reads_before : (q : List ℕ) → IsFilePath q → file_at now q ≡ file_at before q
    reads_before q is-q = kept.files q (not_draft q path is-q is)

    in_image : (image : Files) → WasCrashImageSince now (length before) image → (name : FileName)
        → IsIn (files_after before) name → IsIn image name
    in_image image was name there = record {
      valid = there.valid;
      there = ap is_some (as_before image was (path_of name) (is_path name there.valid))
          ∙ there.there;
    }

    pub kept_carries_on : CarriesOn history cut before now log log
    kept_carries_on = record {
      lines = longer_same log;
      images = λ image was. whole_front image history log (length log) (omega arith)
          (same_faithful (files_after before) image history log (as_before image was) settled.faithful.files);
      kept = λ image was t young retained. retained_more (files_after before) image t (in_image image was) retained;
      stays = λ name there young. record {
        valid = there.valid;
        there = ap is_some (reads_before (path_of name) (is_path name there.valid))
            ∙ there.there;
      };
      told = λ t above within. none_new log t above within;
    }

    pub kept_settled : IsSettled now history log
    kept_settled =
        settled_by now history log (same_faithful (files_after before) (files_after now) history log reads_before
        settled.faithful.files)
        (λ q is-q file stands.
        let image = image_with now q file stands in
        sym image.1 ∙ as_before _ (since_now now (length before) _ kept.later image.0) q is-q
        ∙ sym (reads_before q is-q))

  -- a file was put that is faithful to the later log
  module _ (later : SyncLog) (name : FileName) (bytes : List ℕ) (longer : IsLonger log later)
      (rising : IsSyncLog later) (placed : AllByRecursion (λ line. IsSome (state_at history line.place)) later)
      (valid : IsValid name) (within : name.max ≤ length later)
      (fits : IsFaithfulFile history later name.min name.max bytes)
      (newest : (name.max ≡ length later) ⊎ (length later ≡ length log))
      (fresh : file_at before (path_of name) ≡ None) (puts : Puts (path_of name) bytes before now) where
    abbrev path : List ℕ
    path = path_of name

    mixed : (image : Files) → WasCrashImageSince now (length before) image → (q : List ℕ) → IsFilePath q
        → (get image q ≡ file_at before q) ⊎ ((q ≡ path) × (get image q ≡ Some bytes))
    mixed image was q is =
        ⊎_elim (λ stands. inl (leaves q is (get image q) stands))
        (λ put. inr put) (puts.at_a_stop image was q (not_draft q path is (is_path name valid)))

    elsewhere : (image : Files) → WasCrashImageSince now (length before) image → (q : List ℕ) → IsFilePath q
        → q ≢ path → get image q ≡ file_at before q
    elsewhere image was q is other = ⊎_elim (λ same. same) (λ here. absurd (other here.0)) (mixed image was q is)

    reads_elsewhere : (q : List ℕ) → IsFilePath q → q ≢ path → file_at now q ≡ file_at before q
    reads_elsewhere q is other = puts.others q other (not_draft q path is (is_path name valid))

    abbrev with_bytes : (files : Files) → get files path ≡ Some bytes
        → ((q : List ℕ) → IsFilePath q → q ≢ path → get files q ≡ file_at before q) → IsFaithful files history later
    with_bytes files put others = put_faithful (files_after before) files history log later name bytes
        settled.faithful.files longer rising placed valid within fits newest put others

    pub now_faithful : IsFaithful (files_after now) history later
    now_faithful = with_bytes (files_after now) puts.file reads_elsewhere

    by_file : (image : Files) → WasCrashImageSince now (length before) image → (get image path ≡ file_at before path)
        ⊎ ((path ≡ path) × (get image path ≡ Some bytes)) → IsFaithfulToFront image history later (length log)
    by_file image was (inl old) =
        let same : (q : List ℕ) → IsFilePath q → get image q ≡ file_at before q
        = λ q is. ⊎_elim (λ e. e) (λ here. subst (λ (r : List ℕ). get image r ≡ file_at before r) (sym here.0) old)
        (mixed image was q is) in
        front_of_longer image history log later (length log) (length log) longer (omega arith)
        (whole_front image history log (length log) (omega arith)
        (same_faithful (files_after before) image history log same settled.faithful.files))
    by_file image was (inr new) = whole_front image history later (length log) (longer_by log later longer)
        (with_bytes image new.1 (elsewhere image was))

    front : (image : Files) → WasCrashImageSince now (length before) image
        → IsFaithfulToFront image history later (length log)
    front image was = by_file image was (mixed image was path (is_path name valid))

    in_put : (image : Files) → WasCrashImageSince now (length before) image → (other : FileName)
        → IsIn (files_after before) other → IsIn image other
    in_put image was other there =
        ⊎_elim
        (λ same. record { valid = there.valid; there = ap is_some same ∙ there.there })
        (λ here. record { valid = there.valid; there = is_there (get image (path_of other)) bytes here.1 })
        (mixed image was (path_of other) (is_path other there.valid))

    pub in_now : (other : FileName) → IsIn (files_after before) other → IsIn (files_after now) other
    in_now other there =
        by_names (path_of other) path
        (λ same. record {
          valid = there.valid;
          there = is_there (file_at now (path_of other)) bytes
              (ap (file_at now) same ∙ puts.file);
        })
        (λ apart. record {
          valid = there.valid;
          there = ap is_some
              (reads_elsewhere (path_of other) (is_path other there.valid) apart) ∙ there.there;
        })

    pub name_in_now : IsIn (files_after now) name
    name_in_now = record { valid = valid; there = is_there (file_at now path) bytes puts.file }

    pub put_carries_on : ((t : ℕ) → length log < t → t ≤ length later → IsYoung later cut t
        × ((other : FileName) × IsIn (files_after now) other × (other.max ≡ t)))
        → CarriesOn history cut before now log later
    put_carries_on told = record {
      lines = longer;
      images = front;
      kept = λ image was t young retained. retained_more (files_after before) image t (in_put image was) retained;
      stays = λ other there young. in_now other there;
      told = told;
    }

    abbrev since : (image : Files) → IsCrashImage now image → WasCrashImageSince now (length before) image
    since image crash = since_now now (length before) image puts.later crash

    one_there : (found read : List ℕ) (image : Files) (q : List ℕ) → get image q ≡ Some found
        → file_at now q ≡ Some read → get image q ≡ file_at now q → found ≡ read
    one_there found read image q left reads same = same_bytes found read (sym left ∙ same ∙ reads)

    pub put_crash_faithful : IsCrashFaithful now history later
    put_crash_faithful = record {
      files = now_faithful;
      images = λ image crash. fewer_lines image history later (length log) 0 (omega arith)
          (front image (since image crash));
      stable = λ q read found is reads image crash left. by_names q path
          (λ here. one_there found read image q left reads (⊎_elim
          (λ old. absurd (none-some found (sym (old ∙ ap (file_at before) here ∙ fresh) ∙ left)))
          (λ new. new.1 ∙ sym (ap (file_at now) here ∙ puts.file)) (mixed image (since image crash) q is)))
          (λ apart. one_there found read image q left reads
          (elsewhere image (since image crash) q is apart ∙ sym (reads_elsewhere q is apart)));
    }

    -- and brought to the disk
    pub put_settled : ((image : Files) → IsCrashImage now image → get image path ≡ Some bytes)
        → IsSettled now history later
    put_settled stays =
        settled_by now history later now_faithful
        (λ q is file stands.
        let image = image_with now q file stands in
        sym image.1 ∙ by_names q path
        (λ here. ap (get _) here ∙ stays _ image.0 ∙ sym (ap (file_at now) here ∙ puts.file))
        (λ apart. elsewhere _ (since _ image.0) q is apart ∙ sym (reads_elsewhere q is apart)))
