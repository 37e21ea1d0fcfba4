-- A run of changes of the database file, behind a log that is synced: what a crash since left.
use Rattle.std.proofs.Common.{◌≡◌, ◌≢◌, ◌∙◌, ℕ, ◌+◌, ◌<◌, ◌≤◌, ◌⊎◌, List, [], ◌∷◌, length, Option, unwrap_or, get_or}
use Rattle.std.proofs.Common.{sym, ap, subst, refl, inl, inr, arith}
use Rattle.crash_disk.specs.declared.event.Event.{Event}
use Rattle.crash_disk.specs.declared.event.Event.TheVariants.{Wrote, Cut, Synced}
use Rattle.crash_disk.specs.Files.{Files, file_at}
use Rattle.crash_disk.specs.FileState.{FileState, SomeOf, synced_file, written, resized, IsFileImage}
use Rattle.crash_disk.specs.Images.{IsCrashImage, WasCrashImageSince}
use Rattle.crash_disk.proofs.FileLaws.{file_at-Wrote-other, file_at-Cut-other, file_at-Synced}
use Rattle.crash_disk.proofs.Moments.{since_more, since_start}
use Rattle.crash_disk.proofs.SettledLaws.{IsFileImage-settled}
use Rattle.checkpointer.specs.PairState.{bytes_in}
use Rattle.checkpointer.proofs.FileLemmas.{AgreeAt, ChangedApart, IsLikeBefore, like_before, apart_same}
use Rattle.checkpointer.proofs.FileLemmas.{apart_written, apart_resized, get-written, get-resized, get-grown}
use Rattle.checkpointer.proofs.PairLemmas.{itself, leaves_image, HasPair, pair-Synced_log, pair-Synced, pair-Wrote}
use Rattle.checkpointer.proofs.PairLemmas.{pair-Cut, old_image}

module _ (Kept : ℕ → Type 0) (db wal log : List ℕ) where
  -- an image of before has this log, and agrees at the places that are kept
  pub record IsAlike (before : List Event) (image : Files) : Type 0 where
    pub old : Files
    pub is : IsCrashImage before old
    pub log_old : bytes_in old wal ≡ log
    pub log_now : bytes_in image wal ≡ log
    pub agree : AgreeAt Kept (bytes_in old db) (bytes_in image db)

  -- each image since is one of before, or is like one
  abbrev pub WereAlike : List Event → List Event → Type 0
  WereAlike before now = (image : Files) → WasCrashImageSince now (length before) image → IsCrashImage before image
      ⊎ IsAlike before image

  -- no place that is kept is past the end of what a crash leaves of the file
  abbrev pub IsLong : FileState → Type 0
  IsLong file = ((n : ℕ) → SomeOf (λ size. n ≡ size) file.lengths → (place : ℕ) → Kept place → place < n)

  -- The run so far: from this file of the database to that one.
  pub record Run (old : FileState) (before now : List Event) (d : FileState) : Type 0 where
    pub pair : HasPair now db wal d (synced_file log)
    pub agree : AgreeAt Kept d.bytes old.bytes
    pub changed : IsLong old → ChangedApart Kept old d
    pub alike : IsLong old → WereAlike before now
    pub others : (q : List ℕ) → q ≢ db → file_at now q ≡ file_at before q

  module _ (old : FileState) (before : List Event) (w : FileState) (start : HasPair before db wal old w)
      (log_is : w.bytes ≡ log) (names : db ≢ wal) where
    had : SomeOf (λ size. length old.bytes ≡ size) old.lengths
    had = (itself before db start.n old start.database).had_length

    -- an image of a file that is like one of before
    alike_now : (now : List Event) (d : FileState) (image : Files) → HasPair now db wal d (synced_file log)
        → ((bytes : List ℕ) → IsFileImage d bytes → IsLikeBefore Kept old bytes)
        → IsCrashImage now image → IsAlike before image
    alike_now now d image p like is =
        let database = leaves_image now db p.n d image p.database is in
        let logged = leaves_image now wal p.k (synced_file log) image p.log is in
        let was = like database.bytes database.image in
        let o = old_image before db wal old w was.before names start was.image in
        let bytes : bytes_in image db ≡ database.bytes = ap (λ (left : Option (List ℕ)). unwrap_or left [])
        database.there in
        record {
          old = o.files;
          is = o.is;
          log_old = o.log_is ∙ log_is;
          log_now = ap (λ (left : Option (List ℕ)). unwrap_or left []) logged.there
              ∙ IsFileImage-settled (synced_file log) logged.bytes refl logged.image;
          agree = λ place kept. ap (λ (xs : List ℕ). get_or xs place 0) o.database ∙ was.agree place kept
              ∙ ap (λ (xs : List ℕ). get_or xs place 0) (sym bytes);
        }

    alike_more : (now : List Event) (event : Event) (d : FileState) → HasPair (event ∷ now) db wal d (synced_file log)
        → ((bytes : List ℕ) → IsFileImage d bytes → IsLikeBefore Kept old bytes)
        → WereAlike before now → WereAlike before (event ∷ now)
    alike_more now event d p like earlier image was =
        elim (since_more event now (length before) image was)
        [ inl is ↦ inr (alike_now (event ∷ now) d image p like is) | inr since ↦ earlier image since ]

    changed_like : (d : FileState) → IsLong old → ChangedApart Kept old d → (bytes : List ℕ) → IsFileImage d bytes
        → IsLikeBefore Kept old bytes
    changed_like d long c bytes image = like_before Kept old d c bytes image had (long (length old.bytes) had)

    -- the log is synced
    pub run_begins : Run old before (Synced wal ∷ before) old
    run_begins =
        let pair : HasPair (Synced wal ∷ before) db wal old (synced_file log) =
        subst (λ (xs : List ℕ). HasPair (Synced wal ∷ before) db wal old (synced_file xs)) log_is
        (pair-Synced_log before db wal old w start) in
        record {
          pair = pair;
          agree = λ place kept. refl;
          changed = λ long. apart_same Kept old long (long (length old.bytes) had);
          alike = λ long. alike_more before (Synced wal) old pair
              (changed_like old long (apart_same Kept old long (long (length old.bytes) had)))
              (λ image was. inl (since_start before image was));
          others = λ q not. file_at-Synced before wal q;
        }

    -- bytes are written where nothing is kept
    pub run_writes : (now : List Event) (d : FileState) (at : ℕ) (bytes : List ℕ) → Run old before now d
        → ((place : ℕ) → Kept place → (place < at) ⊎ (at + length bytes ≤ place))
        → Run old before (Wrote db at bytes ∷ now) (written at bytes d)
    run_writes now d at bytes r free =
        let pair = pair-Wrote now db wal d (synced_file log) r.pair at bytes in
        record {
          pair = pair;
          agree = λ place kept. get-written at bytes d.bytes place (free place kept) ∙ r.agree place kept;
          changed = λ long. apart_written Kept old d at bytes (r.changed long) free;
          alike = λ long. alike_more now (Wrote db at bytes) (written at bytes d) pair
              (changed_like (written at bytes d) long (apart_written Kept old d at bytes (r.changed long) free))
              (r.alike long);
          others = λ q not. file_at-Wrote-other now db at bytes q not ∙ r.others q not;
        }

    -- the file gets a length that cuts nothing off that is kept
    pub run_cuts : (now : List Event) (d : FileState) (size : ℕ) → Run old before now d
        → ((place : ℕ) → Kept place → place < size) → Run old before (Cut db size ∷ now) (resized size d)
    run_cuts now d size r free =
        let pair = pair-Cut now db wal d (synced_file log) r.pair size in
        record {
          pair = pair;
          agree = λ place kept. get-resized size d.bytes place (free place kept) ∙ r.agree place kept;
          changed = λ long. apart_resized Kept old d size (r.changed long) free;
          alike = λ long. alike_more now (Cut db size) (resized size d) pair
              (changed_like (resized size d) long (apart_resized Kept old d size (r.changed long) free)) (r.alike long);
          others = λ q not. file_at-Cut-other now db size q not ∙ r.others q not;
        }

    -- or grows to it
    pub run_grows : (now : List Event) (d : FileState) (size : ℕ) → Run old before now d → length d.bytes ≤ size
        → Run old before (Cut db size ∷ now) (resized size d)
    run_grows now d size r short =
        let pair = pair-Cut now db wal d (synced_file log) r.pair size in
        let apart : IsLong old → ChangedApart Kept old (resized size d) = λ long. apart_resized Kept old d size
        (r.changed long) (λ place kept. let within = (r.changed long).long place kept in omega
        (arith, within, short)) in
        record {
          pair = pair;
          agree = λ place kept. get-grown size d.bytes place short ∙ r.agree place kept;
          changed = apart;
          alike = λ long. alike_more now (Cut db size) (resized size d) pair
              (changed_like (resized size d) long (apart long)) (r.alike long);
          others = λ q not. file_at-Cut-other now db size q not ∙ r.others q not;
        }

    -- the file is synced: from then on a crash leaves what reads
    pub record Ended (now : List Event) (d : FileState) : Type 0 where
      pub pair : HasPair now db wal (synced_file d.bytes) (synced_file log)
      pub agree : AgreeAt Kept d.bytes old.bytes
      pub alike : IsLong old → WereAlike before now
      pub others : (q : List ℕ) → q ≢ db → file_at now q ≡ file_at before q

    pub run_ends : (now : List Event) (d : FileState) → Run old before now d → Ended (Synced db ∷ now) d
    run_ends now d r =
        let pair = pair-Synced now db wal d (synced_file log) r.pair in
        record {
          pair = pair;
          agree = r.agree;
          alike = λ long. alike_more now (Synced db) (synced_file d.bytes) pair
              (λ bytes image. changed_like d long (r.changed long) bytes
              (subst (λ (xs : List ℕ). IsFileImage d xs)
              (sym (IsFileImage-settled (synced_file d.bytes) bytes refl image))
              (itself now db r.pair.n d r.pair.database)))
              (r.alike long);
          others = λ q not. file_at-Synced now db q ∙ r.others q not;
        }
