-- What is left where a log is cut to nothing.
use Rattle.std.proofs.Common.{◌≡◌, ◌≢◌, ◌∙◌, ℕ, ◌≤◌, ◌⊎◌, List, [], ◌∷◌, length, take, Option, Some, None, Ok, Err}
use Rattle.std.proofs.Common.{unwrap_or, sym, ap, subst, refl, inl, inr, arith}
use Rattle.std.specs.FinMap.{get}
use Rattle.std.specs.List.{Contains, last_or}
use Rattle.std.proofs.lemmas.List.{nil_from_length}
use Rattle.ls_base.specs.State.{State}
use Rattle.ls_base.specs.declared.mark.Mark.{Mark}
use Rattle.crash_disk.specs.declared.event.Event.{Event}
use Rattle.crash_disk.specs.declared.event.Event.TheVariants.{Cut, Synced}
use Rattle.crash_disk.specs.declared.fault.DiskFault.{DiskFault}
use Rattle.crash_disk.specs.Files.{Files, files_after, with_length}
use Rattle.crash_disk.specs.FileState.{FileState, IsInside, SomeOf, synced_file, resized, IsFileImage}
use Rattle.crash_disk.specs.Told.{Told, IfTold, gains, GainsOrNot}
use Rattle.crash_disk.specs.GoesOn.{GoesOn}
use Rattle.crash_disk.proofs.GoesOnLemmas.{grown_same, grown_by, grown_then, goes_on-same}
use Rattle.crash_disk.specs.Images.{IsCrashImage}
use Rattle.crash_disk.proofs.FileLaws.{file_at-Cut-other, file_at-Synced}
use Rattle.crash_disk.proofs.ImageLaws.{IsCrashImage-reads}
use Rattle.crash_disk.proofs.Moments.{since_more, since_start}
use Rattle.crash_disk.proofs.ReadFiles.{emptied}
use Rattle.crash_disk.proofs.SettledLaws.{IsFileImage-settled}
use Rattle.wal_frames.specs.WalFormat.{read_header}
use Rattle.wal_frames.specs.Marks.{marks_of, IsMark, last_mark_of}
use Rattle.wal_frames.specs.Scanned.{Scanned, HasTaken, scanned_to}
use Rattle.wal_frames.proofs.AcceptedLemmas.{accepts}
use Rattle.wal_frames.proofs.MarkLemmas.{mark_stands}
use Rattle.wal_frames.proofs.BackLemmas.{has_gone_back}
use Rattle.wal_frames.proofs.LogLemmas.{ends_within, last_is_mark, last_is_greatest, one_mark_an_end}
use Rattle.wal_frames.specs.View.{view_at_rest}
use Rattle.checkpointer.specs.CopiedState.{CopiedState}
use Rattle.checkpointer.specs.PairState.{state_of_pair, bytes_in, bytes_at, state_in, StatesWere, LeavesState}
use Rattle.checkpointer.specs.declared.fault.RestartFault.TheVariants.{Disk, Grown}
use Rattle.checkpointer.specs.Reading.{IsNewer}
use Rattle.checkpointer.specs.Restart.{MayRestart, KeepsAllBut, HasRestarted, Restarts}
use Rattle.checkpointer.proofs.PairLemmas.{reads, itself, leaves_image, HasPair, IsPair, has_pair, pair-Cut_log}
use Rattle.checkpointer.proofs.PairLemmas.{pair-Synced_log, both_image}
use Rattle.checkpointer.proofs.ViewOfPair.{state_at_mark}

no_marks : marks_of [] ≡ []
unfolding marks_of read_header
no_marks = refl

state_without_log : (size : ℕ) (file : List ℕ) → state_of_pair size file [] ≡ view_at_rest size file
unfolding state_of_pair
state_without_log size file = rw no_marks refl

-- nothing done
pub keeps_same : (wal : List ℕ) (events : List Event) → KeepsAllBut wal events events
keeps_same wal events = record { others = λ q not. refl }

pub states_same : (size : ℕ) (db wal : List ℕ) (events : List Event) → StatesWere size db wal events events
states_same size db wal events image was = (image, since_start events image was, refl)

-- an image of a file that was cut to nothing is nothing, or was one before
cut_image : (w : FileState) (bytes : List ℕ) → IsFileImage (resized 0 w) bytes → (bytes ≡ []) ⊎ IsFileImage w bytes
cut_image w bytes image = by_length image.had_length
  where
    by_length : SomeOf (λ size. length bytes ≡ size) (length (with_length 0 w.bytes) ∷ w.lengths)
        → (bytes ≡ []) ⊎ IsFileImage w bytes
    by_length (inl is) = inl (nil_from_length bytes (is ∙ ap (λ (xs : List ℕ). length xs) (emptied w.bytes)))
    by_length (inr had) = inr (record {
      had_length = had;
      kept = λ place below synced free. image.kept place below synced
          (λ inside. free (older place inside));
    })
      where
        older : (place : ℕ) → SomeOf (IsInside place) (record { start = length w.bytes; end = 0 } ∷ w.ranges)
            → SomeOf (IsInside place) w.ranges
        older place (inl inside) = absurd (omega (arith, inside.1))
        older place (inr some) = some

module _ (db wal : List ℕ) (apart : db ≢ wal) (copied : CopiedState) (x : List Event)
    (may : MayRestart db wal copied x) (last : last_mark_of (bytes_at x wal) ≡ Some copied.mark) where
  abbrev size : ℕ
  size = copied.head.size

  abbrev at_entry : IsPair x db wal
  at_entry = has_pair x db wal apart may.named

  abbrev as_read : State
  as_read = state_in size db wal (files_after x)

  -- without its log the database file of each image has the state as read
  alone_is : (bytes : List ℕ) → IsFileImage at_entry.d bytes → state_of_pair size bytes [] ≡ as_read
  alone_is bytes image =
      let p = at_entry.pair in
      let o = both_image x db wal at_entry.d at_entry.w bytes at_entry.w.bytes apart p image
      (itself x wal p.k at_entry.w p.log) in
      state_without_log size bytes ∙ ap (view_at_rest size) (sym o.database) ∙ may.alone last o.files o.is
      ∙ sym (state_at_mark size (bytes_at x db) (bytes_at x wal) copied.mark last)

  abbrev y : List Event
  y = Cut wal 0 ∷ x

  abbrev z : List Event
  z = Synced wal ∷ y

  abbrev cut_pair : HasPair y db wal at_entry.d (resized 0 at_entry.w)
  cut_pair = pair-Cut_log x db wal at_entry.d at_entry.w at_entry.pair 0

  abbrev synced_pair : HasPair z db wal at_entry.d (synced_file (with_length 0 at_entry.w.bytes))
  synced_pair = pair-Synced_log y db wal at_entry.d (resized 0 at_entry.w) cut_pair

  Was : Files → Type 0
  Was image = (old : Files) × IsCrashImage x old × (state_in size db wal image ≡ state_in size db wal old)

  there : (name bytes : List ℕ) (image : Files) → get image name ≡ Some bytes → bytes_in image name ≡ bytes
  there name bytes image is = ap (λ (left : Option (List ℕ)). unwrap_or left []) is

  state_now : (image : Files) (bytes log : List ℕ) → get image db ≡ Some bytes → get image wal ≡ Some log
      → state_in size db wal image ≡ state_of_pair size bytes log
  state_now image bytes log database logged = ap (λ (b : List ℕ). state_of_pair size b (bytes_in image wal))
      (there db bytes image database) ∙ ap (state_of_pair size bytes) (there wal log image logged)

  cut_was : (image : Files) → IsCrashImage y image → Was image
  unfolding Was
  cut_was image is =
      let p = at_entry.pair in
      let d = leaves_image y db cut_pair.n at_entry.d image cut_pair.database is in
      let w = leaves_image y wal cut_pair.k (resized 0 at_entry.w) image cut_pair.log is in
      let now = state_now image d.bytes w.bytes d.there w.there in
      elim (cut_image at_entry.w w.bytes w.image) [
        | inl none ↦ (
          files_after x,
          IsCrashImage-reads x,
          now ∙ ap (state_of_pair size d.bytes) none
              ∙ alone_is d.bytes d.image,
        )
        | inr older ↦
            let o = both_image x db wal at_entry.d at_entry.w d.bytes w.bytes apart p d.image older in (
              o.files,
              o.is,
              now ∙ ap (λ (b : List ℕ). state_of_pair size b w.bytes) (sym o.database)
                  ∙ ap (state_of_pair size (bytes_in o.files db)) (sym o.log_is),
            )
      ]

  -- the log of an image after the sync
  synced_log : (image : Files) → IsCrashImage z image → get image wal ≡ Some []
  synced_log image is =
      let w = leaves_image z wal synced_pair.k (synced_file (with_length 0 at_entry.w.bytes)) image synced_pair.log is
      in
      w.there ∙ ap (λ (xs : List ℕ). Some xs)
      (IsFileImage-settled (synced_file (with_length 0 at_entry.w.bytes)) w.bytes refl w.image
      ∙ emptied at_entry.w.bytes)

  pub restarted_state : LeavesState size db wal z as_read
  restarted_state image is =
      let d = leaves_image z db synced_pair.n at_entry.d image synced_pair.database is in
      state_now image d.bytes [] d.there (synced_log image is) ∙ alone_is d.bytes d.image

  pub cut_states : StatesWere size db wal x y
  unfolding Was
  cut_states image was =
      elim (since_more (Cut wal 0) x (length x) image was)
      [ inl is ↦ cut_was image is | inr since ↦ (image, since_start x image since, refl) ]

  pub restarted_states : StatesWere size db wal x z
  restarted_states image was =
      elim (since_more (Synced wal) y (length x) image was) [
        | inl is ↦ (files_after x, IsCrashImage-reads x, restarted_state image is)
        | inr since ↦ cut_states image since
      ]

  pub cut_keeps : KeepsAllBut wal x y
  cut_keeps = record { others = λ q not. file_at-Cut-other x wal 0 q not }

  pub restarted_keeps : KeepsAllBut wal x z
  restarted_keeps = record { others = λ q not. file_at-Synced y wal q ∙ file_at-Cut-other x wal 0 q not }

  pub has_restarted : HasRestarted db wal copied x z
  has_restarted = record {
    was_last = last;
    emptied = reads z wal synced_pair.k (synced_file (with_length 0 at_entry.w.bytes)) synced_pair.log
        ∙ ap (λ (xs : List ℕ). Some xs) (emptied at_entry.w.bytes);
    empty = λ image is. there wal [] image (synced_log image is);
    state = restarted_state;
  }

-- ---- the exits

pub none_last : (marks : List Mark) (before : Option Mark) → last_or before marks ≡ None
    → (marks ≡ []) × (before ≡ None)
none_last [] before e = (refl, e)
none_last (mark ∷ marks) before e = let some = (none_last marks (Some mark) e).1 in absurd cc

-- the last mark is the copied one where no mark is behind that
pub is_last : (log : List ℕ) (mark : Mark) → IsMark log mark → (found : Option Mark) → last_mark_of log ≡ found
    → ((last : Mark) → last_mark_of log ≡ Some last → last.end ≤ mark.end) → last_mark_of log ≡ Some mark
is_last log mark is_mark None e none =
    let among : Contains [] mark = subst (λ (ms : List Mark). Contains ms mark) (none_last (marks_of log) None e).0
    is_mark in
    absurd (omega (arith, among.1))
is_last log mark is_mark (Some last) e none =
    let least = last_is_greatest log mark last is_mark e in
    let same : last.end ≡ mark.end = omega (arith, none last e, least) in
    e ∙ ap (λ (m : Mark). Some m) (one_mark_an_end log last mark (last_is_mark log last e) is_mark same)

module _ (db wal : List ℕ) (copied : CopiedState) (scan : Scanned) (old mid : Told) (unchanged : mid ≡ old)
    (may : IfTold old (MayRestart db wal copied)) (stands : scan ≡ scanned_to copied.head copied.mark) where
  taken : (x : List Event) → MayRestart db wal copied x → HasTaken scan (take copied.mark.end (bytes_at x wal))
  taken x m =
      let log = bytes_at x wal in
      subst (λ (s : Scanned). HasTaken s (take copied.mark.end log)) (sym stands)
      (has_gone_back log copied.head (accepts log copied.head m.head) copied.mark
      (mark_stands log copied.head copied.mark m.head m.is_mark) m.head)

  pub restart_failed : (fault : DiskFault) → GoesOn old mid (Restarts db wal copied {T = Unit {0}} (Err (Disk fault)))
  restart_failed fault = goes_on-same old mid (Restarts db wal copied {T = Unit {0}} (Err (Disk fault))) unchanged
      (λ events. (keeps_same wal events, states_same copied.head.size db wal events))

  pub restart_grown : (newer : Mark) → IfTold old
      (λ events. IsNewer (bytes_at events wal) copied.mark.end scan (Some newer))
      → GoesOn old mid (Restarts db wal copied {T = Unit {0}} (Err (Grown newer)))
  restart_grown newer is = record {
    told = λ x told.
        let m = may x told in
        let found = is x told (ends_within (bytes_at x wal) copied.mark m.is_mark) (taken x m) in
        (x, unchanged ∙ told, (refl, found.0, found.1), grown_same x);
    silent = λ silent. unchanged ∙ silent;
  }

  module _ (apart : db ≢ wal) (none : IfTold old (λ events. IsNewer (bytes_at events wal) copied.mark.end scan None))
    where
      last : (x : List Event) → old ≡ Some x → last_mark_of (bytes_at x wal) ≡ Some copied.mark
      last x told =
          let m = may x told in
          let log = bytes_at x wal in
          is_last log copied.mark m.is_mark (last_mark_of log) refl
          (none x told (ends_within log copied.mark m.is_mark) (taken x m))

      pub restart_done : (new : Told) → new ≡ gains (gains mid (Cut wal 0)) (Synced wal)
          → GoesOn old new (Restarts db wal copied {T = Unit {0}} (Ok tt))
      restart_done new is = record {
        told = λ x told.
            let m = may x told in
            let l = last x told in (
              Synced wal ∷ Cut wal 0 ∷ x,
              is ∙ ap (λ (t : Told). gains (gains t (Cut wal 0)) (Synced wal)) (unchanged ∙ told),
              (
                restarted_keeps db wal apart copied x m l,
                restarted_states db wal apart copied x m l,
                has_restarted db
                    wal apart copied x m l,
              ),
              grown_then x (Cut wal 0 ∷ x) (Synced wal ∷ Cut wal 0 ∷ x) (grown_by (Cut wal 0) x)
                  (grown_by (Synced wal) (Cut wal 0 ∷ x)),
            );
        silent = λ silent. is ∙ ap (λ (t : Told). gains (gains t (Cut wal 0)) (Synced wal)) (unchanged ∙ silent);
      }

      pub restart_cut : (new : Told) (fault : DiskFault) → GainsOrNot mid new (Cut wal 0)
          → GoesOn old new (Restarts db wal copied {T = Unit {0}} (Err (Disk fault)))
      restart_cut new fault (inl same) = record {
        told = λ x told. (
          x,
          same ∙ unchanged ∙ told,
          (keeps_same wal x, states_same copied.head.size db wal x),
          grown_same x,
        );
        silent = λ silent. same ∙ unchanged ∙ silent;
      }
      restart_cut new fault (inr is) = record {
        told = λ x told.
            let m = may x told in
            let l = last x told in (
              Cut wal 0 ∷ x,
              is ∙ ap (λ (t : Told). gains t (Cut wal 0)) (unchanged ∙ told),
              (cut_keeps db wal apart copied x m l, cut_states db wal apart copied x m l),
              grown_by (Cut wal 0) x,
            );
        silent = λ silent. is ∙ ap (λ (t : Told). gains t (Cut wal 0)) (unchanged ∙ silent);
      }
