-- What is left at the end of a checkpoint.
use Rattle.std.proofs.Common.{◌≡◌, ◌≢◌, ◌∙◌, ℕ, ◌*◌, ◌<◌, ◌≤◌, ◌⊎◌, max, Bool, true, false, List, [], ◌∷◌, length}
use Rattle.std.proofs.Common.{Option}
use Rattle.std.proofs.Common.{Some, unwrap_or, sym, ap, subst, refl, inl, inr, arith}
use Rattle.std.specs.BTreeMap.{BTreeMap}
use Rattle.ls_base.specs.PageSize.{lock_page}
use Rattle.ls_base.specs.declared.mark.Mark.{Mark}
use Rattle.crash_disk.specs.declared.event.Event.{Event}
use Rattle.crash_disk.specs.declared.event.Event.TheVariants.{Cut, Synced}
use Rattle.crash_disk.specs.Files.{Files, with_length}
use Rattle.crash_disk.specs.FileState.{FileState, synced_file, resized}
use Rattle.crash_disk.specs.Images.{IsCrashImage}
use Rattle.crash_disk.proofs.SettledLaws.{IsFileImage-settled}
use Rattle.wal_frames.specs.declared.header.WalHeader.{WalHeader}
use Rattle.wal_frames.specs.ValidPrefix.{frames_under}
use Rattle.wal_frames.specs.Marks.{last_mark_of}
use Rattle.wal_frames.specs.View.{frames_to, frames_page, file_page, page_at_mark, view_at, view_at_rest}
use Rattle.wal_frames.proofs.MarkLemmas.{valid_is}
use Rattle.checkpointer.specs.Backfill.{KeepsStates, IsCopied, HasBackfilled}
use Rattle.checkpointer.specs.CopiedState.{CopiedState}
use Rattle.checkpointer.specs.Copying.{IsCopiedNumber, CopiesPages, CopiesFound, MayCopyFound, SetsLength}
use Rattle.checkpointer.specs.Finding.{IsFound}
use Rattle.checkpointer.specs.PairState.{bytes_at, bytes_in, state_of_pair, AreNamed}
use Rattle.checkpointer.proofs.BackfillLemmas.{d, last, RunTo, run_set, file, run_copied, keeps_parts, keeps_sized}
use Rattle.checkpointer.proofs.BackfillLemmas.{copied_page, sized_page, locked_page, sized_locked, lengths}
use Rattle.checkpointer.proofs.BackfillLemmas.{length_copied, page_behind, grown_behind}
use Rattle.checkpointer.proofs.FileLemmas.{length-resized}
use Rattle.checkpointer.proofs.KeepLemmas.{entry, file_is, file_now, log_now, keeps_pair, log_is}
use Rattle.checkpointer.proofs.PairLemmas.{leaves_image, HasPair}
use Rattle.checkpointer.proofs.RestView.{unlocked, rest_view}
use Rattle.checkpointer.proofs.RunLemmas.{run_ends, Ended}
use Rattle.checkpointer.proofs.ViewOfPair.{IsKept, states_agree}

-- a file that is synced is left as it reads
left_is : (now : List Event) (name : List ℕ) (db wal : List ℕ) (b c : List ℕ)
    (p : HasPair now db wal (synced_file b) (synced_file c)) (image : Files)
    → IsCrashImage now image → (bytes_in image db ≡ b) × (bytes_in image wal ≡ c)
left_is now name db wal b c p image is =
    let database = leaves_image now db p.n (synced_file b) image p.database is in
    let logged = leaves_image now wal p.k (synced_file c) image p.log is in (
      ap (λ (left : Option (List ℕ)). unwrap_or left []) database.there
          ∙ IsFileImage-settled (synced_file b) database.bytes refl database.image,
      ap (λ (left : Option (List ℕ)). unwrap_or left []) logged.there
          ∙ IsFileImage-settled (synced_file c) logged.bytes refl logged.image,
    )

module _ (db wal : List ℕ) (apart : db ≢ wal) (x : List Event) (named : AreNamed x db wal) (upto : ℕ) (h : WalHeader)
    (pages : BTreeMap ℕ ℕ) (mark : Mark) (is_last : Bool)
    (found : IsFound (bytes_at x wal) upto h pages mark is_last) where
  abbrev L : List ℕ
  L = bytes_at x wal

  abbrev D : FileState
  D = d db wal apart x named upto h pages mark is_last

  abbrev lasting : (m : Mark) × (last_mark_of L ≡ Some m)
  lasting = last db wal apart x named upto h pages mark is_last found

  abbrev Page : List ℕ → ℕ → Type 0
  Page b p = file_page h.size b p ≡ unwrap_or (frames_page p (frames_to h (frames_under h L) mark))
      (file_page h.size D.bytes p)

  abbrev copied_state : CopiedState
  copied_state = record { head = h; mark = mark }

  module _ (sized : List Event) (b : FileState)
      (r : RunTo db wal apart x named upto h pages mark is_last found sized b)
      (each : (p : ℕ) → IsCopiedNumber h.size mark.commit p → Page b.bytes p)
      (locked : lock_page h.size ≤ mark.commit → file_page h.size b.bytes (lock_page h.size) ≡ file_page h.size
      D.bytes (lock_page h.size))
      (at_last : is_last ≡ true → length b.bytes ≡ mark.commit * h.size)
      (before : is_last ≡ false → length b.bytes ≡ max (length D.bytes) (mark.commit * h.size))
      (behind : is_last ≡ false → (p : ℕ) → mark.commit < p → file_page h.size b.bytes p ≡ file_page h.size D.bytes p)
    where
      abbrev now : List Event
      now = Synced db ∷ sized

      abbrev ended : Ended (IsKept L lasting.0) db wal L D x (entry db wal apart x named).w
          (entry db wal apart x named).pair (log_is db wal apart x named) apart now b
      ended = run_ends (IsKept L lasting.0) db wal L D x (entry db wal apart x named).w
          (entry db wal apart x named).pair (log_is db wal apart x named) apart sized b r

      pub keeps_ended : KeepsStates db wal x now
      keeps_ended = keeps_pair db wal apart x named lasting.0 lasting.1 now (synced_file b.bytes) ended.pair ended.agree
          ended.alike ended.others

      database : bytes_at now db ≡ b.bytes
      database = file_now db wal apart x named lasting.0 lasting.1 now (synced_file b.bytes) ended.pair

      logged : bytes_at now wal ≡ L
      logged = log_now db wal apart x named lasting.0 lasting.1 now (synced_file b.bytes) ended.pair

      not_last : (flag : Bool) → is_last ≡ flag → last_mark_of L ≢ Some mark → is_last ≡ false
      not_last true e none = absurd (none (found.last e))
      not_last false e none = e

      is_copied : IsCopied h mark D.bytes L b.bytes
      is_copied = record {
        head = found.head;
        is_mark = found.is_mark;
        pages = λ p from fewer other.
            each p (record { from = from; upto = fewer; unlocked = other })
            ∙ sym (ap (λ (frames : List (List ℕ)). page_at_mark h D.bytes frames mark p) (valid_is L h found.head)
            ∙ unlocked h.size p (unwrap_or (frames_page p (frames_to h (frames_under h L) mark))
            (file_page h.size D.bytes p)) other);
        locked = locked;
        behind = λ none. behind (not_last is_last refl none);
        last = λ is. at_last (found.not_last is);
        not_last = λ none. before (not_last is_last refl none);
      }

      pub has_backfilled : HasBackfilled db wal upto copied_state x now
      has_backfilled = record {
        end = found.end;
        is_copied = subst (λ (a : List ℕ). IsCopied h mark a L (bytes_at now db)) (sym (file_is db wal apart x named))
            (subst (λ (a : List ℕ). IsCopied h mark D.bytes L a) (sym database) is_copied);
        state = λ image is.
            let left = left_is now db db wal b.bytes L ended.pair image is in
            ap (λ (a : List ℕ). state_of_pair h.size a (bytes_in image wal)) left.0
            ∙ ap (state_of_pair h.size b.bytes) left.1
            ∙ states_agree h.size L lasting.0 b.bytes D.bytes lasting.1 ended.agree
            ∙ ap (λ (a : List ℕ). state_of_pair h.size a L) (sym (file_is db wal apart x named));
        alone = λ is image image_is.
            let left = left_is now db db wal b.bytes L ended.pair image image_is in
            ap (view_at_rest h.size) left.0 ∙ rest_view L h found.head mark found.is_mark b.bytes D.bytes
            (at_last (found.not_last is)) each
            ∙ sym (ap (λ (a : List ℕ). view_at a (bytes_at now wal) mark) database
            ∙ ap (λ (a : List ℕ). view_at b.bytes a mark) logged);
      }

  -- ---- the exits

  pub keeps_some : (now : List Event) → MayCopyFound db wal h.size mark.commit pages is_last (Synced wal ∷ x) now
      → KeepsStates db wal x now
  keeps_some now (inl some) = keeps_parts db wal apart x named upto h pages mark is_last found now some
  keeps_some now (inr more) = keeps_sized db wal apart x named upto h pages mark is_last found more.copied
      more.page_writes now more.set

  module _ (copied : List Event) (writes : CopiesPages db wal h.size mark.commit pages (Synced wal ∷ x) copied) where
    abbrev n : ℕ
    n = mark.commit * h.size

    abbrev b : FileState
    b = file db wal apart x named upto h pages mark is_last found copied writes

    long : (length D.bytes ≤ length b.bytes) × (length b.bytes ≤ max (length D.bytes) n)
    long = lengths db wal apart x named upto h pages mark is_last found copied writes

    read : length (bytes_at copied db) ≡ length b.bytes
    read = length_copied db wal apart x named upto h pages mark is_last found copied writes

    abbrev r : RunTo db wal apart x named upto h pages mark is_last found copied b
    r = run_copied db wal apart x named upto h pages mark is_last found copied writes

    abbrev Done : List Event → Type 0
    Done sized = KeepsStates db wal x (Synced db ∷ sized) × HasBackfilled db wal upto copied_state x (Synced db ∷ sized)

    done_cut : (is_last ≡ true) ⊎ (length (bytes_at copied db) ≤ n) → Done (Cut db n ∷ copied)
    done_cut may =
        let allowed : (is_last ≡ true) ⊎ (length b.bytes ≤ n) = elim may
        [ inl is ↦ inl is | inr short ↦ inr (omega (arith, short, read)) ] in
        let run = run_set db wal apart x named upto h pages mark is_last found copied b r allowed in
        let each : (p : ℕ) → IsCopiedNumber h.size mark.commit p
        → Page (with_length n b.bytes) p = sized_page db wal apart x named upto h pages mark is_last found copied
        writes in
        let exact : length (with_length n b.bytes) ≡ n = length-resized n b.bytes in
        let before : is_last ≡ false → length (with_length n b.bytes) ≡ max (length D.bytes) n =
        λ not. elim may [
          | inl is ↦ let both : false ≡ true = sym not ∙ is in absurd cc
          | inr short ↦ omega (arith, exact, short, read, long.0)
        ] in
        let behind : is_last ≡ false → (p : ℕ) → mark.commit < p
        → file_page h.size (with_length n b.bytes) p ≡ file_page h.size D.bytes p =
        λ not. elim may [
          | inl is ↦ let both : false ≡ true = sym not ∙ is in absurd cc
          | inr short ↦ grown_behind db wal apart x named upto h pages mark is_last found copied writes
              (omega (arith, short, read))
        ] in
        let locked = sized_locked db wal apart x named upto h pages mark is_last found copied writes in (
          keeps_ended (Cut db n ∷ copied) (resized n b) run each locked (λ is. exact) before behind,
          has_backfilled (Cut db n ∷ copied) (resized n b) run each locked (λ is. exact) before behind,
        )

    done_uncut : is_last ≡ false → n ≤ length (bytes_at copied db) → Done copied
    done_uncut none enough =
        let each : (p : ℕ) → IsCopiedNumber h.size mark.commit p
        → Page b.bytes p = λ p is. copied_page db wal apart x named upto h pages mark is_last found copied writes
        p is _ refl in
        let at_last : is_last ≡ true → length b.bytes ≡ n = λ is. let both : true ≡ false = sym is
        ∙ none in absurd cc in
        let before : is_last ≡ false → length b.bytes ≡ max (length D.bytes) n = λ not. omega
        (arith, long.0, long.1, enough, read) in
        let locked : lock_page h.size ≤ mark.commit → file_page h.size b.bytes (lock_page h.size) ≡ file_page h.size
        D.bytes (lock_page h.size) =
        λ _. locked_page db wal apart x named upto h pages mark is_last found copied writes in
        let behind : is_last ≡ false → (p : ℕ) → mark.commit < p
        → file_page h.size b.bytes p ≡ file_page h.size D.bytes p =
        λ _. page_behind db wal apart x named upto h pages mark is_last found copied writes in (
          keeps_ended copied b r each locked at_last before behind,
          has_backfilled copied b r each locked at_last
              before behind,
        )

    done_set : (sized : List Event) → SetsLength db n is_last copied sized → Done sized
    done_set sized (inl cut) = subst Done (sym cut.0) (done_cut cut.1)
    done_set sized (inr same) = subst Done (sym same.0) (done_uncut same.1 same.2)

  pub done : (now : List Event) → CopiesFound db wal h.size mark.commit pages is_last (Synced wal ∷ x) now
      → KeepsStates db wal x now × HasBackfilled db wal upto copied_state x now
  done after c = subst (λ (es : List Event). KeepsStates db wal x es × HasBackfilled db wal upto copied_state x es)
      (sym c.is) (done_set c.copied c.page_writes c.sized c.set)
