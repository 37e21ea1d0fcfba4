-- What is left where the frames of a log are copied.
use Rattle.std.proofs.Common.{◌≡◌, ◌≢◌, ◌∙◌, ℕ, ◌+◌, ◌-◌, ◌*◌, ◌<◌, ◌≤◌, ◌⊎◌, max, Bool, true, List, [], ◌∷◌, length}
use Rattle.std.proofs.Common.{take, drop, Option, Some, None, unwrap_or, sym, ap, subst, refl, inl, inr, arith}
use Rattle.std.proofs.Common.{length-drop}
use Rattle.std.specs.Ordering.{nat_cmp}
use Rattle.std.specs.BTreeMap.{BTreeMap, get}
use Rattle.std.proofs.Math.Nat.{mul-le-mul_right}
use Rattle.std.proofs.lemmas.List.{length-take-le}
use Rattle.ls_base.specs.declared.mark.Mark.{Mark}
use Rattle.ls_base.specs.PageSize.{lock_page}
use Rattle.crash_disk.specs.declared.event.Event.{Event}
use Rattle.crash_disk.specs.declared.event.Event.TheVariants.{Cut, Synced}
use Rattle.crash_disk.specs.Files.{files_after, with_length}
use Rattle.crash_disk.specs.FileState.{FileState, SomeOf, resized}
use Rattle.wal_frames.specs.declared.header.WalHeader.{WalHeader}
use Rattle.wal_frames.specs.Marks.{last_mark_of}
use Rattle.wal_frames.specs.View.{frames_page, file_page}
use Rattle.checkpointer.specs.Backfill.{KeepsStates}
use Rattle.checkpointer.specs.Copying.{Written, after_writes, EachIs, IsCopiedNumber, IsPartOfPage, IsPageOf}
use Rattle.checkpointer.specs.Copying.{CopiesPages, MayCopyPages, MaySetLength}
use Rattle.checkpointer.specs.Finding.{IsFound}
use Rattle.checkpointer.specs.PairState.{bytes_at, AreNamed}
use Rattle.checkpointer.proofs.FoundPages.{front_frames, page_found, page_absent, has_last, size_is, not_left}
use Rattle.checkpointer.proofs.KeepLemmas.{entry, log, file_now, keeps_run, IsFree, run_pages, log_is}
use Rattle.checkpointer.proofs.PagesLemmas.{outside, page_ends, page_resized, pages_in, IsOne, page_unwritten}
use Rattle.checkpointer.proofs.PagesLemmas.{page_written, page_grown, length-pages}
use Rattle.checkpointer.proofs.RunLemmas.{Run, run_cuts, run_grows}
use Rattle.checkpointer.proofs.ViewOfPair.{IsKept}
use Rattle.checkpointer.proofs.WritesLemmas.{each_weaker}

module _ (db wal : List ℕ) (apart : db ≢ wal) (x : List Event) (named : AreNamed x db wal) (upto : ℕ) (h : WalHeader)
    (pages : BTreeMap ℕ ℕ) (mark : Mark) (is_last : Bool) where
  abbrev pub d : FileState
  d = (entry db wal apart x named).d

  abbrev pub the_log : List ℕ
  the_log = bytes_at x wal

  abbrev pub started : List Event
  started = Synced wal ∷ x

  module _ (found : IsFound (bytes_at x wal) upto h pages mark is_last) where
    abbrev pub last : (m : Mark) × (last_mark_of the_log ≡ Some m)
    last = has_last the_log upto h pages mark is_last found (last_mark_of the_log) refl

    abbrev pub RunTo : List Event → FileState → Type 0
    RunTo now file = Run (IsKept the_log last.0) db wal the_log d x now file

    -- ---- the pages

    part_free : (w : Written) → IsPartOfPage h.size mark.commit pages w
        → IsFree db wal apart x named last.0 last.1 h.size w
    part_free w is = record {
      free = λ place kept.
          let from : (kept.p - 1) * h.size ≤ place = subst (λ (size : ℕ). (kept.p - 1) * size ≤ place)
          (size_is the_log upto h pages mark is_last found) kept.from in
          let before : place < kept.p * h.size = subst (λ (size : ℕ). place < kept.p * size)
          (size_is the_log upto h pages mark is_last found) kept.before in
          let other = not_left the_log upto h pages mark is_last found last.0 last.1 kept.p w.number is.at kept.page
          is.found in
          let ends = page_ends h.size kept.p kept.page.from in
          let k : (kept.p - 1) * h.size + (place - (kept.p - 1) * h.size) ≡ place = omega (arith, from) in
          subst (λ (n : ℕ). (n < (w.number - 1) * h.size) ⊎ ((w.number - 1) * h.size + length w.bytes ≤ n)) k
          (outside h.size w.number kept.p (place - (kept.p - 1) * h.size) (length w.bytes) is.copied.from
          kept.page.from other (omega (arith, from, before, ends)) is.within);
    }

    pub run_parts : (writes : List Written) → EachIs (IsPartOfPage h.size mark.commit pages) writes
        → RunTo (after_writes db h.size writes started) (pages_in h.size writes d)
    run_parts writes each =
        run_pages db wal apart x named last.0 last.1 h.size writes
        (each_weaker (IsPartOfPage h.size mark.commit pages) (IsFree db wal apart x named last.0 last.1 h.size) writes
        part_free each)

    whole_parts : (log : List ℕ) (writes : List Written) → EachIs (IsPageOf h.size mark.commit pages log) writes
        → EachIs (IsPartOfPage h.size mark.commit pages) writes
    whole_parts log writes each = each_weaker (IsPageOf h.size mark.commit pages log)
        (IsPartOfPage h.size mark.commit pages) writes
        (λ w is. record { copied = is.copied; at = is.at; found = is.found; within = omega (arith, is.long) }) each

    pub keeps_parts : (now : List Event) → MayCopyPages db h.size mark.commit pages started now
        → KeepsStates db wal x now
    keeps_parts now c =
        subst (λ (es : List Event). KeepsStates db wal x es) (sym c.is)
        (keeps_run db wal apart x named last.0 last.1 (after_writes db h.size c.writes started)
        (pages_in h.size c.writes d) (run_parts c.writes c.each))

    -- ---- the length

    abbrev pub bytes : ℕ
    bytes = mark.commit * h.size

    -- the run after the length was set
    pub run_set : (now : List Event) (file : FileState) → RunTo now file
        → (is_last ≡ true) ⊎ (length file.bytes ≤ bytes) → RunTo (Cut db bytes ∷ now) (resized bytes file)
    run_set now file r (inl is) =
        run_cuts (IsKept the_log last.0) db wal the_log d x (entry db wal apart x named).w
        (entry db wal apart x named).pair (log_is db wal apart x named) apart now file bytes r
        (λ place kept.
        let both : Some last.0 ≡ Some mark = sym last.1 ∙ found.last is in
        let same : last.0 ≡ mark = cc in
        let fewer : kept.p ≤ mark.commit = subst (λ (m : Mark). kept.p ≤ m.commit) same kept.page.upto in
        let fits : kept.p * h.size ≤ mark.commit * h.size = mul-le-mul_right h.size fewer in
        let before : place < kept.p * h.size = subst (λ (size : ℕ). place < kept.p * size)
        (size_is the_log upto h pages mark is_last found) kept.before in
        omega (arith, fits, before))
    run_set now file r (inr short) =
        run_grows (IsKept the_log last.0) db wal the_log d x (entry db wal apart x named).w
        (entry db wal apart x named).pair (log_is db wal apart x named) apart now file bytes r short

    module _ (copied : List Event) (c : CopiesPages db wal h.size mark.commit pages started copied) where
      abbrev pub file : FileState
      file = pages_in h.size c.writes d

      parts : EachIs (IsPartOfPage h.size mark.commit pages) c.writes
      parts = whole_parts (bytes_at started wal) c.writes c.each

      pub run_copied : RunTo copied file
      run_copied = subst (λ (es : List Event). RunTo es file) (sym c.is) (run_parts c.writes parts)

      file_bytes : bytes_at copied db ≡ file.bytes
      file_bytes = file_now db wal apart x named last.0 last.1 copied file run_copied.pair

      allowed : (is_last ≡ true) ⊎ (length (bytes_at copied db) ≤ bytes)
          → (is_last ≡ true) ⊎ (length file.bytes ≤ bytes)
      allowed (inl is) = inl is
      allowed (inr short) = inr (omega (arith, short, ap (λ (xs : List ℕ). length xs) file_bytes))

      pub keeps_sized : (now : List Event) → MaySetLength db bytes is_last copied now → KeepsStates db wal x now
      keeps_sized now (inl same) = subst (λ (es : List Event). KeepsStates db wal x es) (sym same)
          (keeps_run db wal apart x named last.0 last.1 copied file run_copied)
      keeps_sized now (inr cut) =
          subst (λ (es : List Event). KeepsStates db wal x es) (sym cut.0)
          (keeps_run db wal apart x named last.0 last.1 (Cut db bytes ∷ copied) (resized bytes file)
          (run_set copied file run_copied (allowed cut.1)))

      -- ---- the pages of the file then

      ones : EachIs (IsOne h.size mark.commit) c.writes
      ones = each_weaker (IsPartOfPage h.size mark.commit pages) (IsOne h.size mark.commit) c.writes
          (λ w is. record { from = is.copied.from; upto = is.copied.upto; within = is.within }) parts

      abbrev page_in_front : ℕ → Option (List ℕ)
      page_in_front p = frames_page p (front_frames the_log upto h pages mark is_last found)

      none_written : (p : ℕ) (writes : List Written) → EachIs (IsPartOfPage h.size mark.commit pages) writes
          → get nat_cmp pages p ≡ None → SomeOf (λ w. w.number ≡ p) writes → ⊥
      none_written p [] each none some = some
      none_written p (w ∷ writes) each none (inl same) =
          let both : Some each.0.at ≡ None = sym each.0.found ∙ ap (get nat_cmp pages) same ∙ none in
          absurd cc
      none_written p (w ∷ writes) each none (inr some) = none_written p writes each.1 none some

      each_page : (p at : ℕ) → get nat_cmp pages p ≡ Some at → at + h.size ≤ length the_log
          → EachIs (λ w. w.number ≡ p → w.bytes ≡ take h.size (drop at the_log)) c.writes
      unfolding files_after
      each_page p at is within =
          each_weaker (IsPageOf h.size mark.commit pages (bytes_at started wal))
          (λ w. w.number ≡ p → w.bytes ≡ take h.size (drop at the_log)) c.writes
          (λ w page same.
          let both : Some page.at ≡ Some at = sym page.found ∙ ap (get nat_cmp pages) same ∙ is in
          let here : page.at ≡ at = cc in
          page.page (omega (arith, within, here)) ∙ ap (λ (n : ℕ). take h.size (drop n the_log)) here)
          c.each

      pub copied_page : (p : ℕ) → IsCopiedNumber h.size mark.commit p → (at : Option ℕ) → get nat_cmp pages p ≡ at
          → file_page h.size file.bytes p ≡ unwrap_or (page_in_front p) (file_page h.size d.bytes p)
      copied_page p is None none =
          page_unwritten h.size mark.commit d p c.writes is.from ones (none_written p c.writes parts none)
          ∙ sym (ap (λ (page : Option (List ℕ)). unwrap_or page (file_page h.size d.bytes p))
          (page_absent the_log upto h pages mark is_last found p none))
      copied_page p is (Some at) some =
          let page = page_found the_log upto h pages mark is_last found p at some in
          page_written h.size mark.commit d p (take h.size (drop at the_log)) c.writes is.from ones
          (each_page p at some page.1)
          (length-take-le h.size (drop at the_log) (omega (arith, page.1, length-drop at the_log))) (c.all p at some is)
          ∙ sym (ap (λ (found_page : Option (List ℕ)). unwrap_or found_page (file_page h.size d.bytes p)) page.0)

      pub sized_page : (p : ℕ) → IsCopiedNumber h.size mark.commit p
          → file_page h.size (with_length bytes file.bytes) p ≡ unwrap_or (page_in_front p) (file_page h.size d.bytes p)
      sized_page p is =
          page_resized h.size bytes p file.bytes is.from (mul-le-mul_right h.size is.upto)
          ∙ copied_page p is (get nat_cmp pages p) refl

      pub lengths : (length d.bytes ≤ length file.bytes) × (length file.bytes ≤ max (length d.bytes) bytes)
      lengths = length-pages h.size mark.commit d c.writes ones

      pub length_copied : length (bytes_at copied db) ≡ length file.bytes
      length_copied = ap (λ (xs : List ℕ). length xs) file_bytes

      none_locked : (writes : List Written) → EachIs (IsPartOfPage h.size mark.commit pages) writes
          → SomeOf (λ w. w.number ≡ lock_page h.size) writes → ⊥
      none_locked [] each some = some
      none_locked (w ∷ writes) each (inl same) = each.0.copied.unlocked same
      none_locked (w ∷ writes) each (inr some) = none_locked writes each.1 some

      none_behind : (p : ℕ) → mark.commit < p → (writes : List Written)
          → EachIs (IsPartOfPage h.size mark.commit pages) writes → SomeOf (λ w. w.number ≡ p) writes → ⊥
      none_behind p later [] each some = some
      none_behind p later (w ∷ writes) each (inl same) = absurd (omega (arith, each.0.copied.upto, same, later))
      none_behind p later (w ∷ writes) each (inr some) = none_behind p later writes each.1 some

      -- so is a page behind the mark's size
      pub page_behind : (p : ℕ) → mark.commit < p → file_page h.size file.bytes p ≡ file_page h.size d.bytes p
      page_behind p later = page_unwritten h.size mark.commit d p c.writes (omega (arith, later)) ones
          (none_behind p later c.writes parts)

      pub grown_behind : length file.bytes ≤ bytes → (p : ℕ) → mark.commit < p
          → file_page h.size (with_length bytes file.bytes) p ≡ file_page h.size d.bytes p
      grown_behind short p later = page_grown h.size bytes p file.bytes short ∙ page_behind p later

      -- the lock page is as it was
      pub locked_page : file_page h.size file.bytes (lock_page h.size) ≡ file_page h.size d.bytes (lock_page h.size)
      locked_page = page_unwritten h.size mark.commit d (lock_page h.size) c.writes (omega arith) ones
          (none_locked c.writes parts)

      pub sized_locked : lock_page h.size ≤ mark.commit
          → file_page h.size (with_length bytes file.bytes) (lock_page h.size) ≡ file_page h.size d.bytes
          (lock_page h.size)
      sized_locked fewer = page_resized h.size bytes (lock_page h.size) file.bytes (omega arith)
          (mul-le-mul_right h.size fewer) ∙ locked_page
