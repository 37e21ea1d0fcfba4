-- The pages of what was found.
use Rattle.std.proofs.Common.{◌≡◌, ℕ, ◌+◌, ◌-◌, ◌*◌, ◌^◌, ◌≤◌, Bool, false, List, length, take, drop, Option, Some}
use Rattle.std.proofs.Common.{None, Result, Ok, Err, refl, sym, ap, subst, ◌∙◌, arith}
use Rattle.std.specs.Prelude.{option_map, unwrap_or, IsErrOf, OnOk, is_ok}
use Rattle.std.specs.FinMap.{get}
use Rattle.std.specs.Simd.{first_chunks}
use Rattle.std.proofs.lemmas.List.{length-take}
use Rattle.std.proofs.Math.Nat.{div-mul-le_self}
use Rattle.ls_base.specs.PageSize.{IsPageSize}
use Rattle.wal_frames.specs.WalFormat.{read_header}
use Rattle.wal_frames.specs.WalFrame.{frame_length}
use Rattle.wal_frames.specs.ValidPrefix.{valid_frames}
use Rattle.wal_frames.proofs.MarkLemmas.{valid_is}
use Rattle.wal_frames.proofs.ChunkLemmas.{length-first_chunks}
use Rattle.std.proofs.Math.Nat.{pow-le-pow_right}
use Rattle.snapshot_read.proofs.OffsetLemmas.{by_offsets, not_past, at_offset}
use Rattle.live_gate.specs.LiveRecord.{IsPrefix}
use Rattle.wal_follow.specs.Calls.{IsViewAt, IsTargetView, GivesWanted}
use Rattle.wal_follow.specs.PageFaults.{page_fault}
use Rattle.wal_follow.proofs.FitsLemmas.{still_mark, same_front, fits_stays}
use Rattle.ls_base.specs.declared.mark.Mark.{Mark}
use Rattle.ls_base.specs.declared.place.Place.{Place}
use Rattle.ls_base.specs.declared.place.Place.TheVariants.{Wal, Rest}
use Rattle.ls_base.specs.State.{State, page_of}
use Rattle.wal_frames.specs.declared.header.WalHeader.{WalHeader}
use Rattle.wal_frames.specs.Marks.{IsMark, place_of}
use Rattle.wal_frames.specs.View.{frames_up_to, frames_to, frames_page, file_page, unless_locked, view_at, view_at_rest}
use Rattle.wal_frames.specs.View.{page_at_rest, file_pages}
use Rattle.wal_frames.proofs.LogLemmas.{one_mark_an_end, ends_within}
use Rattle.wal_frames.proofs.ViewLemmas.{view_by_front, is_view, frames_to_chunks, mark_long, page_made}
use Rattle.live_gate.specs.LiveRecord.{LiveRecord}
use Rattle.snapshot_read.specs.declared.fault.PageFault.{PageFault}
use Rattle.snapshot_read.specs.declared.fault.PageFault.TheVariants as page
use Rattle.snapshot_read.specs.Offsets.{offset_in, log_page, mapped_page, LiesWithin}
use Rattle.snapshot_read.specs.PageOffsets.{Offsets}
use Rattle.snapshot_read.specs.Reading.{ReadsPage, IsUnderGate}
use Rattle.wal_follow.specs.declared.following.Following.{Following}
use Rattle.wal_follow.specs.declared.following.Target.{Target}
use Rattle.wal_follow.specs.Following.{gathered_at, FitsFoundMark, FitsFoundRest, FitsTarget, FitsCalm, Fits}
use Rattle.wal_follow.proofs.ReadLemmas.{keeps_hold}

on_ok : {E : Type 0} (r : Result (Unit {0}) E) (P Q : Type 0) → (P → Q) → OnOk r P → OnOk r Q
on_ok (Ok x) P Q f is = f is
on_ok (Err e) P Q f is = tt

-- ---- one page by its offset

module _ (log : List ℕ) (h : WalHeader) (mark : Mark) (number : ℕ) (at : Option ℕ)
    (accepted : read_header log ≡ Ok h) (is_mark : IsMark log mark)
    (is_at : at ≡ offset_in h number 32 (frames_to h (valid_frames log) mark)) where
  chunks : frames_to h (valid_frames log) mark ≡ first_chunks (frame_length h) (frames_up_to h mark) (drop 32 log)
  chunks = ap (λ (fs : List (List ℕ)). frames_to h fs mark) (valid_is log h accepted)
      ∙ frames_to_chunks log h accepted mark is_mark

  page_found : frames_page number (frames_to h (valid_frames log) mark) ≡ option_map (log_page h.size log) at
  page_found =
      ap (frames_page number) chunks ∙ by_offsets h log number (frames_up_to h mark) 32
      ∙ ap (λ (fs : List (List ℕ)). option_map (log_page h.size log) (offset_in h number 32 fs)) (sym chunks)
      ∙ ap (option_map (log_page h.size log)) (sym is_at)

  -- the page at that offset, else the file's, is the view's
  pub page_is_view : (file : List ℕ) → 1 ≤ number → number ≤ mark.commit
      → page_of (view_at file log mark) number ≡ Some (unless_locked h.size number (unwrap_or (option_map
      (log_page h.size log) at) (file_page h.size file number)))
  page_is_view file from upto =
      (is_view log h accepted file mark).each number from upto
      ∙ ap (λ (o : Option (List ℕ)). Some (unless_locked h.size number (unwrap_or o
      (file_page h.size file number)))) page_found

  pub page_within : (x : ℕ) → at ≡ Some x → x + h.size ≤ length log
  page_within x is =
      let n = frame_length h in
      let k = frames_up_to h mark in
      let low : k * n ≤ mark.end - 32 = div-mul-le_self (mark.end - 32) n in
      let many : length (frames_to h (valid_frames log) mark) ≡ k = ap (λ (fs : List (List ℕ)). length fs) chunks
      ∙ length-first_chunks n k (drop 32 log) in
      let behind : 32 ≤ length (take mark.end log) = mark_long log h accepted mark is_mark in
      let same : length (frames_to h (valid_frames log) mark) * n ≡ k * n = ap (λ (m : ℕ). m * n) many in
      let fits = not_past h number 32 (length log) (frames_to h (valid_frames log) mark) (omega
      (arith, low, same, behind, length-take mark.end log, ends_within log mark is_mark)) in
      at_offset h.size (length log) x (offset_in h number 32 (frames_to h (valid_frames log) mark)) fits (sym is_at
      ∙ is)

pub size_limit : (size : ℕ) → IsPageSize size → size ≤ 65536
size_limit size is = let upto : 2 ^ is.0 ≤ 2 ^ 16 = pow-le-pow_right {n = 2} (omega arith) is.2 in omega
    (arith, is.3, upto)

-- ---- the page of what was found

some_place : (a b : Place) → ◌≡◌ {A = Option Place} (Some a) (Some b) → a ≡ b
some_place a b e = cc

module _ (f : Following) (target : Target) (number : ℕ) (offsets : Offsets) (into : List ℕ) (r : Result
    (Unit {0}) PageFault) (old new : LiveRecord)
    (at : get offsets number ≡ gathered_at f.fresh f.kept.offsets f.newer.offsets number) (from : 1 ≤ number)
    (upto : number ≤ target.commit)
    (reads : ReadsPage offsets target.size number r into old new) (gate : IsUnderGate old.database) where
  module _ (m : FitsFoundMark f target old.database) where
    lies : LiesWithin target.size old.database.committed offsets number
    lies x is =
        let fits = page_within old.database.committed m.h m.mark number (get offsets number) m.accepted m.is_mark
        (at ∙ m.offsets number) x is in
        omega (arith, fits, m.size)

    pub mark_whole : (missing : ℕ) → IsErrOf r (page.Short missing) → ⊥
    mark_whole = reads.whole gate lies

    module _ (awake : new.database.stopped ≡ false) where
      committed : IsPrefix old.database.committed new.database.committed
      committed = (keeps_hold old.database new.database gate reads.step awake).committed

      same_mark : (mark : Mark) → IsMark new.database.committed mark → target.place ≡ place_of mark → mark ≡ m.mark
      same_mark mark is place =
          let places : place_of mark ≡ place_of m.mark = sym place ∙ m.place in
          let ends : mark.end ≡ m.mark.end = cc in
          one_mark_an_end new.database.committed mark m.mark is
          (still_mark old.database.committed new.database.committed committed m.h m.accepted m.mark m.is_mark) ends

      pub mark_page : (view : State) → (mark : Mark) × IsViewAt target new.database mark view
          → OnOk r (page_of view number ≡ Some into)
      mark_page view (mark, is) =
          let same = same_mark mark is.is_mark is.place in
          let front : take m.mark.end new.database.committed ≡ take m.mark.end old.database.committed =
          same_front old.database.committed new.database.committed committed m.h m.accepted m.mark m.is_mark in
          let value = page_is_view old.database.committed m.h m.mark number (get offsets number) m.accepted m.is_mark
          (at ∙ m.offsets number) new.database.file from (omega (arith, upto, m.commit)) in
          on_ok r (into ≡ mapped_page target.size new.database.file old.database.committed offsets number)
          (page_of view number ≡ Some into)
          (λ given.
          ap (λ (s : State). page_of s number) (is.is
          ∙ ap (view_at new.database.file new.database.committed) same
          ∙ view_by_front new.database.file new.database.committed old.database.committed m.mark
          (still_mark old.database.committed new.database.committed committed m.h m.accepted m.mark
          m.is_mark) front)
          ∙ value
          ∙ ap (λ (size : ℕ). Some (mapped_page size new.database.file old.database.committed offsets number))
          (sym m.size)
          ∙ ap (λ (page : List ℕ). Some page) (sym given))
          (reads.value gate lies)

  module _ (m : FitsFoundRest f target old.database) where
    nowhere : get offsets number ≡ None
    nowhere = at ∙ ap (λ (b : Bool). gathered_at b f.kept.offsets f.newer.offsets number) m.fresh ∙ m.none number

    lies_not : LiesWithin target.size old.database.committed offsets number
    lies_not x is = absurd (nothing (sym is ∙ nowhere))
      where
        nothing : {x : ℕ} → ◌≡◌ {A = Option ℕ} (Some x) None → ⊥
        nothing e = cc

    pub rest_whole : (missing : ℕ) → IsErrOf r (page.Short missing) → ⊥
    rest_whole = reads.whole gate lies_not

    pub rest_page : new.database.stopped ≡ false → (view : State)
        → view ≡ view_at_rest target.size new.database.file → OnOk r (page_of view number ≡ Some into)
    rest_page awake view is =
        let keeps = keeps_hold old.database new.database gate reads.step awake in
        let none : gate.0 ≡ 0 = same_number (sym gate.1 ∙ m.held) in
        let file = keeps.file none in
        let many : number ≤ file_pages target.size new.database.file = omega (
          arith,
          upto,
          m.commit
              ∙ ap (file_pages target.size) (sym file),
        ) in
        on_ok r (into ≡ mapped_page target.size new.database.file old.database.committed offsets number)
        (page_of view number ≡ Some into)
        (λ given.
        ap (λ (s : State). page_of s number) is
        ∙ page_made (page_at_rest target.size new.database.file) (Some target.size)
        (file_pages target.size new.database.file) number from many
        ∙ ap (λ (o : Option ℕ). Some (unless_locked target.size number (unwrap_or (option_map
        (log_page target.size old.database.committed) o) (file_page target.size new.database.file number))))
        (sym nowhere)
        ∙ ap (λ (page : List ℕ). Some page) (sym given))
        (reads.value gate lies_not)
      where
        same_number : {a b : ℕ} → ◌≡◌ {A = Option ℕ} (Some a) (Some b) → a ≡ b
        same_number e = cc

-- ---- what `page` does

module _ (f : Following) (target : Target) (number : ℕ) (offsets : Offsets) (into : List ℕ) (r : Result
    (Unit {0}) PageFault) (old new : LiveRecord)
    (at : get offsets number ≡ gathered_at f.fresh f.kept.offsets f.newer.offsets number) (from : 1 ≤ number)
    (upto : number ≤ target.commit)
    (reads : ReadsPage offsets target.size number r into old new) (fits : Fits f old.database)
    (found : f.found ≡ Some target) where
  gate : IsUnderGate old.database
  gate = fits.gate

  calm_then : new.database.chances ≡ 0 → FitsCalm f old.database
  calm_then calm = fits.calm (omega (arith, calm, reads.step.chances))

  value_by : (p : Place) → FitsTarget f target old.database p → new.database.stopped ≡ false → (view : State)
      → IsTargetView target new.database p view → OnOk r (page_of view number ≡ Some into)
  value_by (Wal a b c e s) m awake view is = mark_page f target number offsets into r old new at from upto reads gate
      m awake view is
  value_by (Rest sum) m awake view is = rest_page f target number offsets into r old new at from upto reads gate m
      awake view is

  whole_by : (p : Place) → FitsTarget f target old.database p → (missing : ℕ) → IsErrOf r (page.Short missing) → ⊥
  whole_by (Wal a b c e s) m = mark_whole f target number offsets into r old new at from upto reads gate m
  whole_by (Rest sum) m = rest_whole f target number offsets into r old new at from upto reads gate m

  pub value_of : new.database.chances ≡ 0 → new.database.stopped ≡ false → (view : State)
      → IsTargetView target new.database target.place view → OnOk r (page_of view number ≡ Some into)
  value_of calm awake view is = value_by target.place ((calm_then calm).found target found) awake view is

  pub whole_of : new.database.chances ≡ 0 → (missing : ℕ) → IsErrOf r (page.Short missing) → ⊥
  whole_of calm = whole_by target.place ((calm_then calm).found target found)

  pub still_fits : new.database.stopped ≡ false → Fits f new.database
  still_fits awake = fits_stays f old.database new.database reads.step awake fits

  pub gives_page : r ≡ Ok tt → GivesWanted f target number (Ok tt) into old new
  gives_page is = record {
    step = reads.step;
    awake = λ other ok. reads.awake other (ap is_ok is);
    value = λ calm awake view there. subst (λ (q : Result (Unit {0}) PageFault). OnOk q
        (page_of view number ≡ Some into)) is (value_of calm awake view there);
    whole = λ calm x e. absurd cc;
    short = λ x e. absurd cc;
    fits = still_fits;
    passes = (reads.asked.passes_asked, reads.asked.passes_done);
  }

  module _ (at_byte : (missing : ℕ) → IsErrOf r (page.Short missing) → (x : ℕ) × (get offsets number ≡ Some x)) where
    pub gives_fault : (fault : PageFault) → r ≡ Err fault
        → GivesWanted f target number (Err (page_fault fault)) into old new
    gives_fault (page.Live fault) is = record {
      step = reads.step;
      awake = λ other ok. absurd cc;
      value = λ calm awake. tt;
      whole = λ calm x e. absurd cc;
      short = λ x e. absurd cc;
      fits = still_fits;
      passes = (reads.asked.passes_asked, reads.asked.passes_done);
    }
    gives_fault (page.Short missing) is =
        let there : IsErrOf r (page.Short missing) = subst (λ (q : Result (Unit {0}) PageFault). IsErrOf q
        (page.Short missing)) (sym is) refl in
        record {
          step = reads.step;
          awake = λ other ok. absurd cc;
          value = λ calm awake. tt;
          whole = λ calm x e. whole_of calm missing there;
          short = λ x e.
              let cut = reads.short (at_byte missing there).0 missing (at_byte missing there).1 there in
              let same : missing ≡ x = cc in
              (cut.none, sym same ∙ cut.stands);
          fits = still_fits;
          passes = (reads.asked.passes_asked, reads.asked.passes_done);
        }
