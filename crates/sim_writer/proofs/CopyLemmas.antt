-- Copying into the database file is a step, and leaves the machine sound.
use Rattle.std.proofs.Common.{◌≡◌, ◌≢◌, ℕ, ◌+◌, ◌-◌, ◌/◌, ◌^◌, ◌<◌, ◌≤◌, List, [], ◌∷◌}
use Rattle.std.proofs.Common.{take, drop, Option, Some, None, Ok, refl, sym, ap, subst, ◌∙◌, inl, inr, arith}
use Rattle.std.specs.Prelude.{unwrap_or}
use Rattle.std.specs.List.{Contains, slice_get, last_or}
use Rattle.std.specs.Option.{option_or}
use Rattle.std.proofs.Math.Nat.{pow-le-pow_right, le-div_iff_mul-le}
use Rattle.std.proofs.lemmas.Bool.{cases_lt, cases_eq}
use Rattle.std.proofs.lemmas.List.{take-append-drop}
use Rattle.ls_base.specs.PageSize.{IsPageSize, lock_page}
use Rattle.ls_base.specs.State.{State}
use Rattle.ls_base.specs.declared.place.Place.{Place}
use Rattle.ls_base.specs.declared.place.Place.TheVariants.{Wal, Rest}
use Rattle.ls_base.specs.declared.mark.Mark.{Mark}
use Rattle.wal_frames.specs.declared.header.WalHeader.{WalHeader}
use Rattle.wal_frames.specs.WalFormat.{read_header}
use Rattle.wal_frames.specs.ValidPrefix.{valid_frames}
use Rattle.wal_frames.specs.Marks.{IsMark, marks_of, place_of, last_mark_of}
use Rattle.wal_frames.specs.View.{frames_to, frames_page, file_page, unless_locked}
use Rattle.wal_frames.proofs.AcceptedLemmas.{accepts}
use Rattle.wal_frames.proofs.LogLemmas.{last_is_mark, last_is_greatest, one_mark_an_end}
use Rattle.checkpointer.specs.Backfill.{IsCopied}
use Rattle.checkpointer.proofs.RestView.{some_page, unlocked}
use Rattle.checkpointer.proofs.ViewOfPair.{same_pages}
use Rattle.live_gate.specs.Moves.{CopiesFrames}
use Rattle.live_gate.proofs.CopyLemmas.{copy_step}
use Rattle.live_gate.proofs.StillLegalLemmas.{frames_page-append}
use Rattle.sim_writer.specs.declared.machine.Machine.{Machine}
use Rattle.sim_writer.specs.CommitFrames.{SaysSize}
use Rattle.sim_writer.specs.Copying.{CanBackfill, CopiesTo, CopiesMark, Backfills}
use Rattle.sim_writer.specs.InFile.{IsCopiedTo, HasFile}
use Rattle.sim_writer.specs.Sound.{IsSound, database_of, page_behind, state_behind}
use Rattle.sim_writer.proofs.EntryLemmas.{mark_at}
use Rattle.sim_writer.proofs.RestLemmas.{no_mark}
use Rattle.sim_writer.proofs.InFileLemmas.{ends_behind_header, say_take, say_found}

-- ---- frames and pages

-- the lock page isn't the first one
fits_once : (size : ℕ) → IsPageSize size → 1 ≤ 2 ^ 30 / size
fits_once size is =
    let most : 2 ^ is.0 ≤ 2 ^ 16 = pow-le-pow_right (omega arith) is.2 in
    let least : 2 ^ 9 ≤ 2 ^ is.0 = pow-le-pow_right (omega arith) is.1 in
    (le-div_iff_mul-le {k = size} {x = 1} {y = 2 ^ 30} (omega (arith, is.3, least))).1 (omega (arith, is.3, most))

or_none : (a b : Option (List ℕ)) → option_or a b ≡ None → b ≡ None
or_none None b none = none
or_none (Some x) b none = absurd cc

front_lacks : (p k : ℕ) (frames : List (List ℕ)) → frames_page p frames ≡ None → frames_page p (take k frames) ≡ None
front_lacks p k frames none =
    or_none (frames_page p (drop k frames)) (frames_page p (take k frames))
    (sym (frames_page-append p (take k frames) (drop k frames)) ∙ ap (frames_page p) (take-append-drop k frames) ∙ none)

own_or : (page : Option (List ℕ)) (own other : List ℕ) → own ≡ unwrap_or page other → own ≡ unwrap_or page own
own_or None own other is = refl
own_or (Some page) own other is = is

-- the last of some marks
pub last_some : (marks : List Mark) (mark : Mark) → Contains marks mark → (last : Mark)
    × (last_or None marks ≡ Some last)
last_some [] mark is = absurd (omega (arith, is.1))
last_some (m ∷ marks) mark is = last_behind marks m
  where
    last_behind : (marks : List Mark) (m : Mark) → (last : Mark) × (last_or (Some m) marks ≡ Some last)
    last_behind [] m = (m, refl)
    last_behind (n ∷ marks) m = last_behind marks n

module _ (m : Machine) (s : IsSound m) (mark : Mark) (is_mark : IsMark m.committed mark) (past : m.copied ≤ mark.end)
    (upto : (held : ℕ) → m.held ≡ Some held → (held ≢ 0) × (mark.end ≤ held))
    (file : List ℕ) (c : CopiesTo mark.end m.file m.committed file) where
  abbrev h : WalHeader
  h = m.head

  abbrev frames : List (List ℕ)
  frames = valid_frames m.committed

  abbrev n : Machine
  n = record m { file = file; copied = mark.end }

  some : m.committed ≢ []
  some none = no_mark m.committed none mark is_mark

  accepted : read_header m.committed ≡ Ok h
  accepted = (s.stands some).taken.accepted

  same_head : c.copied.head ≡ h
  same_head = let both : Ok c.copied.head ≡ Ok h = sym c.is.head ∙ accepted in cc

  same_mark : c.copied.mark ≡ mark
  same_mark = one_mark_an_end m.committed c.copied.mark mark c.is.is_mark is_mark c.end

  pub is_copied : IsCopied h mark m.file m.committed file
  is_copied = subst (λ (x : WalHeader). IsCopied x mark m.file m.committed file) same_head
      (subst (λ (x : Mark). IsCopied c.copied.head x m.file m.committed file) same_mark c.is)

  -- a page without a frame up to the mark is as it was, within the size of a mark at or past it
  page_kept : (at : Mark) (p : ℕ) → IsMark m.committed at → mark.end ≤ at.end → 1 ≤ p → p ≤ at.commit
      → frames_page p (frames_to h frames mark) ≡ None → file_page h.size file p ≡ file_page h.size m.file p
  page_kept at p is_at later from within none = elim (cases_lt mark.commit p) [
    | inl behind ↦ is_copied.behind (λ last.
        let same = one_mark_an_end m.committed at mark is_at is_mark
        (omega (arith, later, last_is_greatest m.committed at mark is_at last)) in
        absurd (omega (arith, behind, within, ap (λ (x : Mark). x.commit) same))) p behind
    | inr inside ↦ elim (cases_eq p (lock_page h.size)) [
      | inl locked ↦
          ap (file_page h.size file) locked ∙ is_copied.locked (omega (arith, inside, locked))
          ∙ sym (ap (file_page h.size m.file) locked)
      | inr other ↦
          is_copied.pages p from (omega (arith, inside)) other
          ∙ unlocked h.size p (unwrap_or (frames_page p (frames_to h frames mark)) (file_page h.size m.file p)) other
          ∙ ap (λ (o : Option (List ℕ)). unwrap_or o (file_page h.size m.file p)) none
    ]
  ]

  pub copies : CopiesFrames (database_of m) (database_of n)
  copies = record {
    later = past;
    at_mark = (mark, is_mark, refl);
    not_past = upto;
    others = λ g at p is is_at later from within none.
        let both : Ok g ≡ Ok h = sym is ∙ accepted in
        let same : g ≡ h = cc in
        rw same (page_kept at p is_at later from within
        (subst (λ (x : WalHeader). frames_page p (frames_to x frames mark) ≡ None) same none));
    history = refl;
    committed = refl;
    held = refl;
    stopped = refl;
    chances = refl;
  }

  pub copies_mark : CopiesMark mark m n
  copies_mark = record { copies = copies; pages = is_copied; rest = refl }

  -- ---- what stands in the file then

  first_unlocked : 1 ≢ lock_page h.size
  first_unlocked same = absurd (omega (arith, same, fits_once h.size (accepts m.committed h accepted).size))

  says_then : SaysSize h.size (file_page h.size file 1)
  says_then =
      let page : file_page h.size file 1 ≡ unwrap_or (frames_page 1 (frames_to h frames mark))
      (file_page h.size m.file 1) = is_copied.pages 1 (omega arith)
      (some_page m.committed h accepted mark is_mark) first_unlocked
      ∙ unlocked h.size 1 (unwrap_or (frames_page 1 (frames_to h frames mark)) (file_page h.size m.file 1))
      first_unlocked in
      subst (λ (b : List ℕ). SaysSize h.size b) (sym page) (by (frames_page 1 (frames_to h frames mark)) refl)
    where
      by : (o : Option (List ℕ)) → frames_page 1 (frames_to h frames mark) ≡ o
          → SaysSize h.size (unwrap_or o (file_page h.size m.file 1))
      by None none = s.files.says
      by (Some page) found = say_found h.size (frames_to h frames mark) page
          (say_take h.size ((mark.end - 32) / (24 + h.size)) frames s.files.frames_say) found

  pub file_then : HasFile h file m.committed mark.end
  file_then = record {
    says = says_then;
    frames_say = s.files.frames_say;
    stands = λ at is_at ends.
        let same = one_mark_an_end m.committed at mark is_at is_mark ends in
        subst (λ (x : Mark). IsCopiedTo h file m.committed x) (sym same) (record {
          page = λ p from within other.
              own_or (frames_page p (frames_to h frames mark)) (file_page h.size file p) (file_page h.size m.file p)
              (is_copied.pages p from within other
              ∙ unlocked h.size p (unwrap_or (frames_page p (frames_to h frames mark)) (file_page h.size m.file p))
              other);
        });
  }

  -- ---- the last state

  last : (x : Mark) × (last_mark_of m.committed ≡ Some x)
  last = last_some (marks_of m.committed) mark is_mark

  page_same : (p : ℕ) → 1 ≤ p → p < 1 + s.current.count → page_behind h m.file frames p ≡ page_behind h file frames p
  page_same p from within = by (frames_page p frames) refl
    where
      by : (o : Option (List ℕ)) → frames_page p frames ≡ o
          → unless_locked h.size p (unwrap_or (frames_page p frames) (file_page h.size m.file p))
          ≡ unless_locked h.size p (unwrap_or (frames_page p frames) (file_page h.size file p))
      by (Some page) found =
          ap (λ (o : Option (List ℕ)). unless_locked h.size p (unwrap_or o (file_page h.size m.file p))) found
          ∙ sym (ap (λ (o : Option (List ℕ)). unless_locked h.size p (unwrap_or o (file_page h.size file p))) found)
      by None none =
          let few : p ≤ last.0.commit = omega (arith, within, s.counted last.0 last.1) in
          let greatest = last_is_greatest m.committed mark last.0 is_mark last.1 in
          let lacks = front_lacks p ((mark.end - 32) / (24 + h.size)) frames none in
          let kept = page_kept last.0 p (last_is_mark m.committed last.0 last.1) greatest from few lacks in
          ap (λ (b : List ℕ). unless_locked h.size p (unwrap_or (frames_page p frames) b)) (sym kept)

  state_same : state_behind h m.file frames s.current.count ≡ state_behind h file frames s.current.count
  state_same = ap (λ (pages : List (List ℕ)). record { page_size = Some h.size; pages = pages })
      (same_pages (page_behind h m.file frames) (page_behind h file frames) 1 s.current.count page_same)

  behind_header : 32 ≤ mark.end
  behind_header = ends_behind_header m.head m.committed accepted mark is_mark

  pub copied_sound : IsSound n
  copied_sound = record {
    legal = (copy_step (database_of m) (database_of n) copies).legal s.legal;
    sums = s.sums;
    current = record { count = s.current.count; is = s.current.is ∙ ap (λ (x : State). Some x) state_same };
    counted = s.counted;
    numbered = s.numbered;
    rests = λ none. absurd (omega (arith, none, behind_header));
    files = file_then;
    last = s.last;
    stands = s.stands;
    begun = s.begun;
    over = s.over;
    headed = s.headed;
    has_head = s.has_head;
  }

-- ---- to the mark of a number

module _ (m : Machine) (s : IsSound m) (number end : ℕ) (can : CanBackfill number m) (same : can.mark.end ≡ end)
    (file : List ℕ) (c : CopiesTo end m.file m.committed file) where
  is_mark : IsMark m.committed can.mark
  is_mark = mark_at m.committed (number - 1) can.mark can.found

  held_from : (held : ℕ) → m.held ≡ Some held → (held ≢ 0) × (can.mark.end ≤ held)
  held_from held is =
      let some : m.committed ≢ [] = λ none. no_mark m.committed none can.mark is_mark in
      let behind = ends_behind_header m.head m.committed (s.stands some).taken.accepted can.mark is_mark in
      let upto = can.upto held is in
      (λ none. absurd (omega (arith, behind, upto, none)), upto)

  to_mark : CopiesTo can.mark.end m.file m.committed file
  to_mark = subst (λ (n : ℕ). CopiesTo n m.file m.committed file) (sym same) c

  pub backfilled : Backfills number m (record m { file = file; copied = end })
  backfilled = record {
    mark = can.mark;
    found = can.found;
    copied =
        subst (λ (n : ℕ). CopiesMark can.mark m (record m { file = file; copied = n })) same
        (copies_mark m s can.mark is_mark (omega (arith, can.past)) held_from file to_mark);
  }

  pub backfilled_sound : IsSound (record m { file = file; copied = end })
  backfilled_sound =
      subst (λ (n : ℕ). IsSound (record m { file = file; copied = n })) same
      (copied_sound m s can.mark is_mark (omega (arith, can.past)) held_from file to_mark)

-- ---- the place of a mark

pub not_at_rest : (mark : Mark) (place : Place) (sum : ℕ) → place ≡ place_of mark → place ≡ Rest sum → ⊥
not_at_rest mark place sum is rest = let both : place_of mark ≡ Rest sum = sym is ∙ rest in absurd cc

pub end_is : (mark : Mark) (place : Place) (salt1 salt2 end s0 s1 : ℕ) → place ≡ place_of mark
    → place ≡ Wal salt1 salt2 end s0 s1 → mark.end ≡ end
end_is mark place salt1 salt2 end s0 s1 is at =
    let both : Wal mark.salt1 mark.salt2 mark.end mark.s0 mark.s1 ≡ Wal salt1 salt2 end s0 s1 = sym is ∙ at in cc

pub same_found : (log : List ℕ) (k : ℕ) (a b : Mark) → slice_get (marks_of log) k ≡ Some a
    → slice_get (marks_of log) k ≡ Some b → a ≡ b
same_found log k a b at_a at_b = let both : Some a ≡ Some b = sym at_a ∙ at_b in cc
