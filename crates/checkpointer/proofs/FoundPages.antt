-- The pages that were found in a log, as those of its frames.
use Rattle.std.proofs.Common.{◌≡◌, ◌≢◌, ◌∙◌, ℕ, ◌+◌, ◌-◌, ◌*◌, ◌/◌, ◌≤◌, Bool, List, [], ◌∷◌, ◌++◌, length, take}
use Rattle.std.proofs.Common.{drop, cond, eqb, Option, Some, None, Ok, sym, ap, subst, refl, arith}
use Rattle.std.specs.Option.{option_or}
use Rattle.std.specs.Ordering.{nat_cmp}
use Rattle.std.specs.List.{Contains}
use Rattle.std.specs.BTreeMap.{BTreeMap, get}
use Rattle.std.proofs.Math.Nat.{div-mul-le_self}
use Rattle.std.proofs.lemmas.Nat.{le-div}
use Rattle.std.proofs.lemmas.List.{take-append-drop, take-take}
use Rattle.ls_base.specs.declared.mark.Mark.{Mark}
use Rattle.wal_frames.specs.declared.header.WalHeader.{WalHeader}
use Rattle.wal_frames.specs.WalFormat.{read_header}
use Rattle.wal_frames.specs.WalFrame.{frame_length, page_number, frame_page}
use Rattle.wal_frames.specs.ValidPrefix.{if_accepted, valid_frames, frames_under}
use Rattle.wal_frames.specs.Marks.{marks_of, last_mark_of}
use Rattle.wal_frames.specs.View.{frames_up_to, frames_to, frames_page}
use Rattle.wal_frames.proofs.LogLemmas.{last_is_greatest}
use Rattle.wal_frames.proofs.MarkLemmas.{valid_is}
use Rattle.wal_frames.proofs.ViewLemmas.{frames_to_cut, accepted_front}
use Rattle.checkpointer.specs.Copying.{AreWithin}
use Rattle.checkpointer.specs.Finding.{IsFound}
use Rattle.checkpointer.specs.Gathering.{StandsFrom}
use Rattle.checkpointer.specs.PairState.{log_page_size, IsFromFile}
use Rattle.checkpointer.proofs.GatherLemmas.{stands_more}
use Rattle.checkpointer.proofs.RestartLemmas.{none_last}

-- ---- frames in front of others

or_none : (found older : Option (List ℕ)) → option_or found older ≡ None → (found ≡ None) × (older ≡ None)
or_none None older e = (refl, e)
or_none (Some page) older e = absurd cc

none_in_front : (p : ℕ) (frames others : List (List ℕ)) → frames_page p (frames ++ others) ≡ None
    → frames_page p frames ≡ None
none_in_front p [] others e = refl
none_in_front p (frame ∷ frames) others e =
    let one = cond (eqb (page_number frame) p) (Some (frame_page frame)) None in
    let both = or_none (frames_page p (frames ++ others)) one e in
    ap (λ (found : Option (List ℕ)). option_or found one) (none_in_front p frames others both.0) ∙ both.1

fewer_frames : (h : WalHeader) (mark last : Mark) → mark.end ≤ last.end → frames_up_to h mark ≤ frames_up_to h last
fewer_frames h mark last before =
    let n = frame_length h in
    let most : (mark.end - 32) / n * n ≤ mark.end - 32 = div-mul-le_self (mark.end - 32) n in
    le-div ((mark.end - 32) / n) (last.end - 32) n (omega arith) (omega (arith, most, before))

-- a page that no frame up to a mark has, none up to an earlier one has
pub none_earlier : (h : WalHeader) (frames : List (List ℕ)) (mark last : Mark) (p : ℕ) → mark.end ≤ last.end
    → frames_page p (frames_to h frames last) ≡ None → frames_page p (frames_to h frames mark) ≡ None
none_earlier h frames mark last p before none =
    let a = frames_up_to h mark in
    let b = frames_up_to h last in
    let front : take a (take b frames) ≡ take a frames = take-take a b frames (fewer_frames h mark last before) in
    ap (frames_page p) (sym front) ∙ none_in_front p (take a (take b frames)) (drop a (take b frames))
    (ap (frames_page p) (take-append-drop a (take b frames)) ∙ none)

-- ---- a page by where it stands

pub stands_some : (size : ℕ) (log : List ℕ) (at : ℕ) (page : Option (List ℕ)) → StandsFrom size log (Some at) page
    → (page ≡ Some (take size (drop at log))) × (at + size ≤ length log)
stands_some size log at None stands = absurd stands
stands_some size log at (Some page) stands = (ap (λ (xs : List ℕ). Some xs) stands.1, stands.0)

pub stands_none : (size : ℕ) (log : List ℕ) (page : Option (List ℕ)) → StandsFrom size log None page → page ≡ None
stands_none size log None stands = refl
stands_none size log (Some page) stands = absurd stands

module _ (log : List ℕ) (upto : ℕ) (h : WalHeader) (pages : BTreeMap ℕ ℕ) (mark : Mark) (is_last : Bool)
    (found : IsFound log upto h pages mark is_last) where
  abbrev pub front_frames : List (List ℕ)
  front_frames = frames_to h (frames_under h log) mark

  frames_same : valid_frames (take upto log) ≡ front_frames
  frames_same =
      let accepted = subst (λ (n : ℕ). read_header (take n log) ≡ Ok h) found.end
      (accepted_front log h found.head mark found.is_mark) in
      valid_is (take upto log) h accepted ∙ ap (λ (n : ℕ). frames_under h (take n log)) (sym found.end)
      ∙ sym (frames_to_cut log h found.head mark found.is_mark)

  pub stands_at : (p : ℕ) → StandsFrom h.size log (get nat_cmp pages p) (frames_page p front_frames)
  stands_at p =
      subst (λ (fs : List (List ℕ)). StandsFrom h.size log (get nat_cmp pages p) (frames_page p fs)) frames_same
      (subst (λ (xs : List ℕ). StandsFrom h.size xs (get nat_cmp pages p)
      (frames_page p (valid_frames (take upto log)))) (take-append-drop upto log)
      (stands_more h.size (take upto log) (drop upto log) (get nat_cmp pages p)
      (frames_page p (valid_frames (take upto log))) (found.offsets p)))

  pub page_found : (p at : ℕ) → get nat_cmp pages p ≡ Some at
      → (frames_page p front_frames ≡ Some (take h.size (drop at log))) × (at + h.size ≤ length log)
  page_found p at is = stands_some h.size log at (frames_page p front_frames)
      (subst (λ (o : Option ℕ). StandsFrom h.size log o (frames_page p front_frames)) is (stands_at p))

  pub page_absent : (p : ℕ) → get nat_cmp pages p ≡ None → frames_page p front_frames ≡ None
  page_absent p is = stands_none h.size log (frames_page p front_frames)
      (subst (λ (o : Option ℕ). StandsFrom h.size log o (frames_page p front_frames)) is (stands_at p))

  pub are_within : AreWithin h.size pages log
  are_within p at is = (page_found p at is).1

  -- there is a last mark
  pub has_last : (last : Option Mark) → last_mark_of log ≡ last → (m : Mark) × (last_mark_of log ≡ Some m)
  has_last None e =
      let among : Contains [] mark = subst (λ (ms : List Mark). Contains ms mark) (none_last (marks_of log) None e).0
      found.is_mark in
      absurd (omega (arith, among.1))
  has_last (Some m) e = (m, e)

  pub size_is : log_page_size log ≡ h.size
  size_is = rw found.head refl

  -- a page that was found isn't one that the last mark leaves to the database file
  pub not_left : (last : Mark) → last_mark_of log ≡ Some last → (p n at : ℕ) → IsFromFile log last p
      → get nat_cmp pages n ≡ Some at → p ≢ n
  not_left last e p n at left is same =
      let page = page_found n at is in
      let accepted : if_accepted (read_header log) (λ k. frames_page p (frames_to k (valid_frames log) last)) None
      ≡ frames_page p (frames_to h (valid_frames log) last) =
      ap (λ r. if_accepted r (λ k. frames_page p (frames_to k (valid_frames log) last)) None) found.head in
      let none : frames_page p (frames_to h (frames_under h log) last) ≡ None =
      ap (λ (fs : List (List ℕ)). frames_page p (frames_to h fs last)) (sym (valid_is log h found.head))
      ∙ sym accepted ∙ left.unframed in
      let earlier = none_earlier h (frames_under h log) mark last p (last_is_greatest log mark last found.is_mark e)
      none in
      let both : Some (take h.size (drop at log)) ≡ None = sym page.0
      ∙ ap (λ (k : ℕ). frames_page k front_frames) (sym same) ∙ earlier in
      absurd cc
