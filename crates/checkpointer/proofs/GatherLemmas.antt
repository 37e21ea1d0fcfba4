-- One frame more, and where its page stands.
use Rattle.std.proofs.Common.{◌≡◌, ◌∙◌, ℕ, ◌+◌, ◌-◌, ◌≤◌, Bool, true, false, cond, eqb, ltb, is_eq, Less, Equal}
use Rattle.std.proofs.Common.{Greater, List, [], ◌∷◌, ◌++◌, length, take, drop, Option, Some, None, sym, ap, subst}
use Rattle.std.proofs.Common.{refl, inl, inr, arith, length-append}
use Rattle.std.specs.Option.{option_or}
use Rattle.std.specs.Ordering.{nat_cmp}
use Rattle.std.specs.BTreeMap.{BTreeMap, get, Updates, is_at}
use Rattle.std.specs.Map.{lookup}
use Rattle.std.proofs.lemmas.Bool.{cases_eq, eq-eqb, ne_eqb}
use Rattle.std.proofs.lemmas.List.{drop-take, drop-drop, drop-append-le, take-append-le, length-drop}
use Rattle.wal_frames.specs.declared.header.WalHeader.{WalHeader}
use Rattle.wal_frames.specs.WalFrame.{frame_length, page_number, frame_page}
use Rattle.wal_frames.specs.ValidPrefix.{valid_behind, whole_frames, valid_frames}
use Rattle.wal_frames.proofs.CutLemmas.{quotient}
use Rattle.wal_frames.specs.Marks.{end_of}
use Rattle.wal_frames.specs.View.{frames_page}
use Rattle.wal_frames.specs.Scanned.{Scanned, HasTaken, EndsFrame}
use Rattle.wal_frames.specs.LogLaws.{StandsAt}
use Rattle.wal_frames.proofs.MarkLemmas.{valid_is, end-more}
use Rattle.wal_frames.proofs.LogLemmas.{frame_stands}
use Rattle.checkpointer.specs.Gathering.{StandsFrom, HasGathered}

-- the page of the last frame counts
or_last : (last : Bool) (page : List ℕ) (older : Option (List ℕ)) (first : Option (List ℕ))
    → option_or (cond last (Some page) older) first ≡ cond last (Some page) (option_or older first)
or_last true page older first = refl
or_last false page older first = refl

or_none : (last : Bool) (page : List ℕ) → option_or None (cond last (Some page) None) ≡ cond last (Some page) None
or_none true page = refl
or_none false page = refl

pub frames_page-push : (p : ℕ) (frames : List (List ℕ)) (frame : List ℕ)
    → frames_page p (frames ++ frame ∷ []) ≡ cond (eqb (page_number frame) p) (Some (frame_page frame))
    (frames_page p frames)
frames_page-push p [] frame = or_none (eqb (page_number frame) p) (frame_page frame)
frames_page-push p (first ∷ frames) frame =
    let one = cond (eqb (page_number first) p) (Some (frame_page first)) None in
    ap (λ (found : Option (List ℕ)). option_or found one) (frames_page-push p frames frame)
    ∙ or_last (eqb (page_number frame) p) (frame_page frame) (frames_page p frames) one

not_at : (below same : Bool) → same ≡ false → is_eq (cond below Less (cond same Equal Greater)) ≡ false
not_at true same e = refl
not_at false false e = refl
not_at false true e = absurd cc

-- what stands in a log stands in each longer one
pub stands_more : (size : ℕ) (log x : List ℕ) (at : Option ℕ) (page : Option (List ℕ)) → StandsFrom size log at page
    → StandsFrom size (log ++ x) at page
stands_more size log x None None stands = tt
stands_more size log x None (Some page) stands = stands
stands_more size log x (Some at) None stands = stands
stands_more size log x (Some at) (Some page) stands =
    let within : at + size ≤ length log = stands.0 in
    let here : drop at (log ++ x) ≡ drop at log ++ x = drop-append-le at log x (omega (arith, within)) in
    let front : take size (drop at log ++ x) ≡ take size (drop at log) = take-append-le size (drop at log) x
    (omega (arith, within, length-drop at log)) in
    (omega (arith, within, length-append log x), stands.1 ∙ sym front ∙ ap (λ (xs : List ℕ). take size xs) (sym here))

module _ (log x : List ℕ) (old new : Scanned) (head : new.head ≡ old.head) where
  pub gather_none : (pages : BTreeMap ℕ ℕ) → HasGathered log old pages → HasTaken new (log ++ x)
      → valid_frames (log ++ x) ≡ valid_frames log → HasGathered (log ++ x) new pages
  gather_none pages g taken same = record {
    taken = taken;
    offsets = λ p.
        subst (λ (h : WalHeader). StandsFrom h.size (log ++ x) (get nat_cmp pages p)
        (frames_page p (valid_frames (log ++ x)))) (sym head)
        (subst (λ (fs : List (List ℕ)). StandsFrom old.head.size (log ++ x) (get nat_cmp pages p) (frames_page p fs))
        (sym same)
        (stands_more old.head.size log x (get nat_cmp pages p) (frames_page p (valid_frames log)) (g.offsets p)));
  }

  module _ (number commit end : ℕ) (taken : HasTaken new (log ++ x))
      (ends : EndsFrame log (log ++ x) number commit end) (is_end : end ≡ new.end) where
    abbrev h : WalHeader
    h = new.head

    -- the page of the frame stands before its end
    page_stands : StandsFrom new.head.size (log ++ x) (Some (end - new.head.size)) (Some (frame_page ends.frame))
    page_stands =
        let before = valid_frames log in
        let stands : StandsAt new.head (log ++ x) (end_of new.head before) ends.frame = frame_stands (log ++ x)
        new.head before ends.frame [] taken.accepted ends.next in
        let at = end_of new.head before in
        let total : end ≡ at + frame_length new.head =
        is_end ∙ taken.is_end ∙ ap (end_of new.head) (sym (valid_is (log ++ x) new.head taken.accepted) ∙ ends.next)
        ∙ end-more new.head before ends.frame in
        let from : end - new.head.size ≡ at + 24 = omega (arith, total) in
        let within = stands.within in
        let page : drop 24 ends.frame ≡ take new.head.size (drop (at + 24) (log ++ x)) =
        ap (drop 24) stands.bytes ∙ drop-take 24 new.head.size (drop at (log ++ x))
        ∙ ap (λ (xs : List ℕ). take new.head.size xs) (drop-drop 24 at (log ++ x)) in
        (omega (arith, from, within), page ∙ ap (λ (n : ℕ). take new.head.size (drop n (log ++ x))) (sym from))

    pub gather_more : (pages more : BTreeMap ℕ ℕ) (offset : ℕ) → HasGathered log old pages
        → Updates nat_cmp pages more number (Some offset) → offset ≡ end - new.head.size
        → HasGathered (log ++ x) new more
    gather_more pages more offset g updates is = record {
      taken = taken;
      offsets = λ p.
          subst (λ (fs : List (List ℕ)). StandsFrom new.head.size (log ++ x) (get nat_cmp more p) (frames_page p fs))
          (sym ends.next)
          (subst (λ (page : Option (List ℕ)). StandsFrom new.head.size (log ++ x) (get nat_cmp more p) page)
          (sym (frames_page-push p (valid_frames log) ends.frame))
          (elim (cases_eq number p) [
            | inl same ↦
                let test : eqb (page_number ends.frame) p ≡ true = eq-eqb (page_number ends.frame) p
                (sym ends.is_number ∙ same) in
                let found : get nat_cmp more p ≡ Some (end - new.head.size) = ap (get nat_cmp more) (sym same)
                ∙ updates.1 ∙ ap (λ (n : ℕ). Some n) is in
                subst (λ (hit : Bool). StandsFrom new.head.size (log ++ x) (get nat_cmp more p)
                (cond hit (Some (frame_page ends.frame)) (frames_page p (valid_frames log)))) (sym test)
                (subst (λ (at : Option ℕ). StandsFrom new.head.size (log ++ x) at (Some (frame_page ends.frame)))
                (sym found) page_stands)
            | inr apart ↦
                let test : eqb (page_number ends.frame) p ≡ false = ne_eqb (page_number ends.frame) p
                (λ same. apart (ends.is_number ∙ same)) in
                let found : get nat_cmp more p ≡ get nat_cmp pages p = updates.2 p
                (not_at (ltb number p) (eqb number p) (ne_eqb number p apart)) in
                subst (λ (hit : Bool). StandsFrom new.head.size (log ++ x) (get nat_cmp more p)
                (cond hit (Some (frame_page ends.frame)) (frames_page p (valid_frames log)))) (sym test)
                (subst (λ (at : Option ℕ). StandsFrom new.head.size (log ++ x) at (frames_page p (valid_frames log)))
                (sym found)
                (subst (λ (k : WalHeader). StandsFrom k.size (log ++ x) (get nat_cmp pages p)
                (frames_page p (valid_frames log))) (sym head)
                (stands_more old.head.size log x (get nat_cmp pages p) (frames_page p (valid_frames log))
                (g.offsets p))))
          ]));
    }

-- a log that is a header alone has no frame
no_frames : (h : WalHeader) (log : List ℕ) → length log ≡ 32 → whole_frames h log ≡ []
unfolding whole_frames
no_frames h log len = rw (quotient (length log - 32) (frame_length h) 0 0 (omega (arith, len)) (omega arith)) refl

pub gather_begins : (log : List ℕ) (scan : Scanned) (pages : BTreeMap ℕ ℕ) → length log ≡ 32 → HasTaken scan log
    → pages.entries ≡ [] → HasGathered log scan pages
gather_begins log scan pages len taken empty =
    let none : valid_frames log ≡ [] = valid_is log scan.head taken.accepted
    ∙ ap (valid_behind (take 24 log) scan.head []) (no_frames scan.head log len) in
    record {
      taken = taken;
      offsets = λ p.
          subst (λ (fs : List (List ℕ)). StandsFrom scan.head.size log (get nat_cmp pages p) (frames_page p fs))
          (sym none)
          (subst (λ (es : List (ℕ × ℕ)). StandsFrom scan.head.size log (lookup (is_at (nat_cmp p)) es) None)
          (sym empty) tt);
    }
