-- The pages of a piece, by the offsets of the frames.
use Rattle.std.proofs.Common.{◌≡◌, ℕ, ◌+◌, ◌*◌, ◌<◌, ◌≤◌, Bool, true, false, cond, List, [], ◌∷◌, ◌++◌, length, Option}
use Rattle.std.proofs.Common.{Some, None, refl, sym, ap, subst, ◌∙◌, inl, inr, arith}
use Rattle.std.specs.Prelude.{◌⊎◌, ◌≢◌, ◌==◌, is_some}
use Rattle.std.specs.Option.{option_or}
use Rattle.std.specs.FinMap.{get}
use Rattle.wal_frames.specs.declared.header.WalHeader.{WalHeader}
use Rattle.wal_frames.specs.WalFrame.{frame_length, page_number, frame_page}
use Rattle.wal_frames.specs.View.{frames_page}
use Rattle.snapshot_read.specs.Offsets.{offset_in, AreOffsets}
use Rattle.snapshot_read.specs.PageOffsets.{Offsets}
use Rattle.wal_follow.specs.Answers.{AreWanted}
use Rattle.wal_follow.specs.Piece.{least_size}
use Rattle.wal_follow.specs.WantedPages.{AreListed}
use Rattle.wal_follow.proofs.GatherLemmas.{offset_in-append}

-- ---- values that are there

some_of : {A : Type 0} (o : Option A) → (o ≡ None → ⊥) → is_some o ≡ true
some_of None some = absurd (some refl)
some_of (Some x) some = refl

value_of : (o : Option ℕ) → is_some o ≡ true → (x : ℕ) × (o ≡ Some x)
value_of None is = absurd cc
value_of (Some x) is = (x, refl)

none_of : {A : Type 0} (o : Option A) → is_some o ≡ false → o ≡ None
none_of None is = refl
none_of (Some x) is = absurd cc

some_or : (a : Option ℕ) (b : Option (List ℕ)) (c : Bool) (x : ℕ) (y : List ℕ) → is_some a ≡ is_some b
    → is_some (option_or a (cond c (Some x) None)) ≡ is_some (option_or b (cond c (Some y) None))
some_or None None true x y same = refl
some_or None None false x y same = refl
some_or (Some s) (Some t) c x y same = refl
some_or None (Some t) c x y same = absurd cc
some_or (Some s) None c x y same = absurd cc

above_or : (o : Option ℕ) (c : Bool) (start at : ℕ) → ((x : ℕ) → o ≡ Some x → start < x)
    → option_or o (cond c (Some (start + 24)) None) ≡ Some at → start < at
above_or (Some x) c start at later is = let same : x ≡ at = cc in omega (arith, later x refl, same)
above_or None true start at later is = let same : start + 24 ≡ at = cc in omega (arith, same)
above_or None false start at later is = absurd cc

module _ (h : WalHeader) (p : ℕ) where
  -- a page stands behind the start of its frame
  pub offset_above : (start at : ℕ) (frames : List (List ℕ)) → offset_in h p start frames ≡ Some at → start < at
  offset_above start at [] is = absurd cc
  offset_above start at (frame ∷ frames) is =
      above_or (offset_in h p (start + frame_length h) frames) (page_number frame == p) start at
      (λ x there. omega (arith, offset_above (start + frame_length h) x frames there)) is

  -- a page has an offset where a frame has it
  same_there : (start : ℕ) (frames : List (List ℕ))
      → is_some (offset_in h p start frames) ≡ is_some (frames_page p frames)
  same_there start [] = refl
  same_there start (frame ∷ frames) =
      some_or (offset_in h p (start + frame_length h) frames) (frames_page p frames) (page_number frame == p)
      (start + 24) (frame_page frame) (same_there (start + frame_length h) frames)

-- ---- the pages that stand behind an offset

module _ (h : WalHeader) (offsets : Offsets) (start behind : ℕ) (earlier since : List (List ℕ))
    (are : AreOffsets h offsets start (earlier ++ since)) (low : behind ≤ start + length earlier * frame_length h)
    (high : (p at : ℕ) → offset_in h p start earlier ≡ Some at → at ≤ behind) where
  abbrev seam : ℕ
  seam = start + length earlier * frame_length h

  found : (p : ℕ) → get offsets p ≡ option_or (offset_in h p seam since) (offset_in h p start earlier)
  found p = are.each p ∙ offset_in-append h p start earlier since

  -- a page that stands there is one of the frames since
  is_since : (p at : ℕ) → get offsets p ≡ Some at → behind < at → frames_page p since ≢ None
  is_since p at is past none =
      let no_offset : offset_in h p seam since ≡ None =
      none_of (offset_in h p seam since) (same_there h p seam since ∙ ap is_some none) in
      let early = high p at (sym (found p ∙ ap (λ (o : Option ℕ). option_or o (offset_in h p start earlier)) no_offset)
      ∙ is) in
      omega (arith, past, early)

  stands_since : (p : ℕ) → frames_page p since ≢ None → (at : ℕ) × (get offsets p ≡ Some at) × (behind < at)
  stands_since p some =
      let there = value_of (offset_in h p seam since)
      (same_there h p seam since ∙ some_of (frames_page p since) some) in (
        there.0,
        found p ∙ ap (λ (o : Option ℕ). option_or o (offset_in h p start earlier)) there.1,
        omega (arith, low, offset_above h p seam there.0 since there.1),
      )

  changed_by : (least p : ℕ) → ((at : ℕ) × (get offsets p ≡ Some at) × (behind < at)) ⊎ (least < p)
      → (frames_page p since ≢ None) ⊎ (least < p)
  changed_by least p (inl stands) = inl (is_since p stands.0 stands.1 stands.2)
  changed_by least p (inr past) = inr past

  wanted_by : (least p : ℕ) → (frames_page p since ≢ None) ⊎ (least < p)
      → ((at : ℕ) × (get offsets p ≡ Some at) × (behind < at)) ⊎ (least < p)
  wanted_by least p (inl some) = inl (stands_since p some)
  wanted_by least p (inr past) = inr past

  -- the numbers that are listed are those of the piece
  pub are_wanted : (size first commit least : ℕ) (numbers : List ℕ) → least ≡ least_size first since
      → AreListed offsets behind size least commit numbers → AreWanted size first commit since numbers
  are_wanted size first commit least numbers is listed = record {
    rising = listed.rising;
    each = λ p. (
      λ among. let w = (listed.each p).0 among in record {
        from = w.from;
        within = w.within;
        unlocked = w.unlocked;
        changed = subst (λ (n : ℕ). (frames_page p since ≢ None) ⊎ (n < p)) is (changed_by least p w.changed);
      },
      λ changed. (listed.each p).1 (record {
        from = changed.from;
        within = changed.within;
        unlocked = changed.unlocked;
        changed = wanted_by least p (subst (λ (n : ℕ). (frames_page p since ≢ None) ⊎ (n < p)) (sym is)
            changed.changed);
      }),
    );
  }
