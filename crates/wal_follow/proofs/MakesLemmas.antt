-- A piece applied to a state that has what the piece leaves out.
use Rattle.std.proofs.Common.{◌≡◌, ℕ, ◌<◌, ◌≤◌, Bool, cond, List, ◌++◌, length, replicate, Option, Some, None, Ok, refl}
use Rattle.std.proofs.Common.{sym, ap, subst, ◌∙◌, inl, inr, arith}
use Rattle.std.specs.Prelude.{◌⊎◌, ◌≢◌, IsSome, unwrap_or}
use Rattle.std.specs.Option.{option_or}
use Rattle.std.specs.FinMap.{get}
use Rattle.std.proofs.lemmas.Bool.{cases_lt, cases_eq, ne_eqb}
use Rattle.ls_base.specs.PageSize.{lock_page}
use Rattle.ls_base.specs.State.{State, IsState, empty_state, page_of}
use Rattle.ls_base.specs.Change.{Change, IsApplicable, page_after, apply}
use Rattle.ls_base.proofs.StateLemmas.{page_of-there, same_states}
use Rattle.ls_base.proofs.ChangeLemmas.{page_after-lock, page_after-other, length-apply, page_of-apply}
use Rattle.ls_base.specs.declared.mark.Mark.{Mark}
use Rattle.wal_frames.specs.declared.header.WalHeader.{WalHeader}
use Rattle.wal_frames.specs.WalFormat.{read_header}
use Rattle.wal_frames.specs.ValidPrefix.{valid_frames}
use Rattle.wal_frames.specs.View.{frames_to, frames_page, file_page, unless_locked, view_at}
use Rattle.wal_frames.proofs.ViewLemmas.{is_view}
use Rattle.live_gate.proofs.StillLegalLemmas.{frames_page-append}
use Rattle.wal_follow.specs.Piece.{least_size, IsChanged, IsPieceSince, IsWhole}
use Rattle.wal_follow.specs.PieceLaws.{Makes}

-- ---- a change that has each page of a state that another lacks

module _ (before : State) (c : Change) (after : State) (size : ℕ)
    (is_size : c.page_size ≡ size) (is_commit : c.commit ≡ length after.pages)
    (is : IsState after) (has_size : after.page_size ≡ Some size)
    (same_size : (n : ℕ) → before.page_size ≡ Some n → n ≡ size)
    (each : (p : ℕ) → 1 ≤ p → p ≤ length after.pages → (p ≡ lock_page size → ⊥)
    → option_or (get c.pages p) (page_of before p) ≡ page_of after p) where
  blank_there : (p : ℕ) → 1 ≤ p → p ≤ length after.pages → p ≡ lock_page size
      → page_of after p ≡ Some (replicate size 0)
  blank_there p low high lock =
      let there = page_of-there after p low high in
      there.1 ∙ ap (λ (page : List ℕ). Some page) (is.blank size has_size there.0 (ap (page_of after) (sym lock)
      ∙ there.1))

  each_after : (p : ℕ) → 1 ≤ p → p ≤ length after.pages → page_after before c p ≡ page_of after p
  each_after p low high =
      elim (cases_eq p (lock_page size)) [
        | inl lock ↦
            page_after-lock before c p (lock ∙ ap lock_page (sym is_size))
            ∙ ap (λ (n : ℕ). Some (replicate n 0)) is_size ∙ sym (blank_there p low high lock)
        | inr other ↦
            page_after-other before c p (λ lock. other (lock ∙ ap lock_page is_size)) ∙ each p low high other
      ]

  applicable : IsApplicable before c
  applicable = record {
    same_size = λ n of. same_size n of ∙ sym is_size;
    each = λ p low high.
        let within : p ≤ length after.pages = omega (arith, high, is_commit) in
        let there = page_of-there after p low within in
        subst IsSome (sym (each_after p low within ∙ there.1)) refl;
  }

  pub makes : Makes before c after
  makes = record {
    fits = applicable;
    gives = same_states (apply before c) after (ap (λ (n : ℕ). Some n) is_size
        ∙ sym has_size) (length-apply before c ∙ is_commit) (λ p low high.
        let within : p ≤ length after.pages = omega (arith, high, length-apply before c, is_commit) in
        page_of-apply before c p applicable low (omega (arith, within, is_commit)) ∙ each_after p low within);
  }

-- ---- a whole state

pub whole_makes : (size : ℕ) (view : State) (c : Change) → IsState view → view.page_size ≡ Some size
    → IsWhole size view c → Makes empty_state c view
whole_makes size view c is has_size whole =
    makes empty_state c view size whole.page_size whole.commit is has_size (λ n none. absurd cc)
    (λ p low high other.
    let there = page_of-there view p low high in
    ap (λ (o : Option (List ℕ)). option_or o (page_of empty_state p)) (whole.each p low (omega
    (arith, high, whole.commit)) other ∙ there.1) ∙ sym there.1)

-- ---- a piece

some_or_none : (o : Option (List ℕ)) → ((page : List ℕ) × (o ≡ Some page)) ⊎ (o ≡ None)
some_or_none None = inr refl
some_or_none (Some page) = inl (page, refl)

module _ (file log : List ℕ) (h : WalHeader) (earlier since : List (List ℕ)) (q : Mark)
    (accepted : read_header log ≡ Ok h) (split : frames_to h (valid_frames log) q ≡ earlier ++ since) where
  abbrev view : State
  view = view_at file log q

  is : IsState view
  is = (is_view log h accepted file q).is_state

  many : length view.pages ≡ q.commit
  many = (is_view log h accepted file q).many

  -- what a frame since then has is the view's
  pub since_page : (p : ℕ) (page : List ℕ) → 1 ≤ p → p ≤ length view.pages → (p ≡ lock_page h.size → ⊥)
      → frames_page p since ≡ Some page → page_of view p ≡ Some page
  since_page p page low high other found =
      let last : frames_page p (frames_to h (valid_frames log) q) ≡ Some page = ap (frames_page p) split
      ∙ frames_page-append p earlier since ∙ ap (λ (o : Option (List ℕ)). option_or o
      (frames_page p earlier)) found in
      (is_view log h accepted file q).each p low (omega (arith, high, many))
      ∙ ap (λ (o : Option (List ℕ)). Some (unless_locked h.size p (unwrap_or o (file_page h.size file p)))) last
      ∙ ap (λ (b : Bool). Some (cond b (replicate h.size 0) page)) (ne_eqb p (lock_page h.size) other)

  module _ (start : ℕ) (c : Change) (piece : IsPieceSince h.size start since view c) where
    abbrev least : ℕ
    least = least_size start since

    abbrev Changed : ℕ → Type 0
    Changed p = IsChanged h.size least c.commit since p

    within : (p : ℕ) → p ≤ c.commit → p ≤ length view.pages
    within p high = omega (arith, high, piece.commit)

    -- what the piece has of a page that belongs to it
    changed_page : (p : ℕ) → Changed p → get c.pages p ≡ page_of view p
    changed_page p is =
        elim (some_or_none (frames_page p since)) [
          | inl found ↦
              piece.written p found.0 is.within is.unlocked found.1
              ∙ sym (since_page p found.0 is.from (within p is.within) is.unlocked found.1)
          | inr none ↦
              piece.regrown p (record {
                behind = behind_least is.changed none;
                within = is.within;
                unlocked =
                    is.unlocked;
                unwritten = none;
              })
        ]
      where
        behind_least : {p : ℕ} → (frames_page p since ≢ None) ⊎ (least < p) → frames_page p since ≡ None → least < p
        behind_least (inl some) none = absurd (some none)
        behind_least (inr behind) none = behind

    changed_or : (p : ℕ) → Changed p ⊎ (Changed p → ⊥)
    changed_or p =
        elim (cases_lt 0 p) [
          | inr none ↦ inr (λ is. omega (arith, none, is.from))
          | inl low ↦ elim (cases_lt c.commit p) [
            | inl past ↦ inr (λ is. omega (arith, past, is.within))
            | inr high ↦ elim (cases_eq p (lock_page h.size)) [
              | inl lock ↦ inr (λ is. is.unlocked lock)
              | inr other ↦ elim (some_or_none (frames_page p since)) [
                | inl found ↦
                    inl (record {
                      from = omega (arith, low);
                      within = high;
                      unlocked = other;
                      changed = inl
                          (λ none. absurd (differ (sym found.1 ∙ none)));
                    })
                | inr none ↦ elim (cases_lt least p) [
                  | inl behind ↦ inl (record {
                    from = omega
                        (arith, low);
                    within = high;
                    unlocked = other;
                    changed = inr behind;
                  })
                  | inr kept ↦ inr (λ is. neither is.changed none kept)
                ]
              ]
            ]
          ]
        ]
      where
        differ : {page : List ℕ} → ◌≡◌ {A = Option (List ℕ)} (Some page) None → ⊥
        differ e = cc

        neither : {p : ℕ} → (frames_page p since ≢ None) ⊎ (least < p) → frames_page p since ≡ None → p ≤ least → ⊥
        neither (inl some) none kept = some none
        neither (inr behind) none kept = omega (arith, behind, kept)

    -- each page of a piece is the view's
    pub piece_page : (p : ℕ) (page : List ℕ) → get c.pages p ≡ Some page → page_of view p ≡ Some page
    piece_page p page found =
        elim (changed_or p) [
          | inl is ↦ sym (changed_page p is) ∙ found
          | inr not ↦ absurd (none_found (sym (piece.none p not) ∙ found))
        ]
      where
        none_found : {page : List ℕ} → ◌≡◌ {A = Option (List ℕ)} None (Some page) → ⊥
        none_found e = cc

    -- A state that has the view's pages where the piece has none becomes the view.
    pub piece_makes : (before : State) → ((n : ℕ) → before.page_size ≡ Some n → n ≡ h.size)
        → ((p : ℕ) → 1 ≤ p → p ≤ length view.pages → p ≤ least → frames_page p since ≡ None
        → page_of before p ≡ page_of view p)
        → Makes before c view
    piece_makes before same_size kept =
        makes before c view h.size piece.page_size piece.commit is (is_view log h accepted file q).size same_size
        (λ p low high other.
        elim (changed_or p) [
          | inl is ↦
              let there = page_of-there view p low high in
              ap (λ (o : Option (List ℕ)). option_or o (page_of before p)) (changed_page p is ∙ there.1)
              ∙ sym there.1
          | inr not ↦
              ap (λ (o : Option (List ℕ)). option_or o (page_of before p)) (piece.none p not)
              ∙ elim (some_or_none (frames_page p since)) [
                | inl found ↦
                    absurd (not (record {
                      from = low;
                      within = omega
                          (arith, high, piece.commit);
                      unlocked = other;
                      changed = inl (λ none. absurd (some_none
                          (sym found.1 ∙ none)));
                    }))
                | inr none ↦ elim (cases_lt least p) [
                  | inl behind ↦ absurd (not (record {
                    from = low;
                    within = omega
                        (arith, high, piece.commit);
                    unlocked = other;
                    changed = inr behind;
                  }))
                  | inr below ↦ kept p low high below none
                ]
              ]
        ])
      where
        some_none : {page : List ℕ} → ◌≡◌ {A = Option (List ℕ)} (Some page) None → ⊥
        some_none e = cc

    -- applied to its own result it changes nothing
    pub piece_stays : Makes view c view
    piece_stays = piece_makes view (λ n of. sizes (sym of
        ∙ (is_view log h accepted file q).size)) (λ p low high below none. refl)
      where
        sizes : {n m : ℕ} → ◌≡◌ {A = Option ℕ} (Some n) (Some m) → n ≡ m
        sizes e = cc
