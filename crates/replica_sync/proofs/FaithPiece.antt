-- The change of the file of what was found: the piece, or the whole state.
use Rattle.std.proofs.Common.{◌≡◌, ℕ, ◌≤◌, Bool, cond, true, false, List, [], ◌∷◌, ◌++◌, length, take, drop, Option}
use Rattle.std.proofs.Common.{Some, None, Ok, refl, sym, ap, subst, ◌∙◌, inl, inr, arith}
use Rattle.std.specs.Prelude.{◌≢◌, ◌↔◌, IsSome, ◌==◌, not}
use Rattle.std.specs.Option.{option_or}
use Rattle.std.specs.FinMap.{get}
use Rattle.std.proofs.lemmas.Bool.{cases_lt}
use Rattle.std.proofs.lemmas.List.{take-append-drop}
use Rattle.ls_base.specs.declared.mark.Mark.{Mark}
use Rattle.ls_base.specs.PageSize.{lock_page}
use Rattle.ls_base.specs.State.{State, page_of}
use Rattle.ls_base.specs.Change.{Change}
use Rattle.wal_frames.specs.declared.fault.NotValid.{NotValid}
use Rattle.wal_frames.specs.declared.fault.NotValid.TheVariants.{Salt, Zero, Sum}
use Rattle.wal_frames.specs.declared.header.WalHeader.{WalHeader}
use Rattle.wal_frames.specs.WalFormat.{read_header}
use Rattle.wal_frames.specs.WalFrame.{page_number, frame_page}
use Rattle.wal_frames.specs.ValidPrefix.{fault_behind, if_valid, valid_behind, valid_frames}
use Rattle.wal_frames.specs.View.{frames_up_to, frames_to, frames_page, view_at}
use Rattle.wal_frames.proofs.MarkLemmas.{valid_is}
use Rattle.wal_frames.proofs.ViewLemmas.{is_view}
use Rattle.live_gate.proofs.StillLegalLemmas.{frames_page-append}
use Rattle.replica_store.proofs.FaithLemmas.{there_with, is_there}
use Rattle.wal_follow.specs.declared.answer.Found.{Found}
use Rattle.wal_follow.specs.declared.answer.Wanted.{Wanted}
use Rattle.wal_follow.specs.declared.answer.Wanted.TheVariants.{All, Listed}
use Rattle.wal_follow.specs.Answers.{AreWanted}
use Rattle.wal_follow.specs.Piece.{least_size, IsChanged, IsPieceSince, IsWhole}
use Rattle.wal_follow.proofs.MakesLemmas.{since_page}
use Rattle.replica_sync.specs.Pages.{IsToStore, IsWanted}

-- ---- no valid frame has the page number 0

zero_test : (salts zero same : Bool) → cond (not salts) (Some Salt)
    (cond zero (Some Zero) (cond (not same) (Some Sum) None)) ≡ None → zero ≡ false
zero_test false zero same e = absurd cc
zero_test true false same e = refl
zero_test true true same e = absurd cc

option_none : {A : Type 0} (a b : Option A) → a ≡ None → b ≡ None → option_or a b ≡ None
option_none {A} a b first second = ap (λ (x : Option A). option_or x b) first ∙ second

first_none : {A : Type 0} (a b : Option A) → option_or a b ≡ None → a ≡ None
first_none None b e = refl
first_none (Some x) b e = absurd cc

second_none : {A : Type 0} (a b : Option A) → option_or a b ≡ None → b ≡ None
second_none None b e = e
second_none (Some x) b e = absurd cc

numbered : (front : List ℕ) (h : WalHeader) (before : List (List ℕ)) (frame : List ℕ)
    → fault_behind front h before frame ≡ None → (page_number frame == 0) ≡ false
unfolding fault_behind
numbered front h before frame e = zero_test _ (page_number frame == 0) _ e

if_valid_none : (front : List ℕ) (h : WalHeader) (before : List (List ℕ)) (frame : List ℕ) (others : List (List ℕ))
    (fault : Option NotValid) → fault_behind front h before frame ≡ fault → frames_page 0 others ≡ None
    → frames_page 0 (if_valid fault frame others) ≡ None
if_valid_none front h before frame others (Some fault) is none = refl
if_valid_none front h before frame others None is none =
    option_none (frames_page 0 others) _ none
    (ap (λ (b : Bool). cond b (Some (frame_page frame)) None) (numbered front h before frame is))

behind_none : (front : List ℕ) (h : WalHeader) (before frames : List (List ℕ))
    → frames_page 0 (valid_behind front h before frames) ≡ None
behind_none front h before [] = refl
behind_none front h before (frame ∷ frames) =
    if_valid_none front h before frame (valid_behind front h (before ++ frame ∷ []) frames)
    (fault_behind front h before frame) refl (behind_none front h (before ++ frame ∷ []) frames)

no_page_zero : (log : List ℕ) (h : WalHeader) (q : Mark) (earlier since : List (List ℕ)) → read_header log ≡ Ok h
    → frames_to h (valid_frames log) q ≡ earlier ++ since → frames_page 0 since ≡ None
no_page_zero log h q earlier since accepted split =
    let n = frames_up_to h q in
    let all : frames_page 0 (valid_frames log) ≡ None =
    ap (frames_page 0) (valid_is log h accepted) ∙ behind_none (take 24 log) h [] _ in
    let parts : option_or (frames_page 0 (drop n (valid_frames log)))
    (frames_page 0 (take n (valid_frames log))) ≡ None =
    sym (frames_page-append 0 (take n (valid_frames log)) (drop n (valid_frames log)))
    ∙ ap (frames_page 0) (take-append-drop n (valid_frames log)) ∙ all in
    let upto : frames_page 0 (take n (valid_frames log)) ≡ None = second_none _ _ parts in
    first_none _ _ (sym (frames_page-append 0 earlier since) ∙ ap (frames_page 0) (sym split) ∙ upto)

-- ---- the change of what was found

by_option : {X P : Type 0} (o : Option X) → (o ≡ None → P) → ((x : X) → o ≡ Some x → P) → P
by_option None none some = none refl
by_option (Some x) none some = some x refl

-- it has exactly the wanted pages, and each is this state's
pub record HasPagesOf (found : Found) (c : Change) (s : State) : Type 0 where
  pub size : c.page_size ≡ found.size
  pub commit : c.commit ≡ found.commit
  pub numbers : (p : ℕ) → IsSome (get c.pages p) ↔ IsWanted found p
  pub pages : (p : ℕ) (page : List ℕ) → get c.pages p ≡ Some page → page_of s p ≡ Some page

module _ (found : Found) (c : Change) (s : State) (has : HasPagesOf found c s) where
  -- a wanted page is the state's
  pub wanted_page : (p : ℕ) → IsWanted found p → get c.pages p ≡ page_of s p
  wanted_page p wanted =
      there_with (get c.pages p) ((has.numbers p).1 wanted) (λ page is. is ∙ sym (has.pages p page is))

  -- and there is no other
  pub other_page : (p : ℕ) → (IsWanted found p → ⊥) → get c.pages p ≡ None
  other_page p never =
      by_option (get c.pages p) (λ none. none)
      (λ page is. absurd (never ((has.numbers p).0 (is_there (get c.pages p) page is))))

-- the piece
module _ (file log : List ℕ) (h : WalHeader) (earlier since : List (List ℕ)) (q : Mark)
    (accepted : read_header log ≡ Ok h)
    (split : frames_to h (valid_frames log) q ≡ earlier ++ since) (found : Found) (c : Change)
    (has : HasPagesOf found c (view_at file log q)) (size : found.size ≡ h.size) (commit : found.commit ≡ q.commit)
    (start : ℕ) (numbers : List ℕ) (listed : found.wanted ≡ Listed numbers)
    (wanted : AreWanted h.size start q.commit since numbers) where
  abbrev least : ℕ
  least = least_size start since

  count : c.commit ≡ q.commit
  count = has.commit ∙ commit

  many : length (view_at file log q).pages ≡ q.commit
  many = (is_view log h accepted file q).many

  is_wanted : (p : ℕ) → IsChanged h.size least c.commit since p → IsWanted found p
  is_wanted p changed =
      subst (λ (w : Wanted). IsToStore w found.size found.commit p) (sym listed)
      ((wanted.each p).1 (subst (λ (n : ℕ). IsChanged h.size least n since p) count changed))

  is_changed : (p : ℕ) → IsWanted found p → IsChanged h.size least c.commit since p
  is_changed p is =
      subst (λ (n : ℕ). IsChanged h.size least n since p) (sym count)
      ((wanted.each p).0 (subst (λ (w : Wanted). IsToStore w found.size found.commit p) listed is))

  some_none : (page : List ℕ) → ◌≡◌ {A = Option (List ℕ)} (Some page) None → ⊥
  some_none page e = cc

  written : (p : ℕ) (page : List ℕ) → p ≤ c.commit → p ≢ lock_page h.size → frames_page p since ≡ Some page
      → get c.pages p ≡ Some page
  written p page high other is =
      elim (cases_lt 0 p) [
        | inl low ↦
            wanted_page found c (view_at file log q) has p (is_wanted p (record {
              from = omega (arith, low);
              within = high;
              unlocked = other;
              changed = inl (λ none. some_none page (sym is ∙ none));
            }))
            ∙ since_page file log h earlier since q accepted split p page (omega (arith, low))
            (omega (arith, high, count, many)) other is
        | inr none ↦
            let zero : p ≡ 0 = omega (arith, none) in
            absurd (some_none page (sym is ∙ ap (λ (n : ℕ). frames_page n since) zero
            ∙ no_page_zero log h q earlier since accepted split))
      ]

  pub is_piece : IsPieceSince h.size start since (view_at file log q) c
  is_piece = record {
    page_size = has.size ∙ size;
    commit = count ∙ sym many;
    written = written;
    regrown = λ p grown. wanted_page found c (view_at file log q) has p (is_wanted p (record {
      from = omega (arith, grown.behind);
      within = grown.within;
      unlocked = grown.unlocked;
      changed = inr grown.behind;
    }));
    none = λ p not. other_page found c (view_at file log q) has p (λ is. not (is_changed p is));
  }

-- the whole state
pub is_whole : (found : Found) (c : Change) (s : State) → HasPagesOf found c s → found.wanted ≡ All
    → found.commit ≡ length s.pages → IsWhole found.size s c
is_whole found c s has all commit =
    let to_store = λ (p : ℕ) (is : IsToStore All found.size found.commit p).
    subst (λ (w : Wanted). IsToStore w found.size found.commit p) (sym all) is in
    let stored = λ (p : ℕ) (is : IsWanted found p).
    subst (λ (w : Wanted). IsToStore w found.size found.commit p) all is in
    record {
      page_size = has.size;
      commit = has.commit ∙ commit;
      each = λ p low high other. wanted_page found c s has p (to_store p (low, omega (arith, high, has.commit), other));
      lock = other_page found c s has (lock_page found.size) (λ is. (stored (lock_page found.size) is).2 refl);
      none = λ p past. other_page found c s has p (λ is. let high = (stored p is).1 in omega
          (arith, high, past, has.commit));
    }
