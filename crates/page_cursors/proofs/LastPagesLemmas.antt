-- The last pages of changes make their state.
use Rattle.std.proofs.Common.{◌≡◌, ◌≢◌, ℕ, ◌<◌, ◌≤◌, inl, inr, List, [], ◌∷◌, length, replicate, Option, Some, None}
use Rattle.std.proofs.Common.{refl, sym, ap, ◌∙◌, subst, arith}
use Rattle.std.specs.Prelude.{IsSome, is_some}
use Rattle.std.specs.Option.{option_or}
use Rattle.std.specs.FinMap.{get}
use Rattle.std.proofs.lemmas.Bool.{cases_lt, cases_eq}
use Rattle.ls_base.specs.Change.{Change, IsApplicable, apply, page_after}
use Rattle.ls_base.specs.PageSize.{lock_page}
use Rattle.ls_base.specs.State.{State, empty_state, page_of}
use Rattle.ls_base.proofs.ChangeLemmas.{page_after-lock, page_after-other, length-apply, page_of-apply}
use Rattle.ls_base.proofs.StateLemmas.{page_of-there, page_of-past}
use Rattle.replica_store.specs.Applying.{AppliesTo, LacksPage}
use Rattle.page_cursors.specs.LastPages.{last_page, last_commit, HoldsNew, HoldNew, HaveSize, MakesOfLastPages}
use Rattle.page_cursors.specs.LastPages.{IsFirstLackingOf}

-- ---- options

or_first : (a b : Option (List ℕ)) → IsSome a → IsSome (option_or a b)
or_first None b some = absurd cc
or_first (Some x) b some = refl

or_second : (a b : Option (List ℕ)) → IsSome b → IsSome (option_or a b)
or_second None b some = some
or_second (Some x) b some = refl

or_thrice : (a b c : Option (List ℕ)) → option_or a (option_or b c) ≡ option_or (option_or a b) c
or_thrice None b c = refl
or_thrice (Some x) b c = refl

or_any : (a b c d : Option (List ℕ)) → IsSome a → option_or a b ≡ option_or (option_or a c) d
or_any None b c d some = absurd cc
or_any (Some x) b c d some = refl

some_is : (o : Option (List ℕ)) (x : List ℕ) → o ≡ Some x → IsSome o
some_is o x e = ap is_some e

-- ---- pages that come later

-- a page above those before is held by some change
later_held : (size before : ℕ) (changes : List Change) → HaveSize size changes → HoldNew before changes → (p : ℕ)
    → before < p
    → p ≤ last_commit before changes → p ≢ lock_page size → IsSome (last_page changes p)
later_held size before [] sized hold p above within unlocked = absurd (omega (arith, above, within))
later_held size before (c ∷ changes) (is, sized) (holds, hold) p above within unlocked = elim (cases_lt c.commit p) [
  | inl past ↦ or_first (last_page changes p) (get c.pages p)
      (later_held size c.commit changes sized hold p past within unlocked)
  | inr here ↦ or_second (last_page changes p) (get c.pages p) (holds p above here (λ e. unlocked (e
      ∙ ap lock_page is)))
]

-- ---- one change

fits_each : (s : State) (c : Change) → HoldsNew (length s.pages) c → (p : ℕ) → 1 ≤ p → p ≤ c.commit
    → IsSome (page_after s c p)
fits_each s c holds p low high = elim (cases_eq p (lock_page c.page_size)) [
  | inl lock ↦ some_is (page_after s c p) (replicate c.page_size 0) (page_after-lock s c p lock)
  | inr open_page ↦ subst (λ (o : Option (List ℕ)). IsSome o) (sym (page_after-other s c p open_page)) (elim
      (cases_lt (length s.pages) p) [
        | inl above ↦ or_first (get c.pages p) (page_of s p) (holds p above high open_page)
        | inr within ↦ let page = page_of-there s p low within in or_second (get c.pages p) (page_of s p) (some_is
            (page_of s p) page.0 page.1)
      ])
]

-- what the changes make of a state
record Made (size : ℕ) (s : State) (changes : List Change) : Type 0 where
  state : State
  applies : AppliesTo s changes state
  count : length state.pages ≡ last_commit (length s.pages) changes
  lock : ((p : ℕ) → p ≡ lock_page size → 1 ≤ p → p ≤ length s.pages → page_of s p ≡ Some (replicate size 0))
      → (p : ℕ) → p ≡ lock_page size → 1 ≤ p → p ≤ last_commit (length s.pages) changes
      → page_of state p ≡ Some (replicate size 0)
  others : (p : ℕ) → 1 ≤ p → p ≤ last_commit (length s.pages) changes → p ≢ lock_page size
      → page_of state p ≡ option_or (last_page changes p) (page_of s p)

same_number : (a b : ℕ) → ◌≡◌ {A = Option ℕ} (Some a) (Some b) → a ≡ b
same_number a b e = cc

module _ (size : ℕ) (s : State) (c : Change) (changes : List Change) (is : c.page_size ≡ size)
    (sized : HaveSize size changes)
    (fits : IsApplicable s c) (hold : HoldNew c.commit changes) where
  abbrev after : State
  after = apply s c

  -- a page afterwards is that of the later changes, of this one, or of the state before
  one_more : (p : ℕ) → 1 ≤ p → p ≤ last_commit c.commit changes → p ≢ lock_page size
      → option_or (last_page changes p) (page_of after p) ≡ option_or (last_page (c ∷ changes) p) (page_of s p)
  one_more p low within unlocked = elim (cases_lt c.commit p) [
    | inl past ↦ or_any (last_page changes p) (page_of after p) (get c.pages p) (page_of s p)
        (later_held size c.commit changes sized hold p past within unlocked)
    | inr here ↦ ap (option_or (last_page changes p)) (page_of-apply s c p fits low here
        ∙ page_after-other s c p (λ e. unlocked (e ∙ ap lock_page is)))
        ∙ or_thrice (last_page changes p) (get c.pages p) (page_of s p)
  ]

  lock_after : (p : ℕ) → p ≡ lock_page size → 1 ≤ p → p ≤ length after.pages → page_of after p ≡ Some (replicate size 0)
  lock_after p lock low high =
      page_of-apply s c p fits low (omega (arith, high, length-apply s c)) ∙ page_after-lock s c p (lock
      ∙ ap lock_page (sym is))
      ∙ ap (λ (n : ℕ). Some (replicate n 0)) is

made : (size : ℕ) (s : State) (changes : List Change) → ((n : ℕ) → s.page_size ≡ Some n → n ≡ size)
    → HaveSize size changes
    → HoldNew (length s.pages) changes → Made size s changes
made size s [] before sized hold = record {
  state = s;
  applies = refl;
  count = refl;
  lock = λ is p lock low high. is p lock low high;
  others = λ p low high unlocked. refl;
}
made size s (c ∷ changes) before (is, sized) (holds, hold) =
    let fits : IsApplicable s c = record { same_size = λ n e. before n e ∙ sym is; each = fits_each s c holds } in
    let count = length-apply s c in
    let next = made size (apply s c) changes (λ n e. sym (same_number c.page_size n e) ∙ is) sized
    (subst (λ (n : ℕ). HoldNew n changes) (sym count) hold) in
    let commit : last_commit (length (apply s c).pages) changes ≡ last_commit c.commit changes = ap (λ
    (n : ℕ). last_commit n changes) count in
    record {
      state = next.state;
      applies = (fits, next.applies);
      count = next.count ∙ commit;
      lock = λ _ p lock low high. next.lock (lock_after size s c changes is sized fits hold) p lock low (omega
          (arith, high, commit));
      others = λ p low high unlocked.
          next.others p low (omega (arith, high, commit)) unlocked
          ∙ one_more size s c changes is sized fits hold p low high unlocked;
    }

or_none : (o : Option (List ℕ)) → option_or o None ≡ o
or_none None = refl
or_none (Some x) = refl

none_is_number : (n size : ℕ) → ◌≡◌ {A = Option ℕ} None (Some n) → n ≡ size
none_is_number n size e = absurd cc

pub make_states : (size : ℕ) (changes : List Change) → HaveSize size changes → HoldNew 0 changes
    → (state : State) × MakesOfLastPages size changes state
make_states size changes sized hold =
    let all = made size empty_state changes (λ n e. none_is_number n size e) sized hold in (
      all.state,
      record {
        applies = all.applies;
        count = all.count;
        lock = λ p lock within. all.lock (λ q is low high. absurd (omega (arith, low, high))) p lock (omega
            (arith, lock)) within;
        others = λ p low within unlocked. all.others p low within unlocked
            ∙ ap (option_or (last_page changes p)) (page_of-past empty_state p (omega (arith, low)))
            ∙ or_none (last_page changes p);
      },
    )

pub lacking_is_missing : (s : State) (c : Change) (number : ℕ) → IsFirstLackingOf (length s.pages) c number
    → LacksPage s c number
lacking_is_missing s c number is = record {
  positive = omega (arith, is.above);
  within = is.within;
  missing = page_after-other s c number is.unlocked
      ∙ ap (λ (o : Option (List ℕ)). option_or o (page_of s number)) is.lacking
      ∙ page_of-past s number is.above;
  least = λ p low below. elim (cases_eq p (lock_page c.page_size)) [
    | inl lock ↦ some_is (page_after s c p) (replicate c.page_size 0) (page_after-lock s c p lock)
    | inr open_page ↦ subst (λ (o : Option (List ℕ)). IsSome o) (sym (page_after-other s c p open_page)) (elim
        (cases_lt (length s.pages) p) [
          | inl above ↦ or_first (get c.pages p) (page_of s p) (is.least p above below open_page)
          | inr within ↦ let page = page_of-there s p low within in or_second (get c.pages p) (page_of s p) (some_is
              (page_of s p) page.0 page.1)
        ])
  ];
}
