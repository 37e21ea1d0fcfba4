-- The merge of files that tell the truth does so too.
use Rattle.std.proofs.Common.{◌≡◌, ◌≢◌, ℕ, ◌+◌, ◌-◌, ◌<◌, ◌≤◌, List, [], ◌∷◌, ◌++◌, length, replicate, Option, Some}
use Rattle.std.proofs.Common.{None, refl, sym, ap, subst, ◌∙◌, inl, inr, arith}
use Rattle.std.specs.Prelude.{map, IsSome, is_some, ◌⊎◌}
use Rattle.std.specs.Option.{option_or}
use Rattle.std.specs.FinMap.{get}
use Rattle.std.proofs.lemmas.Bool.{cases_eq, cases_lt}
use Rattle.ls_base.specs.Change.{Change, IsApplicable, apply, page_after}
use Rattle.ls_base.specs.PageSize.{lock_page}
use Rattle.ls_base.specs.State.{State, page_of}
use Rattle.ls_base.proofs.StateLemmas.{page_of-there, page_of-past, same_states}
use Rattle.ls_base.proofs.ChangeLemmas.{length-apply, page_of-apply, page_after-lock, page_after-other}
use Rattle.page_cursors.specs.LastPages.{last_commit, last_page}
use Rattle.compact_levels.specs.Merged.{IsMerged}

-- ---- what changes of one page size lay over a state

-- The changes lead from a state to another: that has as many pages as the last of them leaves, its lock page is
-- zeros, and
-- each other page is the last one of the changes, else the state's.
pub record LieOver (size : ℕ) (before : State) (changes : List Change) (after : State) : Type 0 where
  pub fits : (n : ℕ) → before.page_size ≡ Some n → n ≡ size
  pub sized : after.page_size ≡ Some size
  pub count : length after.pages ≡ last_commit 0 changes
  pub lock : (p : ℕ) → 1 ≤ p → p ≤ length after.pages → p ≡ lock_page size → page_of after p ≡ Some (replicate size 0)
  pub each : (p : ℕ) → 1 ≤ p → p ≤ length after.pages → p ≢ lock_page size
      → page_of after p ≡ option_or (last_page changes p) (page_of before p)

-- one change
pub lies_over : (s : State) (c : Change) → IsApplicable s c → LieOver c.page_size s (c ∷ []) (apply s c)
lies_over s c fits =
    let count = length-apply s c in
    record {
      fits = fits.same_size;
      sized = refl;
      count = count;
      lock = λ p some low is. page_of-apply s c p fits some (omega (arith, low, count)) ∙ page_after-lock s c p is;
      each = λ p some low other. page_of-apply s c p fits some (omega (arith, low, count))
          ∙ page_after-other s c p other;
    }

-- a page that is in a state
within_state : (s : State) (p : ℕ) (page : List ℕ) → page_of s p ≡ Some page → p ≤ length s.pages
within_state s p page is = elim (cases_lt (length s.pages) p) [
  | inl past ↦ let none = page_of-past s p past in absurd cc
  | inr low ↦ low
]

-- where the rest of the changes has no page, it is that of the state before them
through : (size p : ℕ) (before mid after : State) (c : Change) (rest : List Change) (last : Option (List ℕ))
    → last ≡ last_page rest p
    → LieOver size before (c ∷ []) mid → LieOver size mid rest after → 1 ≤ p → p ≤ length after.pages
    → p ≢ lock_page size
    → option_or last (page_of mid p) ≡ option_or (option_or last (get c.pages p)) (page_of before p)
through size p before mid after c rest (Some page) is first over some low other = refl
through size p before mid after c rest None is first over some low other =
    let found = page_of-there after p some low in
    let own : page_of mid p ≡ Some found.0 = sym (over.each p some low other
    ∙ ap (λ (o : Option (List ℕ)). option_or o (page_of mid p)) (sym is)) ∙ found.1 in
    first.each p some (within_state mid p found.0 own) other

-- the rest of the changes behind the first, which leads to a state between
pub lie_over_then : (size : ℕ) (before mid after : State) (c d : Change) (changes : List Change)
    → LieOver size before (c ∷ []) mid → LieOver size mid (d ∷ changes) after
    → LieOver size before (c ∷ d ∷ changes) after
lie_over_then size before mid after c d changes first rest = record {
  fits = first.fits;
  sized = rest.sized;
  count = rest.count;
  lock = rest.lock;
  each = λ p some low other. rest.each p some low other
      ∙ through size p before mid after c (d ∷ changes) (last_page (d ∷ changes) p) refl first rest some low other;
}

-- where the rest of the changes has no page, it is the first change's, which leads to the state before them from
-- elsewhere
beside : (size p : ℕ) (before other mid after : State) (c : Change) (rest : List Change) (own last : Option (List ℕ))
    → own ≡ get c.pages p → last ≡ last_page rest p
    → LieOver size other (c ∷ []) mid → LieOver size mid rest after → 1 ≤ p → p ≤ length after.pages
    → p ≢ lock_page size
    → page_of after p ≡ option_or last (page_of before p)
    → page_of after p ≡ option_or (option_or last own) (page_of before p)
beside size p before other mid after c rest own (Some page) is none first over some low unlocked found = found
beside size p before other mid after c rest None None is none first over some low unlocked found = found
beside size p before other mid after c rest (Some page) None is none first over some low unlocked found =
    let there = page_of-there after p some low in
    let from_mid = over.each p some low unlocked ∙ ap (λ (o : Option (List ℕ)). option_or o (page_of mid p))
    (sym none) in
    let own : page_of mid p ≡ Some there.0 = sym from_mid ∙ there.1 in
    from_mid ∙ first.each p some (within_state mid p there.0 own) unlocked
    ∙ ap (λ (o : Option (List ℕ)). option_or o (page_of other p)) (sym is)

-- a change before that leads from elsewhere to the state before the rest adds nothing
pub lie_over_beside : (size : ℕ) (before other mid after : State) (c d : Change) (changes : List Change)
    → LieOver size other (c ∷ []) mid → LieOver size mid (d ∷ changes) after → LieOver size before (d ∷ changes) after
    → LieOver size before (c ∷ d ∷ changes) after
lie_over_beside size before other mid after c d changes first rest over = record {
  fits = over.fits;
  sized = over.sized;
  count = over.count;
  lock = over.lock;
  each = λ p some low unlocked. beside size p before other mid after c (d ∷ changes) (get c.pages p)
      (last_page (d ∷ changes) p) refl refl first rest some low unlocked (over.each p some low unlocked);
}

-- ---- the merge applied

module _ (size : ℕ) (before after : State) (changes : List Change) (c : Change)
    (over : LieOver size before changes after)
    (merged : IsMerged c changes) (same : c.page_size ≡ size) where
  merged_after : (p : ℕ) → 1 ≤ p → p ≤ c.commit → page_after before c p ≡ page_of after p
  merged_after p some low =
      let within : p ≤ length after.pages = omega (arith, low, merged.commit, over.count) in
      elim (cases_eq p (lock_page size)) [
        | inl is ↦ page_after-lock before c p (is ∙ ap lock_page (sym same)) ∙ ap (λ (n : ℕ). Some (replicate n 0)) same
            ∙ sym (over.lock p some within is)
        | inr other ↦ page_after-other before c p (λ is. other (is ∙ ap lock_page same))
            ∙ ap (λ (o : Option (List ℕ)). option_or o (page_of before p)) (merged.each p low)
            ∙ sym (over.each p some within other)
      ]

  pub merge_fits : IsApplicable before c
  merge_fits = record {
    same_size = λ n is. over.fits n is ∙ sym same;
    each = λ p some low.
        let there = page_of-there after p some (omega (arith, low, merged.commit, over.count)) in
        ap is_some (merged_after p some low ∙ there.1);
  }

  pub merge_makes : after ≡ apply before c
  merge_makes =
      let count : length after.pages ≡ length (apply before c).pages = over.count ∙ sym merged.commit
      ∙ sym (length-apply before c) in
      same_states after (apply before c) (over.sized ∙ ap (λ (n : ℕ). Some n) (sym same)) count
      (λ p some low. sym (page_of-apply before c p merge_fits some (omega (arith, low, count, length-apply before c))
      ∙ merged_after p some (omega (arith, low, count, length-apply before c))))
