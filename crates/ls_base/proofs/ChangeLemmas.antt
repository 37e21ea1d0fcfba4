-- The pages of a state after a change.
use Rattle.std.proofs.Common.{◌≡◌, ℕ, zero, suc, ◌+◌, ◌<◌, ◌≤◌, Bool, true, false, cond, List, [], map, length}
use Rattle.std.proofs.Common.{replicate, Option, Some, None, refl, sym, ap, subst, ◌∙◌, arith}
use Rattle.std.specs.Prelude.{◌==◌, IsSome, unwrap_or}
use Rattle.std.specs.List.{range_with_len, slice_get}
use Rattle.std.specs.Option.{option_or}
use Rattle.std.specs.Ordering.{nat_cmp}
use Rattle.std.specs.Cmp.{nat_cmp_total, unsigned_tied}
use Rattle.std.specs.FinMap.{FinMap, get, insert, get-insert}
use Rattle.std.proofs.lemmas.Bool.{eq-eqb, ne_eqb}
use Rattle.std.proofs.lemmas.List.{length-replicate}
use Rattle.std.proofs.lemmas.List.FromFn.{get_or-map-range_with_len, length-map-range_with_len}
use Rattle.std.proofs.lemmas.Option.{slice_get-get_or, slice_get_within}
use Rattle.ls_base.specs.PageSize.{lock_page}
use Rattle.ls_base.specs.State.{State, IsState, page_of}
use Rattle.ls_base.specs.Change.{Change, IsApplicable, page_after, page_where, apply}
use Rattle.ls_base.proofs.StateLemmas.{page_of-past, page_of-within, page_of-sized, all_from_elements}

-- ---- the pages of a change

-- what a finite map has at the number that was put, below it and above it
pub get-insert_at : {X : Type 0} (m : FinMap nat_cmp X) (k : ℕ) (v : X) → get (insert m k v) k ≡ Some v
get-insert_at m k v = get-insert nat_cmp_total m k v k ∙ ap (λ b. cond b (Some v) (get m k))
    (unsigned_tied k k ∙ eq-eqb k k refl)

other_number : {X : Type 0} (m : FinMap nat_cmp X) (k : ℕ) (v : X) (q : ℕ) → (q ≡ k → ⊥)
    → get (insert m k v) q ≡ get m q
other_number m k v q other = get-insert nat_cmp_total m k v q
    ∙ ap (λ b. cond b (Some v) (get m q)) (unsigned_tied q k ∙ ne_eqb q k other)

pub get-insert_below : {X : Type 0} (m : FinMap nat_cmp X) (k : ℕ) (v : X) (q : ℕ) → q < k
    → get (insert m k v) q ≡ get m q
get-insert_below m k v q below = other_number m k v q (λ is. omega (arith, is, below))

pub get-insert_above : {X : Type 0} (m : FinMap nat_cmp X) (k : ℕ) (v : X) (q : ℕ) → k < q
    → get (insert m k v) q ≡ get m q
get-insert_above m k v q above = other_number m k v q (λ is. omega (arith, is, above))

-- ---- the pages after it

-- the lock page is zeros
pub page_after-lock : (s : State) (c : Change) (p : ℕ) → p ≡ lock_page c.page_size
    → page_after s c p ≡ Some (replicate c.page_size 0)
page_after-lock s c p is = rw (eq-eqb p (lock_page c.page_size) is) refl

-- any other page is the change's, else the state's
pub page_after-other : (s : State) (c : Change) (p : ℕ) → (p ≡ lock_page c.page_size → ⊥)
    → page_after s c p ≡ option_or (get c.pages p) (page_of s p)
page_after-other s c p other = rw (ne_eqb p (lock_page c.page_size) other) refl

pub page_after-below : (s : State) (c : Change) (p : ℕ) → p < lock_page c.page_size
    → page_after s c p ≡ option_or (get c.pages p) (page_of s p)
page_after-below s c p below = page_after-other s c p (λ is. omega (arith, is, below))

some_unwrapped : (o : Option (List ℕ)) → IsSome o → o ≡ Some (unwrap_or o [])
some_unwrapped None h = absurd cc
some_unwrapped (Some x) h = refl

-- as many pages as the change says
pub length-apply : (s : State) (c : Change) → length (apply s c).pages ≡ c.commit
length-apply s c = length-map-range_with_len (λ (p : ℕ). unwrap_or (page_after s c p) []) 1 c.commit

-- page at + 1 after the change, at its place in the list
pub pages-apply : (s : State) (c : Change) (at : ℕ) → at < c.commit → IsSome (page_after s c (at + 1))
    → slice_get (apply s c).pages at ≡ page_after s c (at + 1)
pages-apply s c at below some =
    let f = λ (p : ℕ). unwrap_or (page_after s c p) [] in
    slice_get-get_or (map f (range_with_len 1 c.commit)) at [] (omega (arith, below, length-apply s c))
    ∙ ap (λ (page : List ℕ). Some page) (get_or-map-range_with_len f 1 c.commit at (at + 1) [] below (omega arith))
    ∙ sym (some_unwrapped (page_after s c (at + 1)) some)

-- the page of a number that the state has afterwards
pub page_of-apply : (s : State) (c : Change) (p : ℕ) → IsApplicable s c → 1 ≤ p → p ≤ c.commit
    → page_of (apply s c) p ≡ page_after s c p
page_of-apply s c zero fits low high = absurd (omega (arith, low))
page_of-apply s c (suc n) fits low high =
    let next : n + 1 ≡ suc n = omega arith in
    let some : IsSome (page_after s c (n + 1)) = subst (λ (p : ℕ). IsSome (page_after s c p)) (sym next)
    (fits.each (suc n) low high) in
    pages-apply s c n (omega (arith, high)) some ∙ ap (page_after s c) next

-- and past them there is none
pub page_of-apply_past : (s : State) (c : Change) (p : ℕ) → c.commit < p → page_of (apply s c) p ≡ None
page_of-apply_past s c p past = page_of-past (apply s c) p (omega (arith, past, length-apply s c))

-- ---- what a change makes of a state is a state

same_page : (a b : List ℕ) → ◌≡◌ {A = Option (List ℕ)} (Some a) (Some b) → a ≡ b
same_page a b e = cc

same_number : (a b : ℕ) → ◌≡◌ {A = Option ℕ} (Some a) (Some b) → a ≡ b
same_number a b e = cc

module _ (s : State) (c : Change) (fits : IsApplicable s c) where
  kept_sized : IsState s → (p : ℕ) (page : List ℕ) → page_of s p ≡ Some page → length page ≡ c.page_size
  kept_sized is p page found = let size = page_of-sized s p page is.sized found in size.2 ∙ fits.same_size size.0 size.1

  module _ (sized : (p : ℕ) (page : List ℕ) → get c.pages p ≡ Some page → length page ≡ c.page_size) (is : IsState s)
    where
      either_sized : (o : Option (List ℕ)) (p : ℕ) (page : List ℕ) → get c.pages p ≡ o
          → option_or o (page_of s p) ≡ Some page → length page ≡ c.page_size
      either_sized None p page here found = kept_sized is p page found
      either_sized (Some x) p page here found = sized p page (here ∙ found)

      page_where-sized : (b : Bool) (p : ℕ) (page : List ℕ) → page_where b s c p ≡ Some page → length page ≡ c.page_size
      page_where-sized true p page found = ap length (sym (same_page _ _ found)) ∙ length-replicate c.page_size 0
      page_where-sized false p page found = either_sized (get c.pages p) p page refl found

      -- each page afterwards has the change's page size
      pub page_after-sized : (p : ℕ) (page : List ℕ) → page_after s c p ≡ Some page → length page ≡ c.page_size
      page_after-sized p page found = page_where-sized (p == lock_page c.page_size) p page found

      apply-sized : (k : ℕ) (page : List ℕ) → slice_get (apply s c).pages k ≡ Some page → length page ≡ c.page_size
      apply-sized k page found =
          let within : k < c.commit = omega (arith, slice_get_within (apply s c).pages k page found, length-apply s c) in
          page_after-sized (suc k) page (sym (page_of-apply s c (suc k) fits (omega arith) (omega (arith, within)))
          ∙ found)

      apply-blank : (page : List ℕ) → page_of (apply s c) (lock_page c.page_size) ≡ Some page
          → page ≡ replicate c.page_size 0
      apply-blank page found =
          let within = page_of-within (apply s c) (lock_page c.page_size) page found in
          let high : lock_page c.page_size ≤ c.commit = omega (arith, within.1, length-apply s c) in
          same_page _ _ (sym found ∙ page_of-apply s c (lock_page c.page_size) fits within.0 high
          ∙ page_after-lock s c (lock_page c.page_size) refl)

      -- the state after a change whose pages have its page size
      pub IsState-apply : IsState (apply s c)
      IsState-apply = record {
        sized = all_from_elements (λ (page : List ℕ). length page ≡ c.page_size) (apply s c).pages apply-sized;
        blank = λ size same page found.
            let is_size : c.page_size ≡ size = same_number c.page_size size same in
            subst (λ (n : ℕ). page ≡ replicate n 0) is_size
            (apply-blank page (subst (λ (n : ℕ). page_of (apply s c) (lock_page n) ≡ Some page) (sym is_size) found));
      }
