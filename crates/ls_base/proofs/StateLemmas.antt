-- States by their pages.
use Rattle.std.proofs.Common.{◌≡◌, ℕ, zero, suc, ◌+◌, ◌*◌, ◌/◌, ◌^◌, ◌<◌, ◌≤◌, List, [], ◌∷◌, length, Option, Some}
use Rattle.std.proofs.Common.{None, refl, ap, subst, ◌∙◌, add-one, arith}
use Rattle.std.specs.List.{slice_get, AllByRecursion}
use Rattle.std.proofs.lemmas.Option.{slice_get_within, slice_get_past}
use Rattle.std.proofs.Math.Nat.{le-div_iff_mul-le}
use Rattle.ls_base.specs.PageSize.{lock_page}
use Rattle.ls_base.specs.State.{State, HasPageSize, page_of}

-- ---- lists by their elements

-- an element that is there
pub there_at : {X : Type 0} (xs : List X) (k : ℕ) → k < length xs → (x : X) × (slice_get xs k ≡ Some x)
there_at [] k below = absurd (omega (arith, below))
there_at (x ∷ xs) zero below = (x, refl)
there_at (x ∷ xs) (suc k) below = there_at xs k (omega (arith, below))

same_element : {X : Type 0} (x y : X) → ◌≡◌ {A = Option X} (Some x) (Some y) → x ≡ y
same_element x y e = cc

-- two lists of one length with the same elements
pub lists_by_elements : {X : Type 0} (xs ys : List X) → length xs ≡ length ys
    → ((k : ℕ) → k < length xs → slice_get xs k ≡ slice_get ys k) → xs ≡ ys
lists_by_elements [] [] count each = refl
lists_by_elements [] (y ∷ ys) count each = absurd (omega (arith, count))
lists_by_elements (x ∷ xs) [] count each = absurd (omega (arith, count))
lists_by_elements (x ∷ xs) (y ∷ ys) count each =
    let first : x ≡ y = same_element x y (each 0 (omega arith)) in
    let rest : xs ≡ ys = lists_by_elements xs ys (omega (arith, count))
    (λ k below. each (suc k) (omega (arith, below))) in
    ap (λ z. z ∷ xs) first ∙ ap (λ zs. y ∷ zs) rest

-- what holds of each element, from each place and at each place
pub all_from_elements : {X : Type 0} (P : X → Type 0) (xs : List X)
    → ((k : ℕ) (x : X) → slice_get xs k ≡ Some x → P x) → AllByRecursion P xs
all_from_elements P [] each = tt
all_from_elements P (x ∷ xs) each = (each 0 x refl, all_from_elements P xs (λ k y is. each (suc k) y is))

pub all_at : {X : Type 0} (P : X → Type 0) (xs : List X) (k : ℕ) (x : X) → AllByRecursion P xs
    → slice_get xs k ≡ Some x → P x
all_at P [] k x all is = absurd cc
all_at P (y ∷ ys) zero x (first, rest) is = subst P (same_element y x is) first
all_at P (y ∷ ys) (suc k) x (first, rest) is = all_at P ys k x rest is

-- ---- the pages of a state

-- page at + 1 stands at this place, counted from 0
pub page_of-next : (s : State) (at : ℕ) → page_of s (at + 1) ≡ slice_get s.pages at
page_of-next s at = rw add-one refl

-- a page that is there
pub page_of-there : (s : State) (p : ℕ) → 1 ≤ p → p ≤ length s.pages → (page : List ℕ) × (page_of s p ≡ Some page)
page_of-there s zero low high = absurd (omega (arith, low))
page_of-there s (suc n) low high = there_at s.pages n (omega (arith, high))

-- a page that is found is there
pub page_of-within : (s : State) (p : ℕ) (page : List ℕ) → page_of s p ≡ Some page → (1 ≤ p) × (p ≤ length s.pages)
page_of-within s zero page e = absurd cc
page_of-within s (suc n) page e = let below = slice_get_within s.pages n page e in (omega arith, omega (arith, below))

-- past the end there is none
pub page_of-past : (s : State) (p : ℕ) → length s.pages < p → page_of s p ≡ None
page_of-past s zero past = refl
page_of-past s (suc n) past = slice_get_past s.pages n (omega (arith, past))

-- two states of one page size, with as many pages and the same ones
pub same_states : (s t : State) → s.page_size ≡ t.page_size → length s.pages ≡ length t.pages
    → ((p : ℕ) → 1 ≤ p → p ≤ length s.pages → page_of s p ≡ page_of t p) → s ≡ t
same_states s t size count each =
    let pages : s.pages ≡ t.pages = lists_by_elements s.pages t.pages count
    (λ k below. each (suc k) (omega arith) (omega (arith, below))) in
    λ i. record { page_size = size i; pages = pages i }

page_sized : (size : Option ℕ) (pages : List (List ℕ)) (k : ℕ) (page : List ℕ) → HasPageSize size pages
    → slice_get pages k ≡ Some page → (n : ℕ) × (size ≡ Some n) × (length page ≡ n)
page_sized None pages k page none found =
    let nothing : slice_get pages k ≡ None = ap (λ (list : List (List ℕ)). slice_get list k) none in
    absurd cc
page_sized (Some n) pages k page all found = (n, refl, all_at (λ (p : List ℕ). length p ≡ n) pages k page all found)

-- each page of a state has its page size
pub page_of-sized : (s : State) (p : ℕ) (page : List ℕ) → HasPageSize s.page_size s.pages → page_of s p ≡ Some page
    → (n : ℕ) × (s.page_size ≡ Some n) × (length page ≡ n)
page_of-sized s zero page sized found = absurd cc
page_of-sized s (suc k) page sized found = page_sized s.page_size s.pages k page sized found

-- ---- the lock page

-- the pages of a file of at most 2^30 bytes are below the lock page
pub below_lock_page : (size count p : ℕ) → 0 < size → count * size ≤ 2 ^ 30 → p ≤ count → p < lock_page size
below_lock_page size count p positive small within =
    let fits : count ≤ 2 ^ 30 / size = (le-div_iff_mul-le {k = size} {x = count} {y = 2 ^ 30} positive).1 small in
    omega (arith, within, fits)
