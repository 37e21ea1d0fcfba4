-- Lists by their places.
use Rattle.std.proofs.Common.{◌≡◌, ℕ, zero, suc, ◌+◌, ◌-◌, ◌<◌, List, [], ◌∷◌, ◌++◌, length, take, Some, refl, sym, ap, subst, ◌∙◌, inl, inr, arith}
use Rattle.std.specs.List.{slice_get}
use Rattle.std.proofs.lemmas.Bool.{cases_lt}
use Rattle.std.proofs.lemmas.Option.{slice_get_within, same_Some}

pub same_by_places : {X : Type 0} (xs ys : List X) → length xs ≡ length ys
    → ((k : ℕ) → k < length xs → slice_get xs k ≡ slice_get ys k) → xs ≡ ys
same_by_places [] [] many same = refl
same_by_places [] (y ∷ ys) many same = absurd (omega (arith, many))
same_by_places (x ∷ xs) [] many same = absurd (omega (arith, many))
same_by_places {X} (x ∷ xs) (y ∷ ys) many same =
    let first : Some x ≡ Some y = same 0 (omega arith) in
    let head : x ≡ y = cc in
    ap (λ (z : X). z ∷ xs) head
    ∙ ap (λ (zs : List X). y ∷ zs)
    (same_by_places xs ys (omega (arith, many)) (λ k below. same (suc k) (omega (arith, below))))

-- ---- one list behind another

pub get-front : {X : Type 0} (xs ys : List X) (k : ℕ) → k < length xs → slice_get (xs ++ ys) k ≡ slice_get xs k
get-front [] ys k below = absurd (omega (arith, below))
get-front (x ∷ xs) ys zero below = refl
get-front (x ∷ xs) ys (suc k) below = get-front xs ys k (omega (arith, below))

pub get-behind : {X : Type 0} (xs ys : List X) (k : ℕ) → slice_get (xs ++ ys) (length xs + k) ≡ slice_get ys k
get-behind [] ys k = let none : 0 + k ≡ k = omega arith in ap (slice_get ys) none
get-behind (x ∷ xs) ys k =
    let one : length (x ∷ xs) + k ≡ suc (length xs + k) = omega arith in
    ap (slice_get (x ∷ (xs ++ ys))) one ∙ get-behind xs ys k

pub get-end : {X : Type 0} (xs : List X) (x : X) → slice_get (xs ++ x ∷ []) (length xs) ≡ Some x
get-end [] x = refl
get-end (y ∷ xs) x = get-end xs x

-- the last of so many items and one
pub record LastOf {X : Type 0} (xs : List X) (n : ℕ) : Type 0 where
  pub front : List X
  pub last : X
  pub is : xs ≡ front ++ last ∷ []
  pub many : length front ≡ n

pub last_of : {X : Type 0} (xs : List X) (n : ℕ) → length xs ≡ n + 1 → LastOf xs n
last_of [] n many = absurd (omega (arith, many))
last_of (x ∷ []) n many = record { front = []; last = x; is = refl; many = omega (arith, many) }
last_of {X} (x ∷ (y ∷ xs)) n many =
    let rest = last_of (y ∷ xs) (n - 1) (omega (arith, many)) in
    record {
      front = x ∷ rest.front;
      last = rest.last;
      is = ap (λ (zs : List X). x ∷ zs) rest.is;
      many = omega (arith, rest.many, many);
    }

-- ---- one place more

pub each_more : {X : Type 0} (P : X → Type 0) (xs : List X) (at : ℕ) (x : X) → slice_get xs at ≡ Some x → P x
    → ((k : ℕ) (y : X) → k < at → slice_get xs k ≡ Some y → P y)
    → (k : ℕ) (y : X) → k < at + 1 → slice_get xs k ≡ Some y → P y
each_more P xs at x found here before k y within is = elim (cases_lt k at) [
  | inl early ↦ before k y early is
  | inr late ↦
      let same : k ≡ at = omega (arith, late, within) in
      subst P (same_Some x y (sym found ∙ ap (slice_get xs) (sym same) ∙ is)) here
]

pub take-next : {X : Type 0} (xs : List X) (k : ℕ) (x : X) → slice_get xs k ≡ Some x
    → take (k + 1) xs ≡ take k xs ++ x ∷ []
take-next {X} xs k x found = ap (λ (n : ℕ). take n xs) (let e : k + 1 ≡ suc k = omega arith in e) ∙ by xs k found
  where
    by : (xs : List X) (k : ℕ) → slice_get xs k ≡ Some x → take (suc k) xs ≡ take k xs ++ x ∷ []
    by [] k found = absurd (omega (arith, slice_get_within [] k x found))
    by (y ∷ ys) zero found = ap (λ (z : X). z ∷ []) (same_Some y x found)
    by (y ∷ ys) (suc k) found = ap (λ (zs : List X). y ∷ zs) (by ys k found)
