-- What stands at a place of a list.
use Rattle.std.proofs.Common.{◌≡◌, ℕ, ◌<◌, ◌≤◌, ◌⊎◌, inl, inr, zero, suc, Bool, true, false, List, [], ◌∷◌, ◌++◌}
use Rattle.std.proofs.Common.{length, get_or, set, take, Some, None, slice_get, refl, sym, ap, ◌∙◌, arith}
use Rattle.std.proofs.lemmas.Bool.{cases_lt}
use Rattle.std.proofs.lemmas.List.{get_or-set_same, get_or-set_other, length-set}
use Rattle.std.proofs.lemmas.Option.{slice_get_within, slice_get-get_or, slice_get_past, get_or_from_slice_get}
use Rattle.std.specs.List.{Contains}

pub push_old : {X : Type 0} (xs : List X) (y : X) (p : ℕ) → p < length xs → slice_get (xs ++ y ∷ []) p ≡ slice_get xs p
push_old [] y p low = absurd (omega (arith, low))
push_old (x ∷ xs) y zero low = refl
push_old (x ∷ xs) y (suc p) low = push_old xs y p (omega (arith, low))

pub push_new : {X : Type 0} (xs : List X) (y : X) → slice_get (xs ++ y ∷ []) (length xs) ≡ Some y
push_new [] y = refl
push_new (x ∷ xs) y = push_new xs y

pub push_cases : {X : Type 0} (xs : List X) (y z : X) (p : ℕ) → slice_get (xs ++ y ∷ []) p ≡ Some z
    → (slice_get xs p ≡ Some z) ⊎ ((p ≡ length xs) × (y ≡ z))
push_cases [] y z zero is = inr (refl, cc)
push_cases [] y z (suc p) is = absurd cc
push_cases (x ∷ xs) y z zero is = inl is
push_cases (x ∷ xs) y z (suc p) is = elim (push_cases xs y z p is)
    [ inl old ↦ inl old | inr new ↦ inr (ap suc new.0, new.1) ]

-- one thing at a place
pub same_at : {X : Type 0} (xs : List X) (i : ℕ) (x y : X) → slice_get xs i ≡ Some x → slice_get xs i ≡ Some y → x ≡ y
same_at xs i x y one other = cc

pub at_index : {X : Type 0} (xs : List X) (i : ℕ) (x : X) → i < length xs → x ≡ get_or xs i x → slice_get xs i ≡ Some x
at_index xs i x low is = slice_get-get_or xs i x low ∙ ap Some (sym is)

pub set_here : {X : Type 0} (xs : List X) (i : ℕ) (x : X) → i < length xs → slice_get (set xs i x) i ≡ Some x
set_here xs i x low = slice_get-get_or (set xs i x) i x (omega (arith, low, length-set xs i x))
    ∙ ap Some (get_or-set_same xs i x x low)

pub set_other : {X : Type 0} (xs : List X) (i k : ℕ) (x : X) → (k ≡ i → ⊥) → slice_get (set xs i x) k ≡ slice_get xs k
set_other xs i k x apart = elim (cases_lt k (length xs)) [
  | inl low ↦ slice_get-get_or (set xs i x) k x (omega (arith, low, length-set xs i x))
      ∙ ap Some (get_or-set_other xs i k x x apart) ∙ sym (slice_get-get_or xs k x low)
  | inr past ↦ slice_get_past (set xs i x) k (omega (arith, past, length-set xs i x)) ∙ sym (slice_get_past xs k past)
]

-- a test at a place
pub test_at : (xs : List Bool) (i : ℕ) → i < length xs → (slice_get xs i ≡ Some true) ⊎ (slice_get xs i ≡ Some false)
test_at xs i low = by_value (get_or xs i true) (slice_get-get_or xs i true low)
  where
    by_value : (b : Bool) → slice_get xs i ≡ Some b → (slice_get xs i ≡ Some true) ⊎ (slice_get xs i ≡ Some false)
    by_value true is = inl is
    by_value false is = inr is

-- a list cut at a place, and one thing behind it
pub cut_before : {X : Type 0} (xs : List X) (i j : ℕ) (y : X) → j < i → i ≤ length xs
    → slice_get (take i xs ++ y ∷ []) j ≡ slice_get xs j
cut_before xs zero j y below low = absurd (omega (arith, below))
cut_before [] (suc i) j y below low = absurd (omega (arith, low))
cut_before (x ∷ xs) (suc i) zero y below low = refl
cut_before (x ∷ xs) (suc i) (suc j) y below low = cut_before xs i j y (omega (arith, below)) (omega (arith, low))

pub cut_at : {X : Type 0} (xs : List X) (i : ℕ) (y : X) → i ≤ length xs → slice_get (take i xs ++ y ∷ []) i ≡ Some y
cut_at xs zero y low = refl
cut_at [] (suc i) y low = absurd (omega (arith, low))
cut_at (x ∷ xs) (suc i) y low = cut_at xs i y (omega (arith, low))

pub cut_behind : {X : Type 0} (xs : List X) (i j : ℕ) (y : X) → i < j → slice_get (take i xs ++ y ∷ []) j ≡ None
cut_behind xs zero zero y above = absurd (omega (arith, above))
cut_behind xs zero (suc j) y above = refl
cut_behind [] (suc i) zero y above = absurd (omega (arith, above))
cut_behind [] (suc i) (suc j) y above = refl
cut_behind (x ∷ xs) (suc i) zero y above = absurd (omega (arith, above))
cut_behind (x ∷ xs) (suc i) (suc j) y above = cut_behind xs i j y (omega (arith, above))

-- what a list contains stands at a place
pub contained_at : {X : Type 0} (xs : List X) (x : X) → Contains xs x → (i : ℕ) × (slice_get xs i ≡ Some x)
contained_at xs x there = (there.0, slice_get-get_or xs there.0 x there.1 ∙ ap Some there.2)

pub contains_at : {X : Type 0} (xs : List X) (i : ℕ) (x : X) → slice_get xs i ≡ Some x → Contains xs x
contains_at xs i x there = (i, slice_get_within xs i x there, get_or_from_slice_get xs i x x there)
