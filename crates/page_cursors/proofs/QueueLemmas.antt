-- Queues of waiting cursors, through a put and a pop.
use Rattle.std.proofs.Common.{◌≡◌, ◌≢◌, ℕ, zero, suc, ◌<◌, ◌≤◌, inl, inr, Bool, true, false, cond, eqb, ltb, List, []}
use Rattle.std.proofs.Common.{◌∷◌, length, set, Option, Some, None, refl, sym, ap, ◌∙◌, subst, eq-eqb, arith}
use Rattle.std.specs.Prelude.{slice_get, slice_set, ◌⊎◌, Result, Ok, Err, OnOk}
use Rattle.std.specs.List.{Contains, AllByRecursion}
use Rattle.std.specs.List.Sorted.{IsPermutation}
use Rattle.std.proofs.lemmas.Bool.{cases_eq, ltb-false, le-ltb}
use Rattle.std.proofs.lemmas.List.Sorted.{Contains-permutation}
use Rattle.std.specs.BinaryHeap.{IsUpperBound}
use Rattle.std.specs.Ordering.{nat_cmp, ordering_then, is_lt}
use Rattle.std.specs.declared.cmp.Ordering.{Ordering}
use Rattle.std.specs.declared.cmp.Ordering.TheVariants.{Less, Equal, Greater}
use Rattle.std.specs.declared.cmp.Reverse.{Reverse}
use Rattle.page_cursors.specs.Queue.{Waits, IsLeast, NoneWaits, entry_order, entry_of, HoldsEach, number_above}
use Rattle.std.proofs.lemmas.List.{length-set}

-- ---- lists

pub slice_get-set_other : {X : Type 0} (xs : List X) (i k : ℕ) (v : X) → k ≢ i
    → slice_get (set xs i v) k ≡ slice_get xs k
slice_get-set_other [] i k v other = refl
slice_get-set_other (x ∷ xs) zero zero v other = absurd (other refl)
slice_get-set_other (x ∷ xs) zero (suc k) v other = refl
slice_get-set_other (x ∷ xs) (suc i) zero v other = refl
slice_get-set_other (x ∷ xs) (suc i) (suc k) v other = slice_get-set_other xs i k v (λ e. other (ap (λ n. suc n) e))

pub slice_get-set_same : {X : Type 0} (xs : List X) (i : ℕ) (v : X) → i < length xs → slice_get (set xs i v) i ≡ Some v
slice_get-set_same [] i v low = absurd (omega (arith, low))
slice_get-set_same (x ∷ xs) zero v low = refl
slice_get-set_same (x ∷ xs) (suc i) v low = slice_get-set_same xs i v (omega (arith, low))

contains_head : {X : Type 0} (x : X) (xs : List X) → Contains (x ∷ xs) x
contains_head x xs = (zero, omega arith, refl)

contains_tail : {X : Type 0} (x y : X) (xs : List X) → Contains xs y → Contains (x ∷ xs) y
contains_tail x y xs has = (suc has.0, omega (arith, has.1), has.2)

head_or_tail : {X : Type 0} (x y : X) (xs : List X) → Contains (x ∷ xs) y → (x ≡ y) ⊎ Contains xs y
head_or_tail x y xs (zero, low, e) = inl e
head_or_tail x y xs (suc k, low, e) = inr (k, omega (arith, low), e)

all_contained : {X : Type 0} (P : X → Type 0) (xs : List X) (y : X) → AllByRecursion P xs → Contains xs y → P y
all_contained P [] y all (k, low, e) = absurd (omega (arith, low))
all_contained P (x ∷ xs) y (one, all) (zero, low, e) = subst P e one
all_contained P (x ∷ xs) y (one, all) (suc k, low, e) = all_contained P xs y all (k, omega (arith, low), e)

-- ---- a put

same_number : (a b : ℕ) → ◌≡◌ {A = Option (Option ℕ)} (Some (Some a)) (Some (Some b)) → a ≡ b
same_number a b e = cc

pub put_holds : (entries after : List (Reverse (ℕ × ℕ))) (numbers : List (Option ℕ)) (place number : ℕ)
    → place < length numbers
    → IsPermutation (entry_of number place ∷ entries) after → HoldsEach entries numbers
    → HoldsEach after (slice_set numbers place (Some number))
put_holds entries after numbers place number low moved holds other own waits = elim (cases_eq other place) [
  | inl same ↦
      let is : Some (Some number) ≡ Some (Some own) =
      sym (slice_get-set_same numbers place (Some number) low)
      ∙ subst (λ (k : ℕ). slice_get (set numbers place (Some number)) k ≡ Some (Some own)) same waits in
      subst (λ (k : ℕ). Contains after (entry_of own k)) (sym same)
      (subst (λ (n : ℕ). Contains after (entry_of n place)) (same_number number own is)
      (Contains-permutation (entry_of number place ∷ entries) after (entry_of number place) moved (contains_head
      (entry_of number place) entries)))
  | inr differs ↦
      let before : Waits numbers other own = sym (slice_get-set_other numbers place other (Some number) differs)
      ∙ waits in
      Contains-permutation (entry_of number place ∷ entries) after (entry_of own other) moved
      (contains_tail (entry_of number place) (entry_of own other) entries (holds other own before))
]

-- ---- a pop

-- what waits is the entry that was popped, or is still held
still_held : (entries after : List (Reverse (ℕ × ℕ))) (numbers : List (Option ℕ)) (first : Reverse (ℕ × ℕ))
    → IsPermutation entries (first ∷ after)
    → HoldsEach entries numbers → (place number : ℕ) → Waits numbers place number
    → (first ≡ entry_of number place) ⊎ Contains after (entry_of number place)
still_held entries after numbers first moved holds place number waits =
    head_or_tail first (entry_of number place) after (Contains-permutation entries (first ∷ after)
    (entry_of number place) moved (holds place number waits))

waits_apart : (numbers : List (Option ℕ)) (place number : ℕ) → place < length numbers
    → Waits (slice_set numbers place None) place number → ⊥
waits_apart numbers place number low waits =
    let none : slice_get (set numbers place None) place ≡ Some None = slice_get-set_same numbers place None low in cc
    (none, waits)

-- the popped entry's cursor doesn't wait any more
pub pop_holds : (entries after : List (Reverse (ℕ × ℕ))) (numbers : List (Option ℕ)) (place number : ℕ)
    → place < length numbers
    → IsPermutation entries (entry_of number place ∷ after) → HoldsEach entries numbers
    → HoldsEach after (slice_set numbers place None)
pop_holds entries after numbers place number low moved holds other own waits = elim (cases_eq other place) [
  | inl same ↦ absurd (waits_apart numbers place own low (subst (λ (k : ℕ). Waits
      (slice_set numbers place None) k own) same waits))
  | inr differs ↦
      let before : Waits numbers other own = sym (slice_get-set_other numbers place other None differs) ∙ waits in
      elim (still_held entries after numbers (entry_of number place) moved holds other own before) [
        | inl is ↦ absurd (differs (ap (λ (e : Reverse (ℕ × ℕ)). e.0.1) (sym is)))
        | inr held ↦ held
      ]
]

-- an entry of a cursor that doesn't wait so is passed over
pub pass_holds : (entries after : List (Reverse (ℕ × ℕ))) (numbers : List (Option ℕ)) (place number : ℕ)
    → (Waits numbers place number → ⊥)
    → IsPermutation entries (entry_of number place ∷ after) → HoldsEach entries numbers → HoldsEach after numbers
pass_holds entries after numbers place number not moved holds other own waits =
    elim (still_held entries after numbers (entry_of number place) moved holds other own waits) [
      | inl is ↦ absurd (not (subst (λ (e : Reverse (ℕ × ℕ)). Waits numbers e.0.1 e.0.0) (sym is) waits))
      | inr held ↦ held
    ]

by_tests : (less same : Bool) (rest : Ordering) → is_lt (ordering_then (cond less Less
    (cond same Equal Greater)) rest) ≡ false
    → (less ≡ false) × (same ≡ true → is_lt rest ≡ false)
by_tests true same rest e = absurd cc
by_tests false true rest e = (refl, λ _. e)
by_tests false false rest e = (refl, λ h. absurd cc)

first_part : (x y : ℕ) (rest : Ordering) → is_lt (ordering_then (nat_cmp y x) rest) ≡ false → (x ≤ y) × (y ≡ x
    → is_lt rest ≡ false)
first_part x y rest e = let h = by_tests (ltb y x) (eqb y x) rest e in (
  ltb-false y x h.0,
  λ same. h.1
      (eq-eqb y x same),
)

only_part : (x y : ℕ) → is_lt (nat_cmp y x) ≡ false → x ≤ y
only_part x y e = (first_part x y Equal (is_same (nat_cmp y x) e)).0
  where
    is_same : (o : Ordering) → is_lt o ≡ false → is_lt (ordering_then o Equal) ≡ false
    is_same Less e = e
    is_same Equal e = refl
    is_same Greater e = refl

-- an entry that is no less comes no earlier
no_earlier : (number place own other : ℕ) → is_lt (entry_order (entry_of number place) (entry_of own other)) ≡ false
    → (number ≤ own) × (own ≡ number → place ≤ other)
no_earlier number place own other e =
    let parts = first_part number own (nat_cmp other place) e in (parts.0, λ same. only_part place other (parts.1 same))

held_order : (after : List (Reverse (ℕ × ℕ))) (number place own other : ℕ)
    → IsUpperBound entry_order (entry_of number place) after
    → (entry_of number place ≡ entry_of own other) ⊎ Contains after (entry_of own other)
    → (number ≤ own) × (own ≡ number → place ≤ other)
held_order after number place own other upper (inl is) =
    let numbers = ap (λ (e : Reverse (ℕ × ℕ)). e.0.0) is in let places = ap (λ (e : Reverse (ℕ × ℕ)). e.0.1) is in
    (omega (arith, numbers), λ _. omega (arith, places))
held_order after number place own other upper (inr held) =
    no_earlier number place own other
    (all_contained (λ (e : Reverse (ℕ × ℕ)). is_lt (entry_order (entry_of number place) e) ≡ false) after
    (entry_of own other) upper held)

pub popped_least : (entries after : List (Reverse (ℕ × ℕ))) (numbers : List (Option ℕ)) (place number : ℕ)
    → Waits numbers place number
    → IsPermutation entries (entry_of number place ∷ after) → IsUpperBound entry_order (entry_of number place) after
    → HoldsEach entries numbers
    → IsLeast numbers (number, place)
popped_least entries after numbers place number waits moved upper holds =
    let order = λ (other own : ℕ) (its : Waits numbers other own).
    held_order after number place own other upper (still_held entries after numbers
    (entry_of number place) moved holds other own its) in
    record {
      waits = waits;
      least = λ other own its. (order other own its).0;
      earliest = λ other its. (order other number its).1 refl;
    }

-- an empty heap holds none
pub none_held : (numbers : List (Option ℕ)) (entries : List (Reverse (ℕ × ℕ))) → length entries ≡ 0
    → HoldsEach entries numbers → NoneWaits numbers
none_held numbers entries none holds place number waits = let has = holds place number waits in omega
    (arith, has.1, none)

-- what holds where a call succeeded
pub when_ok : {T E : Type 0} (r : Result T E) (x : T) (P : Type 0) → r ≡ Ok x → OnOk r P → P
when_ok (Ok y) x P is holds = holds
when_ok (Err e) x P is holds = absurd cc

-- ---- a cursor that was popped is put back

set_twice : {X : Type 0} (xs : List X) (i : ℕ) (v w : X) → set (set xs i v) i w ≡ set xs i w
set_twice [] i v w = refl
set_twice (x ∷ xs) zero v w = refl
set_twice (x ∷ xs) (suc i) v w = ap (λ ys. x ∷ ys) (set_twice xs i v w)

set_same : {X : Type 0} (xs : List X) (i : ℕ) (v : X) → slice_get xs i ≡ Some v → set xs i v ≡ xs
set_same [] i v is = refl
set_same (x ∷ xs) zero v is = let e : x ≡ v = cc in ap (λ y. y ∷ xs) (sym e)
set_same (x ∷ xs) (suc i) v is = ap (λ ys. x ∷ ys) (set_same xs i v is)

pub put_back : (numbers popped after : List (Option ℕ)) (place number : ℕ) → Waits numbers place number
    → popped ≡ slice_set numbers place None
    → after ≡ slice_set popped place (Some number) → after ≡ numbers
put_back numbers popped after place number waits is put =
    put ∙ ap (λ (ns : List (Option ℕ)). slice_set ns place (Some number)) is
    ∙ set_twice numbers place None (Some number) ∙ set_same numbers place (Some number) waits

-- ---- a cursor that doesn't wait waits with the next number

pub put_none : (numbers : List (Option ℕ)) (place last : ℕ) (next : Option ℕ) → slice_get numbers place ≡ Some None
    → number_above last next ≡ None
    → numbers ≡ slice_set numbers place (number_above last next)
put_none numbers place last next waits_not none = sym (ap (λ o. slice_set numbers place o) none
    ∙ set_same numbers place None waits_not)

pub not_above : (last next : ℕ) → next ≤ last → number_above last (Some next) ≡ None
not_above last next low = rw (le-ltb last next low) refl

pub no_next : (last : ℕ) (next : Option ℕ) → ((n : ℕ) → next ≡ Some n → ⊥) → number_above last next ≡ None
no_next last None none = refl
no_next last (Some n) none = absurd (none n refl)

-- the numbers behind a pop and a put at one place
pub popped_here : (numbers popped after : List (Option ℕ)) (place : ℕ) (next : Option ℕ) → place < length numbers
    → popped ≡ slice_set numbers place None → after ≡ slice_set popped place next
    → slice_get after place ≡ Some next
popped_here numbers popped after place next low is put =
    ap (λ ns. slice_get ns place) (put ∙ ap (λ ns. slice_set ns place next) is ∙ set_twice numbers place None next)
    ∙ slice_get-set_same numbers place next low

pub popped_other : (numbers popped after : List (Option ℕ)) (place : ℕ) (next : Option ℕ) (k : ℕ) → k ≢ place
    → popped ≡ slice_set numbers place None → after ≡ slice_set popped place next
    → slice_get after k ≡ slice_get numbers k
popped_other numbers popped after place next k other is put =
    ap (λ ns. slice_get ns k) (put ∙ ap (λ ns. slice_set ns place next) is ∙ set_twice numbers place None next)
    ∙ slice_get-set_other numbers place k next other

pub popped_length : (numbers popped after : List (Option ℕ)) (place : ℕ) (next : Option ℕ)
    → popped ≡ slice_set numbers place None → after ≡ slice_set popped place next → length after ≡ length numbers
popped_length numbers popped after place next is put =
    ap length put ∙ length-set popped place next ∙ ap length is ∙ length-set numbers place None
