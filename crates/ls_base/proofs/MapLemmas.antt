-- A `BTreeMap` read as a finite map, and the numbers of a finite map in their order.
use Rattle.std.proofs.Common.{◌≡◌, ℕ, zero, suc, ◌<◌, ◌≤◌, Bool, true, false, T, List, [], ◌∷◌, length, get_or, refl}
use Rattle.std.proofs.Common.{ap, sym, ◌∙◌, cond, Option, Some, None, Ordering, inl, inr, arith}
use Rattle.std.specs.Prelude.{◌==◌, is_none, insert as insert_at}
use Rattle.std.specs.declared.cmp.Ordering.TheVariants.{Less, Equal, Greater}
use Rattle.std.specs.List.{AllByRecursion}
use Rattle.std.specs.List.Sorted.{IsStrictlySortedBy, IsStrictlyIncreasing}
use Rattle.std.specs.Ordering.{nat_cmp, is_lt, eq_by_cmp, match_ordering}
use Rattle.std.specs.Cmp.{nat_cmp_total, nat_cmp_is, unsigned_tied}
use Rattle.std.specs.BTreeMap.{insert_entry, is_at}
use Rattle.std.specs.Map.{lookup, keys_of}
use Rattle.std.specs.FinMap.{FinMap, get, insert, keys, entries, entries_sorted, from_entries, find, put, empty}
use Rattle.std.specs.FinMap.{len-empty, len-entries, get-entries, entries-insert, get-from_entries, get-insert}
use Rattle.std.specs.FinMap.{same_map, nat_cmp-IsAntisymmetric}
use Rattle.std.specs.FinMap.Entries.{by_order, find-put, below_all, is_sorted}
use Rattle.std.proofs.lemmas.Bool.{and_parts, eq-eqb, ne_eqb, false≢true, cases_lt}
use Rattle.std.proofs.lemmas.Map.Keys.{sorted_head, sorted_tail, IsStrictlyIncreasing-from_sorted}

same_choice : {A : Type 0} (o : Ordering) (x y z w : A) → z ≡ w → match_ordering o x y z ≡ by_order o x y w
same_choice Less x y z w e = refl
same_choice Equal x y z w e = refl
same_choice Greater x y z w e = e

-- the tree's insertion is the map's
insert_entry-put : {X : Type 0} (es : List (ℕ × X)) (k : ℕ) (v : X) → insert_entry nat_cmp es k v ≡ put nat_cmp k v es
insert_entry-put [] k v = refl
insert_entry-put (e ∷ es) k v = same_choice (nat_cmp k e.0) _ _ _ _ (ap (λ rest. e ∷ rest) (insert_entry-put es k v))

pub from_entries-insert_entry : {X : Type 0} (es : List (ℕ × X)) (k : ℕ) (v : X)
    → from_entries {R = nat_cmp} (insert_entry nat_cmp es k v) ≡ insert (from_entries es) k v
from_entries-insert_entry {X} es k v =
    same_map nat_cmp_total nat_cmp-IsAntisymmetric _ _
    (λ q. get-from_entries nat_cmp_total _ q ∙ ap (find nat_cmp q) (insert_entry-put es k v)
    ∙ find-put nat_cmp nat_cmp_total q k v es
    ∙ ap (λ (found : Option X). cond (eq_by_cmp nat_cmp q k) (Some v) found)
    (sym (get-from_entries nat_cmp_total es q)) ∙ sym (get-insert nat_cmp_total (from_entries es) k v q))

lookup-find : {X : Type 0} (es : List (ℕ × X)) (q : ℕ) → lookup (is_at (nat_cmp q)) es ≡ find nat_cmp q es
lookup-find [] q = refl
lookup-find (e ∷ es) q = ap (λ rest. cond (eq_by_cmp nat_cmp q e.0) (Some e.1) rest) (lookup-find es q)

-- what the tree finds is what the map has
pub get-from_tree : {X : Type 0} (es : List (ℕ × X)) (q : ℕ)
    → get (from_entries {R = nat_cmp} es) q ≡ lookup (is_at (nat_cmp q)) es
get-from_tree es q = get-from_entries nat_cmp_total es q ∙ sym (lookup-find es q)

-- ---- the numbers in their order

less_from_test : (o : Ordering) → is_lt o ≡ true → o ≡ Less
less_from_test Less e = refl
less_from_test Equal e = absurd cc
less_from_test Greater e = absurd cc

below_from_test : {X : Type 0} (k : ℕ) (es : List (ℕ × X)) → below_all nat_cmp k es ≡ true → AllByRecursion
    (λ y. nat_cmp k y ≡ Less) (keys_of es)
below_from_test k [] e = tt
below_from_test k (x ∷ es) e = let parts = and_parts (is_lt (nat_cmp k x.0)) (below_all nat_cmp k es) e in
    (less_from_test (nat_cmp k x.0) parts.0, below_from_test k es parts.1)

sorted_from_test : {X : Type 0} (es : List (ℕ × X)) → is_sorted nat_cmp es ≡ true
    → IsStrictlySortedBy nat_cmp (keys_of es)
unfolding IsStrictlySortedBy
sorted_from_test [] e = tt
sorted_from_test (x ∷ es) e = let parts = and_parts (below_all nat_cmp x.0 es) (is_sorted nat_cmp es) e in
    (below_from_test x.0 es parts.0, sorted_from_test es parts.1)

true_from : (b : Bool) → T b → b ≡ true
true_from true h = refl
true_from false h = absurd h

-- the numbers of a finite map rise
pub keys_rise : {X : Type 0} (m : FinMap nat_cmp X) → IsStrictlySortedBy nat_cmp (keys m)
keys_rise m = sorted_from_test (entries m) (true_from (is_sorted nat_cmp (entries m)) (entries_sorted m))

pub keys_increase : {X : Type 0} (m : FinMap nat_cmp X) → IsStrictlyIncreasing (keys m)
keys_increase m = IsStrictlyIncreasing-from_sorted (keys m) (keys_rise m)

-- ---- the numbers after one more page

found_after : {X : Type 0} (k : ℕ) (x : X) (b : Bool) (o : Option X) → cond b (Some x) o ≡ None → (b ≡ false)
    × (o ≡ None)
found_after k x true o none = absurd cc
found_after k x false o none = (refl, none)

put_less : {X : Type 0} (k : ℕ) (v : X) (e : ℕ × X) (es : List (ℕ × X)) → k < e.0
    → put nat_cmp k v (e ∷ es) ≡ (k, v) ∷ e ∷ es
put_less k v e es below = ap (λ (o : Ordering). by_order o ((k, v) ∷ e ∷ es) ((e.0, v) ∷ es) (e ∷ put nat_cmp k v es))
    (sym (nat_cmp_is k e.0 Less below))

put_equal : {X : Type 0} (k : ℕ) (v : X) (e : ℕ × X) (es : List (ℕ × X)) → k ≡ e.0
    → put nat_cmp k v (e ∷ es) ≡ (e.0, v) ∷ es
put_equal k v e es same = ap (λ (o : Ordering). by_order o ((k, v) ∷ e ∷ es) ((e.0, v) ∷ es) (e ∷ put nat_cmp k v es))
    (sym (nat_cmp_is k e.0 Equal same))

put_greater : {X : Type 0} (k : ℕ) (v : X) (e : ℕ × X) (es : List (ℕ × X)) → e.0 < k
    → put nat_cmp k v (e ∷ es) ≡ e ∷ put nat_cmp k v es
put_greater k v e es above = ap
    (λ (o : Ordering). by_order o ((k, v) ∷ e ∷ es) ((e.0, v) ∷ es) (e ∷ put nat_cmp k v es))
    (sym (nat_cmp_is k e.0 Greater above))

-- the place of a number among others: those before it are below, and those from it on aren't
pub record IsRank (numbers : List ℕ) (k at : ℕ) : Type 0 where
  pub within : at ≤ length numbers
  pub below : (j : ℕ) → j < at → get_or numbers j 0 < k
  pub above : (j : ℕ) → at ≤ j → j < length numbers → k ≤ get_or numbers j 0

rank_later : (n k at : ℕ) (numbers : List ℕ) → IsRank (n ∷ numbers) k (suc at) → IsRank numbers k at
rank_later n k at numbers is = record {
  within = omega (arith, is.within);
  below = λ j low. is.below (suc j) (omega (arith, low));
  above = λ j high fits. is.above (suc j) (omega (arith, high)) (omega (arith, fits));
}

strictly : (a b : ℕ) → a ≤ b → (a ≡ b → ⊥) → a < b
strictly a b least apart = elim (cases_lt a b)
    [ inl low ↦ low | inr high ↦ absurd (apart (omega (arith, least, high))) ]

put-new : {X : Type 0} (es : List (ℕ × X)) (k at : ℕ) (v : X) → find nat_cmp k es ≡ None → IsRank (keys_of es) k at
    → keys_of (put nat_cmp k v es) ≡ insert_at (keys_of es) at k
put-new [] k zero v none is = refl
put-new [] k (suc at) v none is = absurd (omega (arith, is.within))
put-new (e ∷ es) k zero v none is =
    let parts = found_after k e.1 (eq_by_cmp nat_cmp k e.0) (find nat_cmp k es) none in
    let other : k == e.0 ≡ false = sym (unsigned_tied k e.0) ∙ parts.0 in
    let least : k ≤ e.0 = is.above 0 (omega arith) (omega arith) in
    let apart : k ≡ e.0 → ⊥ = λ same. absurd (false≢true (sym other ∙ eq-eqb k e.0 same)) in
    ap keys_of (put_less k v e es (strictly k e.0 least apart))
put-new (e ∷ es) k (suc at) v none is =
    let parts = found_after k e.1 (eq_by_cmp nat_cmp k e.0) (find nat_cmp k es) none in
    ap keys_of (put_greater k v e es (is.below 0 (omega arith)))
    ∙ ap (λ ns. e.0 ∷ ns) (put-new es k at v parts.1 (rank_later e.0 k at (keys_of es) is))

-- a page under a new number
pub keys-insert_new : {X : Type 0} (m : FinMap nat_cmp X) (k at : ℕ) (v : X) → get m k ≡ None → IsRank (keys m) k at
    → keys (insert m k v) ≡ insert_at (keys m) at k
keys-insert_new m k at v none is = ap keys_of (entries-insert nat_cmp_total m k v)
    ∙ put-new (entries m) k at v (sym (get-entries m k) ∙ none) is

-- ---- and after a page under a number that was there

not_less : (o : Ordering) → is_lt o ≡ false → o ≡ Less → ⊥
not_less o other less = absurd (false≢true (sym other ∙ ap is_lt less))

less_is_below : (x y : ℕ) → nat_cmp x y ≡ Less → x < y
less_is_below x y less = elim (cases_lt x y) [
  | inl low ↦ low
  | inr high ↦ elim (cases_lt y x) [
    | inl above ↦ let greater : Greater ≡ nat_cmp x y = nat_cmp_is x y Greater above in absurd
        (not_less Greater refl (greater ∙ less))
    | inr same ↦ let equal : Equal ≡ nat_cmp x y = nat_cmp_is x y Equal (omega (arith, high, same)) in absurd
        (not_less Equal refl (equal ∙ less))
  ]
]

find_below : {X : Type 0} (k x : ℕ) (es : List (ℕ × X)) → k < x → AllByRecursion
    (λ y. nat_cmp x y ≡ Less) (keys_of es) → find nat_cmp k es ≡ None
find_below k x [] low above = refl
find_below k x (e ∷ es) low (first, rest) =
    let apart : k ≡ e.0 → ⊥ = λ same. omega (arith, low, less_is_below x e.0 first, same) in
    let other : eq_by_cmp nat_cmp k e.0 ≡ false = unsigned_tied k e.0 ∙ ne_eqb k e.0 apart in
    ap (λ b. cond b (Some e.1) (find nat_cmp k es)) other ∙ find_below k x es low rest

put-old : {X : Type 0} (es : List (ℕ × X)) (k : ℕ) (v x : X) → IsStrictlySortedBy nat_cmp (keys_of es)
    → find nat_cmp k es ≡ Some x → keys_of (put nat_cmp k v es) ≡ keys_of es
put-old [] k v x rising found = absurd cc
put-old (e ∷ es) k v x rising found = elim (cases_lt k e.0) [
  | inl low ↦
      let apart : k ≡ e.0 → ⊥ = λ same. omega (arith, low, same) in
      let other : eq_by_cmp nat_cmp k e.0 ≡ false = unsigned_tied k e.0 ∙ ne_eqb k e.0 apart in
      let later : find nat_cmp k es ≡ Some x = sym (ap (λ b. cond b (Some e.1) (find nat_cmp k es)) other) ∙ found in
      let none : find nat_cmp k es ≡ None = find_below k e.0 es low (sorted_head nat_cmp e.0 (keys_of es) rising) in
      absurd cc
  | inr high ↦ elim (cases_lt e.0 k) [
    | inr same ↦ ap keys_of (put_equal k v e es (omega (arith, high, same)))
    | inl above ↦
        let apart : k ≡ e.0 → ⊥ = λ same. omega (arith, above, same) in
        let other : eq_by_cmp nat_cmp k e.0 ≡ false = unsigned_tied k e.0 ∙ ne_eqb k e.0 apart in
        let later : find nat_cmp k es ≡ Some x = sym (ap (λ b. cond b (Some e.1) (find nat_cmp k es)) other) ∙ found in
        ap keys_of (put_greater k v e es above) ∙ ap (λ ns. e.0 ∷ ns)
        (put-old es k v x (sorted_tail nat_cmp e.0 (keys_of es) rising) later)
  ]
]

pub keys-insert_old : {X : Type 0} (m : FinMap nat_cmp X) (k : ℕ) (v x : X) → get m k ≡ Some x
    → keys (insert m k v) ≡ keys m
keys-insert_old m k v x found = ap keys_of (entries-insert nat_cmp_total m k v)
    ∙ put-old (entries m) k v x (keys_rise m) (sym (get-entries m k) ∙ found)

no_keys : (ns : List ℕ) → length ns ≡ 0 → ns ≡ []
no_keys [] e = refl
no_keys (n ∷ ns) e = absurd (omega (arith, e))

len_keys : {X : Type 0} (es : List (ℕ × X)) → length (keys_of es) ≡ length es
len_keys [] = refl
len_keys (e ∷ es) = ap suc (len_keys es)

-- no page, no number
pub keys-empty : {X : Type 0} (es : List (ℕ × X)) → es ≡ [] → keys (from_entries {R = nat_cmp} es) ≡ []
keys-empty {X} es none = ap (λ (list : List (ℕ × X)). keys (from_entries {R = nat_cmp} list)) none
    ∙ no_keys (keys (empty {X = X} {R = nat_cmp}))
    (len_keys (entries (empty {X = X} {R = nat_cmp})) ∙ sym (len-entries (empty {X = X} {R = nat_cmp}))
    ∙ len-empty nat_cmp X)

was_none : {X : Type 0} (o : Option X) → is_none o ≡ true → o ≡ None
was_none None e = refl
was_none (Some x) e = absurd cc

was_some : {X : Type 0} (o : Option X) → is_none o ≡ false → (x : X) × (o ≡ Some x)
was_some None e = absurd cc
was_some (Some x) e = (x, refl)

-- ---- what the tree's insertion does to the numbers, by what it found before

module _ {X : Type 0} (before after : List (ℕ × X)) (k : ℕ) (v : X) (found : Option X)
    (inserted : after ≡ insert_entry nat_cmp before k v) (was : found ≡ lookup (is_at (nat_cmp k)) before) where
  pub after-is : from_entries {R = nat_cmp} after ≡ insert (from_entries before) k v
  after-is = ap (λ (es : List (ℕ × X)). from_entries {R = nat_cmp} es) inserted ∙ from_entries-insert_entry before k v

  got : get (from_entries {R = nat_cmp} before) k ≡ found
  got = get-from_tree before k ∙ sym was

  pub numbers_grow : (at : ℕ) → is_none found ≡ true → IsRank (keys (from_entries {R = nat_cmp} before)) k at
      → insert_at (keys (from_entries {R = nat_cmp} before)) at k ≡ keys (from_entries {R = nat_cmp} after)
  numbers_grow at none is = sym (ap keys after-is ∙ keys-insert_new (from_entries before) k at v
      (got ∙ was_none found none) is)

  pub numbers_stay : is_none found ≡ false → keys (from_entries {R = nat_cmp} before) ≡ keys
      (from_entries {R = nat_cmp} after)
  numbers_stay some = let x = was_some found some in
      sym (ap keys after-is ∙ keys-insert_old (from_entries before) k v x.0 (got ∙ x.1))
