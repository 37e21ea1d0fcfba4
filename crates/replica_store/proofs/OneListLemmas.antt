-- Files have one list of names.
use Rattle.std.proofs.Common.{◌≡◌, ℕ, suc, ◌<◌, List, [], ◌∷◌, length, get_or, Bool, true, false, ◌||◌, Ordering, Less}
use Rattle.std.proofs.Common.{Equal, Greater, refl, sym, ap, subst, ◌∙◌, arith}
use Rattle.std.specs.Cmp.{IsTotalOrder, both_ways, eq_by_cmp_equiv}
use Rattle.std.specs.Cmp.Lexicographic.{nat_list_cmp_total}
use Rattle.std.specs.List.{IsDistinct, All, AllByRecursion, list_any}
use Rattle.std.specs.List.Sorted.{IsStrictlySortedBy}
use Rattle.std.specs.Ordering.{nat_cmp, ordering_then, ordering_reverse, is_lt}
use Rattle.std.proofs.lemmas.Cmp.{nat_cmp_total, on_total, then_total, tied_itself}
use Rattle.std.proofs.lemmas.List.Elements.{All-head, All-tail}
use Rattle.std.proofs.lemmas.List.Sorted.{ranks_by, sorted_far}
use Rattle.std.proofs.lemmas.Map.Lookups.{exact_unsigned}
use Rattle.std.proofs.lemmas.Map.Views.{Contains-from_any, list_any-from_Contains}
use Rattle.crash_disk.specs.Files.{Files, is_name}
use Rattle.crash_disk.proofs.FileLaws.{is_name-same, is_name-other}
use Rattle.crash_disk.proofs.NumberLaws.{by_names}
use Rattle.replica_store.specs.declared.file_name.FileName.{FileName}
use Rattle.replica_store.specs.Chain.{list_order}
use Rattle.replica_store.specs.Listing.{path_of, paths_of, IsValid, AreListed}
use Rattle.replica_store.specs.ListLaws.{OneList}
use Rattle.replica_store.proofs.PathLemmas.{same_parts, one_file_name}

order_total : IsTotalOrder list_order
order_total = then_total (on_total (λ (n : FileName). n.level) nat_cmp_total)
    (then_total (on_total (λ (n : FileName). n.min) nat_cmp_total) (on_total (λ (n : FileName). n.max) nat_cmp_total))

both_equal : (a b : Ordering) → ordering_then a b ≡ Equal → (a ≡ Equal) × (b ≡ Equal)
both_equal Less b e = absurd cc
both_equal Equal b e = (refl, e)
both_equal Greater b e = absurd cc

same_order : (x y : FileName) → list_order x y ≡ Equal → x ≡ y
same_order x y e =
    let first = both_equal (nat_cmp x.level y.level) _ e in
    let second = both_equal (nat_cmp x.min y.min) _ first.1 in
    same_parts x y (exact_unsigned x.level y.level first.0) (exact_unsigned x.min y.min second.0)
    (exact_unsigned x.max y.max second.1)

by_order : {P : Type 0} (o : Ordering) → (o ≡ Less → P) → (o ≡ Equal → P) → (o ≡ Greater → P) → P
by_order Less less equal greater = less refl
by_order Equal less equal greater = equal refl
by_order Greater less equal greater = greater refl

not_both : {P : Type 0} (b : Bool) → b ≡ true → b ≡ false → P
not_both b holds fails = let e : true ≡ false = sym holds ∙ fails in absurd cc

-- ---- a list in order, whose names differ, rises

below : (x y : FileName) → is_lt (list_order y x) ≡ false → is_name (path_of x) (path_of y) ≡ false
    → list_order x y ≡ Less
below x y order differ =
    by_order (list_order x y) (λ less. less)
    (λ equal. not_both _ (ap (λ z. is_name (path_of x) (path_of z)) (sym (same_order x y equal))
    ∙ is_name-same (path_of x)) differ)
    (λ greater. not_both _ (ap is_lt (order_total.antisymm y x ∙ ap ordering_reverse greater)) order)

all_below : (x : FileName) (xs : List FileName)
    → ((j : ℕ) (d : FileName) → j < length xs → is_lt (list_order (get_or xs j d) x) ≡ false)
    → AllByRecursion (λ p. is_name (path_of x) p ≡ false) (paths_of xs) → AllByRecursion (λ y. list_order x y ≡ Less) xs
all_below x [] order differ = tt
all_below x (y ∷ ys) order differ = (
  below x y (order 0 y (omega arith)) differ.0,
  all_below x ys
      (λ j d within. order (suc j) d (omega arith)) differ.1,
)

rises : (xs : List FileName) →
    ((i j : ℕ) (d : FileName) → i < j → j < length xs → is_lt (list_order (get_or xs j d) (get_or xs i d)) ≡ false)
    → IsDistinct is_name (paths_of xs)
    → IsStrictlySortedBy list_order xs
unfolding IsDistinct IsStrictlySortedBy
rises [] order differ = tt
rises (x ∷ xs) order differ = (
  all_below x xs (λ j d within. order 0 (suc j) d (omega arith) (omega arith)) differ.0,
  rises xs
      (λ i j d before within. order (suc i) (suc j) d (omega arith) (omega arith)) differ.1,
)

listed_rises : (files : Files) (names : List FileName) → AreListed files names → IsStrictlySortedBy list_order names
listed_rises files names are =
    rises names (λ i j d before within. sorted_far (λ x y. is_lt (list_order x y))
    (ranks_by order_total (λ (n : FileName). n)) names are.ordered i j d (omega arith) within) are.once

-- ---- two lists that rise and have the same paths are one

has : List ℕ → List FileName → Bool
has q names = list_any (is_name q) (paths_of names)

absent : (x : FileName) (names : List FileName) → IsValid x → All IsValid names → AllByRecursion
    (λ y. list_order x y ≡ Less) names → has (path_of x) names ≡ false
unfolding has
absent x [] valid all less = refl
absent x (y ∷ ys) valid all less =
    let differ : is_name (path_of x) (path_of y) ≡ false
    = is_name-other (path_of x) (path_of y) (λ same.
    let e : Less ≡ Equal = sym less.0 ∙ ap (list_order x)
    (sym (one_file_name x y valid (All-head IsValid y ys all) same)) ∙ tied_itself order_total x in absurd cc) in
    ap (λ b. b || has (path_of x) ys) differ ∙ absent x ys valid (All-tail IsValid y ys all) less.1

-- the rest of the paths, where the first names are the same
rest_same : (x : FileName) (xs ys : List FileName) → has (path_of x) xs ≡ false → has (path_of x) ys ≡ false
    → ((q : List ℕ) → has q (x ∷ xs) ≡ has q (x ∷ ys)) → (q : List ℕ) → has q xs ≡ has q ys
unfolding has
rest_same x xs ys no-xs no-ys same q =
    by_names q (path_of x)
    (λ here. ap (λ p. has p xs) here ∙ no-xs ∙ sym (ap (λ p. has p ys) here ∙ no-ys))
    (λ other. sym (ap (λ b. b || has q xs) (is_name-other q (path_of x) other)) ∙ same q
    ∙ ap (λ b. b || has q ys) (is_name-other q (path_of x) other))

has_first : (x : FileName) (xs : List FileName) → has (path_of x) (x ∷ xs) ≡ true
unfolding has
has_first x xs = ap (λ b. b || has (path_of x) xs) (is_name-same (path_of x))

has_none : (q : List ℕ) → has q [] ≡ false
unfolding has
has_none q = refl

less_than_all : (x y : FileName) (ys : List FileName) → list_order x y ≡ Less → AllByRecursion
    (λ z. list_order y z ≡ Less) ys → AllByRecursion (λ z. list_order x z ≡ Less) ys
less_than_all x y [] less all = tt
less_than_all x y (z ∷ zs) less all = (order_total.trans x y z less all.0, less_than_all x y zs less all.1)

same_lists : (a b : List FileName) → IsStrictlySortedBy list_order a → IsStrictlySortedBy list_order b → All IsValid a
    → All IsValid b → ((q : List ℕ) → has q a ≡ has q b) → a ≡ b
unfolding IsStrictlySortedBy
same_lists [] [] up-a up-b valid-a valid-b same = refl
same_lists [] (y ∷ ys) up-a up-b valid-a valid-b same = not_both _ (has_first y ys)
    (sym (same (path_of y)) ∙ has_none (path_of y))
same_lists (x ∷ xs) [] up-a up-b valid-a valid-b same = not_both _ (has_first x xs)
    (same (path_of x) ∙ has_none (path_of x))
same_lists (x ∷ xs) (y ∷ ys) up-a up-b valid-a valid-b same =
    let valid-x = All-head IsValid x xs valid-a in
    let valid-y = All-head IsValid y ys valid-b in
    by_order (list_order x y)
    (λ less. not_both _ (has_first x xs)
    (same (path_of x) ∙ absent x (y ∷ ys) valid-x valid-b (less, less_than_all x y ys less up-b.0)))
    (λ equal.
    let one = same_order x y equal in
    let no-xs = absent x xs valid-x (All-tail IsValid x xs valid-a) up-a.0 in
    let no-ys = subst (λ (z : FileName). has (path_of z) ys ≡ false) (sym one)
    (absent y ys valid-y (All-tail IsValid y ys valid-b) up-b.0) in
    let again : (q : List ℕ) → has q (x ∷ xs) ≡ has q (x ∷ ys) = λ q. same q
    ∙ ap (λ (z : FileName). has q (z ∷ ys)) (sym one) in
    let rest = same_lists xs ys up-a.1 up-b.1 (All-tail IsValid x xs valid-a) (All-tail IsValid y ys valid-b)
    (rest_same x xs ys no-xs no-ys again) in
    ap (λ (z : FileName). z ∷ xs) one ∙ ap (λ zs. y ∷ zs) rest)
    (λ greater.
    let less : list_order y x ≡ Less = order_total.antisymm y x ∙ ap ordering_reverse greater in
    not_both _ (has_first y ys) (sym (same (path_of y)) ∙ absent y (x ∷ xs) valid-y valid-a
    (less, less_than_all y x xs less up-a.0)))

found : (q name : List ℕ) → is_name q name ≡ true → q ≡ name
found q name e = by_names q name (λ same. same) (λ other. not_both _ e (is_name-other q name other))

pub one_list : OneList
unfolding has
one_list files a b are-a are-b =
    let moves : (c d : List FileName) → AreListed files c → AreListed files d → (q : List ℕ) → has q c ≡ true
    → has q d ≡ true
    = λ c d are-c are-d q held. list_any-from_Contains (eq_by_cmp_equiv nat_list_cmp_total) q (paths_of d)
    ((are-d.each q).1 ((are-c.each q).0 (Contains-from_any found q (paths_of c) held))) in
    same_lists a b (listed_rises files a are-a) (listed_rises files b are-b) are-a.valid are-b.valid
    (λ q. both_ways (has q a) (has q b) (moves a b are-a are-b q) (moves b a are-b are-a q))
