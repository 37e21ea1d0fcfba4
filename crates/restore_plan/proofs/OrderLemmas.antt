-- Names in list order.
use Rattle.std.proofs.Common.{◌≡◌, ℕ, ◌<◌, ◌≤◌, Bool, true, false, cond, eqb, ltb, List, length, get_or, refl, eq-eqb}
use Rattle.std.proofs.lemmas.Bool.{ltb-false}
use Rattle.std.proofs.lemmas.Cmp.{nat_cmp_total, on_total, then_total}
use Rattle.std.proofs.lemmas.List.Sorted.{ranks_by, sorted_far}
use Rattle.std.specs.Cmp.{IsTotalOrder}
use Rattle.std.specs.Ordering.{nat_cmp, ordering_then, is_lt}
use Rattle.std.specs.declared.cmp.Ordering.{Ordering}
use Rattle.std.specs.declared.cmp.Ordering.TheVariants.{Less, Equal, Greater}
use Rattle.replica_store.specs.declared.file_name.FileName.{FileName}
use Rattle.replica_store.specs.Chain.{list_order, IsListOrdered}

order_total : IsTotalOrder list_order
order_total = then_total (on_total (λ (n : FileName). n.level) nat_cmp_total)
    (then_total (on_total (λ (n : FileName). n.min) nat_cmp_total) (on_total (λ (n : FileName). n.max) nat_cmp_total))

by_tests : (less same : Bool) (rest : Ordering) → is_lt
    (ordering_then (cond less Less (cond same Equal Greater)) rest) ≡ false → (less ≡ false)
    × (same ≡ true → is_lt rest ≡ false)
by_tests true same rest e = absurd cc
by_tests false true rest e = (refl, λ _. e)
by_tests false false rest e = (refl, λ h. absurd cc)

first_part : (x y : ℕ) (rest : Ordering) → is_lt (ordering_then (nat_cmp y x) rest) ≡ false → (x ≤ y)
    × (y ≡ x → is_lt rest ≡ false)
first_part x y rest e = let h = by_tests (ltb y x) (eqb y x) rest e in
    (ltb-false y x h.0, λ same. h.1 (eq-eqb y x same))

parts : (a b : FileName) → is_lt (list_order b a) ≡ false → (a.level ≤ b.level) × (b.level ≡ a.level → a.min ≤ b.min)
parts a b e = let h = first_part a.level b.level _ e in (h.0, λ same. (first_part a.min b.min _ (h.1 same)).0)

-- a later name has no lower level, and in one level begins no earlier
pub in_level : (names : List FileName) → IsListOrdered names → (i k : ℕ) (d : FileName) → i ≤ k → k < length names
    → ((get_or names i d).level ≤ (get_or names k d).level)
    × ((get_or names k d).level ≡ (get_or names i d).level → (get_or names i d).min ≤ (get_or names k d).min)
in_level names up i k d behind low = parts (get_or names i d) (get_or names k d)
    (sorted_far (λ x y. is_lt (list_order x y)) (ranks_by order_total (λ (n : FileName). n)) names up i k d behind low)
