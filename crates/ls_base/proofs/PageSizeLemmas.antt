-- The two forms of the rule for page sizes agree.
use Rattle.std.proofs.Common.{◌≡◌, ℕ, zero, suc, ◌+◌, ◌-◌, ◌^◌, ◌≤◌, Bool, true, false, ◌||◌, eqb, refl, sym, subst}
use Rattle.std.proofs.Common.{⊎_elim, arith}
use Rattle.std.proofs.lemmas.Bool.{eqb-true, or_cases}
use Rattle.ls_base.specs.PageSize.{IsPageSize, is_page_size}

power : (j : ℕ) → j ≤ 7 → is_page_size (2 ^ (9 + j)) ≡ true
power zero h = refl
power (suc zero) h = refl
power (suc (suc zero)) h = refl
power (suc (suc (suc zero))) h = refl
power (suc (suc (suc (suc zero)))) h = refl
power (suc (suc (suc (suc (suc zero))))) h = refl
power (suc (suc (suc (suc (suc (suc zero)))))) h = refl
power (suc (suc (suc (suc (suc (suc (suc zero))))))) h = refl
power (suc (suc (suc (suc (suc (suc (suc (suc j)))))))) h = absurd (omega arith)

-- a page size passes the test
pub test_passes : (n : ℕ) → IsPageSize n → is_page_size n ≡ true
test_passes n size =
    let k : 9 + (size.0 - 9) ≡ size.0 = omega (arith, size.1) in
    subst (λ m. is_page_size m ≡ true) (sym size.3)
    (subst (λ j. is_page_size (2 ^ j) ≡ true) k (power (size.0 - 9) (omega (arith, size.2))))

-- what passes the test is a page size
pub size_from_test : (n : ℕ) → is_page_size n ≡ true → IsPageSize n
size_from_test n =
    let next : (k : ℕ) → 9 ≤ k → k ≤ 16 → (b : Bool) → (b ≡ true → IsPageSize n) → (eqb (2 ^ k) n || b) ≡ true
    → IsPageSize n
    = λ k low high b later e. ⊎_elim (λ is. (k, low, high, sym (eqb-true (2 ^ k) n is))) later
    (or_cases (eqb (2 ^ k) n) b e) in
    next 9 (omega arith) (omega arith) _
    (next 10 (omega arith) (omega arith) _
    (next 11 (omega arith) (omega arith) _ (next 12 (omega arith) (omega arith) _ (
    next 13 (omega arith) (omega arith) _
    (next 14 (omega arith) (omega arith) _
    (next 15 (omega arith) (omega arith) _ (next 16 (omega arith) (omega arith) false (λ e. absurd cc))))))))
