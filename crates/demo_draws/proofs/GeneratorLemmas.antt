-- Steps of the generator one behind the other.
use Rattle.std.proofs.Common.{◌≡◌, ◌∙◌, ℕ, zero, suc, ◌+◌, refl, ap, arith}
use Rattle.demo_draws.specs.Generator.{advanced, advanced_by}

-- one step more
pub advanced_by-more : (n x : ℕ) → advanced_by (n + 1) x ≡ advanced (advanced_by n x)
unfolding advanced_by
advanced_by-more n x =
    let next : n + 1 ≡ suc n = omega arith in
    ap (λ k. advanced_by k x) next

-- so many steps, and then so many
pub advanced_by-add : (m n x : ℕ) → advanced_by n (advanced_by m x) ≡ advanced_by (m + n) x
unfolding advanced_by
advanced_by-add m zero x = let same : m ≡ m + 0 = omega arith in ap (λ k. advanced_by k x) same
advanced_by-add m (suc n) x =
    let same : suc (m + n) ≡ m + suc n = omega arith in
    ap advanced (advanced_by-add m n x) ∙ ap (λ k. advanced_by k x) same

-- two steps
pub two-steps : (x : ℕ) → advanced_by 2 x ≡ advanced (advanced x)
unfolding advanced_by
two-steps x = refl
