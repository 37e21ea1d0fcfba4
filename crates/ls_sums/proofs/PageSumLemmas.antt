-- The sum of pages at rest, a page after another.
use Rattle.std.proofs.Common.{◌≡◌, ℕ, ◌+◌, List, [], ◌∷◌, ◌++◌, length, sym, ap, ◌∙◌, arith}
use Rattle.std.specs.Int.Bits.{bit_xor, xor_assoc, xor_zero_l, xor_zero_r}
use Rattle.ls_sums.specs.PageSum.{counted_sum, sums_from}

-- pages behind others
pub sums_from-append : (lock number : ℕ) (front back : List (List ℕ))
    → sums_from lock number (front ++ back) ≡ bit_xor (sums_from lock number front)
    (sums_from lock (number + length front) back)
sums_from-append lock number [] back =
    let same : number + 0 ≡ number = omega arith in
    sym (xor_zero_l (sums_from lock (number + 0) back) ∙ ap (λ (n : ℕ). sums_from lock n back) same)
sums_from-append lock number (page ∷ front) back =
    let same : number + 1 + length front ≡ number + length (page ∷ front) = omega arith in
    ap (bit_xor (counted_sum lock number page)) (sums_from-append lock (number + 1) front back)
    ∙ sym (xor_assoc (counted_sum lock number page) (sums_from lock (number + 1) front)
    (sums_from lock (number + 1 + length front) back))
    ∙ ap (λ (n : ℕ). bit_xor (sums_from lock number (page ∷ front)) (sums_from lock n back)) same

-- one page more behind them
pub sums_from-push : (lock number : ℕ) (pages : List (List ℕ)) (page : List ℕ)
    → sums_from lock number (pages ++ page ∷ []) ≡ bit_xor (sums_from lock number pages)
    (counted_sum lock (number + length pages) page)
sums_from-push lock number pages page =
    sums_from-append lock number pages (page ∷ []) ∙ ap (bit_xor (sums_from lock number pages))
    (xor_zero_r (counted_sum lock (number + length pages) page))
