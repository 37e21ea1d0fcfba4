-- Functions that are linear under exclusive or: two that agree at the powers of two agree.
use Rattle.std.proofs.Common.{◌≡◌, ℕ, zero, suc, ◌+◌, ◌-◌, ◌*◌, ◌/◌, ◌%◌, ◌^◌, ◌<◌, ◌≤◌, Bool, true, ◌&&◌, eqb, sym, ap}
use Rattle.std.proofs.Common.{subst, ◌∙◌, ⊎_elim, arith}
use Rattle.std.specs.Int.Bits.{bit_xor, xor_self}
use Rattle.std.proofs.lemmas.Bool.{eqb-true, and_parts, cases_lt}
use Rattle.std.proofs.lemmas.Nat.{xor_shr, xor_mod}
use Rattle.std.proofs.Math.Nat.{pow-suc}
use Rattle.ls_sums.proofs.XorLemmas.{xor_four, xor_shl, xor_shifted}

abbrev pub IsLinear : (ℕ → ℕ) → Type 0
IsLinear f = (a b : ℕ) → f (bit_xor a b) ≡ bit_xor (f a) (f b)

-- the two agree at the n powers of two from 2^low on
abbrev pub agrees : ℕ → ℕ → (ℕ → ℕ) → (ℕ → ℕ) → Bool
agrees low zero f g = true
agrees low (suc n) f g = eqb (f (2 ^ (low + n))) (g (2 ^ (low + n))) && agrees low n f g

-- the two agree at the k lowest powers of two
abbrev pub AgreeBelow : ℕ → (ℕ → ℕ) → (ℕ → ℕ) → Type 0
AgreeBelow k f g = (i : ℕ) → i < k → f (2 ^ i) ≡ g (2 ^ i)

pub agree_more : (f g : ℕ → ℕ) (low n : ℕ) → AgreeBelow low f g → agrees low n f g ≡ true → AgreeBelow (low + n) f g
agree_more f g low zero below test i lt = below i (omega arith)
agree_more f g low (suc n) below test i lt =
    let both = and_parts (eqb (f (2 ^ (low + n))) (g (2 ^ (low + n)))) (agrees low n f g) test in
    ⊎_elim
    (λ (less : i < low + n). agree_more f g low n below both.1 i less)
    (λ (last : low + n ≤ i).
    let e : low + n ≡ i = omega arith in
    subst (λ (j : ℕ). f (2 ^ j) ≡ g (2 ^ j)) e (eqb-true _ _ both.0))
    (cases_lt i (low + n))

at_zero : (f : ℕ → ℕ) → IsLinear f → f 0 ≡ 0
at_zero f linear = linear 0 0 ∙ xor_self (f 0)

pub same_below : (f g : ℕ → ℕ) → IsLinear f → IsLinear g → (k : ℕ) → AgreeBelow k f g → (v : ℕ) → v < 2 ^ k → f v ≡ g v
same_below f g lf lg zero test v lt =
    let e : v ≡ 0 = omega arith in ap f e ∙ at_zero f lf ∙ sym (ap g e ∙ at_zero g lg)
same_below f g lf lg (suc k) test v lt =
    let below = same_below f g lf lg k (λ i h. test i (omega arith)) in
    let double : 2 ^ suc k ≡ 2 * 2 ^ k = pow-suc 2 k ∙ omega arith in
    ⊎_elim
    (λ (low : v < 2 ^ k). below v low)
    (λ (high : 2 ^ k ≤ v).
    let rest : v - 2 ^ k < 2 ^ k = omega arith in
    let split : v ≡ bit_xor (1 * 2 ^ k) (v - 2 ^ k) = omega (arith, xor_shifted 1 k (v - 2 ^ k) rest) in
    let one : 1 * 2 ^ k ≡ 2 ^ k = omega arith in
    let whole : v ≡ bit_xor (2 ^ k) (v - 2 ^ k) = split ∙ ap (λ (x : ℕ). bit_xor x (v - 2 ^ k)) one in
    let at_f : f v ≡ bit_xor (f (2 ^ k)) (f (v - 2 ^ k)) = ap f whole ∙ lf (2 ^ k) (v - 2 ^ k) in
    let at_g : g v ≡ bit_xor (g (2 ^ k)) (g (v - 2 ^ k)) = ap g whole ∙ lg (2 ^ k) (v - 2 ^ k) in
    at_f ∙ ap (λ (x : ℕ). bit_xor x (f (v - 2 ^ k))) (test k (omega arith))
    ∙ ap (λ (x : ℕ). bit_xor (g (2 ^ k)) x) (below (v - 2 ^ k) rest) ∙ sym at_g)
    (cases_lt v (2 ^ k))

-- ---- what is linear
pub linear_xor : (f g : ℕ → ℕ) → IsLinear f → IsLinear g → IsLinear (λ v. bit_xor (f v) (g v))
linear_xor f g lf lg a b =
    ap (λ (x : ℕ). bit_xor x (g (bit_xor a b))) (lf a b) ∙ ap (λ (x : ℕ). bit_xor (bit_xor (f a) (f b)) x) (lg a b)
    ∙ xor_four (f a) (f b) (g a) (g b)

pub linear_shr : (f : ℕ → ℕ) → IsLinear f → (k : ℕ) → IsLinear (λ v. f v / 2 ^ k)
linear_shr f lf k a b = ap (λ (x : ℕ). x / 2 ^ k) (lf a b) ∙ xor_shr (f a) (f b) k

pub linear_shl : (f : ℕ → ℕ) → IsLinear f → (k w : ℕ) → IsLinear (λ v. f v * 2 ^ k % 2 ^ w)
linear_shl f lf k w a b =
    ap (λ (x : ℕ). x * 2 ^ k % 2 ^ w) (lf a b) ∙ ap (λ (x : ℕ). x % 2 ^ w) (xor_shl (f a) (f b) k)
    ∙ xor_mod (f a * 2 ^ k) (f b * 2 ^ k) w
