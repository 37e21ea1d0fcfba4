-- The rule of the polynomial, squared: x^4096 is x^256 + x^192 + x^64 + 1.
use Rattle.std.proofs.Common.{◌≡◌, ℕ, ◌+◌, ◌^◌, ◌<◌, true, refl, sym, ap, ◌∙◌, arith}
use Rattle.std.specs.Int.Bits.{bit_xor, xor_assoc, xor_self, xor_zero_l}
use Rattle.ls_sums.specs.Crc64.{after_bits}
use Rattle.ls_sums.proofs.BitLemmas.{after_bits-xor, after_bits-add, after_bits-lt}
use Rattle.ls_sums.proofs.LinearLemmas.{IsLinear, agrees, agree_more, same_below, linear_xor}

abbrev plus : (ℕ → ℕ) → (ℕ → ℕ) → ℕ → ℕ
plus p q v = bit_xor (p v) (q v)

abbrev Commute : (ℕ → ℕ) → (ℕ → ℕ) → Type 0
Commute p r = (v : ℕ) → p (r v) ≡ r (p v)

pub bits_commute : (m n : ℕ) → (v : ℕ) → after_bits m (after_bits n v) ≡ after_bits n (after_bits m v)
bits_commute m n v =
    let e : n + m ≡ m + n = omega arith in
    after_bits-add n m v ∙ ap (λ (k : ℕ). after_bits k v) e ∙ sym (after_bits-add m n v)

plus_commute : (p q r : ℕ → ℕ) → IsLinear r → Commute p r → Commute q r → Commute (plus p q) r
plus_commute p q r linear cp cq v =
    ap (λ (x : ℕ). bit_xor x (q (r v))) (cp v) ∙ ap (λ (x : ℕ). bit_xor (r (p v)) x) (cq v) ∙ sym (linear (p v) (q v))

commute_plus : (p q r : ℕ → ℕ) → IsLinear r → Commute r p → Commute r q → Commute r (plus p q)
commute_plus p q r linear cp cq v =
    linear (p v) (q v) ∙ ap (λ (x : ℕ). bit_xor x (r (q v))) (cp v) ∙ ap (λ (x : ℕ). bit_xor (p (r v)) x) (cq v)

-- what stands between goes
xor_between : (a b c : ℕ) → bit_xor (bit_xor a b) (bit_xor b c) ≡ bit_xor a c
xor_between a b c =
    xor_assoc a b (bit_xor b c) ∙ ap (λ (x : ℕ). bit_xor a x)
    (sym (xor_assoc b b c) ∙ ap (λ (x : ℕ). bit_xor x c) (xor_self b) ∙ xor_zero_l c)

-- the square of a sum is the sum of the squares
square : (p q : ℕ → ℕ) → IsLinear p → IsLinear q → Commute p q → (v : ℕ)
    → plus p q (plus p q v) ≡ bit_xor (p (p v)) (q (q v))
square p q lp lq commute v =
    ap (λ (x : ℕ). bit_xor x (q (bit_xor (p v) (q v)))) (lp (p v) (q v))
    ∙ ap (λ (x : ℕ). bit_xor (bit_xor (p (p v)) (p (q v))) x)
    (lq (p v) (q v) ∙ ap (λ (x : ℕ). bit_xor x (q (q v))) (sym (commute v)))
    ∙ xor_between (p (p v)) (p (q v)) (q (q v))

-- the sum of the powers a, b, c and 0
abbrev pub powers : ℕ → ℕ → ℕ → ℕ → ℕ
powers a b c v = bit_xor (bit_xor (after_bits a v) (after_bits b v)) (bit_xor (after_bits c v) v)

abbrev pub Rule : ℕ → ℕ → ℕ → ℕ → Type 0
Rule n a b c = (v : ℕ) → v < 2 ^ 64 → after_bits n v ≡ powers a b c v

squared : (a b c : ℕ) → (v : ℕ) → powers a b c (powers a b c v) ≡ powers (a + a) (b + b) (c + c) v
squared a b c v =
    let p = after_bits a in
    let q = after_bits b in
    let r = after_bits c in
    let id : ℕ → ℕ = λ x. x in
    let lp : IsLinear p = after_bits-xor a in
    let lq : IsLinear q = after_bits-xor b in
    let lr : IsLinear r = after_bits-xor c in
    let li : IsLinear id = λ x y. refl in
    let front : ℕ → ℕ = plus p q in
    let back : ℕ → ℕ = plus r id in
    let lf : IsLinear front = linear_xor p q lp lq in
    let lb : IsLinear back = linear_xor r id lr li in
    let fr : Commute front r = plus_commute p q r lr (bits_commute a c) (bits_commute b c) in
    let fi : Commute front id = λ x. refl in
    square front back lf lb (commute_plus r id front lf fr fi) v
    ∙ ap (λ (x : ℕ). bit_xor x (back (back v))) (square p q lp lq (bits_commute a b) v)
    ∙ ap (λ (x : ℕ). bit_xor (bit_xor (p (p v)) (q (q v))) x) (square r id lr li (λ x. refl) v)
    ∙ ap (λ (x : ℕ). bit_xor (bit_xor x (q (q v))) (bit_xor (r (r v)) v)) (after_bits-add a a v)
    ∙ ap (λ (x : ℕ). bit_xor (bit_xor (after_bits (a + a) v) x) (bit_xor (r (r v)) v)) (after_bits-add b b v)
    ∙ ap (λ (x : ℕ). bit_xor (bit_xor (after_bits (a + a) v) (after_bits (b + b) v)) (bit_xor x v))
    (after_bits-add c c v)

doubled : (n a b c : ℕ) → Rule n a b c → Rule (n + n) (a + a) (b + b) (c + c)
doubled n a b c rule v lt =
    sym (after_bits-add n n v) ∙ rule (after_bits n v) (after_bits-lt n v lt) ∙ ap (powers a b c) (rule v lt)
    ∙ squared a b c v

powers-linear : (a b c : ℕ) → IsLinear (powers a b c)
powers-linear a b c =
    linear_xor (plus (after_bits a) (after_bits b)) (plus (after_bits c) (λ v. v))
    (linear_xor (after_bits a) (after_bits b) (after_bits-xor a) (after_bits-xor b))
    (linear_xor (after_bits c) (λ v. v) (after_bits-xor c) (λ x y. refl))

rule_test_0 : agrees 0 16 (after_bits 64) (powers 4 3 1) ≡ true
unfolding after_bits
rule_test_0 = refl

rule_test_16 : agrees 16 16 (after_bits 64) (powers 4 3 1) ≡ true
unfolding after_bits
rule_test_16 = refl

rule_test_32 : agrees 32 16 (after_bits 64) (powers 4 3 1) ≡ true
unfolding after_bits
rule_test_32 = refl

rule_test_48 : agrees 48 16 (after_bits 64) (powers 4 3 1) ≡ true
unfolding after_bits
rule_test_48 = refl

-- x^64 is x^4 + x^3 + x + 1
pub rule_64 : Rule 64 4 3 1
rule_64 v lt =
    let f = after_bits 64 in
    let g = powers 4 3 1 in
    same_below f g (after_bits-xor 64) (powers-linear 4 3 1) 64
    (agree_more f g 48 16 (agree_more f g 32 16
    (agree_more f g 16 16 (agree_more f g 0 16 (λ i h. absurd (omega arith)) rule_test_0) rule_test_16)
    rule_test_32) rule_test_48)
    v lt

pub rule_4096 : Rule 4096 256 192 64
rule_4096 =
    doubled 2048 128 96 32 (doubled 1024 64 48 16
    (doubled 512 32 24 8 (doubled 256 16 12 4 (doubled 128 8 6 2 (doubled 64 4 3 1 rule_64)))))
