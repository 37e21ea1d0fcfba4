-- The first pieces of one length that bytes have.
use Rattle.std.proofs.Common.{◌≡◌, ◌∙◌, ℕ, zero, suc, ◌+◌, ◌*◌, ◌≤◌, List, ◌∷◌, ◌++◌, length, take, drop, sym, ap, refl}
use Rattle.std.proofs.Common.{arith, length-drop}
use Rattle.std.specs.List.{AllByRecursion}
use Rattle.std.specs.Simd.{first_chunks}
use Rattle.std.proofs.lemmas.List.{take-append-le, drop-append-le, length-take-le, drop-drop, take-append-drop}

-- each has this length
abbrev pub AreLong : ℕ → List (List ℕ) → Type 0
AreLong n frames = AllByRecursion (λ frame. length frame ≡ n) frames

module _ (n : ℕ) where
  pub length-first_chunks : (k : ℕ) (xs : List ℕ) → length (first_chunks n k xs) ≡ k
  length-first_chunks zero xs = refl
  length-first_chunks (suc k) xs = ap suc (length-first_chunks k (drop n xs))

  pub are_long : (k : ℕ) (xs : List ℕ) → k * n ≤ length xs → AreLong n (first_chunks n k xs)
  are_long zero xs fits = tt
  are_long (suc k) xs fits =
      let more : n + k * n ≤ length xs = omega (arith, fits) in
      (length-take-le n xs (omega (arith, more)), are_long k (drop n xs) (omega (arith, more, length-drop n xs)))

  pub first_chunks-append : (k : ℕ) (xs ys : List ℕ) → k * n ≤ length xs
      → first_chunks n k (xs ++ ys) ≡ first_chunks n k xs
  first_chunks-append zero xs ys fits = refl
  first_chunks-append (suc k) xs ys fits =
      let more : n + k * n ≤ length xs = omega (arith, fits) in
      rw (take-append-le n xs ys (omega (arith, more)), drop-append-le n xs ys (omega (arith, more)))
      (ap (λ (rest : List (List ℕ)). take n xs ∷ rest)
      (first_chunks-append k (drop n xs) ys (omega (arith, more, length-drop n xs))))

  pub first_chunks-add : (k j : ℕ) (xs : List ℕ) → first_chunks n (k + j) xs ≡ first_chunks n k xs ++ first_chunks n j
      (drop (k * n) xs)
  first_chunks-add zero j xs =
      let e : zero + j ≡ j = omega arith in
      let d : zero * n ≡ 0 = omega arith in
      rw (e, d) refl
  first_chunks-add (suc k) j xs =
      let e : suc k + j ≡ suc (k + j) = omega arith in
      let d : drop (k * n) (drop n xs) ≡ drop (suc k * n) xs = drop-drop (k * n) n xs
      ∙ ap (λ (m : ℕ). drop m xs) (omega arith) in
      rw (e, ← d) (ap (λ (rest : List (List ℕ)). take n xs ∷ rest) (first_chunks-add k j (drop n xs)))

  pub first_chunks-take : (k : ℕ) (xs : List ℕ) → k * n ≤ length xs
      → first_chunks n k (take (k * n) xs) ≡ first_chunks n k xs
  first_chunks-take k xs fits =
      sym (first_chunks-append k (take (k * n) xs) (drop (k * n) xs) (omega (arith, length-take-le (k * n) xs fits)))
      ∙ ap (λ (ys : List ℕ). first_chunks n k ys) (take-append-drop (k * n) xs)
