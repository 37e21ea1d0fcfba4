-- Fronts and rests of lists.
use Rattle.std.proofs.Common.{◌≡◌, ℕ, ◌+◌, ◌-◌, ◌≤◌, List, ◌++◌, length, take, drop, replicate, sym, ap, ◌∙◌, inl, inr}
use Rattle.std.proofs.Common.{take-add, drop_of_length-le, arith}
use Rattle.std.proofs.lemmas.Bool.{cases_lt}
use Rattle.std.proofs.lemmas.List.{append-nil, length-take, take-append-le, take_all, take-take, take_min}
use Rattle.std.proofs.lemmas.List.{take-replicate, drop-replicate, drop-take}
use Rattle.std.proofs.Math.Seq.{take-append-add}
use Rattle.live_gate.specs.LiveRecord.{IsPrefix}
use Rattle.live_gate.specs.LiveCalls.{AgreeInFront}

pub take_prefix : (m n : ℕ) (xs : List ℕ) → m ≤ n → IsPrefix (take m xs) (take n xs)
take_prefix m n xs le =
    let split : m + (n - m) ≡ n = omega (arith, le) in
    record { rest = take (n - m) (drop m xs); is = ap (λ k. take k xs) (sym split) ∙ take-add m (n - m) xs }

-- zeros behind the bytes, where these are copied over zeros
pub padded_is : (from : List ℕ) (n : ℕ) → take n from ++ drop (length from) (replicate n 0) ≡ take n
    (from ++ replicate n 0)
padded_is from n = elim (cases_lt (length from) n) [
  | inl short ↦
      let split : length from + (n - length from) ≡ n = omega (arith, short) in
      let left : take n from ≡ from = take_all n from (omega (arith, short)) in
      let zeros : take (n - length from) (replicate n 0) ≡ replicate (n - length from) 0 = take-replicate
      (n - length from) n 0 (omega arith) in
      ap (λ front. front ++ drop (length from) (replicate n 0)) left
      ∙ ap (λ back. from ++ back) (drop-replicate (length from) n 0 ∙ sym zeros)
      ∙ sym (take-append-add from (replicate n 0) (n - length from)) ∙ ap (λ k. take k (from ++ replicate n 0)) split
  | inr long ↦
      let none : n - length from ≡ 0 = omega (arith, long) in
      ap (λ back. take n from ++ back) (drop-replicate (length from) n 0 ∙ ap (λ k. replicate k 0) none)
      ∙ append-nil (take n from) ∙ sym (take-append-le n from (replicate n 0) long)
]

-- two fronts of a list agree as far as both go
shorter : (m n : ℕ) (xs : List ℕ) → m ≤ n → take (length (take m xs)) (take n xs) ≡ take (length (take n xs))
    (take m xs)
shorter m n xs le =
    let short : length (take m xs) ≤ n = omega (arith, length-take m xs, le) in
    let long : length (take m xs) ≤ length (take n xs) = omega (arith, length-take m xs, length-take n xs, le) in
    take-take (length (take m xs)) n xs short ∙ front_by_length m xs
    ∙ sym (take_all (length (take n xs)) (take m xs) long)
  where
    front_by_length : (m : ℕ) (xs : List ℕ) → take (length (take m xs)) xs ≡ take m xs
    front_by_length m xs = ap (λ k. take k xs) (length-take m xs) ∙ take_min m xs

pub fronts_agree : (m n : ℕ) (xs : List ℕ) → AgreeInFront (take m xs) (take n xs)
fronts_agree m n xs = elim (cases_lt m n) [
  | inl less ↦ shorter m n xs (omega (arith, less))
  | inr more ↦ sym
      (shorter n m xs more)
]

-- a front of a front
pub drop_front : (at end : ℕ) (xs : List ℕ) → drop at (take end xs) ≡ take (end - at) (drop at xs)
drop_front at end xs = elim (cases_lt at end) [
  | inl low ↦ let split : at + (end - at) ≡ end = omega (arith, low) in ap (λ k. drop at (take k xs)) (sym split)
      ∙ drop-take at (end - at) xs
  | inr high ↦
      let none : end - at ≡ 0 = omega (arith, high) in
      let short : length (take end xs) ≤ at = omega (arith, length-take end xs, high) in
      drop_of_length-le (take end xs) short ∙ ap (λ k. take k (drop at xs)) (sym none)
]
