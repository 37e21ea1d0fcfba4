-- Bytes written over those of a file in place.
use Rattle.std.proofs.Common.{◌≡◌, ℕ, ◌+◌, ◌-◌, ◌<◌, ◌≤◌, min, ◌⊎◌, inl, inr, List, [], ◌∷◌, ◌++◌, length, take, drop}
use Rattle.std.proofs.Common.{replicate, reverse, get_or, refl, ap, sym, ◌∙◌, arith, length-append, length-drop, ◌^◌}
use Rattle.std.proofs.lemmas.Bool.{cases_lt}
use Rattle.std.proofs.lemmas.List.{take-append-le, take_all, drop_all, take-replicate, length-replicate, length-take}
use Rattle.std.proofs.lemmas.List.{length-reverse, get_or-reverse}
use Rattle.std.proofs.Math.Seq.{take-append-add}
use Rattle.crash_disk.specs.Files.{with_bytes_at, with_length}
use Rattle.crash_disk.specs.Remnant.{length_before}

length-grown : (size : ℕ) (old : List ℕ) → length (with_length size old) ≡ size
length-grown size old =
    length-append (take size old) (replicate (size - length old) 0)
    ∙ sizes _ _ (length-take size old) (length-replicate (size - length old) 0)
  where
    sizes : (front back : ℕ) → front ≡ min size (length old) → back ≡ size - length old → front + back ≡ size
    sizes front back is-front is-back = omega arith

-- the bytes before the offset, where the file grew to the end of what is written
front_of_grown : (at end : ℕ) (old : List ℕ) → at ≤ end → length old < end → (at ≤ length old) ⊎ (length old < at)
    → take at (old ++ replicate (end - length old) 0) ≡ take at (old ++ replicate (at - length old) 0)
front_of_grown at end old before grows (inl inside) = take-append-le at old _ inside
    ∙ sym (take-append-le at old _ inside)
front_of_grown at end old before grows (inr past) =
    let split : at ≡ length old + (at - length old) = omega arith in
    let zeros : at - length old ≤ end - length old = omega arith in
    ap (λ n. take n (old ++ replicate (end - length old) 0)) split
    ∙ take-append-add old (replicate (end - length old) 0) (at - length old)
    ∙ ap (λ more. old ++ more) (take-replicate (at - length old) (end - length old) 0 zeros)
    ∙ sym (take_all at (old ++ replicate (at - length old) 0) (rw length-append (rw length-replicate (omega arith))))

-- in a file that grew to the end of what is written
pub written_in_grown : (at : ℕ) (bytes old : List ℕ) → length old < at + length bytes
    → take at (with_length (at + length bytes) old) ++ bytes ++ drop (at + length bytes)
    (with_length (at + length bytes) old) ≡ with_bytes_at at bytes old
written_in_grown at bytes old grows =
    let end = at + length bytes in
    let whole : take end old ≡ old = take_all end old (omega arith) in
    let front : take at (with_length end old) ≡ take at (old ++ replicate (at - length old) 0) =
    ap (λ o. take at (o ++ replicate (end - length old) 0)) whole
    ∙ front_of_grown at end old (omega arith) grows
    (elim (cases_lt (length old) at) [ inl past ↦ inr past | inr inside ↦ inl inside ]) in
    let none : drop end (with_length end old) ≡ drop end old =
    drop_all end (with_length end old) (rw length-grown (omega arith)) ∙ sym (drop_all end old (omega arith)) in
    ap (λ f. f ++ bytes ++ drop end (with_length end old)) front
    ∙ ap (λ b. take at (old ++ replicate (at - length old) 0) ++ bytes ++ b) none

-- in a file that has them all
pub written_inside : (at : ℕ) (bytes old : List ℕ) → at + length bytes ≤ length old
    → take at old ++ bytes ++ drop (at + length bytes) old ≡ with_bytes_at at bytes old
written_inside at bytes old fits =
    ap (λ f. f ++ bytes ++ drop (at + length bytes) old)
    (sym (take-append-le at old (replicate (at - length old) 0) (omega arith)))

second_newest : (newest : List ℕ) → 2 ≤ length newest → get_or newest 1 0 ≡ length_before newest
second_newest [] two = absurd (omega arith)
second_newest (now ∷ []) two = absurd (omega arith)
second_newest (now ∷ before ∷ rest) two = refl

-- the last of the lengths but one
pub last_but_one : (lengths : List ℕ) → 2 ≤ length lengths → get_or lengths (length lengths - 2) 0 ≡ length_before
    (reverse lengths)
last_but_one lengths two =
    let place : length lengths - 2 ≡ length lengths - 1 - 1 = omega arith in
    ap (λ n. get_or lengths n 0) place ∙ sym (get_or-reverse lengths 1 0 (omega arith))
    ∙ second_newest (reverse lengths) (rw length-reverse two)

-- what is below the limit stays below it
pub short-with_length : (size : ℕ) (old : List ℕ) → size < 2 ^ 63 → length (with_length size old) < 2 ^ 63
short-with_length size old short = rw length-grown short

pub short-with_bytes_at : (at : ℕ) (bytes old : List ℕ) → at + length bytes < 2 ^ 63 → length old < 2 ^ 63
    → length (with_bytes_at at bytes old) < 2 ^ 63
short-with_bytes_at at bytes old short was =
    sizes _ _ _ (length-append (take at (old ++ replicate (at - length old) 0) ++ bytes)
    (drop (at + length bytes) old) ∙ ap (λ n. n + length (drop (at + length bytes) old))
    (length-append (take at (old ++ replicate (at - length old) 0)) bytes))
    (length-take at (old ++ replicate (at - length old) 0)) (length-drop (at + length bytes) old)
  where
    sizes : (total front back : ℕ) → total ≡ front + length bytes + back
        → front ≡ min at (length (old ++ replicate (at - length old) 0)) → back ≡ length old - (at + length bytes)
        → total < 2 ^ 63
    sizes total front back is is-front is-back = omega arith
