-- Bytes as pieces of one length, one behind the other.
use Rattle.std.proofs.Common.{◌≡◌, ℕ, zero, suc, ◌+◌, ◌*◌, ◌<◌, List, [], ◌++◌, length, get_or, take, drop, sym, ap}
use Rattle.std.proofs.Common.{◌∙◌, arith}
use Rattle.std.specs.List.{concat}
use Rattle.std.specs.Simd.{first_chunks}
use Rattle.std.proofs.Math.Seq.{take-add, drop-cons}

-- the first k pieces of n bytes
pub concat_chunks : (n k : ℕ) (bytes : List ℕ) → concat (first_chunks n k bytes) ≡ take (k * n) bytes
concat_chunks n zero bytes = let e : zero * n ≡ 0 = omega arith in ap (λ (m : ℕ). take m bytes) (sym e)
concat_chunks n (suc k) bytes =
    let e : n + k * n ≡ suc k * n = omega arith in
    ap (λ (xs : List ℕ). take n bytes ++ xs) (concat_chunks n k (drop n bytes)) ∙ sym (take-add n (k * n) bytes)
    ∙ ap (λ (m : ℕ). take m bytes) e

-- the pieces from piece i on
pub concat-drop : (pieces : List (List ℕ)) (i : ℕ) → i < length pieces
    → concat (drop i pieces) ≡ get_or pieces i [] ++ concat (drop (i + 1) pieces)
concat-drop pieces i lt =
    let next : suc i ≡ i + 1 = omega arith in
    ap concat (drop-cons pieces i [] lt) ∙ ap (λ (j : ℕ). get_or pieces i [] ++ concat (drop j pieces)) next
