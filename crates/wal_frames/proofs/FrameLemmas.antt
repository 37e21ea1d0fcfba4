-- Frames, their lengths and sums.
use Rattle.std.proofs.Common.{◌≡◌, ◌∙◌, ℕ, ◌+◌, ◌-◌, ◌*◌, ◌%◌, ◌^◌, List, length, take, drop, ap, length-drop, arith}
use Rattle.std.proofs.lemmas.List.{length-take-le}
use Rattle.std.proofs.lemmas.Nat.{pow-add}
use Rattle.ls_base.specs.PageSize.{IsPageSize}

-- a page size is a multiple of 8
pub size_in_eights : (n : ℕ) → IsPageSize n → n % 8 ≡ 0
size_in_eights n size =
    let k : size.0 ≡ 3 + (size.0 - 3) = omega (arith, size.1) in
    let e : n ≡ 8 * 2 ^ (size.0 - 3) = size.3 ∙ ap (λ (j : ℕ). 2 ^ j) k ∙ pow-add 2 3 (size.0 - 3) in
    omega (arith, e)

-- the bytes of a page that stands behind 24 others
pub page_in_eights : (size : ℕ) (frame : List ℕ) → IsPageSize size → length frame ≡ 24 + size
    → length (take (24 + size - 24) (drop 24 frame)) % 8 ≡ 0
page_in_eights size frame is_size len =
    let page : 24 + size - 24 ≡ size = omega arith in
    let many : length (take size (drop 24 frame)) ≡ size = length-take-le size (drop 24 frame)
    (omega (arith, length-drop 24 frame)) in
    rw (page, many) (size_in_eights size is_size)
