-- A page as it grows number by number.
use Rattle.std.proofs.Common.{◌≡◌, ◌∙◌, ◌≤◌, ℕ, ◌+◌, List, [], ◌∷◌, ◌++◌, length, take, map, ap, sym, arith}
use Rattle.std.specs.Int.{w64, to_be_bytes}
use Rattle.std.specs.List.{concat}
use Rattle.std.proofs.Math.Seq.{take-append_seam}
use Rattle.std.proofs.lemmas.List.{append-nil, map-append, length-append, length-take-le}
use Rattle.std.proofs.lemmas.List.Folds.{concat-append}
use Rattle.std.proofs.lemmas.List.FromFn.{map-range_with_len_more}
use Rattle.demo_draws.specs.Generator.{advanced, advanced_by}
use Rattle.demo_draws.specs.DrawnPage.{numbers_behind, drawn_bytes}
use Rattle.demo_draws.proofs.GeneratorLemmas.{advanced_by-more}

-- one number more
numbers_behind-more : (x n : ℕ)
    → numbers_behind x (n + 1) ≡ numbers_behind x n ++ advanced (advanced_by n x) ∷ []
numbers_behind-more x n =
    map-range_with_len_more (λ k. advanced_by k x) 1 n (n + 1) (omega arith)
    ∙ ap (λ (y : ℕ). numbers_behind x n ++ y ∷ []) (advanced_by-more n x)

-- its eight bytes more
pub drawn_bytes-more : (x n : ℕ)
    → drawn_bytes x (n + 1) ≡ drawn_bytes x n ++ to_be_bytes w64 (advanced (advanced_by n x))
unfolding drawn_bytes
drawn_bytes-more x n =
    let word = to_be_bytes w64 in
    let before = numbers_behind x n in
    let last = advanced (advanced_by n x) in
    let joined : concat (word last ∷ []) ≡ word last = append-nil (word last) in
    ap (λ (ns : List ℕ). concat (map word ns)) (numbers_behind-more x n)
    ∙ ap concat (map-append word before (last ∷ []))
    ∙ concat-append (map word before) (word last ∷ [])
    ∙ ap (λ (bs : List ℕ). concat (map word before) ++ bs) joined

-- what stands before the end of bytes that were put at an offset
pub take-put : (at : ℕ) (old bytes rest : List ℕ) → at ≤ length old
    → take (at + length bytes) (take at old ++ bytes ++ rest) ≡ take at old ++ bytes
take-put at old bytes rest fits =
    let front = take at old ++ bytes in
    let long : length front ≡ at + length bytes =
    length-append (take at old) bytes ∙ ap (λ (n : ℕ). n + length bytes) (length-take-le at old fits) in
    ap (λ (n : ℕ). take n (take at old ++ bytes ++ rest)) (sym long)
    ∙ take-append_seam front rest
