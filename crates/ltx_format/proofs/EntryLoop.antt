-- The numbers of an index one after another, as a loop reads or puts them.
use Rattle.std.proofs.Common.{◌≡◌, ℕ, zero, suc, ◌+◌, ◌<◌, ◌≤◌, List, [], ◌∷◌, ◌++◌, length, take, drop, Some, None}
use Rattle.std.proofs.Common.{Result, Ok, Err, refl, sym, ap, ◌∙◌, append_assoc, arith, inl, inr}
use Rattle.std.specs.List.{slice_get}
use Rattle.std.specs.Int.{w32, to_be_bytes}
use Rattle.std.proofs.Math.Seq.{take-add}
use Rattle.std.proofs.lemmas.Bool.{cases_lt}
use Rattle.std.proofs.lemmas.List.Concat.{flat_map-append}
use Rattle.std.proofs.lemmas.List.{append-nil, drop_all}
use Rattle.ltx_format.specs.declared.fault.LtxFault.{LtxFault}
use Rattle.ltx_format.specs.declared.fault.LtxFault.TheVariants.{BadIndex}
use Rattle.ltx_format.specs.Reading.{behind, entry_at, numbers_at, index_at}
use Rattle.ltx_format.proofs.IndexLaws.{number_fields}

-- the number at a place comes next
pub next_number : (numbers : List ℕ) (at n : ℕ) → slice_get numbers at ≡ Some n → drop at numbers ≡ n
    ∷ drop (suc at) numbers
next_number [] zero n e = absurd cc
next_number [] (suc at) n e = absurd cc
next_number (m ∷ numbers) zero n e = let same : m ≡ n = cc in λ i. same i ∷ numbers
next_number (m ∷ numbers) (suc at) n e = next_number numbers at n e

pub some_number : (numbers : List ℕ) (at : ℕ) → at < length numbers → slice_get numbers at ≡ None → ⊥
some_number [] at more e = omega arith
some_number (m ∷ numbers) zero more e = absurd cc
some_number (m ∷ numbers) (suc at) more e = some_number numbers at (omega arith) e

pub within_numbers : (numbers : List ℕ) (at n : ℕ) → slice_get numbers at ≡ Some n → at < length numbers
within_numbers [] zero n e = absurd cc
within_numbers [] (suc at) n e = absurd cc
within_numbers (m ∷ numbers) zero n e = omega arith
within_numbers (m ∷ numbers) (suc at) n e = let later = within_numbers numbers at n e in omega arith

-- the numbers up to this one
pub take_next : (numbers : List ℕ) (at n : ℕ) → slice_get numbers at ≡ Some n → take (at + 1) numbers ≡ take at numbers
    ++ n ∷ []
take_next numbers at n here = take-add at 1 numbers ∙ ap (λ (rest : List ℕ). take at numbers ++ take 1 rest)
    (next_number numbers at n here)

-- the numbers end at or before a place where none is
pub no_more_numbers : (numbers : List ℕ) (at : ℕ) → slice_get numbers at ≡ None → length numbers ≤ at
no_more_numbers numbers at none = elim (cases_lt at (length numbers))
    [ inl more ↦ absurd (some_number numbers at more none) | inr done ↦ done ]

pub put_number : (numbers old out : List ℕ) (at n : ℕ) → slice_get numbers at ≡ Some n → out ≡ old
    ++ number_fields (take at numbers) → out ++ to_be_bytes w32 n ≡ old ++ number_fields (take (at + 1) numbers)
put_number numbers old out at n here so_far =
    ap (λ (x : List ℕ). x ++ to_be_bytes w32 n) so_far
    ∙ append_assoc old (number_fields (take at numbers)) (to_be_bytes w32 n)
    ∙ ap (λ (x : List ℕ). old ++ x) (
    ap (λ (x : List ℕ). number_fields (take at numbers) ++ x) (sym (append-nil (to_be_bytes w32 n)))
    ∙ sym (flat_map-append (to_be_bytes w32) (take at numbers) (n ∷ []))
    ∙ ap number_fields (sym (take_next numbers at n here)))

module _ (numbers : List ℕ) (at n : ℕ) (bytes : List ℕ) (total : Result (List ℕ) LtxFault)
    (here : slice_get numbers at ≡ Some n)
    (so_far : numbers_at (drop at numbers) bytes ≡ total) where
  pub number_read : (rest : List ℕ) → entry_at n bytes ≡ Ok rest → numbers_at (drop (at + 1) numbers) rest ≡ total
  unfolding numbers_at
  number_read rest read =
      let one : at + 1 ≡ suc at = omega arith in
      let turn : numbers_at (drop at numbers) bytes ≡ numbers_at (drop (at + 1) numbers) rest =
      rw (next_number numbers at n here, read, one) refl in
      sym turn ∙ so_far

  pub no_number : (fault : LtxFault) → entry_at n bytes ≡ Err fault → total ≡ Err fault
  unfolding numbers_at
  no_number fault read =
      let turn : numbers_at (drop at numbers) bytes ≡ Err fault = rw (next_number numbers at n here, read) refl in
      sym so_far ∙ turn

pub numbers_failed : (numbers bytes : List ℕ) (fault : LtxFault) → numbers_at numbers bytes ≡ Err fault
    → index_at numbers bytes ≡ Err fault
unfolding index_at
numbers_failed numbers bytes fault e = rw e refl

pub numbers_done : (numbers bytes rest : List ℕ) (at count : ℕ) → length numbers ≤ at → count ≡ length numbers
    → numbers_at (drop at numbers) rest ≡ numbers_at numbers bytes
    → behind w32 count (BadIndex 0) rest ≡ index_at numbers bytes
unfolding index_at numbers_at
numbers_done numbers bytes rest at count done count_is so_far =
    let none : numbers_at numbers bytes ≡ Ok rest = sym so_far
    ∙ ap (λ (left : List ℕ). numbers_at left rest) (drop_all at numbers done) in
    rw (none, count_is) refl
