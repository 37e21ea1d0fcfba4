-- The first fault of what stands behind the blocks, the index and the trailer, is that of its readers.
use Rattle.std.proofs.Common.{◌≡◌, ℕ, zero, suc, ◌+◌, ◌*◌, ◌<◌, ◌≤◌, eqb, leb, List, [], ◌∷◌, length, take, drop}
use Rattle.std.proofs.Common.{Option, Some, None, Result, Err, refl, sym, ap, ◌∙◌, arith, inl, inr}
use Rattle.std.specs.Option.{option_or}
use Rattle.std.specs.Int.{w32, w64}
use Rattle.std.proofs.lemmas.Bool.{cases_Bool, cases_lt, cases_eq, eq-eqb, ne_eqb, le-leb, lt-leb}
use Rattle.std.proofs.lemmas.List.{length-drop}
use Rattle.ltx_format.specs.declared.fault.LtxFault.{LtxFault}
use Rattle.ltx_format.specs.declared.fault.LtxFault.TheVariants.{Short, BadReserved, BadSum, Extra, BadIndex}
use Rattle.ltx_format.specs.LtxFormat.{file_sum}
use Rattle.ltx_format.specs.FirstFault.{first_failed, number, has_index, block_number, entry_tests, count_tests}
use Rattle.ltx_format.specs.FirstFault.{index_fault, trailer_tests, tail_fault}
use Rattle.ltx_format.specs.Reading.{◌>>=◌, where_true, behind, entry_at, numbers_at, index_at, index_part_at}
use Rattle.ltx_format.specs.Reading.{sum_before, end_at}
use Rattle.ltx_format.proofs.TestSteps.{fault_of, bind_assoc, step, step_then, last_step, number_to, number_short}

-- the numbers of blocks, from the one on before which `k` others stand
abbrev pub block_numbers : List ℕ → ℕ → ℕ → List ℕ
block_numbers bytes zero k = []
block_numbers bytes (suc n) k = block_number bytes k ∷ block_numbers bytes n (suc k)

block_numbers-length : (bytes : List ℕ) (n k : ℕ) → length (block_numbers bytes n k) ≡ n
block_numbers-length bytes zero k = refl
block_numbers-length bytes (suc n) k = ap suc (block_numbers-length bytes n (suc k))

module _ (bytes : List ℕ) where
  -- ---- the trailer

  module _ (at : ℕ) (long : at + 16 ≤ length bytes) where
    nothing_left : eqb (length (drop (at + 16) bytes)) 0 ≡ eqb (length bytes) (at + 16)
    nothing_left =
        let left = length-drop (at + 16) bytes in
        elim (cases_eq (length bytes) (at + 16)) [
          | inl same ↦ rw (
            eq-eqb (length (drop (at + 16) bytes)) 0 (omega (arith, left, same)),
            eq-eqb (length bytes) (at + 16) same,
          ) refl
          | inr ne ↦ rw (
            ne_eqb (length (drop (at + 16) bytes)) 0 (λ e. ne (omega (arith, left, e, long))),
            ne_eqb (length bytes) (at + 16) ne,
          ) refl
        ]

    sum_is : sum_before bytes (drop (at + 8) bytes) ≡ file_sum (take (at + 8) bytes)
    sum_is = ap (λ (n : ℕ). file_sum (take n bytes)) (omega (arith, long, length-drop (at + 8) bytes))

  trailer_fault : (at : ℕ) → at ≤ length bytes → fault_of (end_at bytes (drop at bytes)) ≡ first_failed
      (trailer_tests bytes at)
  unfolding end_at
  trailer_fault at within =
      elim (cases_lt (length bytes) (at + 16)) [
        | inl short ↦
            elim (cases_lt (length bytes) (at + 8)) [
              | inl sooner ↦ rw (number_short w64 at bytes within sooner, lt-leb (at + 16) (length bytes) short) refl
              | inr later ↦ rw (
                number_to w64 at (at + 8) bytes refl later,
                number_short w64 (at + 8) bytes later (omega (arith, short)),
                lt-leb (at + 16) (length bytes) short,
              )
                  refl
            ]
        | inr long ↦
            let tests = trailer_tests bytes at in
            let kept = number w64 (at + 8) bytes in
            let found = file_sum (take (at + 8) bytes) in
            rw (
              number_to w64 at (at + 8) bytes refl (omega (arith, long)),
              number_to w64 (at + 8) (at + 16) bytes (omega arith) long,
              le-leb (at + 16) (length bytes) long,
              sum_is at long,
              nothing_left at long,
            )
            (step_then (eqb (number w64 at bytes) 0) BadReserved tt _ (drop 2 tests) (λ zeros.
            step_then (eqb kept found) (BadSum kept found) tt _ (drop 3 tests) (λ same.
            last_step (eqb (length bytes) (at + 16)) Extra tt)))
      ]

  -- ---- the index

  -- one number of it, which must be this one, else this is the fault
  number_fault : {B : Type 0} (n at : ℕ) (fault : LtxFault) (next : List ℕ → Result B LtxFault) (rest : Option LtxFault)
      → at ≤ length bytes
      → (at + 4 ≤ length bytes → fault_of (next (drop (at + 4) bytes)) ≡ rest)
      → (read : Result (List ℕ) LtxFault) → (length bytes < at + 4 → read ≡ Err Short)
      → (at + 4 ≤ length bytes → read ≡ where_true (eqb (number w32 at bytes) n) fault (drop (at + 4) bytes))
      → fault_of (read >>= next) ≡ option_or (first_failed ((leb (at + 4) (length bytes), Short)
      ∷ (eqb (number w32 at bytes) n, fault) ∷ [])) rest
  number_fault n at fault next rest within proof read short long =
      elim (cases_lt (length bytes) (at + 4)) [
        | inl less ↦ rw (short less, lt-leb (at + 4) (length bytes) less) refl
        | inr enough ↦ rw (long enough, le-leb (at + 4) (length bytes) enough)
            (step (eqb (number w32 at bytes) n) fault (drop (at + 4) bytes) next rest (λ same. proof enough))
      ]

  entry_fault : {B : Type 0} (n at : ℕ) (next : List ℕ → Result B LtxFault) (rest : Option LtxFault) → at ≤ length bytes
      → (at + 4 ≤ length bytes → fault_of (next (drop (at + 4) bytes)) ≡ rest)
      → fault_of (entry_at n (drop at bytes) >>= next) ≡ option_or
      (first_failed ((leb (at + 4) (length bytes), Short)
      ∷ (eqb (number w32 at bytes) n, BadIndex (number w32 at bytes)) ∷ [])) rest
  unfolding entry_at
  entry_fault n at next rest within proof =
      number_fault n at (BadIndex (number w32 at bytes)) next rest within proof (entry_at n (drop at bytes))
      (λ less. rw (number_short w32 at bytes within less) refl)
      (λ enough. rw (number_to w32 at (at + 4) bytes refl enough) refl)

  count_fault : {B : Type 0} (n at : ℕ) (next : List ℕ → Result B LtxFault) (rest : Option LtxFault) → at ≤ length bytes
      → (at + 4 ≤ length bytes → fault_of (next (drop (at + 4) bytes)) ≡ rest)
      → fault_of (behind w32 n (BadIndex 0) (drop at bytes) >>= next) ≡ option_or
      (first_failed (count_tests bytes n at)) rest
  unfolding behind
  count_fault n at next rest within proof =
      number_fault n at (BadIndex 0) next rest within proof (behind w32 n (BadIndex 0) (drop at bytes))
      (λ less. rw (number_short w32 at bytes within less) refl)
      (λ enough. rw (number_to w32 at (at + 4) bytes refl enough) refl)

  abbrev index_from : {B : Type 0} → ℕ → ℕ → ℕ → (List ℕ → Result B LtxFault) → List ℕ → Result B LtxFault
  index_from n k count next rest = numbers_at (block_numbers bytes n k) rest >>= λ tail.
      behind w32 count (BadIndex 0) tail >>= next

  or_assoc : (a b c : Option LtxFault) → option_or (option_or a b) c ≡ option_or a (option_or b c)
  or_assoc None b c = refl
  or_assoc (Some fault) b c = refl

  index_faults : {B : Type 0} (n k count at end : ℕ) (next : List ℕ → Result B LtxFault) (rest : Option LtxFault)
      → k + n ≡ count → at + 4 * n + 4 ≡ end → at ≤ length bytes
      → (end ≤ length bytes → fault_of (next (drop end bytes)) ≡ rest)
      → fault_of (index_from n k count next (drop at bytes)) ≡ option_or (index_fault n bytes k at) rest
  unfolding numbers_at index_fault
  index_faults zero k count at end next rest counted ends within proof =
      let same : k ≡ count = omega (arith, counted) in
      let last : at + 4 ≡ end = omega (arith, ends) in
      rw same (count_fault count at next rest within (rw last proof))
  index_faults (suc n) k count at end next rest counted ends within proof =
      let numbers = block_numbers bytes n (suc k) in
      ap fault_of (bind_assoc (entry_at (block_number bytes k) (drop at bytes)) (numbers_at numbers)
      (λ tail. behind w32 count (BadIndex 0) tail >>= next))
      ∙ entry_fault (block_number bytes k) at (index_from n (suc k) count next)
      (option_or (index_fault n bytes (suc k) (at + 4)) rest) within (λ enough.
      index_faults n (suc k) count (at + 4) end next rest (omega (arith, counted)) (omega (arith, ends)) enough proof)
      ∙ sym (or_assoc (first_failed (entry_tests bytes k at)) (index_fault n bytes (suc k) (at + 4)) rest)

  -- ---- both

  pub tail_fault-is : (count at : ℕ) → at ≤ length bytes → fault_of
      (index_part_at (has_index bytes) (block_numbers bytes count 0) (drop at bytes) >>= end_at bytes) ≡ tail_fault
      bytes count at
  unfolding index_part_at index_at
  tail_fault-is count at within =
      elim (cases_Bool (has_index bytes)) [
        | inl index ↦
            rw (index, block_numbers-length bytes count 0)
            (ap fault_of (bind_assoc (numbers_at (block_numbers bytes count 0) (drop at bytes))
            (behind w32 count (BadIndex 0)) (end_at bytes))
            ∙ index_faults count 0 count at (at + 4 * count + 4) (end_at bytes)
            (first_failed (trailer_tests bytes (at + 4 * count + 4))) (omega arith) refl within
            (λ enough. trailer_fault (at + 4 * count + 4) enough))
        | inr plain ↦ rw plain (trailer_fault at within)
      ]
