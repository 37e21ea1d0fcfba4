-- The first fault of blocks, and of what comes behind them, is that of their readers.
use Rattle.std.proofs.Common.{◌≡◌, ℕ, zero, suc, ◌+◌, ◌<◌, ◌≤◌, Bool, false, cond, eqb, leb, List, [], ◌∷◌, length}
use Rattle.std.proofs.Common.{take, drop, Option, Result, Ok, Err, refl, ap, ◌∙◌, arith, inl, inr}
use Rattle.std.specs.Option.{option_or}
use Rattle.std.specs.Int.{w16, w32}
use Rattle.std.proofs.lemmas.Bool.{cases_Bool, cases_lt, le-leb, lt-leb, leb-true}
use Rattle.std.proofs.lemmas.List.{length-drop, drop-drop}
use Rattle.ltx_format.specs.declared.fault.LtxFault.{LtxFault}
use Rattle.ltx_format.specs.declared.fault.LtxFault.TheVariants.{Short, BadOrder}
use Rattle.ltx_format.specs.FirstFault.{first_failed, number, has_index, page_size, commit, is_next, is_whole}
use Rattle.ltx_format.specs.FirstFault.{block_tests, page_tests, tail_fault, end_fault, fault_from}
use Rattle.ltx_format.specs.Reading.{◌>>=◌, where_true, passes, flags_from, block_at, last_at, page_at, blocks_at}
use Rattle.ltx_format.specs.Reading.{index_part_at, end_at}
use Rattle.ltx_format.proofs.TestSteps.{fault_of, bind_assoc, step, first_then-or, number_to, number_short}
use Rattle.ltx_format.proofs.TestSteps.{flags_steps-or}
use Rattle.ltx_format.proofs.BlockLoop.{Blocks, next_parts}
use Rattle.ltx_format.proofs.TailFaults.{block_numbers, tail_fault-is}

module _ (bytes : List ℕ) where
  -- what is tested behind the blocks
  abbrev pub finish : ℕ → Blocks × List ℕ → Result (Unit {0}) LtxFault
  finish count x =
      passes (is_whole bytes (count + length x.0)) (BadOrder 0) >>= λ whole.
      index_part_at (has_index bytes) (block_numbers bytes (count + length x.0) 0) x.1 >>= end_at bytes

  finish_fault : (count at : ℕ) → at + 6 ≤ length bytes → fault_of
      (finish count ([], drop (at + 6) bytes)) ≡ end_fault bytes count at
  finish_fault count at within =
      let same : count + 0 ≡ count = omega arith in
      rw same (step (is_whole bytes count) (BadOrder 0) tt _ (tail_fault bytes count (at + 6))
      (λ whole. tail_fault-is bytes count (at + 6) within))

  -- ---- a block

  block_fault : {B : Type 0} (at : ℕ) (next : ℕ × List ℕ → Result B LtxFault) (rest : Option LtxFault)
      → at ≤ length bytes
      → (at + 6 ≤ length bytes → fault_of (next (number w32 at bytes, drop (at + 6) bytes)) ≡ rest)
      → fault_of (block_at (drop at bytes) >>= next) ≡ option_or (first_failed (block_tests bytes at)) rest
  unfolding block_at
  block_fault at next rest within proof =
      elim (cases_lt (length bytes) (at + 6)) [
        | inl short ↦
            elim (cases_lt (length bytes) (at + 4)) [
              | inl sooner ↦ rw (number_short w32 at bytes within sooner, lt-leb (at + 6) (length bytes) short) refl
              | inr later ↦ rw (
                number_to w32 at (at + 4) bytes refl later,
                number_short w16 (at + 4) bytes later (omega (arith, short)),
                lt-leb (at + 6) (length bytes) short,
              )
                  refl
            ]
        | inr long ↦
            let flags = number w16 (at + 4) bytes in
            rw (
              number_to w32 at (at + 4) bytes refl (omega (arith, long)),
              number_to w16 (at + 4) (at + 6) bytes (omega arith) long,
              le-leb (at + 6) (length bytes) long,
            )
            (ap fault_of (bind_assoc (flags_from 0 flags) (λ plain. Ok (number w32 at bytes, drop (at + 6) bytes)) next)
            ∙ flags_steps-or 0 flags (λ plain. next (number w32 at bytes, drop (at + 6) bytes)) rest (proof long))
      ]

  page_there : (at : ℕ) → at + 6 ≤ length bytes → leb (page_size bytes) (length (drop (at + 6) bytes)) ≡ leb
      (at + 6 + page_size bytes) (length bytes)
  page_there at within =
      let left = length-drop (at + 6) bytes in
      elim (cases_lt (length bytes) (at + 6 + page_size bytes)) [
        | inl short ↦ rw (
          lt-leb (page_size bytes) (length (drop (at + 6) bytes)) (omega (arith, left, short, within)),
          lt-leb (at + 6 + page_size bytes) (length bytes) short,
        ) refl
        | inr long ↦ rw (
          le-leb (page_size bytes) (length (drop (at + 6) bytes)) (omega (arith, left, long, within)),
          le-leb (at + 6 + page_size bytes) (length bytes) long,
        ) refl
      ]

  abbrev rises : ℕ → ℕ → Bool
  rises last n = is_next (page_size bytes) (commit bytes) last n

  abbrev page_and_rest : List ℕ → Result (List ℕ × List ℕ) LtxFault
  page_and_rest rest = where_true (leb (page_size bytes) (length rest)) Short
      (take (page_size bytes) rest, drop (page_size bytes) rest)

  page_fault : {B : Type 0} (last at : ℕ) (next : List ℕ × List ℕ → Result B LtxFault) (rest : Option LtxFault)
      → at + 6 ≤ length bytes
      → (last < number w32 at bytes → at + 6 + page_size bytes ≤ length bytes
      → fault_of (next (
        take (page_size bytes) (drop (at + 6) bytes),
        drop (at + 6 + page_size bytes) bytes,
      )) ≡ rest)
      → fault_of (page_at (page_size bytes) (commit bytes) last (number w32 at bytes)
      (drop (at + 6) bytes) >>= next) ≡ option_or (first_failed (page_tests bytes last at)) rest
  unfolding page_at
  page_fault last at next rest within proof =
      let n = number w32 at bytes in
      let there = leb (at + 6 + page_size bytes) (length bytes) in
      ap fault_of (bind_assoc (where_true (rises last n) (BadOrder n) (drop (at + 6) bytes)) page_and_rest next)
      ∙ step (rises last n) (BadOrder n) (drop (at + 6) bytes) (λ x. page_and_rest x >>= next)
      (option_or (first_failed ((there, Short) ∷ [])) rest) (λ up.
      rw (page_there at within, drop-drop (page_size bytes) (at + 6) bytes)
      (step there Short (take (page_size bytes) (drop (at + 6) bytes), drop (at + 6 + page_size bytes) bytes) next rest
      (λ long.
      proof (next_parts (page_size bytes) (commit bytes) last n up).0 (leb-true _ _ long))))
      ∙ first_then-or (rises last n) (BadOrder n) ((there, Short) ∷ []) rest

  -- ---- all blocks

  counted_more : (count : ℕ) (block : ℕ × List ℕ) (read : Result (Blocks × List ℕ) LtxFault)
      → fault_of (read >>= λ others. finish count (block ∷ others.0, others.1)) ≡ fault_of (read >>= finish (suc count))
  counted_more count block (Ok x) =
      let same : count + suc (length x.0) ≡ suc count + length x.0 = omega arith in
      rw same refl
  counted_more count block (Err fault) = refl

  beyond : (last n : ℕ) → commit bytes ≤ last → rises last n ≡ false
  beyond last n done =
      elim (cases_Bool (rises last n)) [
        | inl up ↦
            let parts = next_parts (page_size bytes) (commit bytes) last n up in
            absurd (omega (arith, done, parts.0, parts.1))
        | inr not_up ↦ not_up
      ]

  -- what is tested behind a block's flags
  abbrev after_flags : ℕ → ℕ → ℕ → ℕ → Option LtxFault
  after_flags n count last at =
      cond (eqb (number w32 at bytes) 0) (end_fault bytes count at)
      (option_or (first_failed (page_tests bytes last at))
      (fault_from n bytes (suc count) (number w32 at bytes) (at + 6 + page_size bytes)))

  abbrev no_blocks : List ℕ → Result (Blocks × List ℕ) LtxFault
  no_blocks rest = Ok ([], rest)

  abbrev end_block : ℕ × List ℕ → Result (List ℕ) LtxFault
  end_block n = where_true (eqb n.0 0) (BadOrder n.0) n.1

  abbrev page_block : ℕ → ℕ → ℕ × List ℕ → Result (Blocks × List ℕ) LtxFault
  page_block n last block = page_at (page_size bytes) (commit bytes) last block.0 block.1 >>= λ page.
      blocks_at n (page_size bytes) (commit bytes) block.0 page.1 >>= λ others. Ok
      ((block.0, page.0) ∷ others.0, others.1)

  abbrev any_block : ℕ → ℕ → ℕ × List ℕ → Result (Blocks × List ℕ) LtxFault
  any_block n last block = cond (eqb block.0 0) (no_blocks block.1) (page_block n last block)

  pub blocks_fault : (n count last at : ℕ) → n + count ≡ commit bytes → count ≤ last → at ≤ length bytes
      → fault_of (blocks_at n (page_size bytes) (commit bytes) last (drop at bytes) >>= finish count) ≡ fault_from
      (suc n) bytes count last at
  unfolding blocks_at last_at fault_from
  blocks_fault zero count last at every counted within =
      let here = drop at bytes in
      ap fault_of (bind_assoc (last_at here) no_blocks (finish count)
      ∙ bind_assoc (block_at here) end_block (λ rest. finish count ([], rest)))
      ∙ block_fault at (λ block. end_block block >>= λ rest. finish count ([], rest))
      (after_flags zero count last at) within (λ long.
      elim (cases_Bool (eqb (number w32 at bytes) 0)) [
        | inl ends ↦ rw ends (finish_fault count at long)
        | inr goes_on ↦ rw (goes_on, beyond last (number w32 at bytes) (omega (arith, every, counted))) refl
      ])
  blocks_fault (suc n) count last at every counted within =
      let here = drop at bytes in
      let this = number w32 at bytes in
      let next_at = at + 6 + page_size bytes in
      let others : List ℕ × List ℕ → Result (Blocks × List ℕ) LtxFault = λ page.
      blocks_at n (page_size bytes) (commit bytes) this page.1 >>= λ others. Ok
      ((this, page.0) ∷ others.0, others.1) in
      ap fault_of (bind_assoc (block_at here) (any_block n last) (finish count))
      ∙ block_fault at (λ block. any_block n last block >>= finish count) (after_flags (suc n) count last at) within
      (λ long.
      elim (cases_Bool (eqb this 0)) [
        | inl ends ↦ rw ends (finish_fault count at long)
        | inr goes_on ↦
            rw goes_on (ap fault_of (bind_assoc (page_at (page_size bytes) (commit bytes) last this
            (drop (at + 6) bytes)) others (finish count))
            ∙ page_fault last at (λ page. others page >>= finish count)
            (fault_from (suc n) bytes (suc count) this next_at) long (λ up fits.
            let page = take (page_size bytes) (drop (at + 6) bytes) in
            let read = blocks_at n (page_size bytes) (commit bytes) this (drop next_at bytes) in
            ap fault_of (bind_assoc read (λ others. Ok ((this, page) ∷ others.0, others.1)) (finish count))
            ∙ counted_more count (this, page) read
            ∙ blocks_fault n (suc count) this next_at (omega (arith, every)) (omega (arith, counted, up)) fits))
      ])
