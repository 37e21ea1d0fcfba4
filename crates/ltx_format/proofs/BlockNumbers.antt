-- The numbers of the blocks that are read, by their places in the bytes.
use Rattle.std.proofs.Common.{◌≡◌, ℕ, zero, suc, ◌+◌, ◌*◌, Bool, true, false, cond, eqb, ltb, leb, List, [], ◌∷◌}
use Rattle.std.proofs.Common.{length, take, drop, Result, Ok, Err, refl, sym, ap, subst, ◌∙◌, arith, inl, inr}
use Rattle.std.specs.Int.{Width, w16, w32, byte_len, from_be_bytes}
use Rattle.std.specs.Map.{keys_of}
use Rattle.std.proofs.lemmas.Bool.{cases_Bool}
use Rattle.std.proofs.lemmas.List.{drop-drop}
use Rattle.ltx_format.specs.declared.fault.LtxFault.{LtxFault}
use Rattle.ltx_format.specs.declared.fault.LtxFault.TheVariants.{Short, BadOrder}
use Rattle.ltx_format.specs.FirstFault.{number, page_size, is_next, block_number}
use Rattle.ltx_format.specs.Reading.{where_true, number_at, flags_from, block_at, last_at, page_at, blocks_at}
use Rattle.ltx_format.proofs.StepLemmas.{bind_then, where_true-ok, same_ok}
use Rattle.ltx_format.proofs.BlockLoop.{Blocks}
use Rattle.ltx_format.proofs.TailFaults.{block_numbers}

abbrev Read : Type 0
Read = ℕ × List ℕ

short_or : (test : Bool) (x y : Read) → cond test (Err Short) (Ok x) ≡ Ok y → x ≡ y
short_or true x y e = absurd cc
short_or false x y e = cc

module _ (bytes : List ℕ) where
  number_there : (w : Width) (at : ℕ) (x : Read) → number_at w (drop at bytes) ≡ Ok x → (number w at bytes ≡ x.0)
      × (drop (at + byte_len w) bytes ≡ x.1)
  unfolding number_at
  number_there w at x e =
      let here = drop at bytes in
      let same = short_or (ltb (length here) (byte_len w)) (
        from_be_bytes w (take (byte_len w) here),
        drop (byte_len w) here,
      ) x e in
      (ap (λ (y : Read). y.0) same, sym (drop-drop (byte_len w) at bytes) ∙ ap (λ (y : Read). y.1) same)

  block_there : (at : ℕ) (x : Read) → block_at (drop at bytes) ≡ Ok x → (number w32 at bytes ≡ x.0)
      × (drop (at + 6) bytes ≡ x.1)
  unfolding block_at
  block_there at x e =
      bind_then (number_at w32 (drop at bytes)) _ x e (λ n n_is e.
      bind_then (number_at w16 n.1) _ x e (λ flags flags_is e.
      bind_then (flags_from 0 flags.0) _ x e (λ plain plain_is e.
      let first = number_there w32 at n n_is in
      let second = number_there w16 (at + 4) flags (subst (λ (rest : List ℕ). number_at w16 rest ≡ Ok flags)
      (sym first.1) flags_is) in
      let made : Read = (n.0, flags.1) in
      let same = same_ok made x e in
      let end : at + 6 ≡ at + 4 + 2 = omega arith in (
        first.0 ∙ ap (λ (y : Read). y.0) same,
        ap (λ (k : ℕ). drop k bytes) end ∙ second.1
            ∙ ap (λ (y : Read). y.1) same,
      ))))

  page_there : (commit last n at : ℕ) (x : List ℕ × List ℕ) → page_at (page_size bytes) commit last n
      (drop at bytes) ≡ Ok x → drop (at + page_size bytes) bytes ≡ x.1
  unfolding page_at
  page_there commit last n at x e =
      let size = page_size bytes in
      bind_then (where_true (is_next size commit last n) (BadOrder n) (drop at bytes)) _ x e (λ rest rest_is e.
      let here = (where_true-ok (is_next size commit last n) (BadOrder n) (drop at bytes) rest rest_is).1 in
      let page = (where_true-ok (leb size (length rest)) Short (take size rest, drop size rest) x e).1 in
      sym (drop-drop size at bytes) ∙ ap (drop size) here ∙ ap (λ (y : List ℕ × List ℕ). y.1) page)

  abbrev AreNumbered : ℕ → Blocks × List ℕ → Type 0
  AreNumbered k x = keys_of x.0 ≡ block_numbers bytes (length x.0) k

  abbrev no_blocks : List ℕ → Result (Blocks × List ℕ) LtxFault
  no_blocks rest = Ok ([], rest)

  none_numbered : (k : ℕ) (rest : List ℕ) (x : Blocks × List ℕ) → no_blocks rest ≡ Ok x → AreNumbered k x
  none_numbered k rest x e = subst (AreNumbered k) (same_ok ([], rest) x e) refl

  pub numbers_of_blocks : (n commit last k at : ℕ) → at ≡ 100 + k * (6 + page_size bytes) → (x : Blocks × List ℕ)
      → blocks_at n (page_size bytes) commit last (drop at bytes) ≡ Ok x → AreNumbered k x
  unfolding blocks_at last_at
  numbers_of_blocks zero commit last k at at_is x e = bind_then (last_at (drop at bytes)) _ x e
      (λ rest rest_is e. none_numbered k rest x e)
  numbers_of_blocks (suc n) commit last k at at_is x e =
      let size = page_size bytes in
      bind_then (block_at (drop at bytes)) _ x e (λ block block_is e.
      elim (cases_Bool (eqb block.0 0)) [
        | inl ends ↦ none_numbered k block.1 x (rw ends at e)
        | inr goes_on ↦
            bind_then (page_at size commit last block.0 block.1) _ x (rw goes_on at e) (λ page page_is e.
            bind_then (blocks_at n size commit block.0 page.1) _ x e (λ others others_is e.
            let first = block_there at block block_is in
            let second = page_there commit last block.0 (at + 6) page
            (subst (λ (rest : List ℕ). page_at size commit last block.0 rest ≡ Ok page) (sym first.1) page_is) in
            let read = subst (λ (rest : List ℕ). blocks_at n size commit block.0 rest ≡ Ok others)
            (sym second) others_is in
            let later = numbers_of_blocks n commit block.0 (suc k) (at + 6 + size) (omega (arith, at_is)) others read in
            let here : block_number bytes k ≡ block.0 = ap (λ (place : ℕ). number w32 place bytes) (sym at_is)
            ∙ first.0 in
            let made : Blocks × List ℕ = ((block.0, page.0) ∷ others.0, others.1) in
            subst (AreNumbered k) (same_ok made x e) (λ i. sym here i ∷ later i)))
      ])
