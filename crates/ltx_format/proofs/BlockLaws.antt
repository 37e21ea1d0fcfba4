-- The laws of the reader of blocks.
use Rattle.std.proofs.Common.{◌≡◌, ℕ, zero, suc, ◌+◌, ◌^◌, ◌<◌, ◌≤◌, ◌≢◌, true, eqb, leb, List, [], ◌∷◌, ◌++◌, length}
use Rattle.std.proofs.Common.{take, drop, Ok, refl, sym, ap, subst, ◌∙◌, append_assoc, arith, inl, inr}
use Rattle.std.specs.Prelude.{replicate}
use Rattle.std.specs.List.{flat_map}
use Rattle.std.specs.Int.{w16, w32, to_be_bytes}
use Rattle.std.proofs.lemmas.Bool.{cases_Bool, eqb-true, leb-true, le-leb, ne_eqb}
use Rattle.std.proofs.lemmas.List.{take_at, drop_at, take-append-drop, length-take, length-append}
use Rattle.std.proofs.lemmas.List.Concat.{flat_map-cons}
use Rattle.ltx_format.specs.declared.fault.LtxFault.TheVariants.{Short, BadOrder}
use Rattle.ls_base.specs.PageSize.{lock_page}
use Rattle.ltx_format.specs.LtxFormat.{page_block}
use Rattle.ltx_format.specs.FirstFault.{is_next}
use Rattle.ltx_format.specs.Reading.{number_at, flags_from, where_true, block_at, last_at, page_at, blocks_at}
use Rattle.ltx_format.proofs.StepLemmas.{bind_then, where_true-ok, same_ok}
use Rattle.ltx_format.proofs.FieldLaws.{AreBytes, AreBytes-drop, AreBytes-take, BeginsWith, BeginsWith-then, numbers16}
use Rattle.ltx_format.proofs.FieldLaws.{numbers32, number-read, number-again, flags-read, flags-again}
use Rattle.ltx_format.proofs.BlockLoop.{Blocks, next_parts, next_true}

-- the page of a block: its number is above the last, at most the commit and not the lock page, and it is as
-- many bytes as the page size
pub record IsNext (size commit last : ℕ) (block : ℕ × List ℕ) : Type 0 where
  pub above : last < block.0
  pub at_most : block.0 ≤ commit
  pub unlocked : block.0 ≢ lock_page size
  pub sized : length block.1 ≡ size
  pub small : AreBytes block.1

-- blocks whose numbers rise from above the last one to at most the commit
abbrev pub AreBlocks : ℕ → ℕ → ℕ → Blocks → Type 0
AreBlocks size commit last [] = Unit {0}
AreBlocks size commit last (block ∷ blocks) = IsNext size commit last block × AreBlocks size commit block.0 blocks

-- ---- the number of a block

abbrev number_and_flags : ℕ → List ℕ
number_and_flags number = to_be_bytes w32 number ++ replicate 2 0

pub block-read : (bytes : List ℕ) (x : ℕ × List ℕ) → AreBytes bytes → block_at bytes ≡ Ok x
    → BeginsWith bytes (number_and_flags x.0) x.1
unfolding block_at
block-read bytes x small e =
    bind_then (number_at w32 bytes) _ x e (λ number number_is e.
    bind_then (number_at w16 number.1) _ x e (λ flags flags_is e.
    bind_then (flags_from 0 flags.0) _ x e (λ plain plain_is e.
    let a = number-read numbers32 bytes number small number_is in
    let b = number-read numbers16 number.1 flags a.0.small flags_is in
    let none : BeginsWith number.1 (replicate 2 0) flags.1 =
    subst (λ (n : ℕ). BeginsWith number.1 (to_be_bytes w16 n) flags.1) (flags-read 0 flags.0 plain plain_is) b.0 in
    let made : ℕ × List ℕ = (number.0, flags.1) in
    subst (λ (y : ℕ × List ℕ). BeginsWith bytes (number_and_flags y.0) y.1) (same_ok made x e)
    (BeginsWith-then bytes (to_be_bytes w32 number.0) number.1 (replicate 2 0) flags.1 a.0 none))))

pub block-again : (number : ℕ) (rest : List ℕ) → number < 2 ^ 32
    → block_at (number_and_flags number ++ rest) ≡ Ok (number, rest)
unfolding block_at
block-again number rest fits = rw (
  number-again numbers32 number (replicate 2 0 ++ rest) fits,
  number-again numbers16 0 rest (omega arith),
  flags-again 0 refl,
) refl

-- ---- one page

page-read : (size commit last number : ℕ) (bytes : List ℕ) (x : List ℕ × List ℕ) → AreBytes bytes
    → page_at size commit last number bytes ≡ Ok x → BeginsWith bytes x.0 x.1 × IsNext size commit last (number, x.0)
unfolding page_at
page-read size commit last number bytes x small e =
    bind_then (where_true (is_next size commit last number) (BadOrder number) bytes) _ x e (λ rest rest_is e.
    let rises = where_true-ok (is_next size commit last number) (BadOrder number) bytes rest rest_is in
    let order = next_parts size commit last number rises.0 in
    let long = where_true-ok (leb size (length rest)) Short (take size rest, drop size rest) x e in
    let enough : size ≤ length rest = leb-true _ _ long.0 in
    let rest_small : AreBytes rest = subst AreBytes rises.1 small in
    let page : BeginsWith rest (take size rest) (drop size rest) =
    record { whole = sym (take-append-drop size rest); small = AreBytes-drop size rest rest_small } in
    let is : IsNext size commit last (number, take size rest) =
    record {
      above = order.0;
      at_most = order.1;
      unlocked = order.2;
      sized =
          omega (arith, length-take size rest);
      small = AreBytes-take size rest rest_small;
    } in
    subst (λ (y : List ℕ × List ℕ). BeginsWith bytes y.0 y.1 × IsNext size commit last (number, y.0)) long.1
    (subst (λ (y : List ℕ). BeginsWith y (take size rest) (drop size rest)) (sym rises.1) page, is))

page-again : (size commit last number : ℕ) (page rest : List ℕ) → IsNext size commit last (number, page)
    → page_at size commit last number (page ++ rest) ≡ Ok (page, rest)
unfolding page_at
page-again size commit last number page rest is =
    let sized = is.sized in
    rw (
      next_true size commit last number is.above is.at_most is.unlocked,
      le-leb size (length (page ++ rest)) (omega (arith, length-append page rest)),
      take_at page rest size sized,
      drop_at page rest size sized,
    ) refl

-- ---- all

-- the blocks of pages, and the one that ends them
abbrev pub ended : Blocks → List ℕ
ended blocks = flat_map page_block blocks ++ replicate 6 0

ended-more : (block : ℕ × List ℕ) (blocks : Blocks) → ended (block ∷ blocks) ≡ page_block block ++ ended blocks
ended-more block blocks = ap (λ (x : List ℕ). x ++ replicate 6 0) (flat_map-cons page_block block blocks)
    ∙ append_assoc (page_block block) (flat_map page_block blocks) (replicate 6 0)

abbrev ReadBlocks : ℕ → ℕ → ℕ → List ℕ → Blocks × List ℕ → Type 0
ReadBlocks size commit last bytes x = BeginsWith bytes (ended x.0) x.1 × AreBlocks size commit last x.0

abbrev no_blocks : List ℕ → Blocks × List ℕ
no_blocks rest = ([], rest)

last-read : (size commit last : ℕ) (bytes : List ℕ) (number : ℕ × List ℕ) (x : Blocks × List ℕ) → AreBytes bytes
    → block_at bytes ≡ Ok number → eqb number.0 0 ≡ true → no_blocks number.1 ≡ x → ReadBlocks size commit last bytes x
last-read size commit last bytes number x small number_is none e =
    let first = block-read bytes number small number_is in
    let zeros : BeginsWith bytes (ended []) number.1 = subst (λ (n : ℕ). BeginsWith bytes (number_and_flags n) number.1)
    (eqb-true _ _ none) first in
    subst (ReadBlocks size commit last bytes) e (zeros, tt)

pub blocks-read : (n size commit last : ℕ) (bytes : List ℕ) (x : Blocks × List ℕ) → AreBytes bytes
    → blocks_at n size commit last bytes ≡ Ok x → ReadBlocks size commit last bytes x
unfolding blocks_at last_at
blocks-read zero size commit last bytes x small e =
    bind_then (last_at bytes) _ x e (λ rest rest_is e.
    bind_then (block_at bytes) _ rest rest_is (λ number number_is f.
    let none = where_true-ok (eqb number.0 0) (BadOrder number.0) number.1 rest f in
    last-read size commit last bytes number x small number_is none.0
    (ap (λ (r : List ℕ). no_blocks r) none.1 ∙ same_ok (no_blocks rest) x e)))
blocks-read (suc n) size commit last bytes x small e =
    bind_then (block_at bytes) _ x e (λ number number_is e.
    elim (cases_Bool (eqb number.0 0)) [
      | inl ends ↦ last-read size commit last bytes number x small number_is ends
          (same_ok (no_blocks number.1) x (rw ends at e))
      | inr goes_on ↦
          bind_then (page_at size commit last number.0 number.1) _ x (rw goes_on at e) (λ page page_is e.
          bind_then (blocks_at n size commit number.0 page.1) _ x e (λ others others_is e.
          let first = block-read bytes number small number_is in
          let second = page-read size commit last number.0 number.1 page first.small page_is in
          let third = blocks-read n size commit number.0 page.1 others second.0.small others_is in
          let block : ℕ × List ℕ = (number.0, page.0) in
          let one : BeginsWith bytes (page_block block) page.1 =
          BeginsWith-then bytes (number_and_flags number.0) number.1 page.0 page.1 first second.0 in
          let both = BeginsWith-then bytes (page_block block) page.1 (ended others.0) others.1 one third.0 in
          let made : Blocks × List ℕ = (block ∷ others.0, others.1) in
          subst (ReadBlocks size commit last bytes) (same_ok made x e)
          (rw (ended-more block others.0) both, (second.1, third.1))))
    ])

pub blocks-again : (n size commit last : ℕ) (blocks : Blocks) (rest : List ℕ) → AreBlocks size commit last blocks
    → commit ≤ last + n → commit < 2 ^ 32
    → blocks_at n size commit last (ended blocks ++ rest) ≡ Ok (blocks, rest)
unfolding blocks_at last_at
blocks-again zero size commit last [] rest are enough small = rw (block-again 0 rest (omega arith)) refl
blocks-again (suc n) size commit last [] rest are enough small = rw (block-again 0 rest (omega arith)) refl
blocks-again zero size commit last (block ∷ blocks) rest are enough small =
    let above = are.0.above in
    let at_most = are.0.at_most in
    absurd (omega arith)
blocks-again (suc n) size commit last (block ∷ blocks) rest are enough small =
    let above = are.0.above in
    let at_most = are.0.at_most in
    let behind_page = ended blocks ++ rest in
    let spelled : ended (block ∷ blocks) ++ rest ≡ number_and_flags block.0 ++ (block.1 ++ behind_page) =
    ap (λ (x : List ℕ). x ++ rest) (ended-more block blocks) ∙ append_assoc (page_block block) (ended blocks) rest
    ∙ append_assoc (number_and_flags block.0) block.1 behind_page in
    ap (blocks_at (suc n) size commit last) spelled
    ∙ rw (
      block-again block.0 (block.1 ++ behind_page) (omega arith),
      ne_eqb block.0 0 (λ e. omega arith),
      page-again size commit last block.0 block.1 behind_page are.0,
      blocks-again n size commit block.0 blocks rest are.1 (omega arith) small,
    ) refl
