-- The blocks of pages by their places, as a walk over the places puts them.
use Rattle.std.proofs.Common.{◌≡◌, ℕ, zero, suc, ◌+◌, ◌≤◌, List, [], ◌∷◌, ◌++◌, take, Option, Some, None, sym, ap, ◌∙◌}
use Rattle.std.proofs.Common.{arith}
use Rattle.std.specs.List.{flat_map, slice_get}
use Rattle.std.specs.Map.{keys_of}
use Rattle.std.specs.Ordering.{nat_cmp}
use Rattle.std.specs.FinMap.{find}
use Rattle.std.proofs.lemmas.List.{append-nil, take_all}
use Rattle.std.proofs.lemmas.List.Concat.{flat_map-append, flat_map-cons}
use Rattle.ltx_format.specs.LtxFormat.{page_block}
use Rattle.ltx_format.proofs.BlockLoop.{Blocks}
use Rattle.ltx_format.proofs.BlockLaws.{AreBlocks}
use Rattle.ltx_format.proofs.FindLemmas.{find_here, find_there, found-from_blocks}
use Rattle.ltx_format.proofs.CountLemmas.{few}

-- the block at a place: its page is found by its number, and it comes behind those of the places before
pub record IsAt (at number : ℕ) (blocks : Blocks) : Type 0 where
  pub page : List ℕ
  pub found : find nat_cmp number blocks ≡ Some page
  pub more : take (suc at) blocks ≡ take at blocks ++ (number, page) ∷ []

pub block_at_place : (size commit last at number : ℕ) (blocks : Blocks) → AreBlocks size commit last blocks
    → slice_get (keys_of blocks) at ≡ Some number → IsAt at number blocks
block_at_place size commit last zero number [] are e = absurd cc
block_at_place size commit last (suc at) number [] are e = absurd cc
block_at_place size commit last zero number (block ∷ blocks) are e =
    let same : number ≡ block.0 = cc in
    record { page = block.1; found = find_here number block blocks same; more = λ i. (sym same i, block.1) ∷ [] }
block_at_place size commit last (suc at) number (block ∷ blocks) are e =
    let later = block_at_place size commit block.0 at number blocks are.1 e in
    let above = (found-from_blocks size commit block.0 blocks number later.page are.1 later.found).0 in
    record {
      page = later.page;
      found = find_there number block blocks (λ same. omega arith) ∙ later.found;
      more = ap (λ (rest : Blocks). block ∷ rest) later.more;
    }

-- a walk up to the commit put every block
pub all_put : (size commit at : ℕ) (blocks : Blocks) → AreBlocks size commit 0 blocks → commit ≤ at
    → take at blocks ≡ blocks
all_put size commit at blocks are done = let most = few size commit 0 blocks are in take_all at blocks (omega arith)

pub put_more : (at number : ℕ) (page : List ℕ) (blocks : Blocks) → take (suc at) blocks ≡ take at blocks
    ++ (number, page) ∷ []
    → flat_map page_block (take (at + 1) blocks) ≡ flat_map page_block (take at blocks) ++ page_block (number, page)
put_more at number page blocks more =
    let one : at + 1 ≡ suc at = omega arith in
    ap (λ (n : ℕ). flat_map page_block (take n blocks)) one
    ∙ ap (flat_map page_block) more
    ∙ flat_map-append page_block (take at blocks) ((number, page) ∷ [])
    ∙ ap (λ (x : List ℕ). flat_map page_block (take at blocks) ++ x)
    (flat_map-cons page_block (number, page) [] ∙ append-nil (page_block (number, page)))

pub same_page : (o : Option (List ℕ)) (a b : List ℕ) → o ≡ Some a → o ≡ Some b → a ≡ b
same_page o a b first second = cc

pub some_not_none : (o : Option (List ℕ)) (a : List ℕ) → o ≡ Some a → o ≡ None → ⊥
some_not_none o a some none = cc
