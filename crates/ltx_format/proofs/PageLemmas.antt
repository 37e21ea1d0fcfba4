-- The pages of a map are those of its entries.
use Rattle.std.proofs.Common.{◌≡◌, ℕ, ◌^◌, ◌<◌, List, [], ◌∷◌, length, refl, sym, subst, ◌∙◌, arith}
use Rattle.std.specs.Prelude.{IsSome}
use Rattle.std.specs.Ordering.{nat_cmp}
use Rattle.std.specs.Map.{keys_of}
use Rattle.std.specs.FinMap.{FinMap, entries, entries_sorted, get-entries}
use Rattle.ltx_format.specs.declared.header.LtxHeader.{LtxHeader}
use Rattle.ltx_format.specs.LtxFormat.{ArePages}
use Rattle.ltx_format.specs.FirstFault.{stored_pages}
use Rattle.ltx_format.proofs.BlockLoop.{Blocks}
use Rattle.ltx_format.proofs.BlockLaws.{AreBlocks}
use Rattle.ltx_format.proofs.FindLemmas.{found-from_blocks, blocks-from_found}
use Rattle.ltx_format.proofs.CountLemmas.{some_page, all_found, all_counted}
use Rattle.ltx_format.proofs.IndexLaws.{AllFit}

-- the numbers of blocks fit the fields of an index
pub numbers_fit : (size commit last : ℕ) (blocks : Blocks) → commit < 2 ^ 32 → AreBlocks size commit last blocks
    → AllFit (keys_of blocks)
numbers_fit size commit last [] small are = tt
numbers_fit size commit last (block ∷ blocks) small are = let at_most = are.0.at_most in
    (omega arith, numbers_fit size commit block.0 blocks small are.1)

pub pages-from_blocks : (h : LtxHeader) (m : FinMap nat_cmp (List ℕ)) → AreBlocks h.size h.commit 0 (entries m)
    → (h.min ≡ 1 → length (entries m) ≡ stored_pages h.size h.commit) → ArePages h m
pages-from_blocks h m are count = record {
  sized = λ number page e. (found-from_blocks h.size h.commit 0 (entries m) number page are
      (sym (get-entries m number) ∙ e)).2;
  bytes = λ number page e. (found-from_blocks h.size h.commit 0 (entries m) number page are
      (sym (get-entries m number) ∙ e)).3;
  numbered = λ number some.
      let page = some_page _ (subst IsSome (get-entries m number) some) in
      let found = found-from_blocks h.size h.commit 0 (entries m) number page.0 are page.1 in
      record { some = found.0; at_most = found.1; unlocked = found.4 };
  whole = λ from_first number stored.
      subst IsSome (sym (get-entries m number)) (all_found h.size h.commit (entries m) are (count from_first) number
      (stored.some, stored.at_most, stored.unlocked));
}

pub blocks-from_pages : (h : LtxHeader) (m : FinMap nat_cmp (List ℕ)) → ArePages h m
    → AreBlocks h.size h.commit 0 (entries m) × (h.min ≡ 1 → length (entries m) ≡ stored_pages h.size h.commit)
blocks-from_pages h m are =
    let blocks = blocks-from_found h.size h.commit 0 (entries m) (entries_sorted m) (λ number page e.
    let got = get-entries m number ∙ e in
    let numbered = are.numbered number (subst IsSome (sym got) refl) in
    (numbered.some, numbered.at_most, are.sized number page got, are.bytes number page got, numbered.unlocked)) in (
      blocks,
      λ from_first. all_counted h.size h.commit (entries m) (entries_sorted m) blocks (λ number sought.
          subst IsSome (get-entries m number) (are.whole from_first number
          (record { some = sought.0; at_most = sought.1; unlocked = sought.2 }))),
    )
