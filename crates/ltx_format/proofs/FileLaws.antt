-- The laws of the reader of whole files.
use Rattle.std.proofs.Common.{◌≡◌, ℕ, ◌+◌, ◌-◌, ◌^◌, ◌<◌, true, eqb, not, List, [], ◌++◌, length, take, Ok, refl, sym}
use Rattle.std.proofs.Common.{ap, subst, ◌∙◌, append_assoc, arith, inl, inr}
use Rattle.std.specs.Prelude.{replicate}
use Rattle.std.specs.List.{flat_map}
use Rattle.std.specs.Map.{keys_of}
use Rattle.std.specs.Int.{w64, to_be_bytes}
use Rattle.std.proofs.lemmas.Bool.{cases_eq, or_cases, or_left, or_right, not-true, not_from_false, eqb-true, eqb-false}
use Rattle.std.proofs.lemmas.Bool.{eq-eqb, ne_eqb}
use Rattle.std.proofs.lemmas.List.{nil_from_length, take_at, length-append, length-map}
use Rattle.ltx_format.specs.declared.fault.LtxFault.TheVariants.{BadReserved, BadOrder, BadSum, Extra}
use Rattle.ltx_format.specs.declared.header.LtxHeader.{LtxHeader}
use Rattle.ltx_format.specs.LtxFormat.{header_bytes, page_block, index_part, file_sum, IsHeader}
use Rattle.ltx_format.specs.FirstFault.{stored_pages}
use Rattle.ltx_format.specs.Reading.{where_true, passes, number_at, sum_before, header_at, blocks_at, end_at}
use Rattle.ltx_format.specs.Reading.{index_part_at, has_all, file_at}
use Rattle.ltx_format.proofs.StepLemmas.{bind_then, where_true-ok, same_ok}
use Rattle.ltx_format.proofs.FieldLaws.{AreBytes, numbers64, number-read, number-again}
use Rattle.ltx_format.proofs.HeaderLaws.{joined, header-read, header-again, commit_fits}
use Rattle.ltx_format.proofs.BlockLoop.{Blocks}
use Rattle.ltx_format.proofs.BlockLaws.{AreBlocks, ended, blocks-read, blocks-again}
use Rattle.ltx_format.proofs.IndexLaws.{index_part-read, index_part-again}
use Rattle.ltx_format.proofs.CountLemmas.{few}
use Rattle.ltx_format.proofs.PageLemmas.{numbers_fit}

-- ---- the end

abbrev end_bytes : ℕ → List ℕ
end_bytes sum = to_be_bytes w64 0 ++ to_be_bytes w64 sum

-- the sum that a file is to end with
abbrev own_sum : List ℕ → ℕ
own_sum file = file_sum (take (length file - 8) file)

end-read : (file bytes : List ℕ) (x : Unit {0}) → AreBytes bytes → end_at file bytes ≡ Ok x
    → bytes ≡ end_bytes (own_sum file)
unfolding end_at
end-read file bytes x small e =
    bind_then (number_at w64 bytes) _ x e (λ check check_is e.
    bind_then (number_at w64 check.1) _ x e (λ kept kept_is e.
    bind_then (passes (eqb check.0 0) BadReserved) _ x e (λ zero zero_is e.
    bind_then (passes (eqb kept.0 (sum_before file check.1)) (BadSum kept.0 (sum_before file check.1))) _ x e
    (λ right right_is e.
    let a = number-read numbers64 bytes check small check_is in
    let b = number-read numbers64 check.1 kept a.0.small kept_is in
    let none : check.0 ≡ 0 = eqb-true _ _ (where_true-ok (eqb check.0 0) BadReserved tt zero zero_is).0 in
    let same : kept.0 ≡ sum_before file check.1 = eqb-true _ _
    (where_true-ok (eqb kept.0 (sum_before file check.1))
    (BadSum kept.0 (sum_before file check.1)) tt right right_is).0 in
    let nothing : kept.1 ≡ [] = nil_from_length kept.1 (eqb-true _ _
    (where_true-ok (eqb (length kept.1) 0) Extra tt x e).0) in
    let last : check.1 ≡ to_be_bytes w64 kept.0 = b.0.whole ∙ ap
    (λ (y : List ℕ). to_be_bytes w64 kept.0 ++ y) nothing in
    let sum_is : kept.0 ≡ own_sum file = same ∙ ap (λ (n : ℕ). file_sum (take (length file - n) file))
    (ap length last) in
    a.0.whole ∙ ap (λ (n : ℕ). to_be_bytes w64 n ++ check.1) none
    ∙ ap (λ (y : List ℕ). to_be_bytes w64 0 ++ y) (last ∙ ap (to_be_bytes w64) sum_is)))))

end-again : (file : List ℕ) → own_sum file < 2 ^ 64 → end_at file (end_bytes (own_sum file)) ≡ Ok tt
unfolding end_at
end-again file fits =
    rw (
      number-again numbers64 0 (to_be_bytes w64 (own_sum file)) (omega arith),
      number-again numbers64 (own_sum file) [] fits,
      eq-eqb (own_sum file) (own_sum file) refl,
    ) refl

-- ---- the whole

-- all but the sum
abbrev pub before_sum : LtxHeader → Blocks → List ℕ
before_sum h blocks = header_bytes h ++ flat_map page_block blocks ++ replicate 6 0
    ++ index_part h.index (keys_of blocks) ++ replicate 8 0

regrouped : (header blocks index : List ℕ) (sum : ℕ) → (header ++ blocks ++ replicate 6 0 ++ index ++ replicate 8 0)
    ++ to_be_bytes w64 sum ≡ header ++ ((blocks ++ replicate 6 0) ++ (index ++ end_bytes sum))
regrouped header blocks index sum =
    append_assoc (header ++ blocks ++ replicate 6 0 ++ index) (replicate 8 0) (to_be_bytes w64 sum)
    ∙ append_assoc (header ++ blocks ++ replicate 6 0) index (end_bytes sum)
    ∙ ap (λ (x : List ℕ). x ++ (index ++ end_bytes sum)) (append_assoc header blocks (replicate 6 0))
    ∙ append_assoc header (blocks ++ replicate 6 0) (index ++ end_bytes sum)

-- the sum of a file that is these bytes and a sum is theirs
own_sum-is : (before file : List ℕ) (sum : ℕ) → file ≡ before ++ to_be_bytes w64 sum
    → take (length file - 8) file ≡ before
own_sum-is before file sum e =
    let len : length file ≡ length before + 8 = ap length e ∙ length-append before (to_be_bytes w64 sum) in
    ap (take (length file - 8)) e ∙ take_at before (to_be_bytes w64 sum) (length file - 8) (omega arith)

whole-true : (h : LtxHeader) (blocks : Blocks) → has_all h blocks ≡ true → h.min ≡ 1
    → length blocks ≡ stored_pages h.size h.commit
whole-true h blocks e from_first =
    elim (or_cases (not (eqb h.min 1)) (eqb (length blocks) (stored_pages h.size h.commit)) e) [
      | inl later ↦ absurd (eqb-false h.min 1 (not-true _ later) from_first)
      | inr every ↦ eqb-true _ _ every
    ]

true-whole : (h : LtxHeader) (blocks : Blocks) → (h.min ≡ 1 → length blocks ≡ stored_pages h.size h.commit)
    → has_all h blocks ≡ true
true-whole h blocks every =
    elim (cases_eq h.min 1) [
      | inl first ↦ or_right _ _ (eq-eqb _ _ (every first))
      | inr later ↦ or_left _ _ (not_from_false _ (ne_eqb h.min 1 later))
    ]

abbrev given : LtxHeader → Blocks → LtxHeader × Blocks
given h blocks = (h, blocks)

-- the bytes are spelled from this header and these blocks, which fit each other
pub record IsSpelled (bytes : List ℕ) (x : LtxHeader × Blocks) : Type 0 where
  pub header : IsHeader x.0
  pub blocks : AreBlocks x.0.size x.0.commit 0 x.1
  pub whole : x.0.min ≡ 1 → length x.1 ≡ stored_pages x.0.size x.0.commit
  pub spelled : bytes ≡ before_sum x.0 x.1 ++ to_be_bytes w64 (file_sum (before_sum x.0 x.1))

pub file-read : (bytes : List ℕ) (x : LtxHeader × Blocks) → AreBytes bytes → file_at bytes ≡ Ok x → IsSpelled bytes x
unfolding file_at
file-read bytes x small e =
    bind_then (header_at bytes) _ x e (λ header header_is e.
    bind_then (blocks_at header.0.commit header.0.size header.0.commit 0 header.1) _ x e (λ blocks blocks_is e.
    bind_then (where_true (has_all header.0 blocks.0) (BadOrder 0) blocks.0) _ x e (λ every every_is e.
    bind_then (index_part_at header.0.index (keys_of every) blocks.1) _ x e (λ tail tail_is e.
    bind_then (end_at bytes tail) _ x e (λ end end_is e.
    let a = header-read bytes header small header_is in
    let b = blocks-read header.0.commit header.0.size header.0.commit 0 header.1 blocks a.0.small blocks_is in
    let c = where_true-ok (has_all header.0 blocks.0) (BadOrder 0) blocks.0 every every_is in
    let index_is = subst (λ (y : Blocks). index_part_at header.0.index (keys_of y) blocks.1 ≡ Ok tail)
    (sym c.1) tail_is in
    let d = index_part-read header.0.index (keys_of blocks.0) blocks.1 tail b.0.small index_is in
    let index = index_part header.0.index (keys_of blocks.0) in
    let before = before_sum header.0 blocks.0 in
    let parts : bytes ≡ before ++ to_be_bytes w64 (own_sum bytes) =
    joined (header_bytes header.0) a.0.whole (joined (ended blocks.0) b.0.whole
    (joined index d.whole (end-read bytes tail end d.small end_is)))
    ∙ sym (regrouped (header_bytes header.0) (flat_map page_block blocks.0) index (own_sum bytes)) in
    let sum_is : own_sum bytes ≡ file_sum before = ap file_sum (own_sum-is before bytes (own_sum bytes) parts) in
    let made : LtxHeader × Blocks = (header.0, every) in
    subst (IsSpelled bytes) (ap (λ (y : Blocks). given header.0 y) c.1 ∙ same_ok made x e) (record {
      header = a.1;
      blocks = b.1;
      whole = whole-true header.0 blocks.0 c.0;
      spelled = subst (λ (sum : ℕ). bytes ≡ before ++ to_be_bytes w64 sum) sum_is parts;
    }))))))

pub file-again : (bytes : List ℕ) (h : LtxHeader) (blocks : Blocks) → AreBytes bytes → IsSpelled bytes (h, blocks)
    → file_sum (before_sum h blocks) < 2 ^ 64 → file_at bytes ≡ Ok (h, blocks)
unfolding file_at
file-again bytes h blocks small is fits =
    let before = before_sum h blocks in
    let sum_is : own_sum bytes ≡ file_sum before = ap file_sum (own_sum-is before bytes (file_sum before) is.spelled) in
    let index = index_part h.index (keys_of blocks) in
    let ending = end_bytes (own_sum bytes) in
    let tail = index ++ ending in
    let spelled : bytes ≡ header_bytes h ++ (ended blocks ++ tail) =
    subst (λ (sum : ℕ). bytes ≡ before ++ to_be_bytes w64 sum) (sym sum_is) is.spelled
    ∙ regrouped (header_bytes h) (flat_map page_block blocks) index (own_sum bytes) in
    let header_is : header_at bytes ≡ Ok (h, ended blocks ++ tail) = ap header_at spelled
    ∙ header-again h (ended blocks ++ tail) is.header in
    let fit = commit_fits h.size h.commit is.header.size is.header.small in
    let most = few h.size h.commit 0 blocks is.blocks in
    let blocks_is = blocks-again h.commit h.size h.commit 0 blocks tail is.blocks (omega arith) fit in
    let numbers = numbers_fit h.size h.commit 0 blocks fit is.blocks in
    let index_is = index_part-again h.index (keys_of blocks) ending numbers
    (omega (arith, length-map blocks (λ e. e.0), most, fit)) in
    rw (
      header_is,
      blocks_is,
      true-whole h blocks is.whole,
      index_is,
      end-again bytes (subst (λ (sum : ℕ). sum < 2 ^ 64) (sym sum_is) fits),
    ) refl
