-- The end of a file behind its blocks: what is tested, and how many bytes that takes.
use Rattle.std.proofs.Common.{◌≡◌, ℕ, ◌+◌, ◌*◌, Bool, true, false, not, ◌==◌, ◌||◌, List, [], ◌∷◌, Option, Some, None}
use Rattle.std.proofs.Common.{Result, refl, sym, ap, subst, ◌∙◌, if◌then◌else◌}
use Rattle.std.specs.Option.{option_or}
use Rattle.ltx_format.specs.declared.fault.LtxFault.{LtxFault}
use Rattle.ltx_format.specs.declared.fault.LtxFault.TheVariants.{BadOrder}
use Rattle.ltx_format.specs.declared.header.LtxHeader.{LtxHeader}
use Rattle.ltx_format.specs.LtxFormat.{HasHeader}
use Rattle.ltx_format.specs.FirstFault.{first_failed, has_index, page_size, commit, stored_pages, is_whole, index_fault}
use Rattle.ltx_format.specs.FirstFault.{trailer_tests, tail_fault, end_fault}
use Rattle.ltx_reader.specs.declared.read_fault.ReadFault.{ReadFault}
use Rattle.ltx_reader.specs.ReaderSteps.{Passes}
use Rattle.ltx_reader.proofs.ReaderHeaderLemmas.{fields_of}

or_right : {A : Type 0} (o p : Option A) → o ≡ None → option_or o p ≡ p
or_right o p is = rw is refl

or_left : {A : Type 0} (o p : Option A) (x : A) → o ≡ Some x → option_or o p ≡ Some x
or_left o p x is = rw is refl

whole_if : (b : Bool) (rest : Option LtxFault) → b ≡ true → option_or (first_failed ((b, BadOrder 0) ∷ [])) rest ≡ rest
whole_if true rest is = refl
whole_if false rest is = absurd cc

part_if : (b : Bool) (rest : Option LtxFault) → b ≡ false
    → option_or (first_failed ((b, BadOrder 0) ∷ [])) rest ≡ Some (BadOrder 0)
part_if false rest is = refl
part_if true rest is = absurd cc

tail_if : (b : Bool) (x y : Option LtxFault) (c : Bool) → b ≡ c → (if b then x else y) ≡ (if c then x else y)
tail_if b x y c is = rw is refl

pub whole_by : (bytes : List ℕ) (h : LtxHeader) (count : ℕ) → HasHeader bytes h
    → is_whole bytes count ≡ (not (h.min == 1) || count == stored_pages h.size h.commit)
whole_by bytes h count has =
    let fields = fields_of bytes h has in
    ap (λ n. not (n == 1) || count == stored_pages (page_size bytes) (commit bytes)) fields.min_is
    ∙ ap (λ n. not (h.min == 1) || count == stored_pages n (commit bytes)) fields.size_is
    ∙ ap (λ n. not (h.min == 1) || count == stored_pages h.size n) fields.commit_is

module _ (bytes : List ℕ) (count at : ℕ) where
  pub end_whole : is_whole bytes count ≡ true → end_fault bytes count at ≡ tail_fault bytes count (at + 6)
  end_whole is = whole_if (is_whole bytes count) (tail_fault bytes count (at + 6)) is

  pub end_part : is_whole bytes count ≡ false → end_fault bytes count at ≡ Some (BadOrder 0)
  end_part is = part_if (is_whole bytes count) (tail_fault bytes count (at + 6)) is

module _ (bytes : List ℕ) (h : LtxHeader) (has : HasHeader bytes h) (count at : ℕ) where
  pub tail_plain : h.index ≡ false → first_failed (trailer_tests bytes at) ≡ tail_fault bytes count at
  tail_plain plain = sym (tail_if (has_index bytes) (option_or (index_fault count bytes 0 at) (first_failed
      (trailer_tests bytes (at + 4 * count + 4)))) (first_failed (trailer_tests bytes at)) false
      ((fields_of bytes h has).index_is ∙ plain))

  with_index : h.index ≡ true → tail_fault bytes count at ≡ option_or (index_fault count bytes 0 at) (first_failed
      (trailer_tests bytes (at + 4 * count + 4)))
  with_index indexed = tail_if (has_index bytes) (option_or (index_fault count bytes 0 at) (first_failed
      (trailer_tests bytes (at + 4 * count + 4)))) (first_failed (trailer_tests bytes at)) true
      ((fields_of bytes h has).index_is ∙ indexed)

  pub tail_index : h.index ≡ true → (fault : LtxFault) → index_fault count bytes 0 at ≡ Some fault
      → tail_fault bytes count at ≡ Some fault
  tail_index indexed fault is = with_index indexed ∙ or_left _ _ fault is

  pub tail_trailer : h.index ≡ true → index_fault count bytes 0 at ≡ None
      → first_failed (trailer_tests bytes (at + 4 * count + 4)) ≡ tail_fault bytes count at
  tail_trailer indexed none = sym (with_index indexed ∙ or_right _ _ none)

-- an answer whose fault is the same
pub passes_same : {T : Type 0} (P : T → Type 0) (a b : Option LtxFault) (r : Result T ReadFault) → a ≡ b
    → Passes P a r → Passes P b r
passes_same P a b r same = subst (λ (fault : Option LtxFault). Passes P fault r) same
