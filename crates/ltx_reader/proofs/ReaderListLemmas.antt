-- The index of a file of the format, and the first fault of an index.
use Rattle.std.proofs.Common.{◌≡◌, ℕ, ◌+◌, ◌-◌, ◌*◌, ◌≤◌, ◌<◌, ◌^◌, Bool, true, false, not, nat_le, ◌==◌, ◌||◌, List}
use Rattle.std.proofs.Common.{[], ◌∷◌, ◌++◌, length, take, drop, Option, Some, None, Result, Ok, Err, refl, sym, ap}
use Rattle.std.proofs.Common.{◌∙◌, append_assoc, length-append, arith, inl, inr}
use Rattle.std.specs.Prelude.{replicate}
use Rattle.std.specs.Option.{option_or}
use Rattle.std.specs.List.{flat_map}
use Rattle.std.specs.Map.{keys_of}
use Rattle.std.specs.FinMap.{entries, keys}
use Rattle.std.specs.Int.{w32, w64, to_be_bytes, from_be_bytes}
use Rattle.std.proofs.lemmas.Bool.{cases_eq, le-leb, eq-eqb, ne_eqb}
use Rattle.std.proofs.lemmas.List.{take_at, drop_at, drop-drop, length-map}
use Rattle.ls_base.specs.Change.{Change}
use Rattle.ltx_format.specs.declared.fault.LtxFault.{LtxFault}
use Rattle.ltx_format.specs.declared.fault.LtxFault.TheVariants.{Short, BadIndex}
use Rattle.ltx_format.specs.declared.header.LtxHeader.{LtxHeader}
use Rattle.ltx_format.specs.LtxFormat.{IsLtxFile, header_bytes, page_block, index_part, index_bytes, file_sum}
use Rattle.ltx_format.specs.FirstFault.{first_failed, number, stored_pages}
use Rattle.ltx_format.proofs.FieldLaws.{numbers32}
use Rattle.ltx_format.proofs.HeaderLaws.{header-length, commit_fits}
use Rattle.ltx_format.proofs.BlockLoop.{Blocks, next_true}
use Rattle.ltx_format.proofs.BlockLaws.{AreBlocks}
use Rattle.ltx_format.proofs.IndexLaws.{AllFit, number_fields}
use Rattle.ltx_format.proofs.CountLemmas.{few}
use Rattle.ltx_format.proofs.PageLemmas.{blocks-from_pages, numbers_fit}
use Rattle.ltx_format.proofs.FileLaws.{before_sum}
use Rattle.ltx_reader.specs.declared.read_fault.ReadFault.{ReadFault}
use Rattle.ltx_reader.specs.declared.read_fault.ReadFault.TheVariants.{Disk, Fault, Memory}
use Rattle.ltx_reader.specs.ReaderIndex.{stored_count, indexed_length, index_offset, numbers_from, index_numbers}
use Rattle.ltx_reader.specs.ReaderIndex.{length_tests, numbers_fault, has_all, listed_fault}
use Rattle.ltx_reader.specs.ReaderSteps.{Passes}
use Rattle.ltx_reader.proofs.ReaderNumbersLemmas.{next_fault}

-- ---- numbers that stand one after another

module _ (bytes : List ℕ) where
  first_number : (at n : ℕ) (rest : List ℕ) → n < 2 ^ 32 → drop at bytes ≡ to_be_bytes w32 n ++ rest
      → number w32 at bytes ≡ n
  first_number at n rest fits stands =
      ap (λ xs. from_be_bytes w32 (take 4 xs)) stands
      ∙ ap (from_be_bytes w32) (take_at (to_be_bytes w32 n) rest 4 (numbers32.len n)) ∙ numbers32.number_again n fits

  behind_number : (at n : ℕ) (rest : List ℕ) → drop at bytes ≡ to_be_bytes w32 n ++ rest → drop (at + 4) bytes ≡ rest
  behind_number at n rest stands = sym (drop-drop 4 at bytes) ∙ ap (drop 4) stands
      ∙ drop_at (to_be_bytes w32 n) rest 4 (numbers32.len n)

  numbers_stand : (numbers rest : List ℕ) (at : ℕ) → AllFit numbers → drop at bytes ≡ number_fields numbers ++ rest
      → numbers_from (length numbers) bytes at ≡ numbers
  unfolding numbers_from
  numbers_stand [] rest at fit stands = refl
  numbers_stand (n ∷ numbers) rest at fit stands =
      let front = stands ∙ append_assoc (to_be_bytes w32 n) (number_fields numbers) rest in
      ap (λ k. k ∷ numbers_from (length numbers) bytes (at + 4)) (first_number at n (number_fields numbers ++ rest)
      fit.0 front)
      ∙ ap (λ ns. n ∷ ns) (numbers_stand numbers rest (at + 4) fit.1 (behind_number at n
      (number_fields numbers ++ rest) front))

fields_length : (numbers : List ℕ) → length (number_fields numbers) ≡ 4 * length numbers
fields_length [] = refl
fields_length (n ∷ numbers) = omega (
  arith,
  length-append (to_be_bytes w32 n) (number_fields numbers),
  numbers32.len n,
  fields_length numbers,
)

-- ---- a file of the format

block_length : (size commit last : ℕ) (block : ℕ × List ℕ) (blocks : Blocks)
    → AreBlocks size commit last (block ∷ blocks)
    → length (page_block block) ≡ 6 + size
block_length size commit last block blocks are = omega (
  arith,
  length-append (to_be_bytes w32 block.0 ++ replicate 2 0) block.1,
  numbers32.len block.0,
  length-append (to_be_bytes w32 block.0) (replicate 2 0),
  are.0.sized,
)

blocks_length : (size commit last : ℕ) (blocks : Blocks) → AreBlocks size commit last blocks
    → length (flat_map page_block blocks) ≡ length blocks * (6 + size)
blocks_length size commit last [] are = omega arith
blocks_length size commit last (block ∷ blocks) are = omega (
  arith,
  length-append (page_block block) (flat_map page_block blocks),
  block_length size commit last block blocks are,
  blocks_length size commit block.0 blocks are.1,
)

no_numbers_fault : (h : LtxHeader) (last : ℕ) (blocks : Blocks) → AreBlocks h.size h.commit last blocks
    → numbers_fault h last (keys_of blocks) ≡ None
unfolding numbers_fault
no_numbers_fault h last [] are = refl
no_numbers_fault h last (block ∷ blocks) are =
    let next = next_true h.size h.commit last block.0 are.0.above are.0.at_most are.0.unlocked in
    next_fault h last block.0 (keys_of blocks) next ∙ no_numbers_fault h block.0 blocks are.1

not_or : (a b : Bool) → a ≡ false → (not a || b) ≡ true
not_or false b e = refl
not_or true b e = absurd cc

or_true : (a b : Bool) → b ≡ true → (not a || b) ≡ true
or_true false b e = refl
or_true true b e = e

every_page : (h : LtxHeader) (count : ℕ) → (h.min ≡ 1 → count ≡ stored_pages h.size h.commit)
    → has_all h count ≡ true
every_page h count every =
    elim (cases_eq h.min 1) [
      | inl first ↦ or_true (h.min == 1) (count == stored_pages h.size h.commit) (eq-eqb _ _ (every first))
      | inr later ↦ not_or (h.min == 1) (count == stored_pages h.size h.commit) (ne_eqb h.min 1 later)
    ]

-- what stands where in a file with an index
record IsIndexed (bytes : List ℕ) (h : LtxHeader) (numbers : List ℕ) : Type 0 where
  count : stored_count bytes ≡ length numbers
  long : length bytes ≡ indexed_length h (length numbers)
  listed : index_numbers h bytes ≡ numbers

index_if : (index : Bool) (numbers : List ℕ) → index ≡ true → index_part index numbers ≡ index_bytes numbers
index_if true numbers is = refl
index_if false numbers is = absurd cc

module _ (bytes : List ℕ) (h : LtxHeader) (front numbers ending : List ℕ) (fit : AllFit numbers)
    (few : length numbers < 2 ^ 32)
    (front_is : length front ≡ 106 + length numbers * (6 + h.size)) (ending_is : length ending ≡ 16)
    (whole : bytes ≡ front ++ (index_bytes numbers ++ ending)) where
  abbrev k : ℕ
  k = length numbers

  abbrev count_bytes : List ℕ
  count_bytes = to_be_bytes w32 k

  long_is : length bytes ≡ indexed_length h k
  long_is = omega (
    arith,
    ap length whole,
    length-append front (index_bytes numbers ++ ending),
    length-append (index_bytes numbers) ending,
    length-append (number_fields numbers) count_bytes,
    fields_length numbers,
    numbers32.len k,
    front_is,
    ending_is,
  )

  index_stands : drop (index_offset h k) bytes ≡ number_fields numbers ++ (count_bytes ++ ending)
  index_stands =
      ap (drop (index_offset h k)) whole
      ∙ drop_at front (index_bytes numbers ++ ending) (index_offset h k) (omega (arith, front_is))
      ∙ append_assoc (number_fields numbers) count_bytes ending

  count_stands : drop (length bytes - 20) bytes ≡ count_bytes ++ ending
  count_stands =
      let at : length bytes - 20 ≡ index_offset h k + 4 * k = omega (arith, long_is) in
      ap (λ i. drop i bytes) at ∙ sym (drop-drop (4 * k) (index_offset h k) bytes) ∙ ap (drop (4 * k)) index_stands
      ∙ drop_at (number_fields numbers) (count_bytes ++ ending) (4 * k) (fields_length numbers)

  count_is : stored_count bytes ≡ k
  count_is = first_number bytes (length bytes - 20) k ending few count_stands

  is_indexed : IsIndexed bytes h numbers
  is_indexed = record {
    count = count_is;
    long = long_is;
    listed = ap (λ i. numbers_from i bytes (index_offset h i)) count_is
        ∙ numbers_stand bytes numbers (count_bytes ++ ending) (index_offset h k) fit index_stands;
  }

parted : (front index sum : List ℕ) → front ++ index ++ replicate 8 0 ++ sum ≡ front
    ++ (index ++ (replicate 8 0 ++ sum))
parted front index sum =
    append_assoc (front ++ index) (replicate 8 0) sum ∙ append_assoc front index (replicate 8 0 ++ sum)

file_indexed : (bytes : List ℕ) (h : LtxHeader) (c : Change) → IsLtxFile bytes h c → h.index ≡ true
    → IsIndexed bytes h (keys c.pages)
file_indexed bytes h c is indexed =
    let blocks = entries c.pages in
    let numbers = keys_of blocks in
    let header = header_bytes h in
    let content = flat_map page_block blocks in
    let sum = to_be_bytes w64 (file_sum (before_sum h blocks)) in
    let are = (blocks-from_pages h c.pages is.pages).0 in
    let fits = commit_fits h.size h.commit is.header.size is.header.small in
    let counted : length numbers ≡ length blocks = length-map blocks (λ e. e.0) in
    let most = few h.size h.commit 0 blocks are in
    let front : length (header ++ content ++ replicate 6 0) ≡ 106 + length numbers * (6 + h.size) = omega (
      arith,
      length-append (header ++ content) (replicate 6 0),
      length-append header content,
      header-length h,
      blocks_length h.size h.commit 0 blocks are,
      ap (λ n. n * (6 + h.size)) counted,
    ) in
    is_indexed bytes h (header ++ content ++ replicate 6 0) numbers (replicate 8 0 ++ sum)
    (numbers_fit h.size h.commit 0 blocks fits are) (omega (arith, counted, most, fits)) front refl
    (is.spelled ∙ parted (header ++ content ++ replicate 6 0) (index_part h.index numbers) sum
    ∙ ap (λ (x : List ℕ). header ++ content ++ replicate 6 0 ++ (x ++ (replicate 8 0 ++ sum)))
    (index_if h.index numbers indexed))

-- ---- the first fault of an index

or_left : {A : Type 0} (o p : Option A) (x : A) → o ≡ Some x → option_or o p ≡ Some x
or_left o p x is = rw is refl

or_right : {A : Type 0} (o p : Option A) → o ≡ None → option_or o p ≡ p
or_right o p is = rw is refl

one_test : (b : Bool) (fault : LtxFault) → b ≡ true → first_failed ((b, fault) ∷ []) ≡ None
one_test true fault is = refl
one_test false fault is = absurd cc

no_test : (b : Bool) (fault : LtxFault) → b ≡ false → first_failed ((b, fault) ∷ []) ≡ Some fault
no_test false fault is = refl
no_test true fault is = absurd cc

both_tests : (a b : Bool) → a ≡ true → b ≡ true
    → first_failed ((a, Short) ∷ (b, BadIndex 0) ∷ []) ≡ None
both_tests true true a b = refl
both_tests true false a b = absurd cc
both_tests false b x y = absurd cc

module _ (h : LtxHeader) (bytes : List ℕ) where
  pub length_fails : (fault : LtxFault) → first_failed (length_tests h bytes) ≡ Some fault
      → listed_fault h bytes ≡ Some fault
  length_fails fault is = or_left (first_failed (length_tests h bytes)) _ fault is

  module _ (passes : first_failed (length_tests h bytes) ≡ None) (count : ℕ) (counted : count ≡ stored_count bytes)
    where
      numbers_here : numbers_fault h 0 (index_numbers h bytes)
          ≡ numbers_fault h 0 (numbers_from count bytes (index_offset h count))
      numbers_here = ap (λ k. numbers_fault h 0 (numbers_from k bytes (index_offset h k))) (sym counted)

      behind_length : listed_fault h bytes ≡ option_or (numbers_fault h 0 (index_numbers h bytes)) (first_failed
          ((has_all h (stored_count bytes), BadIndex 0) ∷ []))
      behind_length = or_right (first_failed (length_tests h bytes)) _ passes

      pub numbers_fails : (fault : LtxFault)
          → numbers_fault h 0 (numbers_from count bytes (index_offset h count)) ≡ Some fault
          → listed_fault h bytes ≡ Some fault
      numbers_fails fault is = behind_length ∙ or_left _ _ fault (numbers_here ∙ is)

      module _ (rises : numbers_fault h 0 (numbers_from count bytes (index_offset h count)) ≡ None) where
        behind_numbers : listed_fault h bytes ≡ first_failed ((has_all h (stored_count bytes), BadIndex 0) ∷ [])
        behind_numbers = behind_length ∙ or_right _ _ (numbers_here ∙ rises)

        pub part_fails : has_all h count ≡ false → listed_fault h bytes ≡ Some (BadIndex 0)
        part_fails part = behind_numbers ∙ no_test _ (BadIndex 0) (ap (has_all h) (sym counted) ∙ part)

        pub none_fails : has_all h count ≡ true → listed_fault h bytes ≡ None
        none_fails all = behind_numbers ∙ one_test _ (BadIndex 0) (ap (has_all h) (sym counted) ∙ all)

-- a file of the format has no such fault, and its numbers are those of its change
pub record IsListed (bytes : List ℕ) (h : LtxHeader) (numbers : List ℕ) : Type 0 where
  pub no_fault : listed_fault h bytes ≡ None
  pub listed : index_numbers h bytes ≡ numbers

pub file_listed : (bytes : List ℕ) (h : LtxHeader) (c : Change) → IsLtxFile bytes h c → h.index ≡ true
    → IsListed bytes h (keys c.pages)
file_listed bytes h c is indexed =
    let blocks = entries c.pages in
    let found = file_indexed bytes h c is indexed in
    let fits = blocks-from_pages h c.pages is.pages in
    let counted : length (keys_of blocks) ≡ length blocks = length-map blocks (λ e. e.0) in
    let long : 126 ≤ length bytes = omega (arith, found.long) in
    let lengths = both_tests (nat_le 126 (length bytes)) (length bytes == indexed_length h (stored_count bytes))
    (le-leb 126 (length bytes) long) (eq-eqb (length bytes) (indexed_length h (stored_count bytes)) (found.long
    ∙ ap (indexed_length h) (sym found.count))) in
    let numbers = ap (numbers_fault h 0) found.listed ∙ no_numbers_fault h 0 blocks fits.0 in
    let all = every_page h (stored_count bytes) (λ first. found.count ∙ counted ∙ fits.1 first) in
    record {
      no_fault = none_fails h bytes lengths (stored_count bytes) refl numbers all;
      listed = found.listed;
    }

-- so of such a file the answer is these numbers
pub passes_file : {T : Type 0} (P Q : T → Type 0) (fault : Option LtxFault) (r : Result T ReadFault) → fault ≡ None
    → ((x : T) → P x → Q x) → Passes P fault r → Passes Q None r
passes_file P Q fault (Ok x) none goes passes = (refl, goes x passes.1)
passes_file P Q fault (Err (Disk why)) none goes passes = tt
passes_file P Q fault (Err (Fault found)) none goes passes = sym none ∙ passes
passes_file P Q fault (Err Memory) none goes passes = tt

-- the numbers stand within a file that is as long as its count says
pub numbers_inside : (bytes : List ℕ) (h : LtxHeader) (count : ℕ) → length bytes ≡ indexed_length h count
    → index_offset h count + 4 * count ≤ length bytes
numbers_inside bytes h count long = omega (arith, long)

pub numbers_are : (h : LtxHeader) (bytes : List ℕ) (count : ℕ) → count ≡ stored_count bytes → (list : List ℕ)
    → list ≡ numbers_from count bytes (index_offset h count) → list ≡ index_numbers h bytes
numbers_are h bytes count counted list is = is ∙ ap (λ k. numbers_from k bytes (index_offset h k)) counted
