-- The number of the next block: what is tested, and what is known of it then.
use Rattle.std.proofs.Common.{◌≡◌, ◌≢◌, ℕ, ◌+◌, ◌%◌, ◌≤◌, Bool, true, false, ◌==◌, nat_le, List, [], ◌∷◌, ◌++◌, length}
use Rattle.std.proofs.Common.{take, drop, get_or, Option, Some, None, refl, sym, ap, subst, ◌∙◌, arith, if◌then◌else◌}
use Rattle.std.specs.Option.{option_or}
use Rattle.std.specs.Int.{w16, w32, from_be_bytes}
use Rattle.std.proofs.lemmas.Bool.{eq-eqb, ne_eqb, leb-true}
use Rattle.std.proofs.lemmas.List.{take-take}
use Rattle.ls_sums.specs.Crc64.{IsBehind}
use Rattle.crash_disk.specs.declared.event.Event.{Event}
use Rattle.ltx_format.specs.declared.fault.LtxFault.{LtxFault}
use Rattle.ltx_format.specs.declared.fault.LtxFault.TheVariants.{BadOrder, Compressed, BadFlags}
use Rattle.ltx_reader.specs.declared.progress.Progress.TheVariants.{Going}
use Rattle.ltx_format.specs.LtxFormat.{HasHeader}
use Rattle.ltx_format.specs.FirstFault.{Tests, first_failed, number, page_size, commit, block_tests, is_next, end_fault}
use Rattle.ltx_reader.specs.Reader.{Reader, bytes_named, IsSummed, IsFaultlessTo, next_block, read_to}
use Rattle.ltx_reader.specs.ReaderSteps.{StandAt, next_fault}
use Rattle.ltx_reader.proofs.ReaderTestLemmas.{number_of_four, failed, passed}
use Rattle.ltx_reader.proofs.ReaderHeaderLemmas.{fields_of}
use Rattle.ltx_reader.proofs.ReaderIndexLemmas.{passed_first, summed_more}

-- a front that was read under the file's name and at the next block
pub front_here : (events : List Event) (path name : List ℕ) (a b : ℕ) (front : List ℕ) → path ≡ name → a ≡ b
    → (first_failed (block_tests (bytes_named events path) a) ≡ None) × StandAt (bytes_named events path) a 6 front
    → (first_failed (block_tests (bytes_named events name) b) ≡ None) × StandAt (bytes_named events name) b 6 front
front_here events path name a b front same_path same =
    λ read. subst (λ (k : ℕ). (first_failed (block_tests (bytes_named events name) k) ≡ None) × StandAt
    (bytes_named events name) k 6 front) same
    (subst (λ (q : List ℕ). (first_failed (block_tests (bytes_named events q) a) ≡ None) × StandAt
    (bytes_named events q) a 6 front) same_path read)

pub front_number : (bytes : List ℕ) (at : ℕ) (front : List ℕ) → StandAt bytes at 6 front
    → number w32 at bytes ≡ from_be_bytes w32 (get_or front 0 0 ∷ get_or front 1 0 ∷ get_or front 2 0 ∷ get_or front 3
    0 ∷ [])
front_number bytes at front stands =
    let four : take 4 front ≡ take 4 (drop at bytes) = ap (take 4) stands.stand
    ∙ take-take 4 6 (drop at bytes) (omega arith) in
    sym (ap (from_be_bytes w32) four) ∙ number_of_four front

pub front_inside : (bytes : List ℕ) (at : ℕ) → first_failed (block_tests bytes at) ≡ None → at + 6 ≤ length bytes
front_inside bytes at none =
    leb-true (at + 6) (length bytes) (passed_first (nat_le (at + 6) (length bytes)) ((
      number w16
          (at + 4) bytes % 2 == 0,
      Compressed,
    ) ∷ (number w16 (at + 4) bytes == 0, BadFlags) ∷ []) none)

going_to : (reader : Reader) → reader.progress ≡ Going → read_to (next_block reader) reader.progress ≡ next_block reader
going_to reader going = ap (read_to (next_block reader)) going

pub summed_going : (bytes : List ℕ) (reader : Reader) → reader.progress ≡ Going → IsFaultlessTo bytes reader
    → IsSummed bytes (next_block reader) reader.sum
summed_going bytes reader going is = subst (λ (k : ℕ). IsSummed bytes k reader.sum) (going_to reader going) is.summed

pub summed_front : (bytes : List ℕ) (reader : Reader) (front : List ℕ) (more : ℕ) → reader.progress ≡ Going
    → IsFaultlessTo bytes reader
    → first_failed (block_tests bytes (next_block reader)) ≡ None → StandAt bytes (next_block reader) 6 front
    → ((before : List ℕ) → IsBehind before reader.sum → IsBehind (before ++ front) more)
    → IsSummed bytes (next_block reader + 6) more
summed_front bytes reader front more going is none stands goes =
    let at = next_block reader in
    summed_more bytes at reader.sum more 6 front (summed_going bytes reader going is) stands
    (front_inside bytes at none) (goes (take at bytes))

or_left : {A : Type 0} (o p : Option A) (x : A) → o ≡ Some x → option_or o p ≡ Some x
or_left o p x is = rw is refl

or_right : {A : Type 0} (o p : Option A) → o ≡ None → option_or o p ≡ p
or_right o p is = rw is refl

test_if : (b c : Bool) (x y : Option LtxFault) → b ≡ c → (if b then x else y) ≡ (if c then x else y)
test_if b c x y is = rw is refl

module _ (bytes : List ℕ) (reader : Reader) (has : HasHeader bytes reader.header) (at : ℕ) where
  abbrev order_tests : ℕ → Tests
  order_tests n = (is_next (page_size bytes) (commit bytes) reader.last n, BadOrder n) ∷ []

  module _ (n : ℕ) (none : first_failed (block_tests bytes at) ≡ None) (is : number w32 at bytes ≡ n) where
    pub next_end : n ≡ 0 → next_fault bytes reader at ≡ end_fault bytes reader.count at
    next_end zero = or_right _ _ none ∙ test_if (number w32 at bytes == 0) true (end_fault bytes reader.count at)
        (first_failed (order_tests (number w32 at bytes))) (eq-eqb (number w32 at bytes) 0 (is ∙ zero))

    next_order : n ≢ 0 → next_fault bytes reader at ≡ first_failed (order_tests n)
    next_order some =
        or_right _ _ none ∙ test_if (number w32 at bytes == 0) false (end_fault bytes reader.count at) (first_failed
        (order_tests (number w32 at bytes))) (ne_eqb (number w32 at bytes) 0 (λ e. some (sym is ∙ e)))
        ∙ ap (λ k. first_failed (order_tests k)) is

    by_header : is_next (page_size bytes) (commit bytes) reader.last n ≡ is_next reader.header.size
        reader.header.commit reader.last n
    by_header =
        let fields = fields_of bytes reader.header has in
        ap (λ k. is_next k (commit bytes) reader.last n) fields.size_is
        ∙ ap (λ k. is_next reader.header.size k reader.last n) fields.commit_is

    pub next_wrong : n ≢ 0 → is_next reader.header.size reader.header.commit reader.last n ≡ false
        → next_fault bytes reader at ≡ Some (BadOrder n)
    next_wrong some wrong = next_order some ∙ failed (is_next (page_size bytes) (commit bytes) reader.last n)
        (BadOrder n) [] (by_header ∙ wrong)

    pub next_right : n ≢ 0 → is_next reader.header.size reader.header.commit reader.last n ≡ true
        → next_fault bytes reader at ≡ None
    next_right some right = next_order some ∙ passed (is_next (page_size bytes) (commit bytes) reader.last n)
        (BadOrder n) [] (by_header ∙ right)
