-- The index of a file that is read beside its blocks.
use Rattle.std.proofs.Common.{◌≡◌, ◌≢◌, ℕ, zero, suc, ◌+◌, ◌-◌, ◌*◌, ◌≤◌, ◌<◌, Bool, true, false, nat_le, ◌==◌, List}
use Rattle.std.proofs.Common.{[], ◌∷◌, ◌++◌, length, take, Option, Some, None, refl, sym, ap, subst, ◌∙◌, arith}
use Rattle.std.specs.Option.{option_or}
use Rattle.std.specs.Int.{w32, from_be_bytes}
use Rattle.std.proofs.lemmas.Bool.{le-leb, eq-eqb, ne_eqb, leb-true}
use Rattle.ls_sums.specs.Crc64.{IsBehind}
use Rattle.ltx_format.specs.declared.fault.LtxFault.{LtxFault}
use Rattle.ltx_format.specs.declared.fault.LtxFault.TheVariants.{Short, BadIndex}
use Rattle.ltx_format.specs.declared.header.LtxHeader.{LtxHeader}
use Rattle.ltx_format.specs.LtxFormat.{HasHeader}
use Rattle.ltx_format.specs.FirstFault.{Tests, first_failed, number, block_number, entry_tests, count_tests}
use Rattle.ltx_format.specs.FirstFault.{index_fault}
use Rattle.crash_disk.specs.declared.event.Event.{Event}
use Rattle.ltx_reader.specs.Reader.{bytes_named, AreBytes, IsSummed, block_offset}
use Rattle.ltx_reader.specs.ReaderSteps.{StandAt, reaches}
use Rattle.ltx_reader.proofs.ReaderFillLemmas.{take-add}
use Rattle.ltx_reader.proofs.ReaderTestLemmas.{failed, passed}
use Rattle.ltx_reader.proofs.ReaderHeaderLemmas.{fields_of}

-- ---- sums

pub AreBytes-then : (a b : List ℕ) → AreBytes a → AreBytes b → AreBytes (a ++ b)
AreBytes-then [] b first rest k = rest k
AreBytes-then (byte ∷ a) b first rest zero = first 0
AreBytes-then (byte ∷ a) b first rest (suc k) = AreBytes-then a b (λ i. first (suc i)) rest k

pub summed_more : (bytes : List ℕ) (at register more n : ℕ) (piece : List ℕ) → IsSummed bytes at register
    → StandAt bytes at n piece
    → at + n ≤ length bytes → (IsBehind (take at bytes) register → IsBehind (take at bytes ++ piece) more)
    → IsSummed bytes (at + n) more
summed_more bytes at register more n piece summed stands inside goes =
    let same : take (at + n) bytes ≡ take at bytes ++ piece = take-add at n bytes
    ∙ ap (λ xs. take at bytes ++ xs) (sym stands.stand) in
    record {
      inside = inside;
      are_bytes = subst AreBytes (sym same) (AreBytes-then (take at bytes) piece summed.are_bytes stands.are_bytes);
      sum = subst (λ (front : List ℕ). IsBehind front more) (sym same) (goes summed.sum);
    }

-- ---- tests

pub passed_first : (b : Bool) (tests : Tests) → first_failed ((b, Short) ∷ tests) ≡ None → b ≡ true
passed_first true tests e = refl
passed_first false tests e = absurd cc

inside_of : (b : Bool) → first_failed ((b, Short) ∷ []) ≡ None → b ≡ true
inside_of true e = refl
inside_of false e = absurd cc

pub reached : (bytes : List ℕ) (at n : ℕ) → reaches bytes at n ≡ None → at + n ≤ length bytes
reached bytes at n e = leb-true (at + n) (length bytes) (inside_of (nat_le (at + n) (length bytes)) e)

short_more : (b : Bool) (fault : LtxFault) (tests : Tests) → first_failed ((b, Short) ∷ []) ≡ Some fault
    → first_failed ((b, Short) ∷ tests) ≡ Some fault
short_more true fault tests e = absurd cc
short_more false fault tests e = e

pub number_stands : (bytes : List ℕ) (at : ℕ) (four : List ℕ) → StandAt bytes at 4 four
    → number w32 at bytes ≡ from_be_bytes w32 four
number_stands bytes at four stands = sym (ap (from_be_bytes w32) stands.stand)

pub block_number_at : (bytes : List ℕ) (h : LtxHeader) (k : ℕ) → HasHeader bytes h
    → block_number bytes k ≡ number w32 (block_offset h k) bytes
block_number_at bytes h k has = ap (λ size. number w32 (100 + k * (6 + size)) bytes) (fields_of bytes h has).size_is

-- an entry of the index and the number of its block, both read
pub record EntryRead (bytes : List ℕ) (place at found other : ℕ) : Type 0 where
  pub inside : at + 4 ≤ length bytes
  pub is : number w32 at bytes ≡ found
  pub other_is : block_number bytes place ≡ other

module _ (events : List Event) (path name : List ℕ) (same_path : path ≡ name) where
  pub four_here : (at : ℕ) (four : List ℕ) → (reaches (bytes_named events path) at 4 ≡ None) × StandAt
      (bytes_named events path) at 4 four
      → (reaches (bytes_named events name) at 4 ≡ None) × StandAt (bytes_named events name) at 4 four
  four_here at four = subst (λ (q : List ℕ). (reaches (bytes_named events q) at 4 ≡ None) × StandAt
      (bytes_named events q) at 4 four) same_path

-- and at an offset that is the same
pub four_at : (bytes : List ℕ) (start a b : ℕ) → a ≡ b → (four : List ℕ)
    → (reaches bytes (start + 4 * a) 4 ≡ None) × StandAt bytes (start + 4 * a) 4 four
    → (reaches bytes (start + 4 * b) 4 ≡ None) × StandAt bytes (start + 4 * b) 4 four
four_at bytes start a b same four = subst (λ (k : ℕ). (reaches bytes (start + 4 * k) 4 ≡ None) × StandAt bytes
    (start + 4 * k) 4 four) same

pub entry_read : (bytes : List ℕ) (h : LtxHeader) (place at offset found other : ℕ) (entry block : List ℕ)
    → HasHeader bytes h → offset ≡ block_offset h place
    → (reaches bytes at 4 ≡ None) × StandAt bytes at 4 entry → StandAt bytes offset 4 block
    → found ≡ from_be_bytes w32 entry → other ≡ from_be_bytes w32 block
    → EntryRead bytes place at found other
entry_read bytes h place at offset found other entry block has place_is first second found_is other_is = record {
  inside = reached bytes at 4 first.0;
  is = number_stands bytes at entry first.1 ∙ sym found_is;
  other_is = block_number_at bytes h place has ∙ ap (λ k. number w32 k bytes) (sym place_is)
      ∙ number_stands bytes offset block second ∙ sym other_is;
}

module _ (bytes : List ℕ) (place at : ℕ) where
  abbrev entry_rest : Tests
  entry_rest = (number w32 at bytes == block_number bytes place, BadIndex (number w32 at bytes)) ∷ []

  pub entry_fails : (found other : ℕ) → at + 4 ≤ length bytes → number w32 at bytes ≡ found
      → block_number bytes place ≡ other → found ≢ other
      → first_failed (entry_tests bytes place at) ≡ Some (BadIndex found)
  entry_fails found other inside is other_is ne =
      passed (nat_le (at + 4) (length bytes)) Short entry_rest (le-leb (at + 4) (length bytes) inside)
      ∙ failed (number w32 at bytes == block_number bytes place) (BadIndex (number w32 at bytes)) [] (ne_eqb
      (number w32 at bytes) (block_number bytes place) (λ e. ne (sym is ∙ e ∙ other_is)))
      ∙ ap (λ n. Some (BadIndex n)) is

  pub entry_passes : at + 4 ≤ length bytes → number w32 at bytes ≡ block_number bytes place
      → first_failed (entry_tests bytes place at) ≡ None
  entry_passes inside same =
      passed (nat_le (at + 4) (length bytes)) Short entry_rest (le-leb (at + 4) (length bytes) inside)
      ∙ passed (number w32 at bytes == block_number bytes place) (BadIndex (number w32 at bytes)) [] (eq-eqb
      (number w32 at bytes) (block_number bytes place) same)

module _ (bytes : List ℕ) (count at : ℕ) where
  abbrev count_rest : Tests
  count_rest = (number w32 at bytes == count, BadIndex 0) ∷ []

  pub count_short : (fault : LtxFault) → reaches bytes at 4 ≡ Some fault
      → first_failed (count_tests bytes count at) ≡ Some fault
  count_short fault e = short_more (nat_le (at + 4) (length bytes)) fault count_rest e

  pub count_fails : (found : ℕ) → at + 4 ≤ length bytes → number w32 at bytes ≡ found → found ≢ count
      → first_failed (count_tests bytes count at) ≡ Some (BadIndex 0)
  count_fails found inside is ne =
      passed (nat_le (at + 4) (length bytes)) Short count_rest (le-leb (at + 4) (length bytes) inside)
      ∙ failed (number w32 at bytes == count) (BadIndex 0) [] (ne_eqb (number w32 at bytes) count (λ e. ne (sym is
      ∙ e)))

  pub count_passes : at + 4 ≤ length bytes → number w32 at bytes ≡ count
      → first_failed (count_tests bytes count at) ≡ None
  count_passes inside same =
      passed (nat_le (at + 4) (length bytes)) Short count_rest (le-leb (at + 4) (length bytes) inside)
      ∙ passed (number w32 at bytes == count) (BadIndex 0) [] (eq-eqb (number w32 at bytes) count same)

-- ---- the index, number by number

or_first : {A : Type 0} (o p : Option A) (x : A) → o ≡ Some x → option_or o p ≡ Some x
or_first o p x is = rw is refl

or_second : {A : Type 0} (o p : Option A) → o ≡ None → option_or o p ≡ p
or_second o p is = rw is refl

module _ (bytes : List ℕ) (count place at : ℕ) (more : place < count) where
  one_left : count - place ≡ suc (count - (place + 1))
  one_left = omega arith

  index_next : index_fault (count - place) bytes place at ≡ option_or (first_failed (entry_tests bytes place at))
      (index_fault (count - (place + 1)) bytes (suc place) (at + 4))
  unfolding index_fault
  index_next = ap (λ left. index_fault left bytes place at) one_left

  pub index_fails : (fault : LtxFault) → first_failed (entry_tests bytes place at) ≡ Some fault
      → index_fault (count - place) bytes place at ≡ Some fault
  index_fails fault is = index_next ∙ or_first _ _ fault is

  pub index_passes : first_failed (entry_tests bytes place at) ≡ None
      → index_fault (count - place) bytes place at ≡ index_fault (count - (place + 1)) bytes (place + 1) (at + 4)
  index_passes is = index_next ∙ or_second _ _ is ∙ ap (λ k. index_fault (count - (place + 1)) bytes k (at + 4))
      (let same : suc place ≡ place + 1 = omega arith in same)

pub index_ends : (bytes : List ℕ) (count at : ℕ) → index_fault (count - count) bytes count at ≡ first_failed
    (count_tests bytes count at)
unfolding index_fault
index_ends bytes count at = ap (λ left. index_fault left bytes count at)
    (let none : count - count ≡ 0 = omega arith in none)

-- what a loop over the index keeps: the first fault is that from here on, and the sum goes up to here
pub record IndexUpTo (bytes : List ℕ) (count start place sum : ℕ) : Type 0 where
  pub same : index_fault count bytes 0 start ≡ index_fault (count - place) bytes place (start + 4 * place)
  pub summed : IsSummed bytes (start + 4 * place) sum

module _ (bytes : List ℕ) (count start place sum : ℕ) (up_to : IndexUpTo bytes count start place sum) where
  pub index_step : (more : ℕ) (entry : List ℕ) → place < count
      → first_failed (entry_tests bytes place (start + 4 * place)) ≡ None
      → start + 4 * place + 4 ≤ length bytes → StandAt bytes (start + 4 * place) 4 entry
      → ((before : List ℕ) → IsBehind before sum → IsBehind (before ++ entry) more)
      → IndexUpTo bytes count start (place + 1) more
  index_step more entry less tests inside stands goes =
      let next : start + 4 * place + 4 ≡ start + 4 * (place + 1) = omega arith in
      record {
        same = up_to.same ∙ index_passes bytes count place (start + 4 * place) less tests
            ∙ ap (λ k. index_fault (count - (place + 1)) bytes (place + 1) k) next;
        summed = subst (λ (k : ℕ). IsSummed bytes k more) next (summed_more bytes
            (start + 4 * place) sum more 4 entry up_to.summed stands inside (goes (take (start + 4 * place) bytes)));
      }

  pub index_stops : (fault : LtxFault) → place < count
      → first_failed (entry_tests bytes place (start + 4 * place)) ≡ Some fault
      → index_fault count bytes 0 start ≡ Some fault
  index_stops fault less tests = up_to.same ∙ index_fails bytes count place (start + 4 * place) less fault tests

-- behind the last entry
module _ (bytes : List ℕ) (count start place sum : ℕ) (ended : place ≡ count)
    (up_to : IndexUpTo bytes count start place sum) where
  up_to_end : IndexUpTo bytes count start count sum
  up_to_end = subst (λ (k : ℕ). IndexUpTo bytes count start k sum) ended up_to

  index_end : index_fault count bytes 0 start ≡ first_failed (count_tests bytes count (start + 4 * count))
  index_end = up_to_end.same ∙ index_ends bytes count (start + 4 * count)

  pub index_short : (fault : LtxFault) → reaches bytes (start + 4 * count) 4 ≡ Some fault
      → index_fault count bytes 0 start ≡ Some fault
  index_short fault short = index_end ∙ count_short bytes count (start + 4 * count) fault short

  module _ (four : List ℕ) (read : (reaches bytes (start + 4 * count) 4 ≡ None) × StandAt bytes
      (start + 4 * count) 4 four) where
    inside : start + 4 * count + 4 ≤ length bytes
    inside = reached bytes (start + 4 * count) 4 read.0

    pub index_differs : (found : ℕ) → found ≡ from_be_bytes w32 four → found ≢ count
        → index_fault count bytes 0 start ≡ Some (BadIndex 0)
    index_differs found is ne = index_end ∙ count_fails bytes count (start + 4 * count) found inside
        (number_stands bytes (start + 4 * count) four read.1 ∙ sym is) ne

    pub index_whole : (found : ℕ) → found ≡ from_be_bytes w32 four → found ≡ count
        → index_fault count bytes 0 start ≡ None
    index_whole found is same = index_end ∙ count_passes bytes count (start + 4 * count) inside (number_stands bytes
        (start + 4 * count) four read.1 ∙ sym is ∙ same)

    pub index_summed : (more : ℕ) → ((before : List ℕ) → IsBehind before sum → IsBehind (before ++ four) more)
        → IsSummed bytes (start + 4 * count + 4) more
    index_summed more goes = summed_more bytes (start + 4 * count) sum more 4 four up_to_end.summed read.1 inside
        (goes (take (start + 4 * count) bytes))

pub entry_inside : (bytes : List ℕ) (place at : ℕ) → first_failed (entry_tests bytes place at) ≡ None
    → at + 4 ≤ length bytes
entry_inside bytes place at none =
    leb-true (at + 4) (length bytes) (passed_first (nat_le (at + 4) (length bytes)) (entry_rest bytes place at) none)
