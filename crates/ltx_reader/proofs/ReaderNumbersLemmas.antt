-- The numbers of an index that are read one after another.
use Rattle.std.proofs.Common.{◌≡◌, ℕ, zero, suc, ◌+◌, ◌-◌, ◌*◌, ◌≤◌, ◌<◌, true, false, nat_le, List, [], ◌∷◌, ◌++◌}
use Rattle.std.proofs.Common.{length, Some, None, refl, sym, ap, subst, ◌∙◌, arith}
use Rattle.std.specs.List.{slice_get}
use Rattle.std.specs.Int.{w32, from_be_bytes}
use Rattle.std.proofs.lemmas.Bool.{le-leb}
use Rattle.ltx_format.specs.declared.fault.LtxFault.{LtxFault}
use Rattle.ltx_format.specs.declared.fault.LtxFault.TheVariants.{Short, BadIndex}
use Rattle.ltx_format.specs.declared.header.LtxHeader.{LtxHeader}
use Rattle.ltx_format.specs.LtxFormat.{IsStored}
use Rattle.ltx_format.specs.FirstFault.{number, is_next}
use Rattle.ltx_format.proofs.BlockLoop.{next_parts}
use Rattle.ltx_reader.specs.ReaderIndex.{numbers_from, numbers_fault, AreStored}
use Rattle.ltx_reader.specs.ReaderSteps.{StandAt, reaches}
use Rattle.ltx_reader.proofs.ReaderIndexLemmas.{number_stands}
use Rattle.ltx_reader.proofs.ReaderTestLemmas.{passed}

-- one number more at the end
pub numbers_more : (k : ℕ) (bytes : List ℕ) (at : ℕ) → numbers_from (suc k) bytes at ≡ numbers_from k bytes at
    ++ number w32 (at + 4 * k) bytes ∷ []
unfolding numbers_from
numbers_more zero bytes at = ap (λ i. number w32 i bytes ∷ []) (let same : at ≡ at + 4 * 0 = omega arith in same)
numbers_more (suc k) bytes at =
    ap (λ ns. number w32 at bytes ∷ ns) (numbers_more k bytes (at + 4)
    ∙ ap (λ i. numbers_from k bytes (at + 4) ++ number w32 i bytes ∷ []) (
    let same : at + 4 + 4 * k ≡ at + 4 * suc k = omega arith in same))

some_same : (m n : ℕ) → Some m ≡ Some n → m ≡ n
some_same m n e = cc

-- what holds of each number holds of each after one more
each_more : (P : ℕ → Type 0) (xs : List ℕ) (n : ℕ) → ((k m : ℕ) → slice_get xs k ≡ Some m → P m) → P n
    → (k m : ℕ) → slice_get (xs ++ n ∷ []) k ≡ Some m → P m
each_more P [] n all last zero m e = subst P (some_same n m e) last
each_more P [] n all last (suc k) m e = absurd cc
each_more P (x ∷ xs) n all last zero m e = all 0 m e
each_more P (x ∷ xs) n all last (suc k) m e = each_more P xs n (λ j. all (suc j)) last k m e

-- what a loop over the numbers keeps of its list, on any disk
pub record ListedTo (h : LtxHeader) (last : ℕ) (list : List ℕ) : Type 0 where
  pub up_to : (k n : ℕ) → slice_get list k ≡ Some n → n ≤ last
  pub stored : AreStored h list

pub listed_none : (h : LtxHeader) → ListedTo h 0 []
listed_none h = record { up_to = λ k n e. absurd cc; stored = λ k n e. absurd cc }

pub listed_more : (h : LtxHeader) (last n : ℕ) (list new : List ℕ) → ListedTo h last list
    → is_next h.size h.commit last n ≡ true → new ≡ list ++ n ∷ [] → ListedTo h n new
listed_more h last n list new listed next is =
    let parts = next_parts h.size h.commit last n next in
    let above = parts.0 in
    let stored : IsStored h n = record { some = omega (arith, above); at_most = parts.1; unlocked = parts.2 } in
    subst (λ (ns : List ℕ). ListedTo h n ns) (sym is) (record {
      up_to = each_more (λ m. m ≤ n) list n (λ k m e. omega (arith, listed.up_to k m e, above)) (omega arith);
      stored = each_more (λ m. IsStored h m) list n listed.stored stored;
    })

-- and on a disk that tells its content
pub record NumbersTo (bytes : List ℕ) (h : LtxHeader) (count start place last : ℕ) (list : List ℕ) : Type 0 where
  pub numbers : list ≡ numbers_from place bytes start
  pub same : numbers_fault h 0 (numbers_from count bytes start)
      ≡ numbers_fault h last (numbers_from (count - place) bytes (start + 4 * place))

pub numbers_start : (bytes : List ℕ) (h : LtxHeader) (count start : ℕ) → NumbersTo bytes h count start 0 0 []
unfolding numbers_from
numbers_start bytes h count start = record {
  numbers = refl;
  same = ap (λ k. numbers_fault h 0 (numbers_from k bytes start)) (let e : count ≡ count - 0 = omega arith in e)
      ∙ ap (λ k. numbers_fault h 0 (numbers_from (count - 0) bytes k)) (
      let e : start ≡ start + 4 * 0 = omega arith in e);
}

pub next_fault : (h : LtxHeader) (last n : ℕ) (ns : List ℕ) → is_next h.size h.commit last n ≡ true
    → numbers_fault h last (n ∷ ns) ≡ numbers_fault h n ns
unfolding numbers_fault
next_fault h last n ns next = rw next refl

no_next_fault : (h : LtxHeader) (last n : ℕ) (ns : List ℕ) → is_next h.size h.commit last n ≡ false
    → numbers_fault h last (n ∷ ns) ≡ Some (BadIndex n)
unfolding numbers_fault
no_next_fault h last n ns next = rw next refl

module _ (bytes : List ℕ) (h : LtxHeader) (count start place last n : ℕ) (list : List ℕ) (more : place < count)
    (is : number w32 (start + 4 * place) bytes ≡ n) (to : NumbersTo bytes h count start place last list) where
  here : numbers_from (count - place) bytes (start + 4 * place) ≡ n
      ∷ numbers_from (count - (place + 1)) bytes (start + 4 * (place + 1))
  unfolding numbers_from
  here =
      let left : count - place ≡ suc (count - (place + 1)) = omega arith in
      let next : start + 4 * place + 4 ≡ start + 4 * (place + 1) = omega arith in
      ap (λ k. numbers_from k bytes (start + 4 * place)) left
      ∙ ap (λ k. k ∷ numbers_from (count - (place + 1)) bytes (start + 4 * place + 4)) is
      ∙ ap (λ k. n ∷ numbers_from (count - (place + 1)) bytes k) next

  now : numbers_fault h 0 (numbers_from count bytes start) ≡ numbers_fault h last (n
      ∷ numbers_from (count - (place + 1)) bytes (start + 4 * (place + 1)))
  now = to.same ∙ ap (numbers_fault h last) here

  pub numbers_step : (new : List ℕ) → is_next h.size h.commit last n ≡ true → new ≡ list ++ n ∷ []
      → NumbersTo bytes h count start (place + 1) n new
  numbers_step new next pushed = record {
    numbers = pushed ∙ ap (λ ns. ns ++ n ∷ []) to.numbers
        ∙ ap (λ m. numbers_from place bytes start ++ m ∷ []) (sym is) ∙ sym (numbers_more place bytes start)
        ∙ ap (λ k. numbers_from k bytes start) (let e : suc place ≡ place + 1 = omega arith in e);
    same = now ∙ next_fault h last n _ next;
  }

  pub numbers_fail : is_next h.size h.commit last n ≡ false
      → numbers_fault h 0 (numbers_from count bytes start) ≡ Some (BadIndex n)
  numbers_fail next = now ∙ no_next_fault h last n _ next

-- behind the last number
pub record NumbersListed (bytes : List ℕ) (h : LtxHeader) (count start : ℕ) (list : List ℕ) : Type 0 where
  pub no_fault : numbers_fault h 0 (numbers_from count bytes start) ≡ None
  pub numbers : list ≡ numbers_from count bytes start

pub numbers_end : (bytes : List ℕ) (h : LtxHeader) (count start place last : ℕ) (list : List ℕ) → place ≡ count
    → NumbersTo bytes h count start place last list → NumbersListed bytes h count start list
unfolding numbers_from numbers_fault
numbers_end bytes h count start place last list ended to =
    let none : count - place ≡ 0 = omega arith in
    record {
      no_fault = to.same ∙ ap (λ k. numbers_fault h last (numbers_from k bytes (start + 4 * place))) none;
      numbers = to.numbers ∙ ap (λ k. numbers_from k bytes start) ended;
    }

-- a number of four bytes that was read
pub four_number : (bytes : List ℕ) (at n : ℕ) (four : List ℕ) → (reaches bytes at 4 ≡ None) × StandAt bytes at 4 four
    → n ≡ from_be_bytes w32 four → number w32 at bytes ≡ n
four_number bytes at n four read is = number_stands bytes at four read.1 ∙ sym is

absurd_some : (fault : LtxFault) → None ≡ Some fault → ⊥
absurd_some fault e = cc

-- four bytes that are there are never missing
pub four_there : (bytes : List ℕ) (at : ℕ) (fault : LtxFault) → at + 4 ≤ length bytes
    → reaches bytes at 4 ≡ Some fault → ⊥
four_there bytes at fault inside is =
    let there = passed (nat_le (at + 4) (length bytes)) Short [] (le-leb (at + 4) (length bytes) inside) in
    absurd_some fault (sym there ∙ is)

-- and at an offset that is the same
pub fault_at : (bytes : List ℕ) (h : LtxHeader) (count a b : ℕ) (fault : LtxFault) → a ≡ b
    → numbers_fault h 0 (numbers_from count bytes a) ≡ Some fault
    → numbers_fault h 0 (numbers_from count bytes b) ≡ Some fault
fault_at bytes h count a b fault same = subst (λ (at : ℕ). numbers_fault h 0 (numbers_from count bytes at)
    ≡ Some fault) same

pub listed_at : (bytes : List ℕ) (h : LtxHeader) (count a b : ℕ) (list : List ℕ) → a ≡ b
    → NumbersListed bytes h count a list → NumbersListed bytes h count b list
listed_at bytes h count a b list same = subst (λ (at : ℕ). NumbersListed bytes h count at list) same
