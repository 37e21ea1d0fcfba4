-- What the bytes that were read from a file say of its tests.
use Rattle.std.proofs.Common.{◌≡◌, ℕ, ◌+◌, ◌-◌, ◌*◌, ◌%◌, ◌≤◌, Bool, true, false, eqb, List, [], ◌∷◌, length, take}
use Rattle.std.proofs.Common.{drop, get_or, Option, Some, Result, Ok, Err, refl, sym, ap, subst, ◌∙◌, arith}
use Rattle.std.specs.Int.{w16, w32, from_be_bytes}
use Rattle.std.specs.Result.{IsErrAnd}
use Rattle.std.proofs.lemmas.Bool.{le-leb}
use Rattle.std.proofs.lemmas.List.{take_all, take-take, drop-take, drop-drop, get_or-take, get_or-drop}
use Rattle.ltx_format.specs.declared.fault.LtxFault.{LtxFault}
use Rattle.ltx_format.specs.declared.fault.LtxFault.TheVariants.{Compressed, BadFlags}
use Rattle.ltx_reader.specs.declared.read_fault.ReadFault.{ReadFault}
use Rattle.ltx_reader.specs.declared.read_fault.ReadFault.TheVariants.{Disk, Fault, Memory}
use Rattle.ltx_format.specs.FirstFault.{Tests, first_failed, number, block_tests}
use Rattle.ltx_format.specs.Reading.{◌>>=◌, passes, flags_from}
use Rattle.ltx_reader.specs.Reader.{AreBytes}
use Rattle.ltx_reader.specs.ReaderSteps.{IsFilled, StandAt, Passes, HasFault}
use Rattle.ltx_format.proofs.TestSteps.{fault_of}

pub record Filled (bytes : List ℕ) (at : ℕ) (into : List ℕ) : Type 0 where
  pub inside : at + length into ≤ length bytes
  pub stand : into ≡ take (length into) (drop at bytes)

-- a buffer that was filled whole
pub filled_whole : (bytes : List ℕ) (at room : ℕ) (into : List ℕ) (n : ℕ) → 1 ≤ room → IsFilled bytes at room into n
    → length into ≡ room → room ≤ n → Filled bytes at into
filled_whole bytes at room into n some is size whole =
    let count = is.count in
    let same : n ≡ length into = omega (arith, count) in
    record {
      inside = omega (arith, count);
      stand = sym (take_all (length into) into (omega arith)) ∙ ap (λ k. take k into) (sym same) ∙ is.same
          ∙ ap (λ k. take k (drop at bytes)) same;
    }

pub front_stands : (bytes : List ℕ) (at n : ℕ) (into : List ℕ) → Filled bytes at into → length into ≡ n
    → AreBytes into → StandAt bytes at n into
front_stands bytes at n into filled size small = record {
  stand = filled.stand
      ∙ ap (λ k. take k (drop at bytes)) size;
  are_bytes = small;
}

-- ---- the front of a block

two_tests : (a b : Bool) (f g : LtxFault) → first_failed ((a, f) ∷ (b, g) ∷ []) ≡ fault_of
    (passes a f >>= λ plain. passes b g)
two_tests false b f g = refl
two_tests true false f g = refl
two_tests true true f g = refl

pub flags_tests : (n : ℕ) → first_failed ((eqb (n % 2) 0, Compressed) ∷ (eqb n 0, BadFlags) ∷ []) ≡ fault_of
    (flags_from 0 n)
unfolding flags_from
flags_tests n = two_tests (eqb (n % 2) 0) (eqb n 0) Compressed BadFlags

pub block_flags : (bytes : List ℕ) (at n : ℕ) → at + 6 ≤ length bytes → number w16 (at + 4) bytes ≡ n
    → first_failed (block_tests bytes at) ≡ fault_of (flags_from 0 n)
block_flags bytes at n le same = rw (le-leb (at + 6) (length bytes) le, same) (flags_tests n)

-- the bytes in the midst of a piece
pub part_stands : (bytes : List ℕ) (at m n : ℕ) (piece : List ℕ) → piece ≡ take (length piece) (drop at bytes)
    → m + n ≤ length piece → take n (drop m piece) ≡ take n (drop (at + m) bytes)
part_stands bytes at m n piece stand fits =
    let k = length piece - m in
    let whole : m + k ≡ length piece = omega arith in
    let shifted : drop m piece ≡ take k (drop (at + m) bytes) =
    ap (drop m) (stand ∙ ap (λ j. take j (drop at bytes)) (sym whole)) ∙ drop-take m k (drop at bytes)
    ∙ ap (take k) (drop-drop m at bytes) in
    ap (take n) shifted ∙ take-take n k (drop (at + m) bytes) (omega arith)

-- ---- numbers

-- the number at offset 4, of two bytes
pub number_of_two : (xs : List ℕ) → from_be_bytes w16 (take 2 (drop 4 xs)) ≡ get_or xs 4 0 * 256 + get_or xs 5 0
number_of_two xs =
    let a : get_or (take 2 (drop 4 xs)) 0 0 ≡ get_or xs 4 0 = get_or-take 2 (drop 4 xs) 0 0 (omega arith)
    ∙ get_or-drop 4 xs 0 0 in
    let b : get_or (take 2 (drop 4 xs)) 1 0 ≡ get_or xs 5 0 = get_or-take 2 (drop 4 xs) 1 0 (omega arith)
    ∙ get_or-drop 4 xs 1 0 in
    rw (a, b) refl

-- the number at the front, of four bytes
pub number_of_four : (xs : List ℕ) → from_be_bytes w32 (take 4 xs) ≡ from_be_bytes w32
    (get_or xs 0 0 ∷ get_or xs 1 0 ∷ get_or xs 2 0 ∷ get_or xs 3 0 ∷ [])
number_of_four xs =
    let a : get_or (take 4 xs) 0 0 ≡ get_or xs 0 0 = get_or-take 4 xs 0 0 (omega arith) in
    let b : get_or (take 4 xs) 1 0 ≡ get_or xs 1 0 = get_or-take 4 xs 1 0 (omega arith) in
    let c : get_or (take 4 xs) 2 0 ≡ get_or xs 2 0 = get_or-take 4 xs 2 0 (omega arith) in
    let d : get_or (take 4 xs) 3 0 ≡ get_or xs 3 0 = get_or-take 4 xs 3 0 (omega arith) in
    rw (a, b, c, d) refl

-- the flags in the front of a block that was read
pub front_flags : (bytes : List ℕ) (at : ℕ) (front : List ℕ) → Filled bytes at front → length front ≡ 6
    → number w16 (at + 4) bytes ≡ get_or front 4 0 * 256 + get_or front 5 0
front_flags bytes at front filled size =
    sym (ap (from_be_bytes w16) (part_stands bytes at 4 2 front filled.stand (omega arith))) ∙ number_of_two front

-- ---- answers

-- a fault that goes on as it is
pub passes_err : {T : Type 0} (P : T → Type 0) (fault : Option LtxFault) (r : Result T ReadFault) (e : ReadFault)
    → IsErrAnd r (λ other. other ≡ e) → Passes P fault (Err e) → Passes P fault r
passes_err P fault (Ok x) e is holds = absurd is
passes_err P fault (Err other) e is holds = subst (λ (why : ReadFault). Passes P fault (Err why)) (sym is) holds

pub failed : (test : Bool) (fault : LtxFault) (tests : Tests) → test ≡ false
    → first_failed ((test, fault) ∷ tests) ≡ Some fault
failed false fault tests is = refl
failed true fault tests is = absurd cc

pub passed : (test : Bool) (fault : LtxFault) (tests : Tests) → test ≡ true
    → first_failed ((test, fault) ∷ tests) ≡ first_failed tests
passed true fault tests is = refl
passed false fault tests is = absurd cc

pub has_err : (fault : Option LtxFault) (r : Result (Unit {0}) LtxFault) (found : LtxFault)
    → IsErrAnd r (λ other. other ≡ found) → fault ≡ Some found → HasFault fault r
has_err fault (Ok x) found is holds = absurd is
has_err fault (Err other) found is holds = holds ∙ ap (λ f. Some f) (sym is)

-- a fault that a step found is that of the whole
pub passes_on : {T U : Type 0} (P : T → Type 0) (Q : U
    → Type 0) (found all : Option LtxFault) (r : Result U ReadFault) (e : ReadFault)
    → IsErrAnd r (λ other. other ≡ e) → Passes P found (Err e) → ((fault : LtxFault) → found ≡ Some fault
    → all ≡ Some fault) → Passes Q all r
passes_on P Q found all (Ok x) e is holds goes = absurd is
passes_on P Q found all (Err (Disk why)) e is holds goes = tt
passes_on P Q found all (Err Memory) e is holds goes = tt
passes_on P Q found all (Err (Fault fault)) e is holds goes = goes fault (subst (λ (why : ReadFault). Passes P found
    (Err why)) (sym is) holds)
