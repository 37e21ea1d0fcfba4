-- The header alone, read from the first 100 bytes.
use Rattle.std.proofs.Common.{◌≡◌, ◌↔◌, ℕ, List, [], ◌++◌, length, take, Some, None, Result, Ok, Err, refl, sym, ap}
use Rattle.std.proofs.Common.{◌∙◌, length-append, arith, inl, inr, min}
use Rattle.std.proofs.lemmas.Bool.{cases_lt}
use Rattle.std.proofs.lemmas.List.{append-nil, nil_from_length, length-take, take_all}
use Rattle.ltx_format.specs.declared.fault.LtxFault.{LtxFault}
use Rattle.ltx_format.specs.declared.header.LtxHeader.{LtxHeader}
use Rattle.ltx_format.specs.FirstFault.{header_fault}
use Rattle.ltx_format.specs.LtxFormat.{HasHeader, header_bytes}
use Rattle.ltx_format.specs.Reading.{header_at}
use Rattle.ltx_format.proofs.StepLemmas.{same_ok, err_is_not_ok}
use Rattle.ltx_format.proofs.TestSteps.{fault_of}
use Rattle.ltx_format.proofs.FieldLaws.{AreBytes, AreBytes-take}
use Rattle.ltx_format.proofs.HeaderLaws.{header-read, header-again, header-length}
use Rattle.ltx_format.proofs.HeaderFaults.{header_fault-is}

front_is : (bytes : List ℕ) (n : ℕ) → n ≡ min (length bytes) 100 → take n bytes ≡ take 100 bytes
front_is bytes n e =
    elim (cases_lt (length bytes) 100) [
      | inl short ↦ take_all n bytes (omega (arith, e, short)) ∙ sym (take_all 100 bytes (omega (arith, short)))
      | inr long ↦ let same : n ≡ 100 = omega (arith, e, long) in ap (λ (k : ℕ). take k bytes) same
    ]

module _ (bytes : List ℕ) (n : ℕ) (small : AreBytes bytes) (n_is : n ≡ min (length bytes) 100) where
  front : take n bytes ≡ take 100 bytes
  front = front_is bytes n n_is

  read_front : (h : LtxHeader) (rest : List ℕ) → header_at (take n bytes) ≡ Ok (h, rest)
      → header_at (take 100 bytes) ≡ Ok (h, rest)
  read_front h rest e = ap header_at (sym front) ∙ e

  pub found : (h : LtxHeader) (rest : List ℕ) → header_at (take n bytes) ≡ Ok (h, rest) → HasHeader bytes h
  found h rest e =
      let read = header-read (take 100 bytes) (h, rest) (AreBytes-take 100 bytes small) (read_front h rest e) in
      let whole = read.0.whole in
      let none : rest ≡ [] = nil_from_length rest (omega (
        arith,
        ap length whole,
        length-append (header_bytes h) rest,
        header-length h,
        length-take 100 bytes,
      )) in
      record {
        header = read.1;
        spelled = whole ∙ ap (λ (x : List ℕ). header_bytes h ++ x) none
            ∙ append-nil (header_bytes h);
      }

  header_is_read : (h : LtxHeader) → HasHeader bytes h → header_at (take n bytes) ≡ Ok (h, [])
  header_is_read h has = ap header_at (front ∙ has.spelled ∙ sym (append-nil (header_bytes h)))
      ∙ header-again h [] has.header

  pub only : (h other : LtxHeader) (rest : List ℕ) → header_at (take n bytes) ≡ Ok (other, rest) → HasHeader bytes h
      → other ≡ h
  only h other rest e has = ap (λ (x : LtxHeader × List ℕ). x.0)
      (same_ok (other, rest) (h, []) (sym e ∙ header_is_read h has))

  pub not_err : (h : LtxHeader) (fault : LtxFault) → header_at (take n bytes) ≡ Err fault → HasHeader bytes h → ⊥
  not_err h fault e has = err_is_not_ok fault (h, []) (sym e ∙ header_is_read h has)

  pub fault : (why : LtxFault) → header_at (take n bytes) ≡ Err why → header_fault (take 100 bytes) ≡ Some why
  fault why e = sym (header_fault-is (take 100 bytes)) ∙ ap fault_of (ap header_at (sym front) ∙ e)

-- ---- the laws of headers

pub header_read : (bytes : List ℕ) (h : LtxHeader) → HasHeader bytes h → header_at (take 100 bytes) ≡ Ok (h, [])
header_read bytes h has = ap header_at (has.spelled ∙ sym (append-nil (header_bytes h))) ∙ header-again h [] has.header

pub same_header : (bytes : List ℕ) (h i : LtxHeader) → HasHeader bytes h → HasHeader bytes i → h ≡ i
same_header bytes h i has other = ap (λ (x : LtxHeader × List ℕ). x.0)
    (same_ok (h, []) (i, []) (sym (header_read bytes h has) ∙ header_read bytes i other))

pub no_header_fault : (bytes : List ℕ) (h : LtxHeader) → HasHeader bytes h → header_fault (take 100 bytes) ≡ None
no_header_fault bytes h has = sym (header_fault-is (take 100 bytes)) ∙ ap fault_of (header_read bytes h has)

some_header : (bytes : List ℕ) (read : Result (LtxHeader × List ℕ) LtxFault) → AreBytes bytes
    → header_at (take 100 bytes) ≡ read → fault_of read ≡ None → (h : LtxHeader) × HasHeader bytes h
some_header bytes (Ok x) small e none = (
  x.0,
  found bytes (min (length bytes) 100) small refl x.0 x.1
      (ap header_at (front_is bytes (min (length bytes) 100) refl) ∙ e),
)
some_header bytes (Err fault) small e none = absurd cc

pub headers : (bytes : List ℕ) → AreBytes bytes → (header_fault (take 100 bytes) ≡ None) ↔
    ((h : LtxHeader) × HasHeader bytes h)
headers bytes small = (
  λ none. some_header bytes (header_at (take 100 bytes)) small refl (header_fault-is (take 100 bytes) ∙ none),
  λ header. no_header_fault bytes header.0 header.1,
)
