-- The first fault of a header is that of its reader.
use Rattle.std.proofs.Common.{◌≡◌, ℕ, ◌*◌, ◌^◌, ◌≤◌, Bool, true, false, eqb, leb, not, ◌&&◌, ◌||◌, List, [], ◌∷◌}
use Rattle.std.proofs.Common.{length, drop, Result, refl, sym, arith, inl, inr}
use Rattle.std.specs.Int.{w32, w64}
use Rattle.std.proofs.lemmas.Bool.{cases_Bool, cases_lt, eqb-true, ne_eqb, le-ltb, lt-ltb, le-leb, lt-leb}
use Rattle.std.proofs.Math.Bool.{or-false, or-true}
use Rattle.ls_base.specs.PageSize.{is_page_size}
use Rattle.ls_base.specs.Limits.{database_limit}
use Rattle.ls_base.specs.declared.place.Place.{Place}
use Rattle.ls_base.specs.declared.place.Place.TheVariants.{Rest}
use Rattle.ltx_format.specs.declared.fault.LtxFault.{LtxFault}
use Rattle.ltx_format.specs.declared.fault.LtxFault.TheVariants.{BadMagic, BadPageSize, BadCommit, BadRange}
use Rattle.ltx_format.specs.declared.fault.LtxFault.TheVariants.{BadReserved}
use Rattle.ltx_format.specs.FirstFault.{Tests, first_failed, number, flags, has_index, page_size, commit, min_txid}
use Rattle.ltx_format.specs.FirstFault.{are_frames, is_in_log, is_at_rest, header_tests, header_fault}
use Rattle.ltx_format.specs.LtxFormat.{header_flags}
use Rattle.ltx_format.specs.Reading.{◌>>=◌, where_true, number_at, behind, size_from, commit_at, range_from, wal_at}
use Rattle.ltx_format.specs.Reading.{rest_at, place_at, fields_at, header_at}
use Rattle.ltx_format.proofs.TestSteps.{fault_of, step_then, number_here, behind_here, flags_steps}

-- ---- the place

-- the node stands within the place, and its fault is the same
node_first : {A B C : Type 0} (node other : Bool) (x : A) (r : A → Result B LtxFault) (next : B → Result C LtxFault)
    (tests : Tests)
    → fault_of (r x >>= next) ≡ first_failed ((other, BadReserved) ∷ tests)
    → fault_of ((where_true node BadReserved x >>= r) >>= next) ≡ first_failed
    ((other, BadReserved) ∷ (node, BadReserved) ∷ tests)
node_first true other x r next tests proof = proof
node_first false true x r next tests proof = refl
node_first false false x r next tests proof = refl

three_first : {A B C : Type 0} (len salts node top : Bool) (x y z : A) (f g : A → Result A LtxFault)
    (r : A → Result B LtxFault) (next : B → Result C LtxFault) (tests : Tests)
    → f x ≡ where_true salts BadReserved y → g y ≡ where_true node BadReserved z
    → fault_of (r z >>= next) ≡ first_failed ((top, BadReserved) ∷ tests)
    → fault_of ((where_true len BadReserved x >>= λ a. f a >>= λ b. g b >>= r) >>= next) ≡ first_failed
    ((len && salts && top, BadReserved) ∷ (node, BadReserved) ∷ tests)
three_first false salts node top x y z f g r next tests second third proof = refl
three_first true false node top x y z f g r next tests second third proof = rw second refl
three_first true true node top x y z f g r next tests second third proof =
    rw (second, third) (node_first node top z r next tests proof)

module _ {B : Type 0} (bytes : List ℕ) (next : Place × List ℕ → Result B LtxFault) (tests : Tests)
    (long : 100 ≤ length bytes)
    (later : (place : Place) → fault_of (next (place, drop 88 bytes)) ≡ first_failed tests) where
  abbrev node : Bool
  node = eqb (number w64 72 bytes) 0

  wal_fault : (size : ℕ) → fault_of (wal_at size (drop 56 bytes) >>= next) ≡ first_failed
      ((are_frames size (number w64 56 bytes), BadReserved) ∷ (node, BadReserved) ∷ tests)
  unfolding wal_at
  wal_fault size =
      rw (
        number_here w64 56 bytes (omega (arith, long)),
        number_here w32 64 bytes (omega (arith, long)),
        number_here w32 68 bytes (omega (arith, long)),
        behind_here w64 72 bytes 0 BadReserved (omega (arith, long)),
      )
      (node_first node (are_frames size (number w64 56 bytes)) (drop 80 bytes) _ next tests (
      rw (number_here w32 80 bytes (omega (arith, long)), number_here w32 84 bytes (omega (arith, long)))
      (step_then (are_frames size (number w64 56 bytes)) BadReserved _ next tests (λ are. later _))))

  abbrev sum_at : List ℕ → Result (Place × List ℕ) LtxFault
  sum_at rest = number_at w64 rest >>= λ sum. where_true (leb (2 ^ 63) sum.0) BadReserved (Rest sum.0, sum.1)

  rest_fault : fault_of (rest_at (drop 56 bytes) >>= next) ≡ first_failed
      ((eqb (number w64 56 bytes) 0 && eqb (number w64 64 bytes) 0 && leb (2 ^ 63) (number w64 80 bytes), BadReserved)
      ∷ (node, BadReserved) ∷ tests)
  unfolding rest_at
  rest_fault =
      rw (behind_here w64 56 bytes 0 BadReserved (omega (arith, long)))
      (three_first (eqb (number w64 56 bytes) 0) (eqb (number w64 64 bytes) 0) node (leb (2 ^ 63) (number w64 80 bytes))
      (drop 64 bytes) (drop 72 bytes) (drop 80 bytes) (behind w64 0 BadReserved)
      (behind w64 0 BadReserved) sum_at next tests
      (behind_here w64 64 bytes 0 BadReserved (omega (arith, long)))
      (behind_here w64 72 bytes 0 BadReserved (omega (arith, long))) (
      rw (number_here w64 80 bytes (omega (arith, long))) (step_then
      (leb (2 ^ 63) (number w64 80 bytes)) BadReserved _ next tests (λ top. later _))))

  place_fault : fault_of (place_at (page_size bytes) (drop 48 bytes) >>= next) ≡ first_failed
      ((is_in_log bytes || is_at_rest bytes, BadReserved) ∷ (node, BadReserved) ∷ tests)
  unfolding place_at
  place_fault =
      elim (cases_Bool (eqb (number w64 48 bytes) 32)) [
        | inl wal ↦
            let none : eqb (number w64 48 bytes) 0 ≡ false = ne_eqb _ 0 (λ e. omega (arith, eqb-true _ _ wal, e)) in
            rw (number_here w64 48 bytes (omega (arith, long)), wal, none, or-false) (wal_fault (page_size bytes))
        | inr no_wal ↦
            elim (cases_Bool (eqb (number w64 48 bytes) 0)) [
              | inl at_rest ↦ rw (number_here w64 48 bytes (omega (arith, long)), no_wal, at_rest) rest_fault
              | inr neither ↦ rw (number_here w64 48 bytes (omega (arith, long)), no_wal, neither) refl
            ]
      ]

-- ---- the fields

-- flags that are those with or without an index, as the header's own say
flags_known : (found : ℕ) → eqb found (header_flags (eqb found 6)) ≡ (eqb found 2 || eqb found 6)
flags_known found =
    elim (cases_Bool (eqb found 6)) [
      | inl index ↦ rw (index, or-true) index
      | inr plain ↦ rw (plain, or-false) refl
    ]

pub fields_fault : (bytes : List ℕ) → 100 ≤ length bytes → fault_of (fields_at bytes) ≡ header_fault bytes
unfolding fields_at size_from commit_at range_from header_fault
fields_fault bytes long =
    let enough : leb 100 (length bytes) ≡ true = le-leb _ _ long in
    let magic_is = behind_here w32 0 bytes 0x4c54_5831 BadMagic (omega (arith, long)) in
    let flags_is = number_here w32 4 bytes (omega (arith, long)) in
    let size_is = number_here w32 8 bytes (omega (arith, long)) in
    let commit_is = number_here w32 12 bytes (omega (arith, long)) in
    let min_is = number_here w64 16 bytes (omega (arith, long)) in
    let max_is = number_here w64 24 bytes (omega (arith, long)) in
    let moment_is = number_here w64 32 bytes (omega (arith, long)) in
    let check_is = behind_here w64 40 bytes 0 BadReserved (omega (arith, long)) in
    let free_is = behind_here w64 88 bytes 0 BadReserved (omega (arith, long)) in
    let last_is = behind_here w32 96 bytes 0 BadReserved (omega (arith, long)) in
    let tests = header_tests bytes in
    rw (enough, magic_is) (step_then (eqb (number w32 0 bytes) 0x4c54_5831) BadMagic _ _ (drop 2 tests) (λ magic.
    rw (flags_is, sym (flags_known (flags bytes))) (flags_steps (header_flags (has_index bytes)) (flags bytes) _
    (drop 4 tests) (
    rw size_is (step_then (is_page_size (page_size bytes)) BadPageSize _ _ (drop 5 tests) (λ size.
    rw commit_is (step_then (not (eqb (commit bytes) 0) && leb (commit bytes * page_size bytes) database_limit)
    BadCommit _ _ (drop 6 tests) (λ fits.
    rw (min_is, max_is) (step_then (not (eqb (min_txid bytes) 0) && leb (min_txid bytes) (number w64 24 bytes)) BadRange
    _ _ (drop 7 tests) (λ range.
    rw (moment_is, check_is) (step_then (eqb (number w64 40 bytes) 0) BadReserved _ _ (drop 8 tests) (λ check.
    place_fault bytes _ (drop 10 tests) long (λ place.
    rw free_is (step_then (eqb (number w64 88 bytes) 0) BadReserved _ _ (drop 11 tests) (λ free.
    rw last_is (step_then (eqb (number w32 96 bytes) 0) BadReserved _ _ [] (λ rest. refl)))))))))))))))))

pub header_fault-is : (bytes : List ℕ) → fault_of (header_at bytes) ≡ header_fault bytes
unfolding header_at header_fault
header_fault-is bytes =
    elim (cases_lt (length bytes) 100) [
      | inl short ↦ rw (lt-ltb (length bytes) 100 short, lt-leb 100 (length bytes) short) refl
      | inr long ↦ rw (le-ltb (length bytes) 100 long) (fields_fault bytes long)
    ]
