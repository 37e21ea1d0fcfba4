-- What a header says stands in the first bytes of its file.
use Rattle.std.proofs.Common.{◌==◌, ◌≡◌, ℕ, ◌+◌, ◌-◌, ◌*◌, ◌^◌, ◌≤◌, ◌<◌, ◌%◌, Bool, true, false, not, nat_le, ◌&&◌}
use Rattle.std.proofs.Common.{◌||◌, List, [], ◌∷◌, length, take, drop, refl, sym, ap, ◌∙◌, arith}
use Rattle.std.specs.Int.{Width, w32, w64, byte_len, from_be_bytes}
use Rattle.std.proofs.lemmas.List.{take-take, drop-take, length-take}
use Rattle.std.proofs.Math.Nat.{mul-le-mul_left, pow-le-pow_right}
use Rattle.ls_base.specs.PageSize.{IsPageSize, is_page_size}
use Rattle.ltx_format.specs.declared.header.LtxHeader.{LtxHeader}
use Rattle.ltx_format.specs.LtxFormat.{HasHeader, IsHeader, header_bytes, header_flags}
use Rattle.std.proofs.lemmas.Bool.{le-leb}
use Rattle.ls_base.specs.Limits.{database_limit}
use Rattle.ltx_format.specs.declared.fault.LtxFault.TheVariants.{Short, BadMagic, Compressed, BadFlags, BadPageSize}
use Rattle.ltx_format.specs.declared.fault.LtxFault.TheVariants.{BadCommit, BadRange, BadReserved}
use Rattle.ltx_format.specs.FirstFault.{Tests, first_failed, number, page_size, commit, min_txid, flags, has_index}
use Rattle.ltx_format.specs.FirstFault.{are_frames, header_fault}
use Rattle.ltx_format.proofs.FieldLaws.{numbers32, numbers64}

-- a number within the first 100 bytes
number_in_front : (w : Width) (at : ℕ) (bytes : List ℕ) → at + byte_len w ≤ 100
    → number w at bytes ≡ number w at (take 100 bytes)
number_in_front w at bytes fits =
    let k = 100 - at in
    let whole : at + k ≡ 100 = omega arith in
    let shifted : drop at (take 100 bytes) ≡ take k (drop at bytes) = ap (λ n. drop at (take n bytes)) (sym whole)
    ∙ drop-take at k bytes in
    sym (ap (λ xs. from_be_bytes w (take (byte_len w) xs)) shifted
    ∙ ap (from_be_bytes w) (take-take (byte_len w) k (drop at bytes) (omega arith)))

size_in : (h : LtxHeader) → h.size < 2 ^ 32 → page_size (header_bytes h) ≡ h.size
unfolding header_bytes
size_in h fits = numbers32.number_again h.size fits

commit_in : (h : LtxHeader) → h.commit < 2 ^ 32 → commit (header_bytes h) ≡ h.commit
unfolding header_bytes
commit_in h fits = numbers32.number_again h.commit fits

min_in : (h : LtxHeader) → h.min < 2 ^ 64 → min_txid (header_bytes h) ≡ h.min
unfolding header_bytes
min_in h fits = numbers64.number_again h.min fits

flags_fit : (index : Bool) → header_flags index < 2 ^ 32
flags_fit true = omega arith
flags_fit false = omega arith

flags_in : (h : LtxHeader) → flags (header_bytes h) ≡ header_flags h.index
unfolding header_bytes
flags_in h = numbers32.number_again (header_flags h.index) (flags_fit h.index)

index_flags : (index : Bool) → (header_flags index == 6) ≡ index
index_flags true = refl
index_flags false = refl

pub record FieldsOf (bytes : List ℕ) (h : LtxHeader) : Type 0 where
  pub size_is : page_size bytes ≡ h.size
  pub commit_is : commit bytes ≡ h.commit
  pub min_is : min_txid bytes ≡ h.min
  pub index_is : has_index bytes ≡ h.index

-- page sizes are 512 to 65536
pub size_between : (n : ℕ) → IsPageSize n → (512 ≤ n) × (n ≤ 65536)
size_between n size =
    let low : 2 ^ 9 ≤ 2 ^ size.0 = pow-le-pow_right {n = 2} (omega arith) size.1 in
    let high : 2 ^ size.0 ≤ 2 ^ 16 = pow-le-pow_right {n = 2} (omega arith) size.2 in
    let power = size.3 in
    (omega (arith, low, power), omega (arith, high, power))

commit_fits : (h : LtxHeader) → IsHeader h → h.commit < 2 ^ 32
commit_fits h is =
    let least = (size_between h.size is.size).0 in
    let more : h.commit * 512 ≤ h.commit * h.size = mul-le-mul_left h.commit least in
    let small = is.small in
    omega (arith, more, small)

pub fields_of : (bytes : List ℕ) (h : LtxHeader) → HasHeader bytes h → FieldsOf bytes h
fields_of bytes h has =
    let is = has.header in
    let high = (size_between h.size is.size).1 in
    let in_order = is.in_order in
    let max_fits = is.max_fits in
    record {
      size_is = number_in_front w32 8 bytes (omega arith) ∙ ap page_size has.spelled ∙ size_in h (omega (arith, high));
      commit_is = number_in_front w32 12 bytes (omega arith) ∙ ap commit has.spelled ∙ commit_in h (commit_fits h is);
      min_is = number_in_front w64 16 bytes (omega arith) ∙ ap min_txid has.spelled
          ∙ min_in h (omega (arith, in_order, max_fits));
      index_is = ap (λ n. n == 6) (number_in_front w32 4 bytes (omega arith) ∙ ap flags has.spelled ∙ flags_in h)
          ∙ index_flags h.index;
    }

-- ---- the first fault of a header stands in the first 100 bytes

-- the tests by the numbers that they look at
abbrev tests_by : Bool → ℕ → ℕ → ℕ → ℕ → ℕ → ℕ → ℕ → ℕ → ℕ → ℕ → ℕ → ℕ → ℕ → ℕ → Tests
tests_by long magic flag size pages first last before log frames salts sums node free free2 =
    (long, Short)
    ∷ (magic == 0x4c54_5831, BadMagic)
    ∷ (flag % 2 == 0, Compressed)
    ∷ (flag == 2 || flag == 6, BadFlags)
    ∷ (is_page_size size, BadPageSize)
    ∷ (not (pages == 0) && nat_le (pages * size) database_limit, BadCommit)
    ∷ (not (first == 0) && nat_le first last, BadRange)
    ∷ (before == 0, BadReserved)
    ∷ (
      (log == 32 && are_frames size frames) || (log == 0 && frames == 0 && salts == 0 && nat_le
          (2 ^ 63) sums),
      BadReserved,
    )
    ∷ (node == 0, BadReserved)
    ∷ (free == 0, BadReserved)
    ∷ (free2 == 0, BadReserved)
    ∷ []

pub header_fault_in_front : (bytes : List ℕ) → 100 ≤ length bytes → header_fault (take 100 bytes) ≡ header_fault bytes
unfolding header_fault
header_fault_in_front bytes long =
    let front = take 100 bytes in
    ap (λ b. first_failed (tests_by b (number w32 0 front) (number w32 4 front) (number w32 8 front)
    (number w32 12 front) (number w64 16 front) (number w64 24 front) (number w64 40 front) (number w64 48 front)
    (number w64 56 front) (number w64 64 front) (number w64 80 front) (number w64 72 front)
    (number w64 88 front) (number w32 96 front))) (le-leb 100 (length front) (omega
    (arith, length-take 100 bytes, long)) ∙ sym (le-leb 100 (length bytes) long))
    ∙ ap (λ x. first_failed (tests_by (nat_le 100 (length bytes)) x (number w32 4 front) (number w32 8 front)
    (number w32 12 front) (number w64 16 front) (number w64 24 front) (number w64 40 front) (number w64 48 front)
    (number w64 56 front) (number w64 64 front) (number w64 80 front) (number w64 72 front)
    (number w64 88 front) (number w32 96 front))) (sym (number_in_front w32 0 bytes (omega arith)))
    ∙ ap (λ x. first_failed (tests_by (nat_le 100 (length bytes)) (number w32 0 bytes) x (number w32 8 front)
    (number w32 12 front) (number w64 16 front) (number w64 24 front) (number w64 40 front) (number w64 48 front)
    (number w64 56 front) (number w64 64 front) (number w64 80 front) (number w64 72 front)
    (number w64 88 front) (number w32 96 front))) (sym (number_in_front w32 4 bytes (omega arith)))
    ∙ ap (λ x. first_failed (tests_by (nat_le 100 (length bytes)) (number w32 0 bytes) (number w32 4 bytes) x
    (number w32 12 front) (number w64 16 front) (number w64 24 front) (number w64 40 front) (number w64 48 front)
    (number w64 56 front) (number w64 64 front) (number w64 80 front) (number w64 72 front)
    (number w64 88 front) (number w32 96 front))) (sym (number_in_front w32 8 bytes (omega arith)))
    ∙ ap (λ x. first_failed (tests_by (nat_le 100 (length bytes)) (number w32 0 bytes) (number w32 4 bytes)
    (number w32 8 bytes) x (number w64 16 front) (number w64 24 front) (number w64 40 front)
    (number w64 48 front) (number w64 56 front) (number w64 64 front) (number w64 80 front)
    (number w64 72 front) (number w64 88 front) (number w32 96 front))) (sym
    (number_in_front w32 12 bytes (omega arith)))
    ∙ ap (λ x. first_failed (tests_by (nat_le 100 (length bytes)) (number w32 0 bytes) (number w32 4 bytes)
    (number w32 8 bytes) (number w32 12 bytes) x (number w64 24 front) (number w64 40 front)
    (number w64 48 front) (number w64 56 front) (number w64 64 front) (number w64 80 front)
    (number w64 72 front) (number w64 88 front) (number w32 96 front))) (sym
    (number_in_front w64 16 bytes (omega arith)))
    ∙ ap (λ x. first_failed (tests_by (nat_le 100 (length bytes)) (number w32 0 bytes) (number w32 4 bytes)
    (number w32 8 bytes) (number w32 12 bytes) (number w64 16 bytes) x (number w64 40 front)
    (number w64 48 front) (number w64 56 front) (number w64 64 front) (number w64 80 front)
    (number w64 72 front) (number w64 88 front) (number w32 96 front))) (sym
    (number_in_front w64 24 bytes (omega arith)))
    ∙ ap (λ x. first_failed (tests_by (nat_le 100 (length bytes)) (number w32 0 bytes) (number w32 4 bytes)
    (number w32 8 bytes) (number w32 12 bytes) (number w64 16 bytes) (number w64 24 bytes) x
    (number w64 48 front) (number w64 56 front) (number w64 64 front) (number w64 80 front)
    (number w64 72 front) (number w64 88 front) (number w32 96 front))) (sym
    (number_in_front w64 40 bytes (omega arith)))
    ∙ ap (λ x. first_failed (tests_by (nat_le 100 (length bytes)) (number w32 0 bytes) (number w32 4 bytes)
    (number w32 8 bytes) (number w32 12 bytes) (number w64 16 bytes) (number w64 24 bytes)
    (number w64 40 bytes) x (number w64 56 front) (number w64 64 front) (number w64 80 front)
    (number w64 72 front) (number w64 88 front) (number w32 96 front))) (sym
    (number_in_front w64 48 bytes (omega arith)))
    ∙ ap (λ x. first_failed (tests_by (nat_le 100 (length bytes)) (number w32 0 bytes) (number w32 4 bytes)
    (number w32 8 bytes) (number w32 12 bytes) (number w64 16 bytes) (number w64 24 bytes) (number w64 40 bytes)
    (number w64 48 bytes) x (number w64 64 front) (number w64 80 front) (number w64 72 front)
    (number w64 88 front) (number w32 96 front))) (sym (number_in_front w64 56 bytes (omega arith)))
    ∙ ap (λ x. first_failed (tests_by (nat_le 100 (length bytes)) (number w32 0 bytes) (number w32 4 bytes)
    (number w32 8 bytes) (number w32 12 bytes) (number w64 16 bytes) (number w64 24 bytes) (number w64 40 bytes)
    (number w64 48 bytes) (number w64 56 bytes) x (number w64 80 front) (number w64 72 front)
    (number w64 88 front) (number w32 96 front))) (sym (number_in_front w64 64 bytes (omega arith)))
    ∙ ap (λ x. first_failed (tests_by (nat_le 100 (length bytes)) (number w32 0 bytes) (number w32 4 bytes)
    (number w32 8 bytes) (number w32 12 bytes) (number w64 16 bytes) (number w64 24 bytes) (number w64 40 bytes)
    (number w64 48 bytes) (number w64 56 bytes) (number w64 64 bytes) x (number w64 72 front)
    (number w64 88 front) (number w32 96 front))) (sym (number_in_front w64 80 bytes (omega arith)))
    ∙ ap (λ x. first_failed (tests_by (nat_le 100 (length bytes)) (number w32 0 bytes) (number w32 4 bytes)
    (number w32 8 bytes) (number w32 12 bytes) (number w64 16 bytes) (number w64 24 bytes) (number w64 40 bytes)
    (number w64 48 bytes) (number w64 56 bytes) (number w64 64 bytes) (number w64 80 bytes) x
    (number w64 88 front) (number w32 96 front))) (sym (number_in_front w64 72 bytes (omega arith)))
    ∙ ap (λ x. first_failed (tests_by (nat_le 100 (length bytes)) (number w32 0 bytes) (number w32 4 bytes)
    (number w32 8 bytes) (number w32 12 bytes) (number w64 16 bytes) (number w64 24 bytes) (number w64 40 bytes)
    (number w64 48 bytes) (number w64 56 bytes) (number w64 64 bytes) (number w64 80 bytes)
    (number w64 72 bytes) x (number w32 96 front))) (sym (number_in_front w64 88 bytes (omega arith)))
    ∙ ap (λ x. first_failed (tests_by (nat_le 100 (length bytes)) (number w32 0 bytes) (number w32 4 bytes)
    (number w32 8 bytes) (number w32 12 bytes) (number w64 16 bytes) (number w64 24 bytes) (number w64 40 bytes)
    (number w64 48 bytes) (number w64 56 bytes) (number w64 64 bytes) (number w64 80 bytes)
    (number w64 72 bytes) (number w64 88 bytes) x)) (sym (number_in_front w32 96 bytes (omega arith)))
