-- The trailer of a file that is read with the sum up to it.
use Rattle.std.proofs.Common.{◌≡◌, ◌≢◌, ℕ, ◌+◌, ◌-◌, ◌≤◌, ◌<◌, min, Bool, true, false, if◌then◌else◌, nat_lt, nat_le}
use Rattle.std.proofs.Common.{◌==◌, List, [], ◌∷◌, ◌++◌, length, take, drop, Some, None, Result, Ok, Err, refl, sym, ap}
use Rattle.std.proofs.Common.{subst, ◌∙◌, arith}
use Rattle.std.specs.Int.{Width, w64, byte_len, from_be_bytes}
use Rattle.std.proofs.lemmas.Bool.{le-leb, lt-leb, eq-eqb, ne_eqb, eqb-true, ltb-false, ltb-true}
use Rattle.std.proofs.lemmas.List.{take-take, drop-take, drop-drop, length-take, length-drop, take_all}
use Rattle.std.proofs.lemmas.List.{take-append-drop}
use Rattle.ls_sums.specs.Crc64.{IsBehind}
use Rattle.ltx_format.specs.declared.fault.LtxFault.{LtxFault}
use Rattle.ltx_format.specs.declared.fault.LtxFault.TheVariants.{Short, BadReserved, BadSum, Extra}
use Rattle.ltx_format.specs.LtxFormat.{file_sum}
use Rattle.ltx_format.specs.FirstFault.{Tests, first_failed, number, trailer_tests}
use Rattle.ltx_format.specs.Reading.{number_at}
use Rattle.ltx_reader.specs.Reader.{AreBytes, IsSummed}
use Rattle.ltx_reader.specs.ReaderSteps.{IsFilled, IsTrailer}
use Rattle.ltx_format.proofs.FieldLaws.{AreBytes-take}
use Rattle.ltx_reader.proofs.ReaderIndexLemmas.{AreBytes-then}
use Rattle.ltx_format.proofs.StepLemmas.{err_is_not_ok, same_ok}
use Rattle.ltx_reader.proofs.ReaderFillLemmas.{take-add}
use Rattle.ltx_reader.proofs.ReaderTestLemmas.{failed, passed}

abbrev wrong : {A : Type 0} → LtxFault → Result A LtxFault
wrong fault = Err fault

same_err : {A : Type 0} (f g : LtxFault) → wrong {A = A} f ≡ Err g → f ≡ g
same_err f g e = cc

-- a number that was read from the front of bytes
pub record NumberRead (w : Width) (xs : List ℕ) (n : ℕ) (rest : List ℕ) : Type 0 where
  pub long : byte_len w ≤ length xs
  pub is : n ≡ from_be_bytes w (take (byte_len w) xs)
  pub behind : rest ≡ drop (byte_len w) xs

read_if : {A : Type 0} (short : Bool) (x y : A) → (if short then Err Short else Ok x) ≡ Ok y → (short ≡ false) × (x ≡ y)
read_if true x y e = absurd (err_is_not_ok Short y e)
read_if false x y e = (refl, same_ok x y e)

short_if : {A : Type 0} (short : Bool) (x : A) (fault : LtxFault) → (if short then Err Short else Ok x) ≡ Err fault
    → (short ≡ true) × (fault ≡ Short)
short_if {A = A} true x fault e = (refl, sym (same_err {A = A} Short fault e))
short_if false x fault e = absurd (err_is_not_ok fault x (sym e))

module _ (w : Width) (xs : List ℕ) where
  pub number_read : (n : ℕ) (rest : List ℕ) → number_at w xs ≡ Ok (n, rest) → NumberRead w xs n rest
  unfolding number_at
  number_read n rest e =
      let r = read_if (nat_lt (length xs) (byte_len w)) _ _ e in
      record {
        long = ltb-false (length xs) (byte_len w) r.0;
        is = ap (λ (p : ℕ × List ℕ). p.0) (sym r.1);
        behind = ap (λ (p : ℕ × List ℕ). p.1) (sym r.1);
      }

  pub number_missing : (fault : LtxFault) → number_at w xs ≡ Err fault → (length xs < byte_len w) × (fault ≡ Short)
  unfolding number_at
  number_missing fault e =
      let r = short_if (nat_lt (length xs) (byte_len w)) _ fault e in
      (ltb-true (length xs) (byte_len w) r.0, r.1)

-- the tests of a trailer from the second, the third and the last on
abbrev extra_tests : List ℕ → ℕ → Tests
extra_tests bytes at = (length bytes == at + 16, Extra) ∷ []

abbrev sum_tests : List ℕ → ℕ → Tests
sum_tests bytes at = (
  number w64 (at + 8) bytes == file_sum (take (at + 8) bytes),
  BadSum (number w64 (at + 8) bytes) (file_sum (take
      (at + 8) bytes)),
) ∷ extra_tests bytes at

abbrev check_tests : List ℕ → ℕ → Tests
check_tests bytes at = (number w64 at bytes == 0, BadReserved) ∷ sum_tests bytes at

-- both numbers of a trailer were read
pub record TrailerRead (bytes : List ℕ) (at check kept more : ℕ) : Type 0 where
  pub inside : at + 16 ≤ length bytes
  pub check_is : number w64 at bytes ≡ check
  pub kept_is : number w64 (at + 8) bytes ≡ kept
  pub more_is : more ≡ min 17 (length bytes - at) - 16

pub behind_short : (xs : List ℕ) (n : ℕ) (rest : List ℕ) → number_at w64 xs ≡ Ok (n, rest) → length rest < 8
    → length xs < 16
behind_short xs n rest e short =
    let a = number_read w64 xs n rest e in
    let long = a.long in
    omega (arith, long, ap length a.behind, length-drop 8 xs)

module _ (bytes : List ℕ) (at : ℕ) (trailer : List ℕ) (is : IsTrailer bytes at trailer) where
  room : length trailer ≡ min 17 (length bytes - at)
  room = ap length is.stand ∙ (let m = min 17 (length bytes - at) in omega (
    arith,
    length-take m
        (drop at bytes),
    length-drop at bytes,
  ))

  -- the bytes in the midst of the trailer
  pub trailer_part : (m n : ℕ) → m + n ≤ length trailer → take n (drop m trailer) ≡ take n (drop (at + m) bytes)
  trailer_part m n fits =
      let k = min 17 (length bytes - at) - m in
      let whole : m + k ≡ min 17 (length bytes - at) = omega (arith, room) in
      let shifted : drop m trailer ≡ take k (drop (at + m) bytes) =
      ap (drop m) (is.stand ∙ ap (λ j. take j (drop at bytes)) (sym whole)) ∙ drop-take m k (drop at bytes)
      ∙ ap (take k) (drop-drop m at bytes) in
      ap (take n) shifted ∙ take-take n k (drop (at + m) bytes) (omega (arith, room))

  pub trailer_front : 8 ≤ length trailer → take 8 trailer ≡ take 8 (drop at bytes)
  trailer_front long =
      let here : at + 0 ≡ at = omega arith in
      trailer_part 0 8 (omega arith) ∙ ap (λ k. take 8 (drop k bytes)) here

  pub trailer_read : (check kept : ℕ) (behind rest : List ℕ) → number_at w64 trailer ≡ Ok (check, behind)
      → number_at w64 behind ≡ Ok (kept, rest)
      → TrailerRead bytes at check kept (length rest)
  trailer_read check kept behind rest first second =
      let a = number_read w64 trailer check behind first in
      let b = number_read w64 behind kept rest second in
      let behind_long : length behind ≡ length trailer - 8 = ap length a.behind ∙ length-drop 8 trailer in
      let long = b.long in
      let front = trailer_front (omega (arith, long, a.long)) in
      record {
        inside = omega (arith, room);
        check_is = sym (a.is ∙ ap (from_be_bytes w64) front);
        kept_is = sym (b.is ∙ ap (λ (xs : List ℕ). from_be_bytes w64 (take 8 xs)) a.behind
            ∙ ap (from_be_bytes w64) (trailer_part 8 8 (omega arith)));
        more_is = ap length b.behind ∙ length-drop 8 behind ∙ omega (arith, room);
      }

  pub trailer_short : length bytes < at + 16 → first_failed (trailer_tests bytes at) ≡ Some Short
  trailer_short lt = failed (nat_le (at + 16) (length bytes)) Short (check_tests bytes at) (lt-leb (at + 16)
      (length bytes) lt)

  pub trailer_cut : length trailer < 16 → length bytes < at + 16
  trailer_cut less = omega (arith, room)

  -- the sum goes on over the post-apply checksum
  pub sum_behind : (sum more : ℕ) → 8 ≤ length trailer → IsBehind (take at bytes ++ take 8 trailer) more
      → IsBehind (take (at + 8) bytes) more
  sum_behind sum more long is_behind =
      let same : take (at + 8) bytes ≡ take at bytes ++ take 8 trailer = take-add at 8 bytes
      ∙ ap (λ xs. take at bytes ++ xs) (sym (trailer_front long)) in
      subst (λ (front : List ℕ). IsBehind front more) (sym same) is_behind

module _ (bytes : List ℕ) (at check kept more found : ℕ) (read : TrailerRead bytes at check kept more) where
  is_long : nat_le (at + 16) (length bytes) ≡ true
  is_long = le-leb (at + 16) (length bytes) read.inside

  long_then : first_failed (trailer_tests bytes at) ≡ first_failed (check_tests bytes at)
  long_then = passed (nat_le (at + 16) (length bytes)) Short (check_tests bytes at) is_long

  pub trailer_reserved : check ≢ 0 → first_failed (trailer_tests bytes at) ≡ Some BadReserved
  trailer_reserved ne =
      long_then ∙ failed (number w64 at bytes == 0) BadReserved (sum_tests bytes at) (ne_eqb (number w64 at bytes) 0
      (λ e. ne (sym read.check_is ∙ e)))

  check_then : check ≡ 0 → first_failed (trailer_tests bytes at) ≡ first_failed (sum_tests bytes at)
  check_then zero =
      long_then ∙ passed (number w64 at bytes == 0) BadReserved (sum_tests bytes at) (eq-eqb (number w64 at bytes) 0
      (read.check_is ∙ zero))

  module _ (zero : check ≡ 0) (is_sum : found ≡ file_sum (take (at + 8) bytes)) where
    pub trailer_sum : kept ≢ found → first_failed (trailer_tests bytes at) ≡ Some (BadSum kept found)
    trailer_sum ne =
        check_then zero
        ∙ failed (number w64 (at + 8) bytes == file_sum (take (at + 8) bytes)) (BadSum (number w64 (at + 8) bytes)
        (file_sum (take (at + 8) bytes))) (extra_tests bytes at)
        (ne_eqb (number w64 (at + 8) bytes) (file_sum (take (at + 8) bytes)) (λ e. ne (sym read.kept_is ∙ e
        ∙ sym is_sum)))
        ∙ ap (λ k. Some (BadSum k (file_sum (take (at + 8) bytes)))) read.kept_is
        ∙ ap (λ k. Some (BadSum kept k)) (sym is_sum)

    module _ (same : kept ≡ found) where
      sum_then : first_failed (trailer_tests bytes at) ≡ first_failed (extra_tests bytes at)
      sum_then =
          check_then zero
          ∙ passed (number w64 (at + 8) bytes == file_sum (take (at + 8) bytes)) (BadSum (number w64 (at + 8) bytes)
          (file_sum (take (at + 8) bytes))) (extra_tests bytes at)
          (eq-eqb (number w64 (at + 8) bytes) (file_sum (take (at + 8) bytes)) (read.kept_is ∙ same ∙ is_sum))

      pub trailer_extra : more ≢ 0 → first_failed (trailer_tests bytes at) ≡ Some Extra
      trailer_extra ne =
          sum_then ∙ failed (length bytes == at + 16) Extra [] (ne_eqb (length bytes) (at + 16) (λ e. ne
          (read.more_is ∙ omega (arith, e))))

      pub trailer_ends : more ≡ 0 → first_failed (trailer_tests bytes at) ≡ None
      trailer_ends none =
          let is_more = read.more_is in
          let inside = read.inside in
          sum_then ∙ passed (length bytes == at + 16) Extra [] (eq-eqb (length bytes) (at + 16) (omega
          (arith, none, is_more, inside)))

-- ---- the whole file

passed_any : (b : Bool) (fault : LtxFault) (tests : Tests) → first_failed ((b, fault) ∷ tests) ≡ None
    → (b ≡ true) × (first_failed tests ≡ None)
passed_any true fault tests e = (refl, e)
passed_any false fault tests e = absurd cc

pub trailer_filled : (bytes into : List ℕ) (at n : ℕ) → IsFilled bytes at 17 into n → IsTrailer bytes at (take n into)
trailer_filled bytes into at n is = record { stand = is.same ∙ ap (λ k. take k (drop at bytes)) is.count }

pub whole_length : (bytes : List ℕ) (at : ℕ) → first_failed (trailer_tests bytes at) ≡ None → length bytes ≡ at + 16
whole_length bytes at none =
    let a = passed_any (nat_le (at + 16) (length bytes)) Short (check_tests bytes at) none in
    let b = passed_any (number w64 at bytes == 0) BadReserved (sum_tests bytes at) a.1 in
    let c = passed_any (number w64 (at + 8) bytes == file_sum (take (at + 8) bytes)) (BadSum (number w64
    (at + 8) bytes) (file_sum (take (at + 8) bytes))) (extra_tests bytes at) b.1 in
    let d = passed_any (length bytes == at + 16) Extra [] c.1 in
    eqb-true (length bytes) (at + 16) d.0

-- a file that was read to its end is bytes
pub whole_bytes : (bytes into : List ℕ) (at n sum : ℕ) → first_failed (trailer_tests bytes at) ≡ None
    → IsSummed bytes at sum → IsFilled bytes at 17 into n
    → AreBytes into → AreBytes bytes
whole_bytes bytes into at n sum none summed is small =
    let long = whole_length bytes at none in
    let count = is.count in
    let rest : drop at bytes ≡ take n into = sym (take_all n (drop at bytes) (omega
    (arith, count, length-drop at bytes))) ∙ sym is.same in
    subst AreBytes (take-append-drop at bytes) (AreBytes-then (take at bytes) (drop at bytes) summed.are_bytes
    (subst AreBytes (sym rest) (AreBytes-take n into small)))
