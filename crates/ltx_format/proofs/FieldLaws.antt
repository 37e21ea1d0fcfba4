-- The laws of the readers of numbers: what is read is spelled so, and what is spelled so is read.
use Rattle.std.proofs.Common.{◌≡◌, ℕ, ◌+◌, ◌%◌, ◌^◌, ◌<◌, ◌≤◌, Bool, true, false, cond, eqb, ltb, List, ◌++◌, length}
use Rattle.std.proofs.Common.{get_or, take, drop, Ok, Err, refl, sym, ap, subst, ◌∙◌, append_assoc, arith, inl, inr}
use Rattle.std.specs.Int.{Width, w16, w32, w64, byte_len, from_be_bytes, to_be_bytes}
use Rattle.std.proofs.lemmas.Bool.{cases_lt, ltb-false, le-ltb, eqb-true, eq-eqb}
use Rattle.std.proofs.lemmas.List.{take_at, drop_at, take-append-drop, length-append, length-take, get_or-drop}
use Rattle.std.proofs.lemmas.List.{get_or-take, get_or_past}
use Rattle.std.proofs.lemmas.Nat.{be_bytes_2, be_bytes_4, be_bytes_8, from_be_bytes-to_be_bytes_2}
use Rattle.std.proofs.lemmas.Nat.{from_be_bytes-to_be_bytes_4, from_be_bytes-to_be_bytes_8}
use Rattle.ltx_format.specs.declared.fault.LtxFault.{LtxFault}
use Rattle.ltx_format.specs.declared.fault.LtxFault.TheVariants.{Short, Compressed, BadFlags}
use Rattle.ltx_format.specs.LtxFormat.{header_flags}
use Rattle.ltx_format.specs.Reading.{number_at, behind, flags_from, passes}
use Rattle.ltx_format.proofs.StepLemmas.{bind_ok, where_true-ok}

-- each item is below 256
abbrev pub AreBytes : List ℕ → Type 0
AreBytes bytes = (i : ℕ) → get_or bytes i 0 < 256

pub AreBytes-drop : (n : ℕ) (bytes : List ℕ) → AreBytes bytes → AreBytes (drop n bytes)
AreBytes-drop n bytes small i = rw get_or-drop (small (n + i))

pub AreBytes-take : (n : ℕ) (bytes : List ℕ) → AreBytes bytes → AreBytes (take n bytes)
AreBytes-take n bytes small i =
    elim (cases_lt i n) [
      | inl lt ↦ rw (get_or-take n bytes i 0 lt) (small i)
      | inr le ↦ rw (get_or_past (take n bytes) i 0 (omega (arith, length-take n bytes))) (omega arith)
    ]

-- bytes begin with these, and the rest are bytes
pub record BeginsWith (bytes front rest : List ℕ) : Type 0 where
  pub whole : bytes ≡ front ++ rest
  pub small : AreBytes rest

pub BeginsWith-then : (a x b y c : List ℕ) → BeginsWith a x b → BeginsWith b y c → BeginsWith a (x ++ y) c
BeginsWith-then a x b y c p q = record {
  whole = p.whole ∙ ap (λ (rest : List ℕ). x ++ rest) q.whole
      ∙ sym (append_assoc x y c);
  small = q.small;
}

-- the numbers of a width, and their bytes
pub record IsNumbers (w : Width) (limit : ℕ) : Type 0 where
  pub len : (n : ℕ) → length (to_be_bytes w n) ≡ byte_len w
  pub bytes_again : (bytes : List ℕ) → length bytes ≡ byte_len w → AreBytes bytes
      → to_be_bytes w (from_be_bytes w bytes) ≡ bytes
  pub number_again : (n : ℕ) → n < limit → from_be_bytes w (to_be_bytes w n) ≡ n
  pub below : (bytes : List ℕ) → AreBytes bytes → from_be_bytes w bytes < limit

pub numbers16 : IsNumbers w16 (2 ^ 16)
numbers16 = record {
  len = λ n. refl;
  bytes_again = λ bytes len small. be_bytes_2 bytes _ len small refl;
  number_again = λ n lt. from_be_bytes-to_be_bytes_2 n lt;
  below = λ bytes small. omega (arith, small 0, small 1);
}

pub numbers32 : IsNumbers w32 (2 ^ 32)
numbers32 = record {
  len = λ n. refl;
  bytes_again = λ bytes len small. be_bytes_4 bytes _ len small refl;
  number_again = λ n lt. from_be_bytes-to_be_bytes_4 n lt;
  below = λ bytes small. omega (arith, small 0, small 1, small 2, small 3);
}

pub numbers64 : IsNumbers w64 (2 ^ 64)
numbers64 = record {
  len = λ n. refl;
  bytes_again = λ bytes len small. be_bytes_8 bytes _ len small refl;
  number_again = λ n lt. from_be_bytes-to_be_bytes_8 n lt;
  below = λ bytes small. omega (arith, small 0, small 1, small 2, small 3, small 4, small 5, small 6, small 7);
}

short_or : {A : Type 0} (test : Bool) (x y : A) → cond test (Err Short) (Ok x) ≡ Ok y → (test ≡ false) × (x ≡ y)
short_or true x y e = absurd cc
short_or false x y e = (refl, cc)

module _ {w : Width} {limit : ℕ} (numbers : IsNumbers w limit) where
  pub number-read : (bytes : List ℕ) (x : ℕ × List ℕ) → AreBytes bytes → number_at w bytes ≡ Ok x
      → BeginsWith bytes (to_be_bytes w x.0) x.1 × (x.0 < limit)
  unfolding number_at
  number-read bytes x small e =
      let front = take (byte_len w) bytes in
      let g = short_or (ltb (length bytes) (byte_len w)) (from_be_bytes w front, drop (byte_len w) bytes) x e in
      let long : byte_len w ≤ length bytes = ltb-false _ _ g.0 in
      let front_small = AreBytes-take (byte_len w) bytes small in
      let spelled : to_be_bytes w (from_be_bytes w front) ≡ front =
      numbers.bytes_again front (omega (arith, length-take (byte_len w) bytes)) front_small in
      let begins : BeginsWith bytes (to_be_bytes w (from_be_bytes w front)) (drop (byte_len w) bytes) =
      record {
        whole = rw spelled (sym (take-append-drop (byte_len w) bytes));
        small =
            AreBytes-drop (byte_len w) bytes small;
      } in
      subst (λ (y : ℕ × List ℕ). BeginsWith bytes (to_be_bytes w y.0) y.1 × (y.0 < limit)) g.1
      (begins, numbers.below front front_small)

  pub number-again : (n : ℕ) (rest : List ℕ) → n < limit → number_at w (to_be_bytes w n ++ rest) ≡ Ok (n, rest)
  unfolding number_at
  number-again n rest lt =
      let len = numbers.len n in
      let long : ltb (length (to_be_bytes w n ++ rest)) (byte_len w) ≡ false =
      le-ltb _ _ (omega (arith, length-append (to_be_bytes w n) rest)) in
      rw (
        long,
        take_at (to_be_bytes w n) rest (byte_len w) len,
        drop_at (to_be_bytes w n) rest (byte_len w) len,
        numbers.number_again n lt,
      ) refl

  pub behind-read : (n : ℕ) (fault : LtxFault) (bytes rest : List ℕ) → AreBytes bytes → behind w n fault bytes ≡ Ok rest
      → BeginsWith bytes (to_be_bytes w n) rest
  unfolding behind
  behind-read n fault bytes rest small e =
      let a = bind_ok (number_at w bytes) _ rest e in
      let b = where_true-ok (eqb a.0.0 n) fault a.0.1 rest a.2 in
      let read = number-read bytes a.0 small a.1 in
      subst (λ (m : ℕ). BeginsWith bytes (to_be_bytes w m) rest) (eqb-true a.0.0 n b.0)
      (subst (λ (r : List ℕ). BeginsWith bytes (to_be_bytes w a.0.0) r) b.1 read.0)

  pub behind-again : (n : ℕ) (fault : LtxFault) (rest : List ℕ) → n < limit
      → behind w n fault (to_be_bytes w n ++ rest) ≡ Ok rest
  unfolding behind
  behind-again n fault rest lt = rw (number-again n rest lt, eq-eqb n n refl) refl

pub flags-read : (flags found : ℕ) (x : Unit {0}) → flags_from flags found ≡ Ok x → found ≡ flags
unfolding flags_from
flags-read flags found x e =
    let plain = bind_ok (passes (eqb (found % 2) 0) Compressed) _ x e in
    eqb-true found flags (where_true-ok (eqb found flags) BadFlags tt x plain.2).0

-- a number whose bit 0 isn't set is what it says
pub flags-again : (flags : ℕ) → flags % 2 ≡ 0 → flags_from flags flags ≡ Ok tt
unfolding flags_from
flags-again flags plain = rw (eq-eqb (flags % 2) 0 plain, eq-eqb flags flags refl) refl

-- ---- the flags of a header

pub flags_fit : (index : Bool) → header_flags index < 2 ^ 32
flags_fit true = omega arith
flags_fit false = omega arith

pub flags_even : (index : Bool) → header_flags index % 2 ≡ 0
flags_even true = refl
flags_even false = refl

pub flags_tell : (index : Bool) → eqb (header_flags index) 6 ≡ index
flags_tell true = refl
flags_tell false = refl
