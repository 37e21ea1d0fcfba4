-- A log whose header is accepted.
use Rattle.std.proofs.Common.{◌≡◌, ◌∙◌, ℕ, ◌+◌, ◌<◌, ◌≤◌, Bool, true, false, not, cond, eqb, ltb, List, ◌++◌, get_or}
use Rattle.std.proofs.Common.{length, take, drop, Option, Some, None, Result, Ok, Err, IfOk, ◌⊎◌, sym, ap, subst, refl}
use Rattle.std.proofs.Common.{inl, inr, arith, length-append, length-drop}
use Rattle.std.proofs.lemmas.Bool.{le-ltb, lt-ltb, cases_lt, eqb-true, and_parts}
use Rattle.std.proofs.Math.Seq.{take-add}
use Rattle.std.proofs.lemmas.List.{get_or-take, get_or-drop, get_or_past, take-append-le, drop-append-le, drop-drop}
use Rattle.std.proofs.lemmas.List.{length-take, length-take-le, take-append-drop}
use Rattle.std.proofs.lemmas.Nat.{be_bytes_4}
use Rattle.byteorder.specs.Endian.{big_number, big_bytes}
use Rattle.byteorder.specs.Numbers.{big_from-append, big_from-take}
use Rattle.ls_base.specs.PageSize.{IsPageSize, is_page_size}
use Rattle.ls_base.proofs.PageSizeLemmas.{size_from_test}
use Rattle.ls_sums.specs.declared.order.Order.{Order}
use Rattle.ls_sums.specs.declared.order.Order.TheVariants.{Little, Big}
use Rattle.ls_sums.specs.declared.wal_sum.WalSum.{WalSum}
use Rattle.wal_frames.specs.declared.header.WalHeader.{WalHeader}
use Rattle.wal_frames.specs.declared.fault.WalHeaderFault.{WalHeaderFault}
use Rattle.wal_frames.specs.declared.fault.WalHeaderFault.TheVariants.{Short, BadVersion, BadSize, BadSum}
use Rattle.wal_frames.specs.WalFormat.{field_at, sums_at, sums_of, are_same, magic, order_of, header_front, HasSums}
use Rattle.wal_frames.specs.WalFormat.{header_in, read_behind_magic, read_header}

pub field_at-append : (at : ℕ) (a b : List ℕ) → at + 4 ≤ length a → field_at (a ++ b) at ≡ field_at a at
unfolding field_at
field_at-append at a b fits =
    ap (λ (xs : List ℕ). big_number 4 xs) (drop-append-le at a b (omega (arith, fits)))
    ∙ big_from-append 4 (drop at a) b (omega (arith, fits, length-drop at a))

-- what comes behind 32 bytes doesn't change the header
behind-append : (order : Option Order) (a b : List ℕ) → 32 ≤ length a
    → read_behind_magic order (a ++ b) ≡ read_behind_magic order a
behind-append None a b fits = refl
behind-append (Some order) a b fits =
    rw (
      field_at-append 4 a b (omega (arith, fits)),
      field_at-append 8 a b (omega (arith, fits)),
      field_at-append 12 a b (omega (arith, fits)),
      field_at-append 16 a b (omega (arith, fits)),
      field_at-append 20 a b (omega (arith, fits)),
      field_at-append 24 a b (omega (arith, fits)),
      field_at-append 28 a b (omega (arith, fits)),
      take-append-le 24 a b (omega (arith, fits)),
    ) refl

pub read_header-append : (a b : List ℕ) → 32 ≤ length a → read_header (a ++ b) ≡ read_header a
unfolding read_header
read_header-append a b fits =
    rw (
      le-ltb (length (a ++ b)) 32 (omega (arith, length-append a b, fits)),
      le-ltb (length a) 32 fits,
      field_at-append 0 a b (omega (arith, fits)),
    )
    (behind-append (order_of (field_at a 0)) a b fits)

pub read_header-take : (n : ℕ) (log : List ℕ) → 32 ≤ n → n ≤ length log → read_header (take n log) ≡ read_header log
read_header-take n log long fits =
    sym (read_header-append (take n log) (drop n log) (omega (arith, length-take-le n log fits)))
    ∙ ap read_header (take-append-drop n log)

-- what an accepted header has
pub record Accepts (h : WalHeader) (log : List ℕ) : Type 0 where
  pub long : 32 ≤ length log
  pub size : IsPageSize h.size
  pub sums : sums_of h.order (take 24 log) ≡ record { s0 = h.s0; s1 = h.s1 }
  -- what it says is what stands there
  pub version : field_at log 4 ≡ 3007000
  pub fields : header_in h.order log ≡ h
  pub order : order_of (field_at log 0) ≡ Some h.order

tests_passed : (a b c : Bool) (x h : WalHeader)
    → cond (not a) (Err BadVersion) (cond (not b) (Err BadSize) (cond (not c) (Err BadSum) (Ok x))) ≡ Ok h
    → (b ≡ true) × (c ≡ true) × (x ≡ h) × (a ≡ true)
tests_passed true true true x h e = (refl, refl, cc, refl)
tests_passed true true false x h e = absurd cc
tests_passed true false c x h e = absurd cc
tests_passed false b c x h e = absurd cc

pub same_sums : (a b : WalSum) → are_same a b ≡ true → a ≡ b
same_sums a b same =
    let parts = and_parts _ _ same in
    let s0 : a.s0 ≡ b.s0 = eqb-true a.s0 b.s0 parts.0 in
    let s1 : a.s1 ≡ b.s1 = eqb-true a.s1 b.s1 parts.1 in
    λ i. record { s0 = s0 i; s1 = s1 i }

behind_accepts : (order : Option Order) (log : List ℕ) (h : WalHeader) → order_of (field_at log 0) ≡ order
    → 32 ≤ length log → read_behind_magic order log ≡ Ok h → Accepts h log
behind_accepts None log h named long e = absurd cc
behind_accepts (Some order) log h named long e =
    let passed = tests_passed (eqb (field_at log 4) 3007000) (is_page_size (field_at log 8))
    (are_same (sums_of order (take 24 log)) (sums_at log 24)) (header_in order log) h e in
    subst (λ (x : WalHeader). Accepts x log) passed.2 (record {
      long = long;
      size = size_from_test (field_at log 8) passed.0;
      sums = same_sums (sums_of order (take 24 log)) (sums_at log 24) passed.1;
      version = eqb-true (field_at log 4) 3007000 passed.3;
      fields = refl;
      order = named;
    })

short_read : (short : Bool) (read : Result WalHeader WalHeaderFault) (h : WalHeader) → short ≡ true
    → cond short (Err Short) read ≡ Ok h → ⊥
short_read true read h is e = absurd cc
short_read false read h is e = absurd cc

pub accepts : (log : List ℕ) (h : WalHeader) → read_header log ≡ Ok h → Accepts h log
unfolding read_header
accepts log h e =
    elim (cases_lt (length log) 32) [
      | inl short ↦ absurd (short_read (ltb (length log) 32) (read_behind_magic (order_of (field_at log 0)) log) h
          (lt-ltb (length log) 32 short) e)
      | inr long ↦ behind_accepts (order_of (field_at log 0)) log h refl long (rw (le-ltb (length log) 32 long) at e)
    ]

-- ---- the sums of what is read

four_bytes : (bytes : List ℕ) → length bytes ≡ 4 → ((k : ℕ) → get_or bytes k 0 < 256)
    → big_bytes 4 (big_number 4 bytes) ≡ bytes
four_bytes bytes len small = be_bytes_4 bytes (big_number 4 bytes) len small (omega arith)

module _ (log : List ℕ) (small : (k : ℕ) → get_or log k 0 < 256) where
  small_in : (at k : ℕ) → get_or (take 4 (drop at log)) k 0 < 256
  small_in at k =
      elim (cases_lt k 4) [
        | inl within ↦ let e : get_or (take 4 (drop at log)) k 0 ≡ get_or log (at + k) 0 = get_or-take 4 (drop at log)
            k 0 within ∙ get_or-drop at log k 0 in rw e (small (at + k))
        | inr past ↦
            let e : get_or (take 4 (drop at log)) k 0 ≡ 0 = get_or_past (take 4 (drop at log)) k 0
            (omega (arith, past, length-take 4 (drop at log))) in
            rw e (omega arith)
      ]

  field_bytes : (at : ℕ) → at + 4 ≤ length log → big_bytes 4 (field_at log at) ≡ take 4 (drop at log)
  unfolding field_at
  field_bytes at fits =
      let here = take 4 (drop at log) in
      let len : length here ≡ 4 = length-take-le 4 (drop at log) (omega (arith, fits, length-drop at log)) in
      ap (big_bytes 4) (sym (big_from-take 0 4 4 (drop at log) (omega arith))) ∙ four_bytes here len (small_in at)

  next_four : (at n : ℕ) → take (4 + n) (drop at log) ≡ take 4 (drop at log) ++ take n (drop (at + 4) log)
  next_four at n = take-add 4 n (drop at log) ∙ ap (λ (xs : List ℕ). take 4 (drop at log) ++ take n xs)
      (drop-drop 4 at log)

  fields_read : 32 ≤ length log
      → take 24 log ≡ big_bytes 4 (field_at log 0) ++
      (big_bytes 4 (field_at log 4) ++
      (big_bytes 4 (field_at log 8) ++
      (big_bytes 4 (field_at log 12) ++ (big_bytes 4 (field_at log 16) ++ big_bytes 4 (field_at log 20)))))
  fields_read long =
      let at0 : take 4 (drop 0 log) ≡ big_bytes 4 (field_at log 0) = sym (field_bytes 0 (omega (arith, long))) in
      let at4 : take 4 (drop 4 log) ≡ big_bytes 4 (field_at log 4) = sym (field_bytes 4 (omega (arith, long))) in
      let at8 : take 4 (drop 8 log) ≡ big_bytes 4 (field_at log 8) = sym (field_bytes 8 (omega (arith, long))) in
      let at12 : take 4 (drop 12 log) ≡ big_bytes 4 (field_at log 12) = sym (field_bytes 12 (omega (arith, long))) in
      let at16 : take 4 (drop 16 log) ≡ big_bytes 4 (field_at log 16) = sym (field_bytes 16 (omega (arith, long))) in
      let at20 : take 4 (drop 20 log) ≡ big_bytes 4 (field_at log 20) = sym (field_bytes 20 (omega (arith, long))) in
      next_four 0 20 ∙ rw (next_four 4 16, next_four 8 12, next_four 12 8, next_four 16 4)
      (λ i. at0 i ++ (at4 i ++ (at8 i ++ (at12 i ++ (at16 i ++ at20 i)))))

named_by : (a b : Bool) (order : Order) → cond a (Some Little) (cond b (Some Big) None) ≡ Some order
    → ((a ≡ true) × (order ≡ Little)) ⊎ ((b ≡ true) × (order ≡ Big))
named_by true b order e = inl (refl, cc)
named_by false true order e = inr (refl, cc)
named_by false false order e = absurd cc

named_magic : (n : ℕ) (order : Order) → order_of n ≡ Some order → n ≡ magic order
named_magic n order e =
    elim (named_by (eqb n 0x377f_0682) (eqb n 0x377f_0683) order e) [
      | inl little ↦ eqb-true n 0x377f_0682 little.0 ∙ ap magic (sym little.1)
      | inr big ↦ eqb-true n 0x377f_0683 big.0 ∙ ap magic (sym big.1)
    ]

front_read : (log : List ℕ) (h : WalHeader) → ((k : ℕ) → get_or log k 0 < 256) → Accepts h log
    → header_front h ≡ take 24 log
unfolding header_front
front_read log h small a =
    let order : magic h.order ≡ field_at log 0 = sym (named_magic (field_at log 0) h.order a.order) in
    let version : 3007000 ≡ field_at log 4 = sym a.version in
    let size : h.size ≡ field_at log 8 = ap (λ (x : WalHeader). x.size) (sym a.fields) in
    let seq : h.seq ≡ field_at log 12 = ap (λ (x : WalHeader). x.seq) (sym a.fields) in
    let salt1 : h.salt1 ≡ field_at log 16 = ap (λ (x : WalHeader). x.salt1) (sym a.fields) in
    let salt2 : h.salt2 ≡ field_at log 20 = ap (λ (x : WalHeader). x.salt2) (sym a.fields) in
    (λ i. big_bytes 4 (order i) ++
    (big_bytes 4 (version i) ++ (big_bytes 4 (size i) ++
    (big_bytes 4 (seq i) ++ (big_bytes 4 (salt1 i) ++ big_bytes 4 (salt2 i))))))
    ∙ sym (fields_read log small a.long)

-- a header that was read has its sums
pub sums_read : (log : List ℕ) (read : Result WalHeader WalHeaderFault) → ((k : ℕ) → get_or log k 0 < 256)
    → read_header log ≡ read → IfOk read HasSums
sums_read log (Ok h) small e = let a = accepts log h e in ap (sums_of h.order) (front_read log h small a) ∙ a.sums
sums_read log (Err fault) small e = tt

pub read_named : (log : List ℕ) (order : Order) → 32 ≤ length log → order_of (field_at log 0) ≡ Some order
    → read_header log ≡ read_behind_magic (Some order) log
unfolding read_header
read_named log order long named = rw (le-ltb (length log) 32 long, named) refl
