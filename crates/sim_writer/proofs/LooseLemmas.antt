-- Bytes put behind the last mark.
use Rattle.std.proofs.Common.{◌≡◌, ℕ, zero, suc, ◌+◌, ◌-◌, ◌≤◌, Bool, true, false, List, [], ◌∷◌, ◌++◌, length, take}
use Rattle.std.proofs.Common.{drop, sym, ap}
use Rattle.std.proofs.Common.{max, replicate, refl, ◌∙◌, inl, inr, append-nil, append_assoc, length-append, arith}
use Rattle.std.proofs.Math.Seq.{take-append_seam}
use Rattle.std.proofs.lemmas.Bool.{cases_lt}
use Rattle.std.proofs.lemmas.List.{take_all, drop_all, take-append-le, length-take, length-replicate}
use Rattle.wal_frames.specs.declared.header.WalHeader.{WalHeader}
use Rattle.wal_frames.specs.WalFormat.{header_front, wal_header_bytes}
use Rattle.sim_writer.specs.declared.machine.Machine.{Machine}
use Rattle.sim_writer.specs.Loose.{PutsLoose, loose_from}
use Rattle.sim_writer.specs.Sound.{IsSound, tail_of}

none_of : (z : List ℕ) → length z ≡ 0 → z ≡ []
none_of [] few = refl
none_of (x ∷ z) few = absurd (omega (arith, few))

behind_grown : (tail z : List ℕ) (n : ℕ) → length z ≡ n - length tail → drop n (tail ++ z) ≡ drop n tail
behind_grown tail z n many = elim (cases_lt n (length tail)) [
  | inl within ↦ ap (drop n) (ap (λ (ys : List ℕ). tail ++ ys) (none_of z (omega (arith, many, within))) ∙ append-nil
      tail)
  | inr past ↦ drop_all n (tail ++ z) (omega (arith, many, past, length-append tail z))
      ∙ sym (drop_all n tail (omega (arith, past)))
]

-- bytes written into a list that grew by zeros to hold them, seen from a place before them on
pub written_behind : (over k : ℕ) (tail z bytes : List ℕ) → over ≤ length tail → k ≤ length (drop over tail)
    → length z ≡ (over + k) + length bytes - length tail
    → drop over (take (over + k) (tail ++ z) ++ bytes ++ drop ((over + k) + length bytes) (tail ++ z))
    ≡ take k (drop over tail) ++ bytes ++ drop (k + length bytes) (drop over tail)
written_behind zero k tail z bytes from within many =
    let none : zero + k ≡ k = omega arith in
    let more : length z ≡ k + length bytes - length tail = omega (arith, many) in
    ap (λ (n : ℕ). take n (tail ++ z) ++ bytes ++ drop (n + length bytes) (tail ++ z)) none
    ∙ ap (λ (xs : List ℕ). xs ++ bytes ++ drop (k + length bytes) (tail ++ z)) (take-append-le k tail z within)
    ∙ ap (λ (xs : List ℕ). take k tail ++ bytes ++ xs) (behind_grown tail z (k + length bytes) more)
written_behind (suc over) k [] z bytes from within many = absurd (omega (arith, from))
written_behind (suc over) k (x ∷ tail) z bytes from within many =
    let one : suc over + k ≡ suc (over + k) = omega arith in
    let two : suc (over + k) + length bytes ≡ suc ((over + k) + length bytes) = omega arith in
    ap (λ (n : ℕ). drop (suc over) (take n (x ∷ (tail ++ z)) ++ bytes ++ drop (n + length bytes) (x ∷ (tail ++ z)))) one
    ∙ ap (λ (n : ℕ). drop (suc over) (take (suc (over + k)) (x ∷ (tail ++ z)) ++ bytes ++ drop n (x ∷ (tail ++ z)))) two
    ∙ written_behind over k tail z bytes (omega (arith, from)) within (omega (arith, many))

length_header : (h : WalHeader) → length (wal_header_bytes h) ≡ 32
unfolding wal_header_bytes header_front
length_header h = refl

-- a list that begins with a header has room for one
pub header_long : (h : WalHeader) (bytes : List ℕ) → take 32 bytes ≡ wal_header_bytes h → 32 ≤ length bytes
header_long h bytes front = omega (arith, length-take 32 bytes, ap length front, length_header h)

pub header_first : (h : WalHeader) (bytes rest : List ℕ) → bytes ≡ wal_header_bytes h ++ rest
    → take 32 bytes ≡ wal_header_bytes h
header_first h bytes rest is =
    ap (take 32) is ∙ ap (λ (n : ℕ). take n (wal_header_bytes h ++ rest)) (sym (length_header h))
    ∙ take-append_seam (wal_header_bytes h) rest

pub from_within : (m : Machine) → IsSound m → loose_from m.headed m.committed ≤ length (tail_of m)
from_within m s = by m.headed m.committed refl refl
  where
    by : (headed : Bool) (log : List ℕ) → m.headed ≡ headed → m.committed ≡ log
        → loose_from headed log ≤ length (tail_of m)
    by true [] is none = header_long m.head (tail_of m) (s.headed is none)
    by true (b ∷ bs) is some = omega arith
    by false log is none = omega arith

module _ (m n : Machine) (bytes tail z : List ℕ) (at : ℕ) (s : IsSound m)
    (is_at : at ≡ m.over + loose_from m.headed m.committed)
    (grown : tail ≡ m.tail ++ z) (many : length z ≡ at + length bytes - length m.tail)
    (is : n ≡ record m { tail = take at tail ++ bytes ++ drop (at + length bytes) tail }) where
  abbrev k : ℕ
  k = loose_from m.headed m.committed

  abbrev put : List ℕ
  put = take at tail ++ bytes ++ drop (at + length bytes) tail

  tail_now : drop m.over put ≡ take k (tail_of m) ++ bytes ++ drop (k + length bytes) (tail_of m)
  tail_now =
      ap (λ (t : List ℕ). drop m.over (take at t ++ bytes ++ drop (at + length bytes) t)) grown
      ∙ ap (λ (a : ℕ). drop m.over (take a (m.tail ++ z) ++ bytes ++ drop (a + length bytes) (m.tail ++ z))) is_at
      ∙ written_behind m.over k m.tail z bytes s.over (from_within m s) (omega (arith, many, is_at))

  pub loose_put : PutsLoose bytes m n
  loose_put = rw is (record { tail = tail_now; rest = refl })

  long_now : m.over ≤ length put
  long_now =
      let behind = drop (at + length bytes) tail in
      let whole : length put ≡ (length (take at tail) + length bytes) + length behind = length-append
      (take at tail ++ bytes) behind ∙ ap (λ (n : ℕ). n + length behind) (length-append (take at tail) bytes) in
      omega (
        arith,
        whole,
        is_at,
        many,
        ap length grown,
        length-append m.tail z,
        length-take at tail,
        s.over,
      )

  headed_now : m.headed ≡ true → m.committed ≡ [] → take 32 (drop m.over put) ≡ wal_header_bytes m.head
  headed_now headed none =
      let front = s.headed headed none in
      let from : k ≡ 32 = ap (λ (b : Bool). loose_from b m.committed) headed ∙ ap (loose_from true) none in
      let long = header_long m.head (tail_of m) front in
      let rest = drop (k + length bytes) (tail_of m) in
      let behind = bytes ++ rest in
      let many : length (take 32 (tail_of m)) ≡ 32 = omega (arith, length-take 32 (tail_of m), long) in
      ap (take 32) tail_now ∙ ap (take 32) (append_assoc (take k (tail_of m)) bytes rest)
      ∙ ap (λ (n : ℕ). take 32 (take n (tail_of m) ++ behind)) from
      ∙ ap (λ (n : ℕ). take n (take 32 (tail_of m) ++ behind)) (sym many)
      ∙ take-append_seam (take 32 (tail_of m)) behind ∙ front

  pub loose_sound : IsSound n
  loose_sound = rw is (record {
    legal = s.legal;
    sums = s.sums;
    current = s.current;
    counted = s.counted;
    numbered = s.numbered;
    rests = s.rests;
    files = s.files;
    last = s.last;
    stands = s.stands;
    begun = s.begun;
    over = long_now;
    headed = headed_now;
    has_head = s.has_head;
  })

-- ---- the list that grew

pub from_most : (headed : Bool) (log : List ℕ) → loose_from headed log ≤ 32
from_most true [] = omega arith
from_most true (b ∷ bs) = omega arith
from_most false log = omega arith

pub grown_tail : (tail now : List ℕ) (size end : ℕ) → size ≡ max (length tail) end
    → now ≡ take size tail ++ replicate (size - length tail) 0 → now ≡ tail ++ replicate (size - length tail) 0
grown_tail tail now size end is grown = grown
    ∙ ap (λ (xs : List ℕ). xs ++ replicate (size - length tail) 0) (take_all size tail (omega (arith, is)))

pub grown_many : (tail : List ℕ) (size end : ℕ) → size ≡ max (length tail) end
    → length (replicate {A = ℕ} (size - length tail) 0) ≡ end - length tail
grown_many tail size end is = length-replicate {A = ℕ} (size - length tail) 0 ∙ omega (arith, is)
