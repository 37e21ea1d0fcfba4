-- The first fault and the pages from a block on.
use Rattle.std.proofs.Common.{◌≡◌, ◌≢◌, ℕ, zero, suc, ◌+◌, ◌≤◌, ◌<◌, Bool, true, false, ◌==◌, ◌&&◌, not, nat_le, nat_lt}
use Rattle.std.proofs.Common.{List, [], ◌∷◌, length, take, drop, Option, Some, None, refl, sym, ◌∙◌, arith}
use Rattle.std.proofs.Common.{if◌then◌else◌}
use Rattle.std.specs.Option.{option_or}
use Rattle.std.specs.Int.{w32}
use Rattle.std.proofs.lemmas.Bool.{eq-eqb, ne_eqb, and_parts, ltb-true, leb-true}
use Rattle.ls_base.specs.PageSize.{lock_page}
use Rattle.ltx_format.specs.declared.fault.LtxFault.{LtxFault}
use Rattle.ltx_format.specs.declared.fault.LtxFault.TheVariants.{Short, BadOrder}
use Rattle.ltx_format.specs.FirstFault.{Tests, first_failed, number, page_size, commit, block_tests, page_tests}
use Rattle.ltx_format.specs.FirstFault.{is_next, end_fault, fault_from}
use Rattle.ltx_reader.specs.Reader.{Reader, pages_from}
use Rattle.ltx_reader.specs.ReaderSteps.{next_fault, reaches}

stop_of : (a : Option LtxFault) (b : Bool) (e : Option LtxFault) (t : Bool) (order : LtxFault) (tests : Tests)
    (rest : Option LtxFault) (fault : LtxFault)
    → option_or a (if b then e else first_failed ((t, order) ∷ [])) ≡ Some fault
    → option_or a (if b then e else option_or (first_failed ((t, order) ∷ tests)) rest) ≡ Some fault
stop_of (Some x) b e t order tests rest fault is = is
stop_of None true e t order tests rest fault is = is
stop_of None false e true order tests rest fault is = absurd cc
stop_of None false e false order tests rest fault is = is

first_none : (a : Option LtxFault) (rest : Option LtxFault) → option_or a rest ≡ None → (a ≡ None) × (rest ≡ None)
first_none None rest is = (refl, is)
first_none (Some x) rest is = absurd cc

end_of : (a : Option LtxFault) (b : Bool) (e other : Option LtxFault) (o : Option LtxFault) → b ≡ true
    → option_or a (if b then e else o) ≡ option_or a (if b then e else other)
end_of a true e other o is = refl
end_of a false e other o is = absurd cc

order_of : (b : Bool) (e : Option LtxFault) (t : Bool) (order : LtxFault) → b ≡ false
    → (if b then e else first_failed ((t, order) ∷ [])) ≡ None → t ≡ true
order_of false e true order is none = refl
order_of false e false order is none = absurd cc
order_of true e t order is none = absurd cc

module _ (bytes : List ℕ) (reader : Reader) (left at : ℕ) where
  abbrev n : ℕ
  n = number w32 at bytes

  abbrev size : ℕ
  size = page_size bytes

  abbrev behind : Option LtxFault
  behind = fault_from left bytes (suc reader.count) n (at + 6 + size)

  pub from_stops : (fault : LtxFault) → next_fault bytes reader at ≡ Some fault
      → fault_from (suc left) bytes reader.count reader.last at ≡ Some fault
  unfolding fault_from
  from_stops fault is =
      stop_of (first_failed (block_tests bytes at)) (n == 0) (end_fault bytes reader.count at) (is_next size
      (commit bytes) reader.last n) (BadOrder n)
      ((nat_le (at + 6 + size) (length bytes), Short) ∷ []) behind fault is

  pub from_ends : n ≡ 0 → next_fault bytes reader at ≡ None
      → fault_from (suc left) bytes reader.count reader.last at ≡ None
  unfolding fault_from
  from_ends is_end none =
      sym (end_of (first_failed (block_tests bytes at)) (n == 0) (end_fault bytes reader.count at) (option_or
      (first_failed (page_tests bytes reader.last at)) behind)
      (first_failed ((is_next size (commit bytes) reader.last n, BadOrder n) ∷ [])) (eq-eqb n 0 is_end)) ∙ none

  pub next_tests : next_fault bytes reader at ≡ None → first_failed (block_tests bytes at) ≡ None
  next_tests none = (first_none (first_failed (block_tests bytes at)) _ none).0

  pub next_is_next : n ≢ 0 → next_fault bytes reader at ≡ None → is_next size (commit bytes) reader.last n ≡ true
  next_is_next some none =
      order_of (n == 0) (end_fault bytes reader.count at) (is_next size (commit bytes) reader.last n) (BadOrder n)
      (ne_eqb n 0 some) (first_none (first_failed (block_tests bytes at)) _ none).1

pages_if : {A : Type 0} (b c : Bool) (x y : A) → b ≡ c → (if b then x else y) ≡ (if c then x else y)
pages_if b c x y is = rw is refl

pub pages_end : (bytes : List ℕ) (left at : ℕ) → number w32 at bytes ≡ 0 → pages_from (suc left) bytes at ≡ []
unfolding pages_from
pages_end bytes left at is_end =
    pages_if (number w32 at bytes == 0) true [] ((
      number w32 at bytes,
      take (page_size bytes) (drop
          (at + 6) bytes),
    ) ∷ pages_from left bytes (at + 6 + page_size bytes)) (eq-eqb (number w32 at bytes) 0 is_end)

pub pages_next : (bytes : List ℕ) (left at : ℕ) → number w32 at bytes ≢ 0
    → pages_from (suc left) bytes at ≡ (
      number w32 at bytes,
      take (page_size bytes) (drop
          (at + 6) bytes),
    ) ∷ pages_from left bytes (at + 6 + page_size bytes)
unfolding pages_from
pages_next bytes left at some =
    pages_if (number w32 at bytes == 0) false [] ((
      number w32 at bytes,
      take (page_size bytes) (drop
          (at + 6) bytes),
    ) ∷ pages_from left bytes (at + 6 + page_size bytes)) (ne_eqb (number w32 at bytes) 0 some)

pub positive : (n : ℕ) → n ≢ 0 → 1 ≤ n
positive zero some = absurd (some refl)
positive (suc n) some = omega arith

pub next_bounds : (size commit last n : ℕ) → is_next size commit last n ≡ true → (last < n) × (n ≤ commit)
next_bounds size commit last n is =
    let a = and_parts (nat_lt last n && nat_le n commit) (not (n == lock_page size)) is in
    let b = and_parts (nat_lt last n) (nat_le n commit) a.0 in
    (ltb-true last n b.0, leb-true n commit b.1)

past_of : (a : Option LtxFault) (b : Bool) (e : Option LtxFault) (t : Bool) (order : LtxFault) (s : Bool)
    (rest : Option LtxFault) → a ≡ None → b ≡ false → t ≡ true
    → option_or a (if b then e else option_or (first_failed ((t, order) ∷ (s, Short) ∷ [])) rest) ≡ option_or
    (first_failed ((s, Short) ∷ [])) rest
past_of None false e true order s rest x y z = refl
past_of (Some f) b e t order s rest x y z = absurd cc
past_of None true e t order s rest x y z = absurd cc
past_of None false e false order s rest x y z = absurd cc

pub some_or : (a : Option LtxFault) (rest : Option LtxFault) (fault : LtxFault) → a ≡ Some fault
    → option_or a rest ≡ Some fault
some_or a rest fault is = rw is refl

pub none_or : (a : Option LtxFault) (rest : Option LtxFault) → a ≡ None → option_or a rest ≡ rest
none_or a rest is = rw is refl

module _ (bytes : List ℕ) (reader : Reader) (left at : ℕ) (tests : first_failed (block_tests bytes at) ≡ None) where
  abbrev m : ℕ
  m = number w32 at bytes

  abbrev next_behind : Option LtxFault
  next_behind = fault_from left bytes (suc reader.count) m (at + 6 + page_size bytes)

  module _ (some : (m == 0) ≡ false) (right : is_next (page_size bytes) (commit bytes) reader.last m ≡ true) where
    past_tests : fault_from (suc left) bytes reader.count reader.last at ≡ option_or (reaches bytes (at + 6)
        (page_size bytes)) next_behind
    unfolding fault_from
    past_tests =
        past_of (first_failed (block_tests bytes at)) (m == 0) (end_fault bytes reader.count at) (is_next
        (page_size bytes) (commit bytes) reader.last m) (BadOrder m)
        (nat_le (at + 6 + page_size bytes) (length bytes)) next_behind tests some right

    past_stops' : (fault : LtxFault) → reaches bytes (at + 6) (page_size bytes) ≡ Some fault
        → fault_from (suc left) bytes reader.count reader.last at ≡ Some fault
    past_stops' fault found = past_tests ∙ some_or _ _ fault found

    past_goes' : reaches bytes (at + 6) (page_size bytes) ≡ None
        → fault_from (suc left) bytes reader.count reader.last at ≡ next_behind
    past_goes' whole = past_tests ∙ none_or _ _ whole

pub past_stops : (bytes : List ℕ) (reader : Reader) (left at : ℕ) (fault : LtxFault)
    → first_failed (block_tests bytes at) ≡ None → (number w32 at bytes == 0) ≡ false
    → is_next (page_size bytes) (commit bytes) reader.last (number w32 at bytes) ≡ true
    → reaches bytes (at + 6) (page_size bytes) ≡ Some fault
    → fault_from (suc left) bytes reader.count reader.last at ≡ Some fault
past_stops bytes reader left at fault tests some right found = past_stops' bytes reader left at tests some right fault
    found

pub past_goes : (bytes : List ℕ) (reader : Reader) (left at : ℕ) → first_failed (block_tests bytes at) ≡ None
    → (number w32 at bytes == 0) ≡ false
    → is_next (page_size bytes) (commit bytes) reader.last (number w32 at bytes) ≡ true
    → reaches bytes (at + 6) (page_size bytes) ≡ None
    → fault_from (suc left) bytes reader.count reader.last at ≡ fault_from left bytes (suc reader.count)
    (number w32 at bytes) (at + 6 + page_size bytes)
past_goes bytes reader left at tests some right whole = past_goes' bytes reader left at tests some right whole
