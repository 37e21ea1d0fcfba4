-- The numbers of the pages that are stored.
use Rattle.std.proofs.Common.{◌≡◌, ℕ, zero, suc, ◌+◌, ◌-◌, ◌*◌, ◌/◌, ◌%◌, ◌^◌, Some, None, ◌<◌, ◌≤◌, Bool, true, false}
use Rattle.std.proofs.Common.{List, [], ◌∷◌, length, get_or, refl, sym, ap, subst, ◌∙◌, inl, inr, ⊎_elim, arith}
use Rattle.std.specs.Prelude.{◌≢◌, ◌⊎◌, nat_lt, nat_le, if◌then◌else◌}
use Rattle.std.specs.List.{Contains, slice_get}
use Rattle.std.specs.Bool.{OnTrue}
use Rattle.std.proofs.Math.Nat.{mod-eq-sub-div-mul, pow-le-pow_right, mul-le-mul_left, div-mul-le_self, zero-mul}
use Rattle.std.proofs.lemmas.Option.{none-some, get_or_from_slice_get}
use Rattle.ls_base.proofs.StateLemmas.{there_at}
use Rattle.std.proofs.lemmas.Bool.{cases_lt, lt-ltb, le-ltb, le-leb, lt-leb}
use Rattle.std.proofs.lemmas.List.Elements.{Contains-get_or}
use Rattle.std.proofs.lemmas.List.Kept.{AllPairs-from_increasing}
use Rattle.ls_base.specs.PageSize.{IsPageSize, lock_page}
use Rattle.ltx_format.specs.declared.header.LtxHeader.{LtxHeader}
use Rattle.ltx_format.specs.LtxFormat.{IsStored}
use Rattle.snapshot_read.proofs.RestLemmas.{first_unlocked}
use Rattle.wal_follow.specs.declared.answer.Found.{Found}
use Rattle.wal_follow.specs.declared.answer.Wanted.{Wanted}
use Rattle.wal_follow.specs.declared.answer.Wanted.TheVariants.{All, Listed}
use Rattle.replica_sync.specs.Pages.{IsToStore, AreRising, IsWanted, IsStorable, number_in, count_in, number_at}
use Rattle.replica_sync.specs.Pages.{count_of}

default_away : (xs : List ℕ) (i d e : ℕ) → i < length xs → get_or xs i d ≡ get_or xs i e
default_away [] i d e within = absurd (omega (arith, within))
default_away (x ∷ xs) zero d e within = refl
default_away (x ∷ xs) (suc i) d e within = default_away xs i d e (omega (arith, within))

-- ---- all but the lock page

choose : (b : Bool) (c : Bool) (x y : ℕ) → b ≡ c → (if b then x else y) ≡ (if c then x else y)
choose b c x y same = ap (λ (t : Bool). if t then x else y) same

-- the number is the place's, or lies behind the lock page
pub number_cases : (lock at : ℕ) → ((at + 1 < lock) × (number_in All lock at ≡ at + 1))
    ⊎ ((lock ≤ at + 1) × (number_in All lock at ≡ at + 2))
number_cases lock at =
    ⊎_elim
    (λ below. inl (below, choose (nat_lt (at + 1) lock) true (at + 1) (at + 2) (lt-ltb (at + 1) lock below)))
    (λ behind. inr (behind, choose (nat_lt (at + 1) lock) false (at + 1) (at + 2) (le-ltb (at + 1) lock behind)))
    (cases_lt (at + 1) lock)

le_true : (a b : ℕ) → a ≤ b → nat_le a b ≡ true
le_true a b below = le-leb a b below

le_false : (a b : ℕ) → b < a → nat_le a b ≡ false
le_false a b above = lt-leb a b above

pub count_cases : (lock commit : ℕ) → ((lock ≤ commit) × (count_in All lock commit ≡ commit - 1))
    ⊎ ((commit < lock) × (count_in All lock commit ≡ commit))
count_cases lock commit =
    ⊎_elim
    (λ small. inr (small, choose (nat_le lock commit) false (commit - 1) commit (le_false lock commit small)))
    (λ large. inl (large, choose (nat_le lock commit) true (commit - 1) commit (le_true lock commit large)))
    (cases_lt commit lock)

-- ---- both kinds

module _ (size commit lock : ℕ) (some : 2 ≤ lock) where
  -- a later place has a greater number
  pub rises : (wanted : Wanted) → AreRising wanted → (k at : ℕ) → k < at → at < count_in wanted lock commit
      → number_in wanted lock k < number_in wanted lock at
  rises All rising k at before within =
      ⊎_elim
      (λ a. ⊎_elim (λ b. omega (arith, before, a.1, b.1)) (λ b. omega (arith, before, a.1, b.1)) (number_cases lock k))
      (λ a. ⊎_elim (λ b. omega (arith, before, a.1, b.1)) (λ b. omega (arith, before, a.1, b.1)) (number_cases lock k))
      (number_cases lock at)
  rises (Listed numbers) rising k at before within =
      AllPairs-from_increasing numbers rising k at 0 before within

module _ (size commit lock : ℕ) (some : 2 ≤ lock) (is_lock : lock ≡ lock_page size) where
  -- each place below the count has the number of a page that is stored
  pub is_stored : (wanted : Wanted) → (at : ℕ) → at < count_in wanted lock commit
      → IsToStore wanted size commit (number_in wanted lock at)
  is_stored All at within =
      let not_lock : (n : ℕ) → ((n < lock) ⊎ (lock < n)) → n ≢ lock_page size
      = λ n apart same. ⊎_elim (λ a. omega (arith, a, same, is_lock)) (λ a. omega (arith, a, same, is_lock)) apart in
      ⊎_elim
      (λ n. ⊎_elim
      (λ c. (omega (arith, n.1), omega (arith, n.1, n.0, c.0, c.1, within), not_lock _ (inl (omega (arith, n.1, n.0)))))
      (λ c. (omega (arith, n.1), omega (arith, n.1, n.0, c.0, c.1, within), not_lock _ (inl (omega (arith, n.1, n.0)))))
      (count_cases lock commit))
      (λ n. ⊎_elim
      (λ c. (omega (arith, n.1), omega (arith, n.1, n.0, c.0, c.1, within), not_lock _ (inr (omega (arith, n.1, n.0)))))
      (λ c. absurd (omega (arith, n.0, c.0, c.1, within)))
      (count_cases lock commit))
      (number_cases lock at)
  is_stored (Listed numbers) at within = Contains-get_or numbers at 0 within

  -- each such page has a place
  pub has_place : (wanted : Wanted) (p : ℕ) → IsToStore wanted size commit p
      → (k : ℕ) × (k < count_in wanted lock commit) × (number_in wanted lock k ≡ p)
  has_place All p is =
      ⊎_elim
      (λ below. (
        p - 1,
        ⊎_elim (λ c. omega (arith, is.0, is.1, below, c.0, c.1))
            (λ c. omega (arith, is.0, is.1, below, c.0, c.1)) (count_cases lock commit),
        ⊎_elim (λ n. omega (arith, is.0, n.1)) (λ n. absurd (omega (arith, is.0, below, n.0)))
            (number_cases lock (p - 1)),
      ))
      (λ behind.
      let apart : lock < p = ⊎_elim (λ (low : lock < p). low)
      (λ (high : p ≤ lock). absurd (is.2 (omega (arith, behind, high, is_lock)))) (cases_lt lock p) in (
        p - 2,
        ⊎_elim (λ c. omega (arith, some, apart, is.1, c.0, c.1))
            (λ c. absurd (omega (arith, apart, is.1, c.0))) (count_cases lock commit),
        ⊎_elim (λ n. absurd (omega (arith, some, apart, n.0)))
            (λ n. omega (arith, some, apart, n.1)) (number_cases lock (p - 2)),
      ))
      (cases_lt p lock)
  has_place (Listed numbers) p is =
      (is.0, is.1, default_away numbers is.0 0 p is.1 ∙ is.2)

-- ---- sums that fit

pub few_pages : (size commit : ℕ) → IsPageSize size → commit * size ≤ 1099511627776 → commit ≤ 2147483648
few_pages size commit is small =
    let least : 2 ^ 9 ≤ 2 ^ is.0 = pow-le-pow_right {n = 2} (omega arith) is.1 in
    let large : 512 ≤ size = omega (arith, least, is.3) in
    let more : commit * 512 ≤ commit * size = mul-le-mul_left commit large in
    omega (arith, more, small)

-- no place of a page that is stored is near the last number
pub place_fits : (lock commit at : ℕ) → commit ≤ 2147483648 → at < count_in All lock commit → at + 2 < 4294967296
place_fits lock commit at small within =
    ⊎_elim (λ c. omega (arith, c.0, c.1, within, small)) (λ c. omega (arith, c.0, c.1, within))
    (count_cases lock commit)

pub found_fits : (found : Found) (at : ℕ) → IsStorable found → found.wanted ≡ All → at < count_of found
    → at + 2 < 4294967296
found_fits found at storable all within =
    place_fits (lock_page found.size) found.commit at (few_pages found.size found.commit storable.size storable.small)
    (subst (λ (w : Wanted). at < count_in w (lock_page found.size) found.commit) all within)

-- ---- a list

pub listed_there : (found : Found) (numbers : List ℕ) (at : ℕ) → found.wanted ≡ Listed numbers → at < count_of found
    → slice_get numbers at ≡ None → ⊥
listed_there found numbers at listed within none =
    let few : at < length numbers
    = subst (λ (w : Wanted). at < count_in w (lock_page found.size) found.commit) listed within in
    let there = there_at numbers at few in
    none-some there.0 (sym none ∙ there.1)

pub listed_number : (found : Found) (numbers : List ℕ) (at number : ℕ) → found.wanted ≡ Listed numbers
    → slice_get numbers at ≡ Some number → number ≡ number_at found at
listed_number found numbers at number listed there =
    sym (ap (λ (w : Wanted). number_in w (lock_page found.size) at) listed
    ∙ get_or_from_slice_get numbers at number 0 there)

pub all_listed : (numbers : List ℕ) (commit lock : ℕ)
    → ((k : ℕ) → k < length numbers → (1 ≤ get_or numbers k 0) × (get_or numbers k 0 ≤ commit)
    × (get_or numbers k 0 ≢ lock)) → (p : ℕ) → Contains numbers p → (1 ≤ p) × (p ≤ commit) × (p ≢ lock)
all_listed numbers commit lock each p is =
    let i = each is.0 is.1 in
    let same : get_or numbers is.0 0 ≡ p = default_away numbers is.0 0 p is.1 ∙ is.2 in
    (omega (arith, i.0, same), omega (arith, i.1, same), λ e. i.2 (same ∙ e))

-- ---- places

pub on_true : {P : Type 0} (b : Bool) → (b ≡ true → P) → OnTrue b P
on_true true f = f refl
on_true false f = tt

pub frame_end : (end frame : ℕ) → 32 < end → (end - 32) % frame ≡ 0
    → (frames : ℕ) × (1 ≤ frames) × (end ≡ 32 + frames * frame)
frame_end end frame behind whole =
    let q = (end - 32) / frame in
    let under : q * frame ≤ end - 32 = div-mul-le_self (end - 32) frame in
    let is : end - 32 - q * frame ≡ 0 = sym (mod-eq-sub-div-mul (end - 32) frame) ∙ whole in
    let all : end ≡ 32 + q * frame = omega (arith, under, is, behind) in
    elim (cases_lt q 1) [
      | inl none ↦
          let zero_q : q ≡ 0 = omega (arith, none) in
          let nothing : q * frame ≡ 0 = ap (λ (n : ℕ). n * frame) zero_q ∙ zero-mul frame in
          absurd (omega (arith, nothing, all, behind))
      | inr some ↦ (q, some, all)
    ]

pub listed_all : (found : Found) (numbers : List ℕ) (lock : ℕ) (b : Bool) → found.wanted ≡ Listed numbers
    → lock ≡ lock_page found.size
    → OnTrue b ((p : ℕ) → Contains numbers p → (1 ≤ p) × (p ≤ found.commit) × (p ≢ lock))
    → OnTrue b ((p : ℕ) → IsWanted found p → (1 ≤ p) × (p ≤ found.commit) × (p ≢ lock_page found.size))
listed_all found numbers lock false listed is each = tt
listed_all found numbers lock true listed is each = λ p wanted.
    let e = each p (subst (λ (w : Wanted). IsToStore w found.size found.commit p) listed wanted) in
    (e.0, e.1, λ same. e.2 (same ∙ sym is))

-- ---- what was found

module _ (found : Found) (storable : IsStorable found) where
  some_before : 2 ≤ lock_page found.size
  some_before = let first = first_unlocked found.size storable.size in omega (arith, first)

  pub found_is_stored : (k : ℕ) → k < count_of found → IsWanted found (number_at found k)
  found_is_stored = is_stored found.size found.commit (lock_page found.size) some_before refl found.wanted

  pub found_rises : (k at : ℕ) → k < at → at < count_of found → number_at found k < number_at found at
  found_rises = rises found.size found.commit (lock_page found.size) some_before found.wanted storable.rising

  pub found_has_place : (p : ℕ) → IsWanted found p → (k : ℕ) × (k < count_of found) × (number_at found k ≡ p)
  found_has_place = has_place found.size found.commit (lock_page found.size) some_before refl found.wanted

  pub above_none : (last k : ℕ) → last ≡ 0 → k < count_of found → last < number_at found k
  above_none last k none few =
      let some = (storable.numbers (number_at found k) (found_is_stored k few)).0 in omega (arith, some, none)

  pub page_stored : (h : LtxHeader) (n k : ℕ) → k < count_of found → n ≡ number_at found k → h.size ≡ found.size
      → h.commit ≡ found.commit → IsStored h n
  page_stored h n k few is size commit =
      let n_is = storable.numbers (number_at found k) (found_is_stored k few) in
      record {
        some = omega (arith, n_is.0, is);
        at_most = omega (arith, n_is.1, is, commit);
        unlocked = λ same. n_is.2 (sym is ∙ same ∙ ap lock_page size);
      }
